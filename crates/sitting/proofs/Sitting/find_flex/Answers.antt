use Rattle.sitting.specs.Sits.{sits}
use Rattle.sitting.proofs.Sitting.find_flex.Goals as goal

pub returns : goal.returns
returns c = sits _ _ _ _ _ _ _ _ c.find_flex-outcome.ensures c.spend.ensures.number c.spend.ensures.spent
