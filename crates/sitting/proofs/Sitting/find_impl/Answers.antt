use Rattle.sitting.specs.Sits.{sits}
use Rattle.sitting.proofs.Sitting.find_impl.Goals as goal

pub returns : goal.returns
returns c = sits _ _ _ _ _ _ _ _ c.try_find_impl-outcome.ensures c.spend.ensures.number c.spend.ensures.spent
