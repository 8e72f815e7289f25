-- `set_impl`: where the header has it.
use Rattle.auto.specs.Built.{set_absent, set_there}
use Rattle.auto.proofs.set_impl.Goals as goal

pub returns-in_err-id : goal.returns-in_err-id
returns-in_err-id c = set_absent _ _ _ _ c.word.ensures c.in_err-id.ensures c.from_residual.ensures

pub returns : goal.returns
returns c = set_there _ _ _ _ c.word.ensures c.in_ok-id.ensures.0 c.in_ok-id.ensures.1
