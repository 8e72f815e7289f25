-- `check_length`: one test.
use Rattle.checks.specs.Numbers.{of_length_is}
use Rattle.checks.proofs.check_length.Goals as goal

pub returns : goal.returns
returns c = of_length_is _ _ _ c.within.ensures c.require.ensures
