-- `check_ids`: the source, the generics and the flag.
use Rattle.std.proofs.Common.{ap, ◌∙◌}
use Rattle.refusals.specs.Numbers.{number_of}
use Rattle.checks.specs.Numbers.{passed_on, no_source, no_generics, flag_last}
use Rattle.checks.proofs.check_ids.Goals as goal

pub returns-in_err-require : goal.returns-in_err-require
returns-in_err-require c = passed_on _ _ _ c.from_residual.ensures (ap number_of c.in_err-require.ensures.1 ∙ no_source _ _ _ _ _ c.count_of.ensures c.in_err-require.ensures.0)

pub returns-in_err-require-2 : goal.returns-in_err-require-2
returns-in_err-require-2 c = passed_on _ _ _ c.from_residual-in_err-require-2.ensures (ap number_of c.in_err-require-2.ensures.1 ∙ no_generics _ _ _ _ _ _ c.count_of.ensures c.count_of-2.ensures c.in_ok-require.ensures c.in_err-require-2.ensures.0)

pub returns : goal.returns
returns c = flag_last _ _ _ _ _ _ c.count_of.ensures c.count_of-2.ensures c.in_ok-require.ensures c.in_ok-require-2.ensures _ c.require-3.ensures
