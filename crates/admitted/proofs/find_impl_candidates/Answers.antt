-- `find_impl_candidates`: no trait, a refusal, or the nodes.
use Rattle.std.proofs.Common.{arith}
use Rattle.admitted.specs.Modules.{handed_on}
use Rattle.admitted.specs.Found.{Finds, found_among, found_error, found_refused}
use Rattle.admitted.proofs.find_impl_candidates.Goals as goal

pub returns-in_default : goal.returns-in_default
returns-in_default c = found_error _ _ _ _ _ _ _ c.in_default.ensures c.none-nodes.ensures.0 (omega (arith, c.none-nodes.ensures.1))

pub returns-in_err-nodes : goal.returns-in_err-nodes
returns-in_err-nodes c = handed_on (Finds _ _ _ _ _) c.from_residual.result c.in_err-nodes.field-0.0 c.from_residual.ensures.1 (found_refused _ _ _ _ _ _ _ _ _ c.requires.stands c.in-Some.ensures.0 c.in-Some.ensures.1 c.sets.ensures _ c.in_err-nodes.was)

pub returns : goal.returns
returns c = found_among _ _ _ _ _ _ _ _ _ c.requires.stands c.in-Some.ensures.0 c.in-Some.ensures.1 c.sets.ensures c.in_ok-nodes.nodes c.in_ok-nodes.was
