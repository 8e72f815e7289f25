-- The cycle of `unify`: each layer comes to the rule's layer of its name, and the fuel falls.
use Rattle.std.proofs.Common.{◌≡◌, length, ◌+◌, ◌-◌, ◌*◌, ◌≤◌}
use Rattle.unify.specs.Pairs.{Pairs}
use Rattle.unify.proofs.+joining.Given as goal

abbrev pub decreases-unify_children : goal.decreases-unify_children
decreases-unify_children l = 9 * l.left + 4

abbrev pub decreases-unify_each : goal.decreases-unify_each
decreases-unify_each l = 9 * l.left + 3

abbrev pub decreases-unify_in : goal.decreases-unify_in
decreases-unify_in l = 9 * l.left

abbrev pub decreases-unify_known : goal.decreases-unify_known
decreases-unify_known l = 9 * l.left + 5

abbrev pub decreases-unify_last : goal.decreases-unify_last
decreases-unify_last l = 9 * l.left + 3

abbrev pub decreases-unify_noted : goal.decreases-unify_noted
decreases-unify_noted l = 9 * l.left + 8

abbrev pub decreases-unify_roots : goal.decreases-unify_roots
decreases-unify_roots l = 9 * l.left + 7

abbrev pub decreases-unify_states : goal.decreases-unify_states
decreases-unify_states l = 9 * l.left + 6

abbrev pub invariant-unify_each-loop-v : goal.invariant-unify_each-loop-v
invariant-unify_each-loop-v l = (length l.ws ≡ length l.initial.ws) × ((length l.marks ≡ length l.initial.marks) × ((l.i ≤ l.m) × Pairs l.s l.initial.ws l.initial.marks l.ws l.marks l.left l.x l.y l.inverted l.v l.i))

abbrev pub decreases-unify_each-loop-v : goal.decreases-unify_each-loop-v
decreases-unify_each-loop-v l = (l.m + 1) - l.i
