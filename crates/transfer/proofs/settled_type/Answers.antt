-- What stands for a root type already.
use Rattle.std.proofs.Common.{rules, arith}
use Rattle.transfer.specs.Leaves.{settles_there, settles_else}
use Rattle.transfer.proofs.settled_type.Goals as goal

pub returns-in-Some : goal.returns-in-Some
returns-in-Some g c = settles_there _ _ _ _ c.requires.mapping c.requires.r_in_bounds _ c.in-Some.ensures (λ e. omega arith)

pub returns-in-None : goal.returns-in-None
returns-in-None g c = search (rules, settles_else)
