-- `read_full`: no more than the buffer holds.
use Rattle.std.proofs.Common.{◌≤◌, length}
use Rattle.listing.proofs.read_full.Given as goal

abbrev pub invariant-loop : goal.invariant-loop
invariant-loop g l = l.done ≤ length l.buf
