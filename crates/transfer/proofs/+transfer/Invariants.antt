-- `transfer_type`, with all that it calls and that calls it: steps left are the measure.
-- The loop's invariant: the first i types have gone.
use Rattle.std.proofs.Common.{◌+◌, ◌*◌}
use Rattle.rules.specs.Transfer.{transfer_in}
use Rattle.transfer.specs.Outcomes.{params_in}
use Rattle.transfer.specs.Ways.{Going}
use Rattle.transfer.proofs.+transfer.Given as goal

abbrev pub decreases-transfer_each : goal.decreases-transfer_each
decreases-transfer_each g l = 4 * l.left

abbrev pub decreases-transfer_known : goal.decreases-transfer_known
decreases-transfer_known g l = 4 * l.left + 1

abbrev pub decreases-transfer_root : goal.decreases-transfer_root
decreases-transfer_root g l = 4 * l.left + 2

abbrev pub decreases-transfer_type : goal.decreases-transfer_type
decreases-transfer_type g l = 4 * l.left + 3

abbrev pub invariant-transfer_each-loop-i : goal.invariant-transfer_each-loop-i
invariant-transfer_each-loop-i g l = Going (g.S.Source.types l.from.table.now) (transfer_in l.left (g.S.Source.types l.from.table.now) (params_in l.from.params)) l.fn.dst l.fn.map l.dst l.map l.fn.ts l.ts l.m l.i
