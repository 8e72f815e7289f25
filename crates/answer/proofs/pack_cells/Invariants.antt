-- `pack_cells`: the cells passed are written; the rest of them is to come.
use Rattle.std.proofs.Common.{◌+◌, ◌*◌, ◌≡◌, length, drop}
use Rattle.rules.specs.AcyclicLaws.{children_at}
use Rattle.rules.specs.Answer.{pack_cells}
use Rattle.table.specs.Packing.{types_of}
use Rattle.answer.specs.Writing.{Left}
use Rattle.answer.proofs.pack_cells.Given as goal

abbrev pub invariant-loop-j : goal.invariant-loop-j
invariant-loop-j l = Left l.initial.out l.out l.p (l.p + 2 * l.j) (pack_cells l.p (children_at (types_of l.table) l.n)) (pack_cells (l.p + 2 * l.j) (drop l.j (children_at (types_of l.table) l.n))) × (length l.out ≡ length l.initial.out)
