-- `pack_nodes`: the nodes passed are written; the rest of them is to come.
use Rattle.std.proofs.Common.{◌+◌, ◌*◌, ◌≤◌, ◌≡◌, length, drop}
use Rattle.rules.specs.Answer.{pack_nodes}
use Rattle.table.specs.Packing.{types_of}
use Rattle.answer.specs.Writing.{Left}
use Rattle.answer.proofs.pack_nodes.Given as goal

abbrev pub invariant-loop-n : goal.invariant-loop-n
invariant-loop-n l = Left l.initial.out l.out l.p l.q (pack_nodes l.p (types_of l.table)) (pack_nodes l.q (drop l.n (types_of l.table))) × (length l.out ≡ length l.initial.out) × (l.count ≤ 256) × (l.q ≤ l.p + 21 * l.n)
