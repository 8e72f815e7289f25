-- `number`: before the first byte there is no word.
use Rattle.std.proofs.Common.{◌≡◌, None}
use Rattle.notation.specs.declared.read.State.TheVariants.{Between}
use Rattle.notation.proofs.read.number.Given as goal

abbrev pub invariant-loop-b : goal.invariant-loop-b
invariant-loop-b l = l.b-index ≡ 0 → (l.found ≡ None) × (l.reader.state ≡ Between)
