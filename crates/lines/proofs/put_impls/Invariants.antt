-- `put_impls`: the impls from an id on are still to come.
use Rattle.std.proofs.Common.{◌+◌, ◌*◌, ◌-◌, ◌≤◌, ◌≡◌, length}
use Rattle.rules.specs.Layout.{header_impls}
use Rattle.rules.specs.Sheet.{many}
use Rattle.lines.specs.Lines.{Lining}
use Rattle.lines.proofs.put_impls.Given as goal

abbrev pub invariant-loop-i : goal.invariant-loop-i
invariant-loop-i l = (length l.out ≡ length l.initial.out) × (l.from ≤ many l.s header_impls) × (l.end ≤ l.at + 4 * l.from) × Lining l.s l.ws l.node l.at l.initial.out l.out l.from l.end

abbrev pub decreases-loop-i : goal.decreases-loop-i
decreases-loop-i l = many l.s header_impls - l.from
