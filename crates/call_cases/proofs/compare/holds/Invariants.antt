-- `holds`: the words passed are the one that is sought.
use Rattle.std.proofs.Common.{◌≡◌, All, take}
use Rattle.call_cases.proofs.compare.holds.Given as goal

abbrev pub invariant-loop-w : goal.invariant-loop-w
invariant-loop-w l = All (λ w. w ≡ l.word) (take l.w-index l.buffer)
