-- The four searches: the first i are over, and their results kept.
use Rattle.std.proofs.Common.{◌≡◌, length}
use Rattle.steps.specs.Asking.{finder_of}
use Rattle.flexing.specs.Rest.{Going}
use Rattle.flexing.proofs.Call.ask_all.Given as goal

abbrev pub invariant-loop-i : goal.invariant-loop-i
invariant-loop-i l = (length l.ws ≡ length l.initial.ws) × (length l.found ≡ 4) × (length l.kept ≡ 4) × Going l.self.f.limit (finder_of l.self.sheet.now l.self.f) l.self.question.now l.fn.count l.found l.kept l.i l.count
