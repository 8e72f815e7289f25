-- `across`: by both sides.
use Rattle.std.proofs.Common.{rules}
use Rattle.meeting.specs.Across.{across_told}
use Rattle.meeting.proofs.below.across.Goals as goal

pub returns : goal.returns
returns c = search (rules, across_told)
