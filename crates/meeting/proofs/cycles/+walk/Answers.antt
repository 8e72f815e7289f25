-- `+walk`: what is open is larger than what is walked.
use Rattle.std.proofs.Common.{rules}
use Rattle.meeting.specs.Cycles.{within-found, within_open}
use Rattle.meeting.proofs.cycles.+walk.Goals as goal

pub within-returns-then-eq : goal.within-returns-then-eq
within-returns-then-eq t c = search (rules, within_open)

pub within-returns-then-among : goal.within-returns-then-among
within-returns-then-among t c = search (rules, within-found)
