-- `all_questions`: fewer arguments are left each time.
use Rattle.std.proofs.Common.{length}
use Rattle.ask.proofs.arguments.all_questions.Given as goal

abbrev pub decreases-loop-rest : goal.decreases-loop-rest
decreases-loop-rest l = length l.rest
