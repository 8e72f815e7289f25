-- One of the four questions.
use Rattle.std.proofs.Common.{rules}
use Rattle.flexing.specs.Asked.{export_asking, export_asked}
use Rattle.flexing.proofs.Call.ask_one.Goals as goal

pub question-requires-clause-asking : goal.question-requires-clause-asking
question-requires-clause-asking c = search (rules, export_asking)

pub returns : goal.returns
returns c = search (rules, export_asked)
