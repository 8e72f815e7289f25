-- `write_body`: four parts, one behind the other.
use Rattle.std.proofs.Common.{rules}
use Rattle.answer.specs.Whole.{bodied}
use Rattle.answer.proofs.write_body.Goals as goal

pub returns : goal.returns
returns c = search (rules, bodied)
