-- `write_answer`: the body, and the six words before it.
use Rattle.std.proofs.Common.{rules}
use Rattle.answer.specs.Whole.{answered}
use Rattle.answer.proofs.write_answer.Goals as goal

pub returns : goal.returns
returns c = search (rules, answered)
