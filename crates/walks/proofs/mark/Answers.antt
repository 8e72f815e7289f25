-- `mark`: one word.
use Rattle.std.proofs.Common.{rules}
use Rattle.walks.specs.Marking.{marks_word}
use Rattle.walks.proofs.mark.Goals as goal

pub returns : goal.returns
returns c = search (rules, marks_word)
