-- `marked`: one word.
use Rattle.std.proofs.Common.{rules}
use Rattle.walks.specs.Marking.{marked_word}
use Rattle.walks.proofs.marked.Goals as goal

pub returns : goal.returns
returns c = search (rules, marked_word)
