-- `pack_trees`: the first record, the trees below it and those behind it. The measure is how many words there are.
use Rattle.std.proofs.Common.{rules}
use Rattle.answer.specs.Records.{packs_none, packs_more}
use Rattle.answer.proofs.+pack_trees.Goals as goal

pub returns-then-lo-hi : goal.returns-then-lo-hi
returns-then-lo-hi t c = search (rules, packs_none)

pub returns : goal.returns
returns t c = search (rules, packs_more)
