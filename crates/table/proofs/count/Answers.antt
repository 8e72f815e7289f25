-- `count`: no more than the limit are counted.
use Rattle.table.specs.Reads.{count_min}
use borrow.Author.Rules.{rules}
use Rattle.table.proofs.count.Goals as goal

pub returns : goal.returns
returns c = search (rules, count_min)
