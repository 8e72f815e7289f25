-- `put`: four stores.
use Rattle.table.specs.Writes.{put_four}
use borrow.Author.Rules.{rules}
use Rattle.table.proofs.put.Goals as goal

pub returns : goal.returns
returns c = search (rules, put_four)
