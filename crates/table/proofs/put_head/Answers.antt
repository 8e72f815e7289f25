-- `put_head`: one store.
use Rattle.table.specs.Writes.{put_head}
use borrow.Author.Rules.{rules}
use Rattle.table.proofs.put_head.Goals as goal

pub returns : goal.returns
returns c = search (rules, put_head)
