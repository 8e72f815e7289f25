-- `relabel_members`: the root alone, or every node.
use Rattle.table.specs.Joins.{relabel_alone}
use borrow.Author.Rules.{rules}
use Rattle.table.proofs.relabel_members.Goals as goal

pub returns : goal.returns
returns c = search (rules, relabel_alone)
