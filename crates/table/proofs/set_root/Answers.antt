-- `set_root`: by whether the root is known.
use Rattle.table.specs.Joins.{root_unknown, root_known}
use borrow.Author.Rules.{rules}
use Rattle.table.proofs.set_root.Goals as goal

pub returns-then-kind_of-eq0 : goal.returns-then-kind_of-eq0
returns-then-kind_of-eq0 c = search (rules, root_unknown)

pub returns : goal.returns
returns c = search (rules, root_known)
