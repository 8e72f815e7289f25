-- `write_unknown`: the head says that nothing is known.
use Rattle.table.specs.Writes.{wrote_unknown}
use borrow.Author.Rules.{rules}
use Rattle.table.proofs.write_unknown.Goals as goal

pub returns : goal.returns
returns c = search (rules, wrote_unknown)
