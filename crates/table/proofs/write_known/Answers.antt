-- `write_known`: its children three to a word, the id above the last.
use Rattle.table.specs.Writes.{wrote_known}
use borrow.Author.Rules.{rules}
use Rattle.table.proofs.write_known.Goals as goal

pub returns : goal.returns
returns c = search (rules, wrote_known)
