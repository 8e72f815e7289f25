-- `is_inverted`: an odd type word.
use Rattle.table.specs.Reads.{odd_inverted}
use borrow.Author.Rules.{rules}
use Rattle.table.proofs.is_inverted.Goals as goal

pub returns : goal.returns
returns c = search (rules, odd_inverted)
