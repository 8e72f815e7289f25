-- `next`: the first record that is left, and those behind it.
use Rattle.std.proofs.Common.{rules}
use Rattle.words.specs.Chain.{chain_spent, chain_ends, chain_goes_on}
use Rattle.words.proofs.ChainIterator.next.Goals as goal

pub returns-then-self-eq0-clause-steps : goal.returns-then-self-eq0-clause-steps
returns-then-self-eq0-clause-steps c = search (rules, chain_spent, chain_ends)

pub returns-clause-steps : goal.returns-clause-steps
returns-clause-steps c = search (rules, chain_goes_on)

pub returns-clause-goes : goal.returns-clause-goes
returns-clause-goes c = search (rules, chain_goes_on)
