-- `records`: all of the chain is left.
use Rattle.std.proofs.Common.{rules}
use Rattle.words.specs.Chain.{chain_begins}
use Rattle.words.proofs.records.Goals as goal

pub returns : goal.returns
returns c = search (rules, chain_begins)
