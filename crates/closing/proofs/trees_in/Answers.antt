-- All words from a place on.
use Rattle.std.proofs.Common.{rules}
use Rattle.closing.specs.Last.{tail_all}
use Rattle.closing.proofs.trees_in.Goals as goal

pub returns : goal.returns
returns c = search (rules, tail_all)
