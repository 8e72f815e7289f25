-- `index_all`: each index leaves the ones before it alone.
use Rattle.std.proofs.Common.{rules}
use Rattle.candidates.specs.Index.{indexed-all}
use Rattle.candidates.proofs.index.index_all.Goals as goal

pub returns : goal.returns
returns c = search (rules, indexed-all)
