-- `trait_def`: its record stands where the index says.
use Rattle.std.proofs.Common.{rules}
use Rattle.candidates.specs.Index.{trait_def_is}
use Rattle.candidates.proofs.index.Records.trait_def.Goals as goal

pub returns : goal.returns
returns c = search (rules, trait_def_is)
