-- `impl_word`: its record stands where the index says.
use Rattle.std.proofs.Common.{rules}
use Rattle.candidates.specs.Index.{impl_word_is}
use Rattle.candidates.proofs.index.Records.impl_word.Goals as goal

pub returns : goal.returns
returns c = search (rules, impl_word_is)
