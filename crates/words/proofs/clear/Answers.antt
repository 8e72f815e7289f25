-- `clear`: so many words are cleared.
use Rattle.std.proofs.Common.{rules}
use Rattle.words.specs.Buffers.{cleared_part}
use Rattle.words.proofs.clear.Goals as goal

pub returns : goal.returns
returns c = cleared_part _ _ _ _ (search rules) (search rules)
