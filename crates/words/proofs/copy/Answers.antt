-- `copy`: so many words are copied.
use Rattle.std.proofs.Common.{rules}
use Rattle.words.specs.Buffers.{copied_part}
use Rattle.words.proofs.copy.Goals as goal

pub returns : goal.returns
returns c = copied_part _ _ _ _ _ (search rules) (search rules)
