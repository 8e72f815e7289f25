-- `others_keep`: a walk in the plane of its records' words.
use Rattle.chains.specs.Planes.{others_kept, others_go}
use Rattle.chains.proofs.others_keep.Goals as goal

pub returns : goal.returns
returns c = λ k.
    others_go _ _ _ _ _ _ _ c.field_at-h.ensures k c.args.len c.requires.three_or_four.0 c.requires.three_or_four.1
    (c.plain_keep.ensures (others_kept _ _ _ _ c.requires.three_or_four.0 c.requires.three_or_four.1 k))
