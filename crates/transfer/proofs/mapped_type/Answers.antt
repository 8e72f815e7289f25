-- Where a root type went.
use Rattle.std.proofs.Common.{refl}
use Rattle.transfer.specs.Leaves.{gone_there}
use Rattle.transfer.proofs.mapped_type.Goals as goal

pub returns : goal.returns
returns c = gone_there _ _ _ _ c.requires.r_bound refl refl c.if-q-eq0.false _ _ c.invert_if.ensures c.is_inverted.ensures
