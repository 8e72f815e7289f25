-- `note`: one place more is noted.
use Rattle.std.proofs.Common.{rules}
use Rattle.values.specs.Folds.{below_set, note_more}
use Rattle.values.proofs.folds.note.Goals as goal

pub loop-i-preserved : goal.loop-i-preserved
loop-i-preserved g c = (
  below_set _ _ _ _ _ c.loop-i.invariant.0,
  λ f z k. note_more _ _ f _ _ _ _ _ c.requires.room.0 c.requires.room.1 (search rules) (search rules) z (search rules) (λ q o e. k _ _ _ _ c.loop-i.invariant.0 q o e c.step-r.ensures) (c.loop-i.invariant.1 f z k),
)
