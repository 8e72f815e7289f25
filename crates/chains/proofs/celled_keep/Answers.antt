-- `celled_keep`: each record is known, or marked where it and its cells pass.
use Rattle.std.proofs.Common.{rules, length}
use Rattle.chains.specs.Walks.{Tells, by_calls, walked}
use Rattle.chains.specs.Planes.{over_cells, Cells}
use Rattle.chains.proofs.celled_keep.Goals as goal

pub returns : goal.returns
returns c = λ q k.
    let s = c.args.s.now in
    walked (Cells s) (length s) _ s _ (over_cells c.args.lo s c.args.off) _ _ _ _ c.requires.0 c.requires.1 c.requires.2
    (λ us p f xs t a. by_calls _ (λ us p f xs. Cells s us → Tells (Cells s) (length s) s c.args.len (over_cells c.args.lo s c.args.off) c.args.b p us xs f) (λ lent left p f m. search rules) us p f xs a t)
    _ _ k q c.walk.ensures
