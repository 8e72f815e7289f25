-- `join`: so many words are joined.
use Rattle.std.proofs.Common.{◌+◌, arith, get_or, rules}
use Rattle.candidates.specs.Bits.{join-none, moved_none, join_more, moved_more}
use Rattle.candidates.proofs.rows.join.Goals as goal

pub loop-k-init : goal.loop-k-init
loop-k-init c = (search (rules, join-none), search (rules, moved_none))

pub loop-k-preserved : goal.loop-k-preserved
loop-k-preserved c =
    let p = c.args.a + c.loop-k.k in
    let q = c.args.b + c.loop-k.k in
    (search (rules, join_more), moved_more _ c.loop-k.ws c.loop-k.changed p (get_or c.loop-k.ws q 0) (omega arith) (search rules) (search rules) c.loop-k.invariant.1)
