-- `put_chain`: the next record, with how many were before it.
use Rattle.std.proofs.Common.{rules, arith, inl}
use Rattle.reach.specs.Params.{adding_on}
use Rattle.reach.proofs.put_chain.Goals as goal

pub loop-k-preserved : goal.loop-k-preserved
loop-k-preserved c =
    let h = c.in-Some.ensures.steps in
    let t = adding_on _ _ _ _ _ _ _ c.loop-k.invariant.4 _ _ h.0 _ _ _ h.1 h.2 c.put_param.ensures in
    ((tt, tt, inl (omega (arith, t.steps.count))), tt, search rules, search rules, t)
