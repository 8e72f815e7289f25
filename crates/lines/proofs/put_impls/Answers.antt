-- `put_impls`: one impl more.
use Rattle.std.proofs.Common.{rules, arith}
use Rattle.lines.specs.Lines.{lining_start, lining_next, lining_over, impl_there}
use Rattle.lines.proofs.put_impls.Goals as goal

pub loop-i-init : goal.loop-i-init
loop-i-init c = search (rules, lining_start)

pub put_entry-end-requires : goal.put_entry-end-requires
put_entry-end-requires c = let h = impl_there _ _ _ _ _ _ c.in-Some.is c.next_admitted.ensures in (omega (arith, h.1), omega (arith, h.0, h.1))

pub loop-i-preserved : goal.loop-i-preserved
loop-i-preserved c = let h = impl_there _ _ _ _ _ _ c.in-Some.is c.next_admitted.ensures in (search rules, omega (arith, h.1), omega (arith, h.0), lining_next _ _ _ _ _ _ _ _ _ _ _ _ c.in-Some.is c.next_admitted.ensures c.put_entry-end.ensures.0 c.loop-i.invariant.3)

pub returns : goal.returns
returns c = (lining_over _ _ _ _ _ _ _ _ _ c.in_default.is c.next_admitted.ensures c.loop-i.invariant.3, omega arith)
