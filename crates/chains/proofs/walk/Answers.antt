-- `walk`: one record more, or the end.
use Rattle.std.proofs.Common.{rules}
use Rattle.chains.specs.Walks.{called, runs_none, runs_break, runs_more, walks_from}
use Rattle.chains.proofs.walk.Goals as goal

pub returns-in-Break : goal.returns-in-Break
returns-in-Break g c = walks_from _ _ _ _ _ _ _ (search rules) (c.loop-p.invariant.1 _ _ (runs_break _ _ _ _ _ _ c.in-Some.ensures.steps _ (called _ _ _ _ _ c.in-Break.ensures)))

pub loop-p-preserved : goal.loop-p-preserved
loop-p-preserved g c = (search rules, λ vs r n. c.loop-p.invariant.1 vs r (runs_more _ _ _ _ _ _ c.in-Some.ensures.steps _ _ (called _ _ _ _ _ c.in_default.ensures) n))

pub returns : goal.returns
returns g c = walks_from _ _ _ _ _ _ _ (search rules) (c.loop-p.invariant.1 _ _ (runs_none _ _ _ c.in-None.ensures.steps.0))
