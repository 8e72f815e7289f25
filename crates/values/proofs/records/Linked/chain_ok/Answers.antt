-- `chain_ok`: the records that are left decide.
use Rattle.std.proofs.Common.{rules, inl, arith, ap, length, ◌∙◌}
use Rattle.std.specs.Iterator.Adapters.{enumerate_source, enumerate_count}
use Rattle.chart.specs.Index.{chain-within}
use Rattle.values.specs.Verdict.{walk_begin, walk_member, walk_stop, walk_more, walk_out}
use Rattle.values.proofs.records.Linked.chain_ok.Goals as goal

pub loop-d-init-derived : goal.loop-d-init-derived
loop-d-init-derived c =
    let fits = ap length (c.enumerate-d-items.ensures.source ∙ c.records.ensures) in
    ((tt, tt, inl (rw c.into_iter-d-iterator.ensures.into_iter_gives (omega (arith, chain-within c.args.self.s.now c.next.result, fits, c.enumerate-d-items.ensures.count)))), tt)

pub loop-d-init : goal.loop-d-init
loop-d-init c =
    let made = c.into_iter-d-iterator.ensures.into_iter_gives in
    walk_begin _ _ _ _ _ (ap enumerate_count made ∙ c.enumerate-d-items.ensures.count) c.next.ensures (ap enumerate_source made ∙ c.enumerate-d-items.ensures.source ∙ c.records.ensures)

pub record_ok-requires : goal.record_ok-requires
record_ok-requires c = walk_member _ _ _ _ c.loop-d.invariant _ _ c.in-Some.ensures.steps.0 c.requires

pub returns-then-not-record_ok : goal.returns-then-not-record_ok
returns-then-not-record_ok c = walk_stop _ _ _ _ c.loop-d.invariant _ _ c.in-Some.ensures.steps.0 _ _ c.in-Some.ensures.steps.1 c.record_ok.ensures (search rules)

pub loop-d-preserved : goal.loop-d-preserved
loop-d-preserved c = walk_more _ _ _ _ c.loop-d.invariant _ _ c.in-Some.ensures.steps.0 _ _ c.in-Some.ensures.steps.1 c.record_ok.ensures _ c.in-Some.ensures.steps.2 (search rules)

pub returns : goal.returns
returns c = search (rules, walk_out)
