-- `climb`: the marks, and the ancestors of d still to be marked.
use Rattle.std.proofs.Common.{◌-◌, ◌+◌, ◌≡◌, rules, arith, subst, refl}
use Rattle.candidates.specs.Source.{Climbing, climb_start, climb_end, climb_top, climb_up, climb_keeps}
use Rattle.candidates.proofs.source.climb.Goals as goal

pub loop-init : goal.loop-init
loop-init c = search (rules, climb_start)

pub returns-then-parent-eq0 : goal.returns-then-parent-eq0
returns-then-parent-eq0 c = climb_top _ _ _ _ _ _ (c.definitions-n.result - c.loop.counter) _ _ (omega arith) c.definition-parent.ensures refl c.if-parent-eq0.true c.loop.invariant.2 c.mark.ensures

pub loop-preserved : goal.loop-preserved
loop-preserved c =
    let left = c.definitions-n.result - c.loop.counter in
    let e : left - 1 ≡ c.definitions-n.result - (c.loop.counter + 1) = omega arith in
    let up = climb_up c.args.s.now c.args.src c.args.ws.now c.loop.ws c.mark.new.ws c.loop.d left c.definition-parent.result c.definition-parent.result (omega arith) c.definition-parent.ensures refl c.if-parent-eq0.false c.loop.invariant.2 c.mark.ensures in
    (search rules, search (rules, climb_keeps), subst (λ n. Climbing c.args.s.now c.args.src c.args.ws.now c.mark.new.ws (c.definition-parent.result - 1) n) e up)

pub returns : goal.returns
returns c = search (rules, climb_end)
