-- `walk`: between two cells of a node, what the cells passed name is finished.
use Rattle.std.proofs.Common.{rules, sym, subst}
use Rattle.acyclic.specs.Walk.{Turning, walked_spent, turning_start, turning_named, turning_deep, turning_on, turning_over, turning_end}
use Rattle.acyclic.proofs.+walk.Goals as goal
use Rattle.acyclic.proofs.+walk.Goals.{else-open-via-then-open+else-not-walk, else-open-via-else-open}

pub returns-then-fuel-eq0 : goal.returns-then-fuel-eq0
returns-then-fuel-eq0 t c = search (rules, walked_spent)

pub loop-cell-init : goal.loop-cell-init
loop-cell-init t c = (search rules, turning_start _ _ _ _ _ _ _ c.requires.walking c.requires.node_in_bounds c.next-place.ensures (search rules) c.children_head.ensures (search rules))

pub walk-requires : goal.walk-requires
walk-requires t c = (search rules, (search rules, turning_named _ _ _ _ _ _ c.loop-cell.invariant.1 c.requires.node_in_bounds _ _ c.in-Some.ensures.steps _ c.cell_node-below.ensures))

pub returns-then-not-walk : goal.returns-then-not-walk
returns-then-not-walk t c = turning_deep _ _ _ _ _ _ c.loop-cell.invariant.1 c.requires.node_in_bounds _ _ c.in-Some.ensures.steps _ _ _ _ c.if-fuel-eq0.false c.cell_node-below.ensures c.walk.ensures (search rules)

pub loop-cell-preserved : goal.loop-cell-preserved
loop-cell-preserved t c = (
  search rules,
  elim c.else-open.branch [
    | else-open-via-then-open+else-not-walk w ↦ subst (λ us. Turning c.args.s.now c.args.head c.args.node c.args.ws.now us c.next.new.self) (sym w.ws-is) (turning_on _ _ _ _ _ _ c.loop-cell.invariant.1 c.requires.node_in_bounds _ _ c.in-Some.ensures.steps _ _ _ _ c.cell_node-below.ensures w.walk.ensures (search rules))
    | else-open-via-else-open w ↦ subst (λ us. Turning c.args.s.now c.args.head c.args.node c.args.ws.now us c.next.new.self) (sym w.ws-is) (turning_over _ _ _ _ _ _ c.loop-cell.invariant.1 c.requires.node_in_bounds _ _ c.in-Some.ensures.steps _ _ c.cell_node-below.ensures c.next-open.ensures (search rules))
  ],
)

pub returns : goal.returns
returns t c = search (rules, turning_end)
