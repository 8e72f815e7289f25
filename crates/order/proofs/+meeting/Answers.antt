-- The cycle of `go`: the rule is followed layer by layer, and the fuel falls.
use Rattle.std.proofs.Common.{rules}
use Rattle.std.proofs.lemmas.Result.{err_from_is_err_and}
use Rattle.order.specs.Words.{kids_below, steps-none}
use Rattle.order.specs.Halts.{halt_not-on}
use Rattle.order.specs.Going.{go_same, go_own, go_not_own, go_meets, pair_near, meet_left, meet_right, known_kids, known_joined, kind_there}
use Rattle.order.specs.Kids.{beside_start, beside_short, beside_over, beside_end, beside_last, beside_on, kids_across, rows_uneven, rows_end_lem, rows_last, rows_on, rows-kids}
use Rattle.order.proofs.+meeting.Goals as goal
use Rattle.order.proofs.+meeting.Goals.{meet-then-k-eq0-via-then-k-eq0, meet-then-k-eq0-via-else-k-eq0+then-l-eq0, pair-then-x-b-via-then-x-b, pair-then-x-b-via-else-x-b+then-x-step}

pub across-returns : goal.across-returns
across-returns t c = search (rules, kids_across)

pub beside-loop-j-init : goal.beside-loop-j-init
beside-loop-j-init t c = search (rules, beside_start)

pub beside-returns-then-c-eq0 : goal.beside-returns-then-c-eq0
beside-returns-then-c-eq0 t c = search (rules, beside_short)

pub beside-loop-j-preserved : goal.beside-loop-j-preserved
beside-loop-j-preserved t c = search (rules, beside_on, c.in_ok-cell.ensures)

pub beside-returns-then-c-ne0 : goal.beside-returns-then-c-ne0
beside-returns-then-c-ne0 t c = search (rules, beside_over)

pub beside-returns : goal.beside-returns
beside-returns t c = search (rules, beside_end)

pub go-returns-then-x-y : goal.go-returns-then-x-y
go-returns-then-x-y t c = search (rules, go_meets)

pub go-returns : goal.go-returns
go-returns t c = search (rules, go_not_own)

pub meet-returns-then-k-eq0 : goal.meet-returns-then-k-eq0
meet-returns-then-k-eq0 t c =
    elim c.then-k-eq0.branch [
      | meet-then-k-eq0-via-then-k-eq0 w ↦ meet_left _ _ _ _ _ _ _ _ _ _ c.state-p.ensures c.state-q.ensures c.kind-k.ensures c.kind-l.ensures _ _ w.if-k-eq0.true c.join.ensures
      | meet-then-k-eq0-via-else-k-eq0+then-l-eq0 w ↦ meet_right _ _ _ _ _ _ _ _ _ _ c.state-p.ensures c.state-q.ensures c.kind-k.ensures c.kind-l.ensures _ _ w.if-l-eq0.true c.join.ensures
    ]

pub meet-returns : goal.meet-returns
meet-returns t c = search (rules, known_joined, kind_there)

pub pair-returns-then-x-b : goal.pair-returns-then-x-b
pair-returns-then-x-b t c =
    elim c.then-x-b.branch [
      | pair-then-x-b-via-then-x-b w ↦ search (rules, pair_near, steps-none)
      | pair-then-x-b-via-else-x-b+then-x-step w ↦ search (rules, pair_near)
    ]

pub pairs-loop-j-preserved : goal.pairs-loop-j-preserved
pairs-loop-j-preserved t c = search (rules, rows_on, c.in_ok-pair.ensures)

pub pairs-returns : goal.pairs-returns
pairs-returns t c = search (rules, rows_end_lem)

pub rows-returns-then-xs-ys : goal.rows-returns-then-xs-ys
rows-returns-then-xs-ys t c = search (rules, rows_uneven, kids_below)

pub go-returns-then-x-y-2 : goal.go-returns-then-x-y-2
go-returns-then-x-y-2 t c = search (rules, go_same, go_own)

pub beside-returns-in_err-cell : goal.beside-returns-in_err-cell
beside-returns-in_err-cell t c = let p = err_from_is_err_and c.from_residual.result c.from_residual.ensures.1 in rw (p.1, p.2) (search (rules, beside_last, c.in_err-cell.ensures, halt_not-on))

pub meet-returns-in_err-below : goal.meet-returns-in_err-below
meet-returns-in_err-below t c = let p = err_from_is_err_and c.from_residual.result c.from_residual.ensures.1 in rw (p.1, p.2) (search (rules, known_kids, kind_there, c.in_err-below.ensures, halt_not-on))

pub pairs-returns-in_err-pair : goal.pairs-returns-in_err-pair
pairs-returns-in_err-pair t c = let p = err_from_is_err_and c.from_residual.result c.from_residual.ensures.1 in rw (p.1, p.2) (search (rules, rows_last, c.in_err-pair.ensures, halt_not-on))

pub rows-returns : goal.rows-returns
rows-returns t c = search (rules, rows-kids, kids_below)
