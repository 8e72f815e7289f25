-- `meet_cells`: cell by cell, as the children go.
use Rattle.std.proofs.Common.{arith, rules}
use Rattle.std.proofs.lemmas.Result.{err_from_is_err_and}
use Rattle.meeting.specs.Across.{cells_on, crosses_fewer, crosses_more, crosses_on, crosses_over, crosses_start}
use Rattle.meeting.proofs.state.Meeting.meet_cells.Goals as goal
use Rattle.meeting.proofs.state.Meeting.meet_cells.Goals.{then-left-eq1+in_ok-meet_child, else-left-eq1}

pub loop-j-init : goal.loop-j-init
loop-j-init c = search (rules, crosses_start)

pub returns-then-c-eq0 : goal.returns-then-c-eq0
returns-then-c-eq0 c = crosses_fewer _ _ _ _ _ _ _ _ _ _ c.loop-j.invariant c.if-c-eq0.true (λ e. omega (arith, e, c.loop-j-test.true))

pub returns-in_err-meet_child : goal.returns-in_err-meet_child
returns-in_err-meet_child c = let p = err_from_is_err_and c.from_residual.result c.from_residual.ensures.1 in rw p.1 (search (rules, cells_on, c.in_err-meet_child.ensures))

pub loop-j-preserved : goal.loop-j-preserved
loop-j-preserved c =
    elim c.if-left-eq1.branch [
      | then-left-eq1+in_ok-meet_child w ↦ rw w.self-is (search (rules, crosses_on, cells_on, w.in_ok-meet_child.ensures))
      | else-left-eq1 w ↦ rw w.self-is (search (rules, crosses_over))
    ]

pub returns-then-c-ne0 : goal.returns-then-c-ne0
returns-then-c-ne0 c = search (rules, crosses_more)
