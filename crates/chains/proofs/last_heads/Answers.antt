-- `last_heads`: one head after the other.
use Rattle.std.proofs.Common.{refl}
use Rattle.chains.specs.Planes.{Goes}
use Rattle.chains.specs.Sheets.{and_on, and_no, after, run_goes, and_five}
use Rattle.chains.proofs.last_heads.Goals as goal
use Rattle.chains.proofs.last_heads.Goals.{then-others_keep, else-others_keep, then-cells_keep, else-cells_keep, then-others_keep-2, else-others_keep-2}

pub returns-then-cells_keep-2 : goal.returns-then-cells_keep-2
returns-then-cells_keep-2 c = λ k.
    let a0 = c.others_keep.ensures k in
    let a1 : Goes _ c.args.s.now _ c.if-others_keep.ws c.if-others_keep.value = elim c.if-others_keep.branch [
      | then-others_keep w ↦ and_on a0 w.if-others_keep.true (w.cells_keep.ensures (after a0 w.if-others_keep.true)) w.ws-is w.value-is
      | else-others_keep w ↦ and_no _ a0 w.if-others_keep.false w.ws-is w.value-is
    ] in
    let a2 : Goes _ c.args.s.now _ c.if-cells_keep.ws c.if-cells_keep.value = elim c.if-cells_keep.branch [
      | then-cells_keep w ↦ and_on a1 w.if-cells_keep.true (w.others_keep-then-cells_keep.ensures (after a1 w.if-cells_keep.true)) w.ws-is w.value-is
      | else-cells_keep w ↦ and_no _ a1 w.if-cells_keep.false w.ws-is w.value-is
    ] in
    let a3 : Goes _ c.args.s.now _ c.if-others_keep-2.ws c.if-others_keep-2.value = elim c.if-others_keep-2.branch [
      | then-others_keep-2 w ↦ and_on a2 w.if-others_keep-2.true (w.cells_keep-then-others_keep-2.ensures (after a2 w.if-others_keep-2.true)) w.ws-is w.value-is
      | else-others_keep-2 w ↦ and_no _ a2 w.if-others_keep-2.false w.ws-is w.value-is
    ] in
    run_goes (and_five _ _ _ _ _) (and_on a3 c.if-cells_keep-2.true (c.cells_keep-then-cells_keep-2.ensures (after a3 c.if-cells_keep-2.true)) refl refl)

pub returns-else-cells_keep-2 : goal.returns-else-cells_keep-2
returns-else-cells_keep-2 c = λ k.
    let a0 = c.others_keep.ensures k in
    let a1 : Goes _ c.args.s.now _ c.if-others_keep.ws c.if-others_keep.value = elim c.if-others_keep.branch [
      | then-others_keep w ↦ and_on a0 w.if-others_keep.true (w.cells_keep.ensures (after a0 w.if-others_keep.true)) w.ws-is w.value-is
      | else-others_keep w ↦ and_no _ a0 w.if-others_keep.false w.ws-is w.value-is
    ] in
    let a2 : Goes _ c.args.s.now _ c.if-cells_keep.ws c.if-cells_keep.value = elim c.if-cells_keep.branch [
      | then-cells_keep w ↦ and_on a1 w.if-cells_keep.true (w.others_keep-then-cells_keep.ensures (after a1 w.if-cells_keep.true)) w.ws-is w.value-is
      | else-cells_keep w ↦ and_no _ a1 w.if-cells_keep.false w.ws-is w.value-is
    ] in
    let a3 : Goes _ c.args.s.now _ c.if-others_keep-2.ws c.if-others_keep-2.value = elim c.if-others_keep-2.branch [
      | then-others_keep-2 w ↦ and_on a2 w.if-others_keep-2.true (w.cells_keep-then-others_keep-2.ensures (after a2 w.if-others_keep-2.true)) w.ws-is w.value-is
      | else-others_keep-2 w ↦ and_no _ a2 w.if-others_keep-2.false w.ws-is w.value-is
    ] in
    run_goes (and_five _ _ _ _ _) (and_no _ a3 c.if-cells_keep-2.false refl refl)
