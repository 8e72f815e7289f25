-- `impl_at`: the record, then its heads.
use Rattle.std.proofs.Common.{refl}
use Rattle.chains.specs.Planes.{Goes}
use Rattle.chains.specs.Sheets.{and_on, and_no, after, record_test, record_goes, impl_tests}
use Rattle.chains.proofs.impl_at.Goals as goal
use Rattle.chains.proofs.impl_at.Goals.{then-keeps, else-keeps}

pub returns-then-nodes_keep : goal.returns-then-nodes_keep
returns-then-nodes_keep c = λ k.
    let a0 = record_test _ _ c.keeps.ensures k in
    let a1 : Goes _ c.args.s.now _ c.if-keeps.ws c.if-keeps.value = elim c.if-keeps.branch [
      | then-keeps w ↦ and_on a0 w.if-keeps.true (w.nodes_keep.ensures (after a0 w.if-keeps.true)) w.ws-is w.value-is
      | else-keeps w ↦ and_no _ a0 w.if-keeps.false w.ws-is w.value-is
    ] in
    record_goes _ _ _ (impl_tests c.args.s.now c.args.p _) (and_on a1 c.if-nodes_keep.true (c.cells_keep.ensures (after a1 c.if-nodes_keep.true)) refl refl)

pub returns-else-nodes_keep : goal.returns-else-nodes_keep
returns-else-nodes_keep c = λ k.
    let a0 = record_test _ _ c.keeps.ensures k in
    let a1 : Goes _ c.args.s.now _ c.if-keeps.ws c.if-keeps.value = elim c.if-keeps.branch [
      | then-keeps w ↦ and_on a0 w.if-keeps.true (w.nodes_keep.ensures (after a0 w.if-keeps.true)) w.ws-is w.value-is
      | else-keeps w ↦ and_no _ a0 w.if-keeps.false w.ws-is w.value-is
    ] in
    record_goes _ _ _ (impl_tests c.args.s.now c.args.p _) (and_no _ a1 c.if-nodes_keep.false refl refl)
