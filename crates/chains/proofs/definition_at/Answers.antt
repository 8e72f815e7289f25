-- `definition_at`: the record, then its heads.
use Rattle.std.proofs.Common.{refl}
use Rattle.chains.specs.Planes.{Goes}
use Rattle.chains.specs.Sheets.{and_on, and_no, after, record_test, record_goes, definition_tests}
use Rattle.chains.proofs.definition_at.Goals as goal
use Rattle.chains.proofs.definition_at.Goals.{then-keeps, else-keeps, then-others_keep, else-others_keep}

pub returns-then-others_keep-2 : goal.returns-then-others_keep-2
returns-then-others_keep-2 c = λ k.
    let a0 = record_test _ _ c.keeps.ensures k in
    let a1 : Goes _ c.args.s.now _ c.if-keeps.ws c.if-keeps.value = elim c.if-keeps.branch [
      | then-keeps w ↦ and_on a0 w.if-keeps.true (w.others_keep.ensures (after a0 w.if-keeps.true)) w.ws-is w.value-is
      | else-keeps w ↦ and_no _ a0 w.if-keeps.false w.ws-is w.value-is
    ] in
    let a2 : Goes _ c.args.s.now _ c.if-others_keep.ws c.if-others_keep.value = elim c.if-others_keep.branch [
      | then-others_keep w ↦ and_on a1 w.if-others_keep.true (w.others_keep-then-others_keep.ensures (after a1 w.if-others_keep.true)) w.ws-is w.value-is
      | else-others_keep w ↦ and_no _ a1 w.if-others_keep.false w.ws-is w.value-is
    ] in
    record_goes _ _ _ (definition_tests c.args.s.now c.args.p _) (and_on a2 c.if-others_keep-2.true (c.others_keep-then-others_keep-2.ensures (after a2 c.if-others_keep-2.true)) refl refl)

pub returns-else-others_keep-2 : goal.returns-else-others_keep-2
returns-else-others_keep-2 c = λ k.
    let a0 = record_test _ _ c.keeps.ensures k in
    let a1 : Goes _ c.args.s.now _ c.if-keeps.ws c.if-keeps.value = elim c.if-keeps.branch [
      | then-keeps w ↦ and_on a0 w.if-keeps.true (w.others_keep.ensures (after a0 w.if-keeps.true)) w.ws-is w.value-is
      | else-keeps w ↦ and_no _ a0 w.if-keeps.false w.ws-is w.value-is
    ] in
    let a2 : Goes _ c.args.s.now _ c.if-others_keep.ws c.if-others_keep.value = elim c.if-others_keep.branch [
      | then-others_keep w ↦ and_on a1 w.if-others_keep.true (w.others_keep-then-others_keep.ensures (after a1 w.if-others_keep.true)) w.ws-is w.value-is
      | else-others_keep w ↦ and_no _ a1 w.if-others_keep.false w.ws-is w.value-is
    ] in
    record_goes _ _ _ (definition_tests c.args.s.now c.args.p _) (and_no _ a2 c.if-others_keep-2.false refl refl)
