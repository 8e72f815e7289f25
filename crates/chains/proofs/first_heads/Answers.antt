-- `first_heads`: one head after the other.
use Rattle.std.proofs.Common.{rules, arith, refl}
use Rattle.rules.specs.Layout.{definition_length, generics_length, impl_length}
use Rattle.chains.specs.Planes.{Goes}
use Rattle.chains.specs.Sheets.{definition_heads, generics_heads, impl_heads, and_on, and_no, after, run_goes, and_five}
use Rattle.chains.proofs.first_heads.Goals as goal
use Rattle.chains.proofs.first_heads.Goals.{then-headed_keep, else-headed_keep, then-headed_keep-2, else-headed_keep-2, then-others_keep, else-others_keep}

pub returns-then-headed_keep-3 : goal.returns-then-headed_keep-3
returns-then-headed_keep-3 c = λ k.
    let a0 = c.headed_keep.ensures definition_length (definition_heads c.args.s.now) (omega arith) c.requires.0 (λ lent left p f m. search rules) k in
    let a1 : Goes _ c.args.s.now _ c.if-headed_keep.ws c.if-headed_keep.value = elim c.if-headed_keep.branch [
      | then-headed_keep w ↦ and_on a0 w.if-headed_keep.true (w.headed_keep-then-headed_keep.ensures generics_length (generics_heads c.args.s.now) (omega arith) c.requires.0 (λ lent left p f m. search rules) (after a0 w.if-headed_keep.true)) w.ws-is w.value-is
      | else-headed_keep w ↦ and_no _ a0 w.if-headed_keep.false w.ws-is w.value-is
    ] in
    let a2 : Goes _ c.args.s.now _ c.if-headed_keep-2.ws c.if-headed_keep-2.value = elim c.if-headed_keep-2.branch [
      | then-headed_keep-2 w ↦ and_on a1 w.if-headed_keep-2.true (w.others_keep.ensures (after a1 w.if-headed_keep-2.true)) w.ws-is w.value-is
      | else-headed_keep-2 w ↦ and_no _ a1 w.if-headed_keep-2.false w.ws-is w.value-is
    ] in
    let a3 : Goes _ c.args.s.now _ c.if-others_keep.ws c.if-others_keep.value = elim c.if-others_keep.branch [
      | then-others_keep w ↦ and_on a2 w.if-others_keep.true (w.headed_keep-then-others_keep.ensures impl_length (impl_heads c.args.s.now) (omega arith) c.requires.0 (λ lent left p f m. search rules) (after a2 w.if-others_keep.true)) w.ws-is w.value-is
      | else-others_keep w ↦ and_no _ a2 w.if-others_keep.false w.ws-is w.value-is
    ] in
    run_goes (and_five _ _ _ _ _) (and_on a3 c.if-headed_keep-3.true (c.cells_keep.ensures (after a3 c.if-headed_keep-3.true)) refl refl)

pub returns-else-headed_keep-3 : goal.returns-else-headed_keep-3
returns-else-headed_keep-3 c = λ k.
    let a0 = c.headed_keep.ensures definition_length (definition_heads c.args.s.now) (omega arith) c.requires.0 (λ lent left p f m. search rules) k in
    let a1 : Goes _ c.args.s.now _ c.if-headed_keep.ws c.if-headed_keep.value = elim c.if-headed_keep.branch [
      | then-headed_keep w ↦ and_on a0 w.if-headed_keep.true (w.headed_keep-then-headed_keep.ensures generics_length (generics_heads c.args.s.now) (omega arith) c.requires.0 (λ lent left p f m. search rules) (after a0 w.if-headed_keep.true)) w.ws-is w.value-is
      | else-headed_keep w ↦ and_no _ a0 w.if-headed_keep.false w.ws-is w.value-is
    ] in
    let a2 : Goes _ c.args.s.now _ c.if-headed_keep-2.ws c.if-headed_keep-2.value = elim c.if-headed_keep-2.branch [
      | then-headed_keep-2 w ↦ and_on a1 w.if-headed_keep-2.true (w.others_keep.ensures (after a1 w.if-headed_keep-2.true)) w.ws-is w.value-is
      | else-headed_keep-2 w ↦ and_no _ a1 w.if-headed_keep-2.false w.ws-is w.value-is
    ] in
    let a3 : Goes _ c.args.s.now _ c.if-others_keep.ws c.if-others_keep.value = elim c.if-others_keep.branch [
      | then-others_keep w ↦ and_on a2 w.if-others_keep.true (w.headed_keep-then-others_keep.ensures impl_length (impl_heads c.args.s.now) (omega arith) c.requires.0 (λ lent left p f m. search rules) (after a2 w.if-others_keep.true)) w.ws-is w.value-is
      | else-others_keep w ↦ and_no _ a2 w.if-others_keep.false w.ws-is w.value-is
    ] in
    run_goes (and_five _ _ _ _ _) (and_no _ a3 c.if-headed_keep-3.false refl refl)
