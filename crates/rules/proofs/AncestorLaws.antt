-- "Ancestors are the parent's ancestors and the definition itself": the list that is computed is that, and its count is never used up on a checked sheet.
use Prim.Native.Nat.{ℕ, zero, suc, ◌+◌, ◌≤◌, ◌<◌}
use Rattle.std.specs.Prelude.{◌≡◌, refl, [], ◌∷◌, ◌⊎◌, ◌↔◌}
use Rattle.std.proofs.Common.{sym, ◌∙◌, subst, inl, inr, not-suc-le-zero, zero-add, suc-add, arith}
use Rattle.std.proofs.Math.Path.{ap}
use Rattle.rules.specs.Lists.{Words, optional}
use Rattle.rules.specs.Layout.{header_definitions}
use Rattle.rules.specs.Sheet.{many, parent}
use Rattle.rules.specs.Candidates.{ancestors_of, ancestors}
use Rattle.rules.specs.Members.{In, first, later, in_cases, in_empty}
use Rattle.rules.specs.Admission.{Ancestor, itself, of_parent}
use Rattle.rules.specs.CheckLaws.{Checked}
use Rattle.rules.proofs.CheckLaws.{passed}
use Rattle.rules.specs.CheckedSheet.{valid, parent_low}

-- One more of the count: the definition itself, and the parent's ancestors where it has one.
ancestors_top : (k : ℕ) (s : Words) (d : ℕ) → parent s d ≡ 0 → ancestors_of (suc k) s d ≡ d ∷ []
unfolding ancestors_of optional
ancestors_top k s d e = rw e refl

ancestors_up : (k : ℕ) (s : Words) (d p : ℕ) → parent s d ≡ suc p → ancestors_of (suc k) s d ≡ d ∷ ancestors_of k s p
unfolding ancestors_of optional
ancestors_up k s d p e = rw e refl

-- What is computed are ancestors, whatever the count.
ancestors_there : (k : ℕ) (s : Words) (a d : ℕ) → In a (ancestors_of k s d) → Ancestor s a d
unfolding ancestors_of
ancestors_there zero s a d h = absurd (in_empty h)
ancestors_there (suc k) s a d h = go (parent s d) refl (ancestors_there k s a)
  where
    go : (w : ℕ) → parent s d ≡ w → ((p : ℕ) → In a (ancestors_of k s p) → Ancestor s a p) → Ancestor s a d
    go zero e ih = at_head (in_cases (subst (In a) (ancestors_top k s d e) h))
      where
        at_head : (a ≡ d) ⊎ In a [] → Ancestor s a d
        at_head (inl q) = subst (Ancestor s a) q itself
        at_head (inr i) = absurd (in_empty i)
    go (suc p) e ih = at_head (in_cases (subst (In a) (ancestors_up k s d p e) h))
      where
        at_head : (a ≡ d) ⊎ In a (ancestors_of k s p) → Ancestor s a d
        at_head (inl q) = subst (Ancestor s a) q itself
        at_head (inr i) = of_parent e (ih p i)

module _ (s : Words) (c : Checked s) where
  -- A parent stands below its child.
  pub parent_below : (d p : ℕ) → d < many s header_definitions → parent s d ≡ suc p → p < d
  parent_below d p h e = subst (λ n. n ≤ d) e (parent_low s (valid s (passed s c).values) d h)

  ancestors_first : (k d : ℕ) → In d (ancestors_of (suc k) s d)
  ancestors_first k d = go (parent s d) refl
    where
      go : (w : ℕ) → parent s d ≡ w → In d (ancestors_of (suc k) s d)
      go zero e = subst (In d) (sym (ancestors_top k s d e)) first
      go (suc p) e = subst (In d) (sym (ancestors_up k s d p e)) first

  -- A count above the definition's id is enough: every ancestor is found.
  ancestors-back : (k a d : ℕ) → d < k → d < many s header_definitions → Ancestor s a d → In a (ancestors_of k s d)
  ancestors-back zero a d l h x = absurd (not-suc-le-zero l)
  ancestors-back (suc k) a d l h itself = ancestors_first k a
  ancestors-back (suc k) a d l h (of_parent {p} e x) =
      let b = parent_below d p h e in
      subst (In a) (sym (ancestors_up k s d p e)) (later (ancestors-back k a p (omega arith) (omega arith) x))

  -- One more of the count changes nothing.
  pub ancestors-rest : (k d : ℕ) → d < k → d < many s header_definitions → ancestors_of (suc k) s d ≡ ancestors_of k s d
  ancestors-rest zero d l h = absurd (not-suc-le-zero l)
  ancestors-rest (suc k) d l h = go (parent s d) refl (ancestors-rest k)
    where
      go : (w : ℕ) → parent s d ≡ w → ((p : ℕ) → p < k → p < many s header_definitions → ancestors_of (suc k) s p ≡ ancestors_of k s p) → ancestors_of (suc (suc k)) s d ≡ ancestors_of (suc k) s d
      go zero e ih = ancestors_top (suc k) s d e ∙ sym (ancestors_top k s d e)
      go (suc p) e ih =
          let b = parent_below d p h e in
          ancestors_up (suc k) s d p e ∙ ap (λ l. d ∷ l) (ih p (omega arith) (omega arith)) ∙ sym (ancestors_up k s d p e)

  -- Nor do any number more: the count is never used up.
  pub ancestors_enough : (k d : ℕ) → d < many s header_definitions → ancestors_of (k + many s header_definitions) s d ≡ ancestors s d
  unfolding ancestors
  ancestors_enough zero d h = ap (λ n. ancestors_of n s d) (zero-add (many s header_definitions))
  ancestors_enough (suc k) d h =
      ap (λ n. ancestors_of n s d) (suc-add k (many s header_definitions)) ∙ ancestors-rest (k + many s header_definitions) d (omega arith) h ∙ ancestors_enough k d h

  -- The computed list holds exactly the ancestors.
  pub ancestors_in : (a d : ℕ) → d < many s header_definitions → In a (ancestors s d) ↔ Ancestor s a d
  unfolding ancestors
  ancestors_in a d h = (ancestors_there (many s header_definitions) s a d, ancestors-back (many s header_definitions) a d h h)
