-- The source's ancestors as marks, the first 128 words of the workspace, and which vis lets the source in.
use Prim.Native.Nat.{ℕ, zero, suc, ◌-◌, ◌≤◌, ◌<◌}
use Rattle.std.specs.Prelude.{◌≡◌, refl, true, false, ◌||◌, [], ◌∷◌, ◌≢◌, ltb, length, set}
use Rattle.std.proofs.Math.Path.{sym, ap, ap₂}
use Rattle.std.proofs.Common.{◌∙◌, not-suc-le-zero, le_of_suc-le-suc, arith, get_or-set_same, get_or-set_other, lt-ltb, le-ltb, ltb-true, ltb-false, eqb-true, ne_eqb}
use Rattle.std.proofs.Math.Bool.{Bool}
use Rattle.std.proofs.Math.Nat.{suc-sub-suc, sub-zero}
use Rattle.std.proofs.Math.Dec.{eqb}
use Rattle.std.proofs.lemmas.Bool.{eqb-false}
use Rattle.rules.specs.Lists.{Words, any, optional, is_in}
use Rattle.rules.specs.Layout.{header_definitions, definition_parent}
use Rattle.rules.specs.Sheet.{at, many, field, parent}
use Rattle.rules.specs.Members.{is_in_in, same_test}
use Rattle.rules.specs.CheckLaws.{Checked}
use Rattle.rules.proofs.CheckLaws.{passed}
use Rattle.rules.specs.CheckedSheet.{valid}
use Rattle.rules.specs.Candidates.{ancestors, ancestors_of, visible}
use Rattle.rules.specs.Admission.{Ancestor, itself, of_parent}
use Rattle.rules.proofs.AncestorLaws.{ancestors_in, parent_below}
use Rattle.words.specs.Buffers.{cleared}
use Rattle.candidates.specs.Layout.{index_definitions}
use Rattle.candidates.specs.Index.{Indexes, indexes_keep}

-- Definition a is marked.
abbrev pub marked : Words → ℕ → Bool
marked ws a = eqb (at ws a) 1

-- Definition d was marked, and nothing else.
pub record Marked (ws us : Words) (d : ℕ) : Type 0 where
  pub marks : (a : ℕ) → a < 128 → marked us a ≡ (marked ws a || eqb a d)
  pub others : (p : ℕ) → 128 ≤ p → at us p ≡ at ws p

or_false : (b : Bool) → b ≡ (b || false)
or_false true = refl
or_false false = refl

or_true : (b : Bool) → true ≡ (b || true)
or_true true = refl
or_true false = refl

or_assoc : (a b c : Bool) → ((a || b) || c) ≡ (a || (b || c))
or_assoc true b c = refl
or_assoc false b c = refl

pub marked_here : (ws : Words) (d : ℕ) → d < 128 → 128 ≤ length ws → Marked ws (set ws d 1) d
marked_here ws d h l = record { marks = λ a k. go a (eqb a d) refl; others = λ p k. get_or-set_other ws d p 1 0 (λ e. omega (arith, e)) }
  where
    go : (a : ℕ) (b : Bool) → eqb a d ≡ b → eqb (at (set ws d 1) a) 1 ≡ (eqb (at ws a) 1 || eqb a d)
    go a true e = ap (λ x. eqb x 1) (ap (at (set ws d 1)) (eqb-true a d e) ∙ get_or-set_same ws d 1 0 (omega arith)) ∙ or_true (eqb (at ws a) 1) ∙ ap (λ b. eqb (at ws a) 1 || b) (sym e)
    go a false e = ap (λ x. eqb x 1) (get_or-set_other ws d a 1 0 (eqb-false a d e)) ∙ or_false (eqb (at ws a) 1) ∙ ap (λ b. eqb (at ws a) 1 || b) (sym e)

pub marked_past : (ws : Words) (d : ℕ) → 128 ≤ d → Marked ws ws d
marked_past ws d h = record { marks = λ a k. or_false (eqb (at ws a) 1) ∙ ap (λ b. eqb (at ws a) 1 || b) (sym (ne_eqb a d (λ e. omega arith))); others = λ p k. refl }

-- The marks and the ancestors of d still to be marked, at most so many of them, are those that there are to be.
pub record Climbing (s : Words) (src : ℕ) (ws us : Words) (d left : ℕ) : Type 0 where
  pub marks : (a : ℕ) → a < 128 → (marked us a || is_in a (ancestors_of left s d)) ≡ (marked ws a || is_in a (ancestors s src))
  pub others : (p : ℕ) → 128 ≤ p → at us p ≡ at ws p

-- The ancestors of the source were marked, and nothing else.
pub record Climbed (s : Words) (src : ℕ) (ws us : Words) : Type 0 where
  pub marks : (a : ℕ) → a < 128 → marked us a ≡ (marked ws a || is_in a (ancestors s src))
  pub others : (p : ℕ) → 128 ≤ p → at us p ≡ at ws p

pub climb_start : (s : Words) (src : ℕ) (ws : Words) (left : ℕ) → left ≡ at ws index_definitions → Indexes s ws → Climbing s src ws ws src left
unfolding ancestors
climb_start s src ws left e x = record { marks = λ a h. ap (λ n. marked ws a || is_in a (ancestors_of n s src)) (e ∙ x.definitions.count); others = λ p h. refl }

is_in_cons : (a d : ℕ) (l : Words) → is_in a (d ∷ l) ≡ (eqb a d || is_in a l)
unfolding is_in any
is_in_cons a d l = go (eqb a d) refl
  where
    go : (b : Bool) → eqb a d ≡ b → is_in a (d ∷ l) ≡ (b || is_in a l)
    go true e = rw (e, is_in, any) refl
    go false e = rw (e, is_in, any) refl

is_in-none : (a : ℕ) → is_in a [] ≡ false
unfolding is_in any
is_in-none a = refl

ancestors_top : (k : ℕ) (s : Words) (d : ℕ) → parent s d ≡ 0 → ancestors_of (suc k) s d ≡ d ∷ []
unfolding ancestors_of optional
ancestors_top k s d e = rw e refl

ancestors_up : (k : ℕ) (s : Words) (d p : ℕ) → parent s d ≡ suc p → ancestors_of (suc k) s d ≡ d ∷ ancestors_of k s p
unfolding ancestors_of optional
ancestors_up k s d p e = rw e refl

ancestors-none : (s : Words) (d : ℕ) → ancestors_of 0 s d ≡ []
unfolding ancestors_of
ancestors-none s d = refl

pub climb_end : (s : Words) (src : ℕ) (ws us : Words) (d left : ℕ) → left ≡ 0 → Climbing s src ws us d left → Climbed s src ws us
climb_end s src ws us d left e c = record {
  marks = λ a h. or_false (marked us a) ∙ ap (λ b. marked us a || b) (sym (ap (λ n. is_in a (ancestors_of n s d)) e ∙ ap (is_in a) (ancestors-none s d) ∙ is_in-none a)) ∙ c.marks a h;
  others = c.others;
}

module _ (s : Words) (src : ℕ) (ws us vs : Words) (d : ℕ) where
  -- Where d has no parent that was the last of them;
  pub climb_top : (left q p : ℕ) → left ≢ 0 → q ≡ field s header_definitions d definition_parent → p ≡ q → p ≡ 0 → Climbing s src ws us d left → Marked us vs d → Climbed s src ws vs
  unfolding parent
  climb_top zero q p h e f z c m = absurd (h refl)
  climb_top (suc left) q p h e f z c m = record {
    marks = λ a k.
        m.marks a k ∙ ap (λ b. marked us a || b) (or_false (eqb a d) ∙ ap (λ b. eqb a d || b) (sym (is_in-none a)) ∙ sym (is_in_cons a d []) ∙ ap (is_in a) (sym (ancestors_top left s d (sym e ∙ sym f ∙ z))))
        ∙ c.marks a k;
    others = λ r k. m.others r k ∙ c.others r k;
  }

  -- else its parent's ancestors are still to be marked.
  pub climb_up : (left q p : ℕ) → left ≢ 0 → q ≡ field s header_definitions d definition_parent → p ≡ q → p ≢ 0 → Climbing s src ws us d left → Marked us vs d → Climbing s src ws vs (p - 1) (left - 1)
  unfolding parent
  climb_up zero q p h e f z c m = absurd (h refl)
  climb_up (suc left) q zero h e f z c m = absurd (z refl)
  climb_up (suc left) q (suc p) h e f z c m = record {
    marks = λ a k.
        let i : Bool = is_in a (ancestors_of left s p) in
        ap₂ (λ n r. marked vs a || is_in a (ancestors_of n s r)) (suc-sub-suc left 0 ∙ sub-zero left) (suc-sub-suc p 0 ∙ sub-zero p)
        ∙ ap (λ b. b || i) (m.marks a k) ∙ or_assoc (marked us a) (eqb a d) i
        ∙ ap (λ b. marked us a || b) (sym (is_in_cons a d (ancestors_of left s p)) ∙ ap (is_in a) (sym (ancestors_up left s d p (sym e ∙ sym f))))
        ∙ c.marks a k;
    others = λ r k. m.others r k ∙ c.others r k;
  }

pub climb_keeps : (s us vs : Words) (d : ℕ) → length s ≤ 4096 → Indexes s us → Marked us vs d → Indexes s vs
climb_keeps s us vs d l x m = indexes_keep s us vs l (λ p h. m.others p (omega arith)) x

-- The ancestors of the source are marked, and no other definition.
pub record Sourced (s : Words) (src : ℕ) (ws us : Words) : Type 0 where
  pub marks : (a : ℕ) → a < 128 → marked us a ≡ is_in a (ancestors s src)
  pub others : (p : ℕ) → 128 ≤ p → at us p ≡ at ws p

pub cleared_at : (n : ℕ) (ws : Words) (p : ℕ) → p < n → at (cleared n ws) p ≡ 0
unfolding cleared
cleared_at zero ws p h = absurd (not-suc-le-zero h)
cleared_at (suc n) [] p h = refl
cleared_at (suc n) (w ∷ ws) zero h = refl
cleared_at (suc n) (w ∷ ws) (suc p) h = cleared_at n ws p (le_of_suc-le-suc h)

cleared_past : (n : ℕ) (ws : Words) (p : ℕ) → n ≤ p → at (cleared n ws) p ≡ at ws p
unfolding cleared
cleared_past zero ws p h = refl
cleared_past (suc n) [] p h = refl
cleared_past (suc n) (w ∷ ws) zero h = absurd (not-suc-le-zero h)
cleared_past (suc n) (w ∷ ws) (suc p) h = cleared_past n ws p (le_of_suc-le-suc h)

pub cleared_keeps : (s ws us : Words) → length s ≤ 4096 → us ≡ cleared 128 ws → Indexes s ws → Indexes s us
cleared_keeps s ws us l e x = indexes_keep s ws us l (λ p h. ap (λ z. at z p) e ∙ cleared_past 128 ws p (omega arith)) x

pub sourced : (s : Words) (src : ℕ) (ws us vs : Words) → us ≡ cleared 128 ws → Climbed s src us vs → Sourced s src ws vs
sourced s src ws us vs e c = record {
  marks = λ a h. c.marks a h ∙ ap (λ x. eqb x 1 || is_in a (ancestors s src)) (ap (λ z. at z a) e ∙ cleared_at 128 ws a h);
  others = λ p h. c.others p h ∙ ap (λ z. at z p) e ∙ cleared_past 128 ws p h;
}

-- A vis is public or names a marked definition.
unfoldable pub seen : Words → ℕ → Bool
seen ws zero = true
seen ws (suc a) = elim (ltb a 128) [ true ↦ marked ws a | false ↦ false ]

pub seen_public : (ws : Words) (v : ℕ) → v ≡ 0 → true ≡ seen ws v
unfolding seen
seen_public ws v e = rw e refl

pub seen-marked : (ws : Words) (v q w : ℕ) → v ≢ 0 → q ≡ v → q - 1 < 128 → w ≡ at ws (q - 1) → eqb w 1 ≡ seen ws v
unfolding seen
seen-marked ws zero q w h e l r = absurd (h refl)
seen-marked ws (suc v) q w h e l r =
    let i : q - 1 ≡ v = omega arith in
    rw (lt-ltb v 128 (omega arith), seen) (ap (λ x. eqb x 1) (r ∙ ap (at ws) i))

pub seen_past : (ws : Words) (v q : ℕ) → v ≢ 0 → q ≡ v → 128 ≤ q - 1 → false ≡ seen ws v
unfolding seen
seen_past ws zero q h e l = absurd (h refl)
seen_past ws (suc v) q h e l = rw (le-ltb v 128 (omega arith), seen) refl

ancestor_low : (s : Words) → Checked s → {a d : ℕ} → d < many s header_definitions → Ancestor s a d → a ≤ d
ancestor_low s c h itself = omega arith
ancestor_low s c h (of_parent {d} {p} e x) = let b = parent_below s c d p h e in let r = ancestor_low s c (omega arith) x in omega arith

-- On a checked sheet that is `visible`.
pub seen_is : (s : Words) (src : ℕ) (ws us : Words) → Checked s → src < many s header_definitions → Sourced s src ws us → (v : ℕ) → seen us v ≡ visible (ancestors s src) v
unfolding seen visible optional
seen_is s src ws us c h m zero = refl
seen_is s src ws us c h m (suc a) = go (ltb a 128) refl
  where
    go : (b : Bool) → ltb a 128 ≡ b → (elim b as (λ x. Bool) [ true ↦ marked us a | false ↦ false ]) ≡ is_in a (ancestors s src)
    go true e = m.marks a (ltb-true a 128 e)
    go false e = sym (same_test (is_in a (ancestors s src)) false (λ t. far (ancestor_low s c h ((ancestors_in s c a src h).0 ((is_in_in a (ancestors s src)).0 t))), λ t. absurd t))
      where
        far : a ≤ src → ⊥
        far k = omega (arith, ltb-false a 128 e, (valid s (passed s c).values).definition_count)
