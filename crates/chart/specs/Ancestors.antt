-- The ancestors of a source as marks, a word for each definition: what is noted, and the laws of the code that notes it and reads it.
use Rattle.std.specs.Prelude.{ℕ, zero, suc, ◌+◌, ◌-◌, ◌≤◌, ◌<◌, ◌≡◌, Bool, true, false, [], ◌∷◌, ◌++◌, ◌≢◌, eqb, length, set, take, drop}
use Rattle.std.proofs.Math.Path.{refl, sym}
use Rattle.std.proofs.Common.{◌∙◌, ap, arith, length-set, get_or-set_same, get_or-set_other, get_or-append-add, length-take-le, get_or-take, get_or-drop, replicate}
use Rattle.std.proofs.Math.ListN.{get_or-append}
use borrow.Rule.Slice.PartMut.{put_mid, mid_of, mid_len, take_put, drop_put, same_len_mid}
use Rattle.std.proofs.Math.Decide.{ℕ_discrete}
use borrow.Author.Tests.{eq-eqb, ne_eqb}
use Rattle.rules.specs.Lists.{Words, any, is_in, bit}
use Rattle.rules.specs.Layout.{header_definitions}
use Rattle.rules.specs.Sheet.{at, many}
use Rattle.rules.specs.Candidates.{ancestors, visible}
use Rattle.chart.specs.Scope.{visible_all, visible_in}

-- Of the n words from b on, only these are changed.
pub record Within (b n : ℕ) (ws us : Words) : Type 0 where
  pub long : length us ≡ length ws
  pub below : (j : ℕ) → j < b → at us j ≡ at ws j
  pub above : (j : ℕ) → b + n ≤ j → at us j ≡ at ws j

-- Each definition's word from b on is 1 for an ancestor of the source, and 0 for another.
pub record Ancestors (s : Words) (src : ℕ) (us : Words) (b : ℕ) : Type 0 where
  pub is : (a : ℕ) → a < many s header_definitions → at us (b + a) ≡ bit (is_in a (ancestors s src))

-- It is noted, and no other word is changed.
pub record AncestorsMade (s : Words) (src : ℕ) (ws us : Words) (b : ℕ) : Type 0 where
  pub marks : Ancestors s src us b
  pub within : Within b (many s header_definitions) ws us

-- A word is 1 where its number stands in a list, and 0 otherwise.
pub record Marked (ms ds : Words) : Type 0 where
  pub is : (a : ℕ) → a < length ms → at ms a ≡ bit (is_in a ds)

-- None is marked.
pub marked_none : (ms : Words) (n : ℕ) → ms ≡ replicate n 0 → Marked ms []
unfolding is_in any
marked_none ms n e = record { is = λ a l. ap (λ us. at us a) e ∙ go n a }
  where
    go : (n a : ℕ) → at (replicate n 0) a ≡ 0
    go zero a = refl
    go (suc n) zero = refl
    go (suc n) (suc a) = go n a

-- One more stands in a list.
in_more : (a d : ℕ) (ds : Words) → is_in a (ds ++ d ∷ []) ≡ elim (is_in a ds) as (λ x. Bool) [ true ↦ true | false ↦ eqb a d ]
unfolding is_in any
in_more a d [] = go (eqb a d)
  where
    go : (b : Bool) → ◌≡◌ {A = Bool} (elim b [ true ↦ true | false ↦ false ]) b
    go true = refl
    go false = refl
in_more a d (x ∷ ds) = go (eqb a x) (in_more a d ds)
  where
    go : (b : Bool) → ◌≡◌ {A = Bool} (is_in a (ds ++ d ∷ [])) (elim (is_in a ds) as (λ y. Bool) [ true ↦ true | false ↦ eqb a d ]) → ◌≡◌ {A = Bool} (elim b [ true ↦ true | false ↦ is_in a (ds ++ d ∷ []) ]) (elim (elim b as (λ y. Bool) [ true ↦ true | false ↦ is_in a ds ]) as (λ y. Bool) [ true ↦ true | false ↦ eqb a d ])
    go true h = refl
    go false h = h

same_in : (a d : ℕ) (ds : Words) → a ≡ d → is_in a (ds ++ d ∷ []) ≡ true
same_in a d ds e = in_more a d ds ∙ ap (λ b. elim (is_in a ds) as (λ x. Bool) [ true ↦ true | false ↦ b ]) (eq-eqb a d e) ∙ go (is_in a ds)
  where
    go : (b : Bool) → ◌≡◌ {A = Bool} (elim b [ true ↦ true | false ↦ true ]) true
    go true = refl
    go false = refl

other_in : (a d : ℕ) (ds : Words) → a ≢ d → is_in a (ds ++ d ∷ []) ≡ is_in a ds
other_in a d ds n = in_more a d ds ∙ ap (λ b. elim (is_in a ds) as (λ x. Bool) [ true ↦ true | false ↦ b ]) (ne_eqb a d n) ∙ go (is_in a ds)
  where
    go : (b : Bool) → ◌≡◌ {A = Bool} (elim b [ true ↦ true | false ↦ false ]) b
    go true = refl
    go false = refl

-- It is marked, where it has a word,
pub marked_more : (ms ds : Words) (d : ℕ) → Marked ms ds → d < length ms → Marked (set ms d 1) (ds ++ d ∷ [])
marked_more ms ds d m h = record { is = λ a l. go a (ℕ_discrete a d) (omega (arith, length-set ms d 1)) }
  where
    go : (a : ℕ) → Dec (a ≡ d) → a < length ms → at (set ms d 1) a ≡ bit (is_in a (ds ++ d ∷ []))
    go a (yes e) l = ap (at (set ms d 1)) e ∙ get_or-set_same ms d 1 0 h ∙ sym (ap bit (same_in a d ds e))
    go a (no n) l = get_or-set_other ms d a 1 0 n ∙ m.is a l ∙ sym (ap bit (other_in a d ds n))

-- or has none.
pub marked_past : (ms ds : Words) (d : ℕ) → Marked ms ds → length ms ≤ d → Marked ms (ds ++ d ∷ [])
marked_past ms ds d m h = record { is = λ a l. m.is a l ∙ sym (ap bit (other_in a d ds (λ e. absurd (omega arith)))) }

-- A part of a buffer is marked, a word for each definition.
pub ancestors-made : (s : Words) (src b e : ℕ) (ws ms : Words) → e ≡ b + many s header_definitions → b + many s header_definitions ≤ length ws → length ms ≡ length (mid_of b (e - b) ws) → Marked ms (ancestors s src) → AncestorsMade s src ws (put_mid b (e - b) ws ms) b
ancestors-made s src b e ws ms q l k m = record {
  marks = record {
    is = λ a h.
        ap (λ x. at (put_mid b (e - b) ws ms) (x + a)) (sym (length-take-le b ws (omega arith)))
        ∙ get_or-append-add (take b ws) (ms ++ drop (e - b) (drop b ws)) a 0
        ∙ get_or-append ms (drop (e - b) (drop b ws)) 0 a (omega (arith, k, long))
        ∙ m.is a (omega (arith, k, long));
  };
  within = record {
    long = same_len_mid b (e - b) ws ms k;
    below = λ i h. sym (get_or-take b (put_mid b (e - b) ws ms) i 0 h) ∙ ap (λ (xs : Words). at xs i) (take_put b (e - b) ws ms (omega arith)) ∙ get_or-take b ws i 0 h;
    above = λ i h.
        let z : e + (i - e) ≡ i = omega arith in
        ap (at (put_mid b (e - b) ws ms)) (sym z) ∙ sym (get_or-drop e (put_mid b (e - b) ws ms) (i - e) 0)
        ∙ ap (λ (xs : Words). at xs (i - e)) (drop_put b e ws ms (omega arith) (omega arith) (k ∙ long))
        ∙ get_or-drop e ws (i - e) 0 ∙ ap (at ws) z;
  };
}
  where
    long : length (mid_of b (e - b) ws) ≡ e - b
    long = mid_len b e ws (omega arith)

-- A vis lets the source in, by the marks.
pub vis_public : (s : Words) (src vis : ℕ) → vis ≡ 0 → true ≡ visible (ancestors s src) vis
vis_public s src vis e = visible_all (ancestors s src) vis e

-- It names a definition.
pub vis_marked : (s ws : Words) (src b vis m : ℕ) → Ancestors s src ws b → vis ≤ many s header_definitions → vis ≢ 0 → m ≡ at ws (b + (vis - 1)) → eqb m 1 ≡ visible (ancestors s src) vis
vis_marked s ws src b vis m k l n e = visible_in (ancestors s src) vis (eqb m 1) n (ap (λ x. eqb x 1) (e ∙ k.is (vis - 1) (omega arith)) ∙ back (is_in (vis - 1) (ancestors s src)))
  where
    back : (x : Bool) → eqb (bit x) 1 ≡ x
    back true = eq-eqb 1 1 refl
    back false = ne_eqb 0 1 (λ q. absurd (omega arith))
