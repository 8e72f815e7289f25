-- A walk down a table. Word n of its buffer is the place of node n until the node is finished, and 0 from then on; a node is finished after its children.
use Rattle.std.specs.Prelude.{ℕ, suc, ◌-◌, ◌≤◌, ◌<◌, ◌≡◌, refl, Bool, true, false, [], ◌∷◌, ◌⊎◌, ◌≢◌, eqb, length, set}
use Rattle.std.proofs.Common.{sym, ◌∙◌, ap, subst, inl, inr, ⊎_elim, arith, length-set, get_or-set_same, get_or-set_other, eqb-true}
use Rattle.std.proofs.Math.Seq.{set_out}
use Rattle.std.proofs.lemmas.Bool.{eqb-false}
use Rattle.rules.specs.Lists.{Words}
use Rattle.rules.specs.Sheet.{at, chain}
use Rattle.rules.specs.Transfer.{table}
use Rattle.rules.specs.AcyclicLaws.{Down, one, on}
use Rattle.rules.specs.Members.{In, first, later, in_cases, in_empty}
use Rattle.acyclic.specs.Nodes.{children_head, cells, cell_node, Inside, Deep, here, down, child_cell}

-- What holds between the steps of a walk: the children of a finished node are finished, and no finished node reaches itself.
pub record Walking (s : Words) (h : ℕ) (ws : Words) : Type 0 where
  pub long : length (chain s h) ≤ length ws
  pub named : Inside s h
  pub place : (n : ℕ) → n < length (chain s h) → (at ws n ≡ 0) ⊎ (at ws n ≡ at (chain s h) n)
  pub closed : (n : ℕ) → n < length (chain s h) → at ws n ≡ 0 → (c : ℕ) → In c (cells s h n) → at ws (cell_node s c) ≡ 0
  pub free : (n : ℕ) → n < length (chain s h) → at ws n ≡ 0 → Down (table s h) n n → ⊥

-- What a walk down from node n has come to: the node is finished and what was finished still is; or there is a way down that uses up the fuel.
pub record Walked (s : Words) (h n fuel : ℕ) (ws out : Words) (r : Bool) : Type 0 where
  pub walking : r ≡ true → Walking s h out
  pub finished : r ≡ true → at out n ≡ 0
  pub kept : r ≡ true → (m : ℕ) → m < length (chain s h) → at ws m ≡ 0 → at out m ≡ 0
  pub deep : r ≡ false → Deep s h fuel n

-- Between two cells of node n: these are left, and what the others name is finished.
pub record Turning (s : Words) (h n : ℕ) (ws₀ ws left : Words) : Type 0 where
  pub walking : Walking s h ws
  pub kept : (m : ℕ) → m < length (chain s h) → at ws₀ m ≡ 0 → at ws m ≡ 0
  pub rest : (c : ℕ) → In c left → In c (cells s h n)
  pub passed : (c : ℕ) → In c (cells s h n) → In c left ⊎ (at ws (cell_node s c) ≡ 0)

same_or : (m n : ℕ) → (m ≡ n) ⊎ (m ≢ n)
same_or m n = go (eqb m n) refl
  where
    go : (b : Bool) → eqb m n ≡ b → (m ≡ n) ⊎ (m ≢ n)
    go true e = inl (eqb-true m n e)
    go false e = inr (eqb-false m n e)

-- A node all of whose children are finished is finished.
module _ (s : Words) (h n : ℕ) (ws : Words) (w : Walking s h ws) (l : n < length (chain s h)) (kids : (c : ℕ) → In c (cells s h n) → at ws (cell_node s c) ≡ 0) where
  -- What it reaches is finished.
  reached : (m : ℕ) → Down (table s h) n m → (m < length (chain s h)) × (at ws m ≡ 0)
  reached m (one j k) =
      let r = child_cell s h n l j k in
      subst (λ x. (x < length (chain s h)) × (at ws x ≡ 0)) (sym r.2) (w.named.inside n l r.0 r.1, kids r.0 r.1)
  reached m (on {y} d j k) =
      let b = reached y d in
      let r = child_cell s h y b.0 j k in
      subst (λ x. (x < length (chain s h)) × (at ws x ≡ 0)) (sym r.2) (w.named.inside y b.0 r.0 r.1, w.closed y b.0 b.1 r.0 r.1)

  cleared_here : at (set ws n 0) n ≡ 0
  cleared_here = get_or-set_same ws n 0 0 (omega (arith, w.long))

  still : (m : ℕ) → at ws m ≡ 0 → at (set ws n 0) m ≡ 0
  still m e = ⊎_elim (λ q. subst (λ x. at (set ws n 0) x ≡ 0) (sym q) cleared_here) (λ q. get_or-set_other ws n m 0 0 q ∙ e) (same_or m n)

  finishing : Walking s h (set ws n 0)
  finishing = record {
    long = simp length-set w.long;
    named = w.named;
    place = λ m k. ⊎_elim (λ q. inl (subst (λ x. at (set ws n 0) x ≡ 0) (sym q) cleared_here)) (λ q. rw (get_or-set_other ws n m 0 0 q) (w.place m k)) (same_or m n);
    closed = λ m k e c i. still (cell_node s c) (⊎_elim (λ q. kids c (subst (λ x. In c (cells s h x)) q i)) (λ q. w.closed m k (sym (get_or-set_other ws n m 0 0 q) ∙ e) c i) (same_or m n));
    free = λ m k e d. ⊎_elim (λ q. let u = subst (λ x. Down (table s h) x x) q d in w.free n l (reached n u).1 u) (λ q. w.free m k (sym (get_or-set_other ws n m 0 0 q) ∙ e) d) (same_or m n);
  }

never : {A : Type 0} → ◌≡◌ {A = Bool} true false → A
never e = let z : ◌≡◌ {A = ℕ} 0 1 = cc in absurd (omega arith)

-- A store past the end changes nothing.
pub finish_past : (ws : Words) (n : ℕ) → length ws ≤ n → ws ≡ set ws n 0
finish_past ws n l = sym (set_out ws n 0 l)

-- It was finished before.
pub walked_before : (s : Words) (h n fuel p : ℕ) (ws : Words) → Walking s h ws → p ≡ at ws n → p ≡ 0 → Walked s h n fuel ws ws true
walked_before s h n fuel p ws w e z = record { walking = λ q. w; finished = λ q. sym e ∙ z; kept = λ q m k u. u; deep = λ q. never q }

-- No fuel is left.
pub walked_spent : (s : Words) (h n fuel : ℕ) (ws : Words) → fuel ≡ 0 → Walked s h n fuel ws ws false
walked_spent s h n fuel ws e = record { walking = λ q. never (sym q); finished = λ q. never (sym q); kept = λ q. never (sym q); deep = λ q. subst (λ k. Deep s h k n) (sym e) here }

-- The word of a node that is not finished is its place.
pub place_is : (s : Words) (h n : ℕ) (ws : Words) (p : ℕ) → Walking s h ws → n < length (chain s h) → p ≡ at ws n → p ≢ 0 → p ≡ at (chain s h) n
place_is s h n ws p w l e z = ⊎_elim (λ a. absurd (z (e ∙ a))) (λ a. e ∙ a) (w.place n l)

-- The cells of the node: at first all are left.
pub turning_start : (s : Words) (h n : ℕ) (ws : Words) (p cell : ℕ) (left : Words) → Walking s h ws → n < length (chain s h) → p ≡ at ws n → p ≢ 0 → cell ≡ children_head s p → left ≡ chain s cell → Turning s h n ws ws left
unfolding cells
turning_start s h n ws p cell left w l e z f g =
    let q : left ≡ cells s h n = g ∙ ap (chain s) (f ∙ ap (children_head s) (place_is s h n ws p w l e z)) in
    record { walking = w; kept = λ m k a. a; rest = λ c i. subst (In c) q i; passed = λ c i. inl (subst (In c) (sym q) i) }

module _ (s : Words) (h n : ℕ) (ws₀ ws left : Words) (t : Turning s h n ws₀ ws left) (l : n < length (chain s h)) where
  module _ (cell : ℕ) (more : Words) (q : left ≡ cell ∷ more) where
    this : In cell (cells s h n)
    this = t.rest cell (subst (In cell) (sym q) first)

    -- The next cell names a node of the table.
    pub turning_named : (m : ℕ) → m ≡ cell_node s cell → m < length (chain s h)
    turning_named m e = subst (λ x. x < length (chain s h)) (sym e) (t.walking.named.inside n l cell this)

    -- It leads too deep.
    pub turning_deep : (fuel m : ℕ) (out : Words) (r : Bool) → fuel ≢ 0 → m ≡ cell_node s cell → Walked s h m (fuel - 1) ws out r → r ≡ false → Walked s h n fuel ws₀ out false
    turning_deep fuel m out r f e w g =
        let d = subst (Deep s h (fuel - 1)) e (w.deep g) in
        record { walking = λ q. never (sym q); finished = λ q. never (sym q); kept = λ q. never (sym q); deep = λ q. subst (λ k. Deep s h k n) (let z : suc (fuel - 1) ≡ fuel = omega arith in z) (down cell this d) }

    -- Its node is finished: on to the next.
    pub turning_on : (fuel m : ℕ) (out : Words) (r : Bool) → m ≡ cell_node s cell → Walked s h m fuel ws out r → r ≡ true → Turning s h n ws₀ out more
    turning_on fuel m out r e w g = record {
      walking = w.walking g;
      kept = λ x k z. w.kept g x k (t.kept x k z);
      rest = λ c i. t.rest c (subst (In c) (sym q) (later i));
      passed = λ c i. ⊎_elim
          (λ k. ⊎_elim (λ z. inr (subst (λ x. at out x ≡ 0) (e ∙ ap (cell_node s) (sym z)) (w.finished g))) inl (in_cases (subst (In c) q k)))
          (λ k. inr (w.kept g (cell_node s c) (t.walking.named.inside n l c i) k))
          (t.passed c i);
    }

    -- Its node was finished before: on to the next.
    pub turning_over : (m p : ℕ) → m ≡ cell_node s cell → p ≡ at ws m → p ≡ 0 → Turning s h n ws₀ ws more
    turning_over m p e f z = turning_on 0 m ws true e (walked_before s h m 0 p ws t.walking f z) refl

  -- No cell is left, and the node is finished.
  pub turning_end : (fuel : ℕ) (out : Words) → left ≡ [] → out ≡ set ws n 0 → Walked s h n fuel ws₀ out true
  turning_end fuel out e f =
      let kids : (c : ℕ) → In c (cells s h n) → at ws (cell_node s c) ≡ 0 = λ c i. ⊎_elim (λ k. absurd (in_empty (subst (In c) e k))) (λ k. k) (t.passed c i) in
      record {
        walking = λ q. subst (Walking s h) (sym f) (finishing s h n ws t.walking l kids);
        finished = λ q. subst (λ us. at us n ≡ 0) (sym f) (cleared_here s h n ws t.walking l kids);
        kept = λ q m k z. subst (λ us. at us m ≡ 0) (sym f) (still s h n ws t.walking l kids m (t.kept m k z));
        deep = λ q. never q;
      }
