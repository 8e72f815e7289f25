-- Rows of what reaches what, from the nodes themselves on, and edges that are opened where their end reaches their start.
use Rattle.std.specs.Prelude.{ℕ, zero, suc, ◌+◌, ◌*◌, ◌-◌, ◌/◌, ◌%◌, ◌≤◌, ◌<◌, ◌≡◌, refl, Bool, true, false, ◌||◌, ◌&&◌, ◌⊎◌, ◌≢◌, eqb, length, Option, Some}
use Rattle.std.proofs.Common.{sym, ◌∙◌, ap₂, subst, inl, inr, ⊎_elim, not-suc-le-zero, arith, eqb-true, eq-eqb, ne_eqb}
use Rattle.std.proofs.Math.Path.{ap}
use Rattle.std.proofs.lemmas.Bool.{eqb-false}
use Rattle.rules.specs.Lists.{Words}
use Rattle.rules.specs.Sheet.{at}
use Rattle.candidates.specs.Layout.{rows_links, rows_open, rows_reach, rows_sets, rows_end}
use Rattle.candidates.specs.Bits.{bit, on, with_bit}
use Rattle.candidates.specs.Links.{set_other, set-row, set_elsewhere}
use Rattle.candidates.specs.Spread.{NextOn, NextBit, or_end, Below, bit_next}

or_false : (b : Bool) → b ≡ (b || false)
or_false true = refl
or_false false = refl

or_true : (b : Bool) → true ≡ (b || true)
or_true true = refl
or_true false = refl

equal_or : (z x : ℕ) → (z ≡ x) ⊎ (z ≢ x)
equal_or z x = go (eqb z x) refl
  where
    go : (b : Bool) → eqb z x ≡ b → (z ≡ x) ⊎ (z ≢ x)
    go true e = inl (eqb-true z x e)
    go false e = inr (eqb-false z x e)

-- The nodes below n have their own bit in the rows of reach; nothing else was changed.
pub record Selves (n : ℕ) (ws us : Words) : Type 0 where
  pub selves : (x j : ℕ) → x < n → j < 384 → on us (rows_reach + 12 * x) j ≡ (on ws (rows_reach + 12 * x) j || eqb j x)
  pub rest : (x j : ℕ) → n ≤ x → x < 384 → j < 384 → on us (rows_reach + 12 * x) j ≡ on ws (rows_reach + 12 * x) j
  pub others : (p : ℕ) → (p < rows_reach) ⊎ (rows_sets ≤ p) → at us p ≡ at ws p

pub selves_none : (ws : Words) → Selves 0 ws ws
selves_none ws = record { selves = λ x j h. absurd (not-suc-le-zero h); rest = λ x j h k l. refl; others = λ p o. refl }

apart-rows : (base x z : ℕ) → z ≢ x → (base + 12 * z + 12 ≤ base + 12 * x) ⊎ (base + 12 * x + 12 ≤ base + 12 * z)
apart-rows base x z ne = go (x - z) refl
  where
    go : (d : ℕ) → x - z ≡ d → (base + 12 * z + 12 ≤ base + 12 * x) ⊎ (base + 12 * x + 12 ≤ base + 12 * z)
    go zero e = inr (omega (arith, ne))
    go (suc d) e = inl (omega arith)

pub selves_more : (n x : ℕ) (ws us vs : Words) → x < n → n ≤ 384 → rows_end ≤ length us → Selves x ws us → vs ≡ with_bit us (rows_reach + 12 * x) x → Selves (x + 1) ws vs
selves_more n x ws us vs h l f s e = record {
  selves = λ z j hz hj. ap (λ k. on k (rows_reach + 12 * z) j) e ∙ go z j hz hj (equal_or z x);
  rest = λ z j hz k hj.
      ap (λ k. on k (rows_reach + 12 * z) j) e ∙ set_elsewhere us (rows_reach + 12 * x) x (omega arith) (rows_reach + 12 * z) j (apart-rows rows_reach x z (λ q. omega (arith, q))) (omega arith) hj
      ∙ s.rest z j (omega arith) k hj;
  others = λ p o. ap (λ k. at k p) e ∙ set_other us (rows_reach + 12 * x) x (omega arith) p (λ q. ⊎_elim (λ a. omega (arith, a, q)) (λ a. omega (arith, a, q)) o) ∙ s.others p o;
}
  where
    go : (z j : ℕ) → z < x + 1 → j < 384 → (z ≡ x) ⊎ (z ≢ x) → on (with_bit us (rows_reach + 12 * x) x) (rows_reach + 12 * z) j ≡ (on ws (rows_reach + 12 * z) j || eqb j z)
    go z j hz hj (inl q) =
        subst (λ c. on (with_bit us (rows_reach + 12 * x) x) (rows_reach + 12 * c) j ≡ (on ws (rows_reach + 12 * c) j || eqb j c)) (sym q)
        (set-row us (rows_reach + 12 * x) x (omega arith) j ∙ ap (λ b. b || eqb j x) (s.rest x j (omega arith) (omega arith) hj))
    go z j hz hj (inr q) = set_elsewhere us (rows_reach + 12 * x) x (omega arith) (rows_reach + 12 * z) j (apart-rows rows_reach x z q) (omega arith) hj ∙ s.selves z j (omega (arith, q)) hj

pub selves_done : (n x : ℕ) (ws us : Words) → x ≤ n → n ≤ x → Selves x ws us → Selves n ws us
selves_done n x ws us h k s = subst (λ c. Selves c ws us) (let z : x ≡ n = omega arith in z) s

-- Edges of x to nodes below y were opened where their end reaches x; nothing else was changed.
pub record Inner (x y : ℕ) (ws us : Words) : Type 0 where
  pub done : (z : ℕ) → z < y → z < 384 → on us (rows_open + 12 * x) z ≡ (on ws (rows_open + 12 * x) z || (on ws (rows_links + 12 * x) z && on ws (rows_reach + 12 * z) x))
  pub rest : (z : ℕ) → y ≤ z → z < 384 → on us (rows_open + 12 * x) z ≡ on ws (rows_open + 12 * x) z
  pub others : (p : ℕ) → (p < rows_open + 12 * x) ⊎ (rows_open + 12 * x + 12 ≤ p) → at us p ≡ at ws p

pub inner_none : (x : ℕ) (ws : Words) → Inner x 0 ws ws
inner_none x ws = record { done = λ z h. absurd (not-suc-le-zero h); rest = λ z h k. refl; others = λ p o. refl }

-- The rows of links and of reach stay.
module _ (x y : ℕ) (ws us : Words) (hx : x < 384) (i : Inner x y ws us) where
  links_stay : (z : ℕ) → z < 384 → on us (rows_links + 12 * x) z ≡ on ws (rows_links + 12 * x) z
  unfolding on
  links_stay z h = ap (λ w. bit w (z % 32)) (i.others (rows_links + 12 * x + z / 32) (inl (omega arith)))

  reach_stay : (z : ℕ) → z < 384 → on us (rows_reach + 12 * z) x ≡ on ws (rows_reach + 12 * z) x
  unfolding on
  reach_stay z h = ap (λ w. bit w (x % 32)) (i.others (rows_reach + 12 * z + x / 32) (inr (omega arith)))

  -- One edge more: it is opened, or left as it is.
  inner_grow : (vs : Words) → ((z : ℕ) → z < 384 → z ≢ y → on vs (rows_open + 12 * x) z ≡ on us (rows_open + 12 * x) z) → on vs (rows_open + 12 * x) y ≡ (on ws (rows_open + 12 * x) y || (on ws (rows_links + 12 * x) y && on ws (rows_reach + 12 * y) x))
      → ((p : ℕ) → (p < rows_open + 12 * x) ⊎ (rows_open + 12 * x + 12 ≤ p) → at vs p ≡ at us p) → Inner x (y + 1) ws vs
  inner_grow vs same here outside = record {
    done = λ z h k. go z h k (equal_or z y);
    rest = λ z h k. same z k (λ q. omega (arith, q)) ∙ i.rest z (omega arith) k;
    others = λ p o. outside p o ∙ i.others p o;
  }
    where
      go : (z : ℕ) → z < y + 1 → z < 384 → (z ≡ y) ⊎ (z ≢ y) → on vs (rows_open + 12 * x) z ≡ (on ws (rows_open + 12 * x) z || (on ws (rows_links + 12 * x) z && on ws (rows_reach + 12 * z) x))
      go z h k (inl q) = subst (λ c. on vs (rows_open + 12 * x) c ≡ (on ws (rows_open + 12 * x) c || (on ws (rows_links + 12 * x) c && on ws (rows_reach + 12 * c) x))) (sym q) here
      go z h k (inr q) = same z k q ∙ i.done z (omega (arith, q)) k

-- One edge: whatever was done before, it is one more.
pub record InnerStep (x y : ℕ) (us vs : Words) : Type 0 where
  pub more : (ws : Words) → Inner x y ws us → Inner x (y + 1) ws vs

pub step_open : (x y : ℕ) (us vs : Words) (r : Bool) → x < 384 → y < 384 → rows_end ≤ length us → on us (rows_links + 12 * x) y ≡ true → r ≡ on us (rows_reach + 12 * y) x → r ≡ true → vs ≡ with_bit us (rows_open + 12 * x) y → InnerStep x y us vs
step_open x y us vs r hx hy f t e g k = record {
  more = λ ws i. inner_grow x y ws us hx i vs
      (λ z h n. ap (λ c. on c (rows_open + 12 * x) z) k ∙ set-row us (rows_open + 12 * x) y (omega arith) z ∙ ap (λ b. on us (rows_open + 12 * x) z || b) (ne_eqb z y n) ∙ sym (or_false (on us (rows_open + 12 * x) z)))
      (ap (λ c. on c (rows_open + 12 * x) y) k ∙ set-row us (rows_open + 12 * x) y (omega arith) y ∙ ap (λ b. on us (rows_open + 12 * x) y || b) (eq-eqb y y refl) ∙ sym (or_true (on us (rows_open + 12 * x) y)) ∙ or_true (on ws (rows_open + 12 * x) y)
      ∙ ap₂ (λ a b. on ws (rows_open + 12 * x) y || (a && b)) (sym (sym (links_stay x y ws us hx i y hy) ∙ t)) (sym (sym (reach_stay x y ws us hx i y hy) ∙ sym e ∙ g)))
      (λ p o. ap (λ c. at c p) k ∙ set_other us (rows_open + 12 * x) y (omega arith) p (λ q. ⊎_elim (λ a. omega (arith, a, q)) (λ a. omega (arith, a, q)) o));
}

pub step_leave : (x y : ℕ) (us : Words) (r : Bool) → x < 384 → y < 384 → on us (rows_links + 12 * x) y ≡ true → r ≡ on us (rows_reach + 12 * y) x → r ≡ false → InnerStep x y us us
step_leave x y us r hx hy t e g = record {
  more = λ ws i. inner_grow x y ws us hx i us (λ z h n. refl)
      (i.rest y (omega arith) hy ∙ or_false (on ws (rows_open + 12 * x) y)
      ∙ ap₂ (λ a b. on ws (rows_open + 12 * x) y || (a && b)) (sym (sym (links_stay x y ws us hx i y hy) ∙ t)) (sym (sym (reach_stay x y ws us hx i y hy) ∙ sym e ∙ g)))
      (λ p o. refl);
}

-- No edge from y on, below w.
pub inner_skip : (x y n w : ℕ) (ws us : Words) → x < 384 → NextOn us (rows_links + 12 * x) y n w → Inner x y ws us → Inner x w ws us
inner_skip x y n w ws us hx o i = record {
  done = λ z h k. go z h k (y - z) refl;
  rest = λ z h k. i.rest z (omega (arith, o.up)) k;
  others = i.others;
}
  where
    go : (z : ℕ) → z < w → z < 384 → (d : ℕ) → y - z ≡ d → on us (rows_open + 12 * x) z ≡ (on ws (rows_open + 12 * x) z || (on ws (rows_links + 12 * x) z && on ws (rows_reach + 12 * z) x))
    go z h k (suc d) e = i.done z (omega arith) k
    go z h k zero e =
        i.rest z (omega arith) k ∙ or_false (on ws (rows_open + 12 * x) z)
        ∙ ap (λ a. on ws (rows_open + 12 * x) z || (a && on ws (rows_reach + 12 * z) x)) (sym (sym (links_stay x y ws us hx i z k) ∙ o.none z (omega arith) h))

-- x is at node y, to which an edge leads, or past the last.
pub record Opening (n x y : ℕ) (ws us : Words) : Type 0 where
  pub inner : Inner x y ws us
  pub next : y < n → on us (rows_links + 12 * x) y ≡ true

pub opening_start : (n x y : ℕ) (ws : Words) → n ≤ 384 → x < n → NextOn ws (rows_links + 12 * x) 0 n y → Opening n x y ws ws
opening_start n x y ws l hx o = record { inner = inner_skip x 0 n y ws ws (omega arith) o (inner_none x ws); next = o.here }

pub opening_next : (n x y w : ℕ) (ws us vs : Words) → n ≤ 384 → x < n → Opening n x y ws us → InnerStep x y us vs → NextOn vs (rows_links + 12 * x) (y + 1) n w → Opening n x w ws vs
opening_next n x y w ws us vs l hx i s o = record { inner = inner_skip x (y + 1) n w ws vs (omega arith) o (s.more ws i.inner); next = o.here }

-- The same where the next node is found, or none is.
pub opening_first : (n x : ℕ) (o : Option ℕ) (ws : Words) → n ≤ 384 → x < n → NextBit ws (rows_links + 12 * x) 0 n o → Opening n x (or_end n o) ws ws
opening_first n x o ws l hx b = opening_start n x (or_end n o) ws l hx (bit_next ws (rows_links + 12 * x) 0 n o (omega arith) b)

pub opening_after : (n x y : ℕ) (p o : Option ℕ) (ws us vs : Words) → n ≤ 384 → x < n → p ≡ Some y → Below n p → Opening n x (or_end n p) ws us → InnerStep x y us vs → NextBit vs (rows_links + 12 * x) (y + 1) n o → Opening n x (or_end n o) ws vs
opening_after n x y p o ws us vs l hx e h i s b =
    let hy : y < n = subst (Below n) e h in
    opening_next n x y (or_end n o) ws us vs l hx (subst (λ q. Opening n x (or_end n q) ws us) e i) s (bit_next vs (rows_links + 12 * x) (y + 1) n o (omega arith) b)

pub opening_leads : (n x y : ℕ) (ws us : Words) → Opening n x y ws us → y < n → on us (rows_links + 12 * x) y ≡ true
opening_leads n x y ws us i h = i.next h

-- The edges of x to nodes below n.
pub record InnerRow (n x : ℕ) (ws us : Words) : Type 0 where
  pub done : (z : ℕ) → z < n → on us (rows_open + 12 * x) z ≡ (on ws (rows_open + 12 * x) z || (on ws (rows_links + 12 * x) z && on ws (rows_reach + 12 * z) x))
  pub others : (p : ℕ) → (p < rows_open + 12 * x) ⊎ (rows_open + 12 * x + 12 ≤ p) → at us p ≡ at ws p

pub inner_done : (x y n : ℕ) (ws us : Words) → n ≤ 384 → n ≤ y → Opening n x y ws us → InnerRow n x ws us
inner_done x y n ws us l h i = record { done = λ z k. i.inner.done z (omega arith) (omega arith); others = i.inner.others }

-- The edges of the nodes below x.
pub record InnerAll (n x : ℕ) (ws us : Words) : Type 0 where
  pub done : (z y : ℕ) → z < x → y < n → on us (rows_open + 12 * z) y ≡ (on ws (rows_open + 12 * z) y || (on ws (rows_links + 12 * z) y && on ws (rows_reach + 12 * y) z))
  pub rest : (z y : ℕ) → x ≤ z → z < 384 → y < 384 → on us (rows_open + 12 * z) y ≡ on ws (rows_open + 12 * z) y
  pub others : (p : ℕ) → (p < rows_open) ⊎ (rows_reach ≤ p) → at us p ≡ at ws p

pub all_none : (n : ℕ) (ws : Words) → InnerAll n 0 ws ws
all_none n ws = record { done = λ z y h. absurd (not-suc-le-zero h); rest = λ z y h k l. refl; others = λ p o. refl }

pub all_more : (n x : ℕ) (ws us vs : Words) → n ≤ 384 → x < n → InnerAll n x ws us → InnerRow n x us vs → InnerAll n (x + 1) ws vs
unfolding on
all_more n x ws us vs l h a r = record {
  done = λ z y k j. go z y k j (equal_or z x);
  rest = λ z y k i j. elsewhere z y i j (λ q. omega (arith, q)) ∙ a.rest z y (omega arith) i j;
  others = λ p o. r.others p (⊎_elim (λ q. inl (omega (arith, q))) (λ q. inr (omega (arith, q))) o) ∙ a.others p o;
}
  where
    elsewhere : (z y : ℕ) → z < 384 → y < 384 → z ≢ x → on vs (rows_open + 12 * z) y ≡ on us (rows_open + 12 * z) y
    elsewhere z y i j ne = ap (λ w. bit w (y % 32)) (r.others (rows_open + 12 * z + y / 32) (⊎_elim (λ q. inl (omega (arith, q))) (λ q. inr (omega (arith, q))) (apart-rows rows_open x z ne)))

    here : (y : ℕ) → y < n → on vs (rows_open + 12 * x) y ≡ (on ws (rows_open + 12 * x) y || (on ws (rows_links + 12 * x) y && on ws (rows_reach + 12 * y) x))
    here y j =
        r.done y j
        ∙ ap₂ (λ b c. b || c) (a.rest x y (omega arith) (omega arith) (omega arith))
        (ap₂ (λ b c. b && c) (ap (λ w. bit w (y % 32)) (a.others (rows_links + 12 * x + y / 32) (inl (omega arith)))) (ap (λ w. bit w (x % 32)) (a.others (rows_reach + 12 * y + x / 32) (inr (omega arith)))))

    go : (z y : ℕ) → z < x + 1 → y < n → (z ≡ x) ⊎ (z ≢ x) → on vs (rows_open + 12 * z) y ≡ (on ws (rows_open + 12 * z) y || (on ws (rows_links + 12 * z) y && on ws (rows_reach + 12 * y) z))
    go z y k j (inl q) = subst (λ c. on vs (rows_open + 12 * c) y ≡ (on ws (rows_open + 12 * c) y || (on ws (rows_links + 12 * c) y && on ws (rows_reach + 12 * y) c))) (sym q) (here y j)
    go z y k j (inr q) = elsewhere z y (omega arith) (omega arith) q ∙ a.done z y (omega (arith, q)) j

pub all_done : (n x : ℕ) (ws us : Words) → x ≤ n → n ≤ x → InnerAll n x ws us → InnerAll n n ws us
all_done n x ws us h k a = subst (λ c. InnerAll n c ws us) (let z : x ≡ n = omega arith in z) a
