-- What is noted of a chain as a whole: its length, or the most that a record on it asks for. Chains that go forward, and the pass from the slice's end that notes this for every place.
use Rattle.std.specs.Prelude.{ℕ, zero, suc, ◌+◌, ◌-◌, ◌≤◌, ◌<◌, ◌≡◌, refl, Bool, true, false, [], ◌∷◌, ◌≢◌, ◌⊎◌, ◌↔◌, T, leb, ltb, length, set, max}
use Rattle.std.proofs.Common.{sym, ◌∙◌, ap, subst, inl, inr, ⊎_elim, not-suc-le-zero, arith, le-leb, lt-ltb, le-ltb, leb→le, le→leb, length-set, get_or-set_same, get_or-set_other}
use denote.Ref.{Bor}
use Rattle.std.proofs.Math.Decide.{ℕ_discrete, dec_le, dec_lt}
use Rattle.std.proofs.lemmas.Bool.{lt-leb}
use Rattle.rules.specs.Lists.{Words, all}
use Rattle.rules.specs.Limits.{limit_sheet}
use Rattle.rules.specs.Sheet.{at, chain, chain_of}
use Rattle.rules.specs.Chains.{no_heads}
use Rattle.rules.specs.ChainLaws.{Keeps, at_end, at_record, chain_rule, chain_step}
use Rattle.chart.specs.Index.{chain-within}
use Rattle.rules.specs.Members.{same_test, all_cons, In, first, later}

-- The larger of two.
unfoldable pub larger : ℕ → ℕ → ℕ
larger a b = elim (leb a b) [ true ↦ b | false ↦ a ]

-- It is the second.
pub larger_right : (a b : ℕ) → a ≤ b → b ≡ larger a b
unfolding larger
larger_right a b h = rw (le-leb a b h, larger)

-- It is the first.
pub larger-left : (a b : ℕ) → b < a → a ≡ larger a b
unfolding larger
larger-left a b h = rw (lt-leb a b h, larger)

-- It is the library's.
pub larger_max : (a b : ℕ) → max a b ≡ larger a b
larger_max a b = go (dec_le a b)
  where
    go : Dec (a ≤ b) → max a b ≡ larger a b
    go (yes h) = omega (arith, larger_right a b h)
    go (no h) = omega (arith, larger-left a b (omega arith))

-- It is at most n if both are.
pub larger_least : (a b n : ℕ) → (larger a b ≤ n) ↔ ((a ≤ n) × (b ≤ n))
larger_least a b n = go (dec_le a b)
  where
    go : Dec (a ≤ b) → (larger a b ≤ n) ↔ ((a ≤ n) × (b ≤ n))
    go (yes h) = (λ l. (omega (arith, larger_right a b h), omega (arith, larger_right a b h)), λ r. omega (arith, larger_right a b h))
    go (no h) = (λ l. (omega (arith, larger-left a b (omega arith)), omega (arith, larger-left a b (omega arith))), λ r. omega (arith, larger-left a b (omega arith)))

-- One record more: a count goes up by 1, and never past the size of a slice.
unfoldable pub longer : ℕ → ℕ
longer m = elim (ltb m limit_sheet) [ true ↦ suc m | false ↦ m ]

-- It goes up.
pub longer_up : (m : ℕ) → m < limit_sheet → m + 1 ≡ longer m
unfolding longer
longer_up m l = rw (lt-ltb m limit_sheet l, longer) (omega arith)

-- It stays at the size of a slice.
pub longer_full : (m : ℕ) → limit_sheet ≤ m → m ≡ longer m
unfolding longer
longer_full m l = rw (le-ltb m limit_sheet l, longer)

-- The most that f gives for a record.
unfoldable pub most : (ℕ → ℕ) → Words → ℕ
most f [] = 0
most f (p ∷ ps) = larger (f p) (most f ps)

-- The most is at most n if each is.
pub most_least : (f : ℕ → ℕ) (n : ℕ) (ps : Words) → T (all (λ p. leb (f p) n) ps) ↔ (most f ps ≤ n)
unfolding most all
most_least f n [] = (λ t. omega arith, λ l. tt)
most_least f n (p ∷ ps) =
    let a = all_cons (λ q. leb (f q) n) p ps in
    let l = larger_least (f p) (most f ps) n in
    let ih = most_least f n ps in
    (λ t. l.1 (leb→le (f p) n (a.0 t).0, ih.0 (a.0 t).1), λ h. a.1 (le→leb (f p) n (l.0 h).0, ih.1 (l.0 h).1))

-- Every record is content with n if the one that asks for most is.
pub most_leb : (f : ℕ → ℕ) (n : ℕ) (ps : Words) → all (λ p. leb (f p) n) ps ≡ leb (most f ps) n
most_leb f n ps = same_test _ _ (λ t. le→leb (most f ps) n ((most_least f n ps).0 t), λ t. (most_least f n ps).1 (leb→le (most f ps) n t))

-- The same of functions that agree on a chain.
pub most-same : (f g : ℕ → ℕ) (ps : Words) → ((p : ℕ) → In p ps → f p ≡ g p) → most f ps ≡ most g ps
unfolding most
most-same f g [] h = refl
most-same f g (p ∷ ps) h = λ t. larger (h p first t) (most-same f g ps (λ q i. h q (later i)) t)

-- A chain that goes forward: every next is zero or past its record's place, within the slice.
abbrev pub Forward : Words → ℕ → Type 0
Forward s i = Keeps s 1 no_heads i

-- A chain that keeps the rule goes forward.
pub keeps_forward : {s : Words} {len : ℕ} {heads : ℕ → Bool} {i : ℕ} → 0 < len → Keeps s len heads i → Forward s i
keeps_forward p at_end = at_end
keeps_forward p (at_record h l n t k) = at_record h (omega arith) (⊎_elim inl (λ m. inr (omega arith)) n) tt (keeps_forward p k)

none_of : (s : Words) (k : ℕ) → chain_of k s 0 ≡ []
unfolding chain_of
none_of s zero = refl
none_of s (suc k) = refl

-- From zero there is no record.
pub chain-none : (s : Words) → chain s 0 ≡ []
unfolding chain
chain-none s = none_of s (length s)

-- Of a place on it: it lies within the slice, and its next is zero or further on and goes forward.
pub record Onward (s : Words) (i : ℕ) : Type 0 where
  pub inside : i < length s
  pub beyond : (at s i ≡ 0) ⊎ (i < at s i)
  pub rest : Forward s (at s i)

-- A chain that goes forward has a first record within the slice, and goes on from its next.
pub onward : {s : Words} {i : ℕ} → 0 < i → Forward s i → Onward s i
onward p at_end = absurd (not-suc-le-zero p)
onward p (at_record h l n t k) = record { inside = omega arith; beyond = ⊎_elim inl (λ m. inr (omega arith)) n; rest = k }

-- Its first record and the chain from its next.
pub forward_step : (s : Words) (i : ℕ) → 0 < i → Forward s i → chain s i ≡ i ∷ chain s (at s i)
forward_step s i h k =
    let o = onward h k in
    chain_step s 1 (omega arith) no_heads i h (omega (arith, o.inside)) ((chain_rule s 1 (omega arith) no_heads i (inr (omega (arith, o.inside)))).1 k)

-- What the plane from b says of the chain from a head: 0 where there is none, or where it lies past a plane's end.
unfoldable pub chain_mark : Words → ℕ → ℕ → ℕ
chain_mark ws b zero = 0
chain_mark ws b (suc h) = elim (ltb (suc h) limit_sheet) [ true ↦ at ws (b + suc h) | false ↦ 0 ]

-- There is no chain.
pub mark-none : (ws : Words) (b h : ℕ) → h ≡ 0 → 0 ≡ chain_mark ws b h
unfolding chain_mark
mark-none ws b h e = sym (ap (chain_mark ws b) e)

-- The head lies past a plane's end.
pub mark_past : (ws : Words) (b h : ℕ) → limit_sheet ≤ h → 0 ≡ chain_mark ws b h
unfolding chain_mark
mark_past ws b zero l = absurd (omega arith)
mark_past ws b (suc h) l = rw (le-ltb (suc h) limit_sheet l, chain_mark)

-- It is what is noted.
pub mark-some : (ws : Words) (b h r : ℕ) → h ≢ 0 → h < limit_sheet → r ≡ at ws (b + h) → r ≡ chain_mark ws b h
unfolding chain_mark
mark-some ws b zero r n l e = absurd (n refl)
mark-some ws b (suc h) r n l e = rw (lt-ltb (suc h) limit_sheet l, chain_mark) e

-- It is the same in a workspace that agrees below the plane's end.
pub mark-same : (ws us : Words) (b to h : ℕ) → b + limit_sheet ≤ to → ((j : ℕ) → j < to → at us j ≡ at ws j) → chain_mark us b h ≡ chain_mark ws b h
unfolding chain_mark
mark-same ws us b to zero l same = refl
mark-same ws us b to (suc h) l same = go (dec_lt (suc h) limit_sheet)
  where
    go : Dec (suc h < limit_sheet) → chain_mark us b (suc h) ≡ chain_mark ws b (suc h)
    go (yes k) = sym (mark-some us b (suc h) (at us (b + suc h)) (λ e. omega arith) k refl) ∙ same (b + suc h) (omega arith) ∙ mark-some ws b (suc h) (at ws (b + suc h)) (λ e. omega arith) k refl
    go (no k) = sym (mark_past us b (suc h) (omega arith)) ∙ mark_past ws b (suc h) (omega arith)

-- Nothing below a place is changed.
pub record Below (to : ℕ) (ws us : Words) : Type 0 where
  pub same : (j : ℕ) → j < to → at us j ≡ at ws j
  pub long : length us ≡ length ws

-- What a pass asks of its step: it may be asked of each place, where nothing below the plane from b is changed,
abbrev pub Runs : ℕ → Words → (Bor Words → ℕ → ℕ → Type 0) → Type 0
Runs b ws pre = (us : Bor Words) (i m : ℕ) → Below b ws us.now → pre us i m

-- and says of a place what g does, from what g says of its next.
abbrev pub Right : Words → ℕ → Words → (ℕ → ℕ) → (Bor Words → ℕ → ℕ → ℕ → Type 0) → Type 0
Right w b ws g post = (us : Bor Words) (i m r : ℕ) → Below b ws us.now → 0 < i → Forward w i → m ≡ g (at w i) → post us i m r → r ≡ g i

-- In the plane from b is noted, from place lo on, what g says of each place from which a chain goes forward; nothing below the plane is changed.
pub record Folded (s : Words) (b : ℕ) (g : ℕ → ℕ) (lo : ℕ) (ws us : Words) : Type 0 where
  pub long : length us ≡ length ws
  pub is : (i : ℕ) → lo ≤ i → i < length s → Forward s i → at us (b + i) ≡ g i
  pub below : (j : ℕ) → j < b → at us j ≡ at ws j

-- Nothing is noted yet.
pub fold-none : (s : Words) (b : ℕ) (g : ℕ → ℕ) (ws : Words) → Folded s b g (length s) ws ws
fold-none s b g ws = record { long = refl; is = λ i l k o. absurd (omega arith); below = λ j l. refl }

module _ (s : Words) (b : ℕ) (g : ℕ → ℕ) (ws us : Words) where
  -- What is noted of the next of a record, where all that lies further on is noted.
  pub next_noted : (i : ℕ) → length s ≤ limit_sheet → g 0 ≡ 0 → Folded s b g (suc i) ws us → 0 < i → Forward s i → chain_mark us b (at s i) ≡ g (at s i)
  next_noted i small z n p o = go (onward p o).beyond
    where
      go : (at s i ≡ 0) ⊎ (i < at s i) → chain_mark us b (at s i) ≡ g (at s i)
      go (inl e) = sym (mark-none us b (at s i) e) ∙ sym (ap g e ∙ z)
      go (inr l) =
          let k = (onward (omega arith) (onward p o).rest).inside in
          sym (mark-some us b (at s i) (at us (b + at s i)) (λ e. omega arith) (omega arith) refl) ∙ n.is (at s i) l k (onward p o).rest

  -- The loop that falls: one place more, where what is noted follows from what is noted further on.
  pub fold_more : (i r : ℕ) → 1 < i → i ≤ length s → b + length s ≤ length ws → Folded s b g i ws us → (Folded s b g (suc (i - 1)) ws us → 0 < i - 1 → Forward s (i - 1) → r ≡ g (i - 1)) → Folded s b g (i - 1) ws (set us (b + (i - 1)) r)
  fold_more i r p l room n e = record {
    long = length-set us (b + (i - 1)) r ∙ n.long;
    is = λ j h k o. go j h k o (ℕ_discrete j (i - 1));
    below = λ j h. get_or-set_other us (b + (i - 1)) j r 0 (λ q. absurd (omega arith)) ∙ n.below j h;
  }
    where
      further : Folded s b g (suc (i - 1)) ws us
      further = record { long = n.long; is = λ j h k o. n.is j (omega arith) k o; below = n.below }

      go : (j : ℕ) → i - 1 ≤ j → j < length s → Forward s j → Dec (j ≡ i - 1) → at (set us (b + (i - 1)) r) (b + j) ≡ g j
      go j h k o (yes q) = subst (λ x. Forward s x → at (set us (b + (i - 1)) r) (b + x) ≡ g x) (sym q) (λ o₁. get_or-set_same us (b + (i - 1)) r 0 (omega (arith, n.long)) ∙ e further (omega arith) o₁) o
      go j h k o (no q) = get_or-set_other us (b + (i - 1)) (b + j) r 0 (λ x. q (omega arith)) ∙ n.is j (omega arith) k o

  -- All places but 0 are noted.
  pub fold_done : (i : ℕ) → i ≤ 1 → Folded s b g i ws us → Folded s b g 1 ws us
  fold_done i h n = record { long = n.long; is = λ j k l o. n.is j (omega arith) l o; below = n.below }

  -- What the plane says of a head then.
  pub head_noted : (h : ℕ) → length s ≤ limit_sheet → g 0 ≡ 0 → Folded s b g 1 ws us → Forward s h → chain_mark us b h ≡ g h
  head_noted zero small z n o = sym (mark-none us b 0 refl) ∙ sym z
  head_noted (suc h) small z n o =
      let k = (onward (omega arith) o).inside in
      sym (mark-some us b (suc h) (at us (b + suc h)) (λ e. omega arith) (omega arith) refl) ∙ n.is (suc h) (omega arith) k o

  -- The pass: one place more, from what is noted of its next.
  pub note_more : (i next r : ℕ) → length s ≤ limit_sheet → b + limit_sheet ≤ length ws → 1 < i → i ≤ length s → g 0 ≡ 0 → next ≡ chain_mark us b (at s (i - 1)) → (0 < i - 1 → Forward s (i - 1) → next ≡ g (at s (i - 1)) → r ≡ g (i - 1)) → Folded s b g i ws us → Folded s b g (i - 1) ws (set us (b + (i - 1)) r)
  note_more i next r small room p l z e k n = fold_more i r p l (omega arith) n (λ f q o. k q o (e ∙ next_noted (i - 1) small z f q o))

-- Nothing below the plane is changed by what is written in it.
pub below_set : (b : ℕ) (ws us : Words) (i r : ℕ) → Below b ws us → Below b ws (set us (b + i) r)
below_set b ws us i r k = record { same = λ j l. get_or-set_other us (b + i) j r 0 (λ q. absurd (omega arith)) ∙ k.same j l; long = length-set us (b + i) r ∙ k.long }

-- How many records the chain from a place has.
unfoldable pub chain_length : Words → ℕ → ℕ
chain_length s i = length (chain s i)

-- From zero there is none.
pub length_none : (s : Words) → chain_length s 0 ≡ 0
unfolding chain_length
length_none s = ap length (chain-none s)

-- One more than from its next.
pub length_right : (s : Words) (i m : ℕ) → length s ≤ limit_sheet → 0 < i → Forward s i → m ≡ chain_length s (at s i) → longer m ≡ chain_length s i
unfolding chain_length
length_right s i m small p o e =
    let q = ap length (forward_step s i p o) in
    sym (longer_up m (omega (arith, q, chain-within s i))) ∙ (let z : m + 1 ≡ length (chain s i) = omega (arith, q) in z)

-- What f says of the chain from a place: the most that it says of one of its records.
unfoldable pub chain_most : (ℕ → ℕ) → Words → ℕ → ℕ
chain_most f s i = most f (chain s i)

-- From zero it says 0.
pub most-none : (f : ℕ → ℕ) (s : Words) → chain_most f s 0 ≡ 0
unfolding chain_most most
most-none f s = ap (most f) (chain-none s)

-- The larger of what it says of the record and of the chain from its next.
pub most_right : (f : ℕ → ℕ) (s : Words) (i : ℕ) → 0 < i → Forward s i → larger (f i) (chain_most f s (at s i)) ≡ chain_most f s i
unfolding chain_most most
most_right f s i p o = sym (ap (most f) (forward_step s i p o))

-- A record and the chain from its next.
pub most_step : (f : ℕ → ℕ) (s : Words) (i m v r : ℕ) → 0 < i → Forward s i → m ≡ chain_most f s (at s i) → v ≡ f i → r ≡ max v m → r ≡ chain_most f s i
most_step f s i m v r p o e h k = k ∙ larger_max v m ∙ (λ t. larger (h t) (e t)) ∙ most_right f s i p o
