-- The chain rule as document 01 words it, and that a chain that keeps it is walked to its end.
use Prim.Native.Nat.{ℕ, zero, suc, ◌+◌, ◌≤◌, ◌<◌, zero-le, suc-le-suc}
use Rattle.std.specs.Prelude.{◌≡◌, refl, Bool, true, false, [], ◌∷◌, ◌⊎◌, ◌↔◌, leb, length}
use Rattle.std.proofs.Common.{sym, ◌∙◌, ap, inl, inr, ⊎_elim, le_refl, le_of_suc-le-suc, not-suc-le-zero, zero-lt-suc, arith, leb→le, le→leb}
use Rattle.std.proofs.Math.Path.{subst}
use Rattle.std.proofs.Math.Dec.{T}
use Rattle.rules.specs.Lists.{Words, all}
use Rattle.rules.specs.Sheet.{at, chain, chain_of}
use Rattle.rules.specs.Chains.{zero_or_from, record_keeps, chain_keeps}
use Rattle.rules.specs.Members.{same_test, and_iff, In, all_cons, all_in}

-- The chain from a head: "word 0 of a record is the index of the next, zero ends the chain".
pub data Chained (s : Words) : ℕ → Words → Type 0 where
  ended : Chained s 0 []
  goes_on : {i : ℕ} {ps : Words} → 0 < i → Chained s (at s i) ps → Chained s i (i ∷ ps)

-- The walk from a head is the whole chain: it ends because the chain does, and not because its count is used up.
abbrev pub Whole : Words → ℕ → Type 0
Whole s i = Chained s i (chain s i)

-- The chain rule for records of len words: "a next is zero or at least its own index plus the record's length", and no record passes the end. The heads in a record pass a test.
pub data Keeps (s : Words) (len : ℕ) (heads : ℕ → Bool) : ℕ → Type 0 where
  at_end : Keeps s len heads 0
  at_record : {i : ℕ} → 0 < i → i + len ≤ length s → (at s i ≡ 0) ⊎ (i + len ≤ at s i) → T (heads i) → Keeps s len heads (at s i) → Keeps s len heads i

-- With a count of as many as its records or more, the walk gives the chain.
chain_cons : (k : ℕ) (s : Words) (i : ℕ) → 0 < i → chain_of (suc k) s i ≡ i ∷ chain_of k s (at s i)
unfolding chain_of
chain_cons k s zero h = absurd (not-suc-le-zero h)
chain_cons k s (suc i) h = refl

chained_enough : {s : Words} {i : ℕ} {ps : Words} → Chained s i ps → (k : ℕ) → length ps ≤ k → chain_of k s i ≡ ps
unfolding chain_of
chained_enough ended zero l = refl
chained_enough ended (suc k) l = refl
chained_enough (goes_on h c) zero l = absurd (not-suc-le-zero l)
chained_enough {s} (goes_on {i} h c) (suc k) l = chain_cons k s i h ∙ ap (λ ps. i ∷ ps) (chained_enough c k (le_of_suc-le-suc l))

chain_of-length : (k : ℕ) (s : Words) (i : ℕ) → length (chain_of k s i) ≤ k
unfolding chain_of
chain_of-length zero s i = le_refl 0
chain_of-length (suc k) s zero = zero-le
chain_of-length (suc k) s (suc i) = suc-le-suc (chain_of-length k s (at s (suc i)))

-- A slice has no more records on a chain than words.
pub chain_short : (s : Words) (i : ℕ) → length (chain s i) ≤ length s
unfolding chain
chain_short s i = chain_of-length (length s) s i

-- Where the walk is the whole chain, any further count changes nothing.
pub whole_enough : (s : Words) (i : ℕ) → Whole s i → (k : ℕ) → chain_of (k + length s) s i ≡ chain s i
unfolding chain
whole_enough s i w k = chained_enough w (k + length s) (omega (arith, chain_of-length (length s) s i))

-- And it is its first record and the walk from the next.
chained_next : {s : Words} {i : ℕ} {ps : Words} → 0 < i → Chained s i ps → (qs : Words) × (ps ≡ i ∷ qs) × Chained s (at s i) qs
chained_next h ended = absurd (not-suc-le-zero h)
chained_next h (goes_on {ps} k c) = (ps, refl, c)

pub whole_step : (s : Words) (i : ℕ) → 0 < i → Whole s i → chain s i ≡ i ∷ chain s (at s i)
unfolding chain
whole_step s i h w =
    let n = chained_next h w in
    let l : suc (length n.0) ≤ length s = subst (λ (ps : Words). length ps ≤ length s) n.1 (chain_of-length (length s) s i) in
    n.1 ∙ ap (λ qs. i ∷ qs) (sym (chained_enough n.2 (length s) (omega arith)))

chain-zero : (s : Words) → chain s 0 ≡ []
unfolding chain
chain-zero s = chained_enough ended (length s) zero-le

zero_or : (lo w : ℕ) → T (zero_or_from lo w) ↔ ((w ≡ 0) ⊎ (lo ≤ w))
unfolding zero_or_from
zero_or lo zero = (λ t. inl refl, λ h. tt)
zero_or lo (suc w) = (λ t. inr (leb→le lo (suc w) t), λ h. le→leb lo (suc w) (⊎_elim (λ e. absurd (omega arith)) (λ l. l) h))

both_iff : (b c : Bool) → T (elim b as (λ x. Bool) [ true ↦ c | false ↦ false ]) ↔ (T b × T c)
both_iff true c = (λ t. (tt, t), λ r. r.1)
both_iff false c = (λ t. absurd t, λ r. r.0)

-- A record keeps the rule: it ends within the slice, and its next is zero or past it.
pub sits_in : (s : Words) (len p : ℕ) → T (record_keeps s len p) ↔ ((p + len ≤ length s) × ((at s p ≡ 0) ⊎ (p + len ≤ at s p)))
unfolding record_keeps
sits_in s len p =
    let b = and_iff (leb (p + len) (length s)) (zero_or_from (p + len) (at s p)) in
    let z = zero_or (p + len) (at s p) in
    (λ t. let r = b.0 t in (leb→le (p + len) (length s) r.0, z.0 r.1), λ r. b.1 (le→leb (p + len) (length s) r.0, z.1 r.1))

module _ (s : Words) (len : ℕ) (long : 0 < len) (heads : ℕ → Bool) where
  -- A record and the heads in it keep the rule.
  abbrev ok : ℕ → Bool
  ok p = elim (record_keeps s len p) [ true ↦ heads p | false ↦ false ]

  ok_iff : (p : ℕ) → T (ok p) ↔ (T (record_keeps s len p) × T (heads p))
  ok_iff p = both_iff (record_keeps s len p) (heads p)

  -- Enough of the count is left: each next lies further on in the slice.
  abbrev Room : ℕ → ℕ → Type 0
  Room k i = (i ≡ 0) ⊎ ((0 < k) × (length s < k + i))

  room_all : (i : ℕ) → (i ≡ 0) ⊎ (0 < length s) → Room (length s) i
  room_all zero h = inl refl
  room_all (suc i) h = inr (⊎_elim (λ e. absurd (omega arith)) (λ l. l) h, omega arith)

  room_next : (k i : ℕ) → Room (suc k) (suc i) → (suc i + len ≤ length s) × ((at s (suc i) ≡ 0) ⊎ (suc i + len ≤ at s (suc i))) → Room k (at s (suc i))
  room_next k i (inl e) r = absurd (omega arith)
  room_next k i (inr h) r = ⊎_elim inl (λ l. inr (omega arith, omega arith)) r.1

  -- Where every record of the walk does, the chain keeps the rule,
  keeps_there : (k i : ℕ) → Room k i → T (all ok (chain_of k s i)) → Keeps s len heads i
  unfolding chain_of
  keeps_there zero zero h t = at_end
  keeps_there zero (suc i) h t = absurd (⊎_elim (λ e. omega arith) (λ r. omega arith) h)
  keeps_there (suc k) zero h t = at_end
  keeps_there (suc k) (suc i) h t =
      let b = (all_cons ok (suc i) (chain_of k s (at s (suc i)))).0 t in
      let o = (ok_iff (suc i)).0 b.0 in
      let r = (sits_in s len (suc i)).0 o.0 in
      at_record (zero-lt-suc i) r.0 r.1 o.1 (keeps_there k (at s (suc i)) (room_next k i h r) b.1)

  -- and a chain that keeps the rule has an end, with records that all do and that fit into the slice.
  record Walked (i : ℕ) : Type 0 where
    places : Words
    chained : Chained s i places
    good : T (all ok places)
    fits : 0 < i → i + length places ≤ length s

  walked : {i : ℕ} → Keeps s len heads i → Walked i
  unfolding all
  walked at_end = record { places = []; chained = ended; good = tt; fits = λ h. absurd (not-suc-le-zero h) }
  walked (at_record {i} h l n t k) = go n (walked k)
    where
      here : T (ok i)
      here = (ok_iff i).1 ((sits_in s len i).1 (l, n), t)

      go : (at s i ≡ 0) ⊎ (i + len ≤ at s i) → Walked (at s i) → Walked i
      go (inl e) w = record { places = i ∷ []; chained = goes_on h (subst (λ j. Chained s j []) (sym e) ended); good = (all_cons ok i []).1 (here, tt); fits = λ p. omega arith }
      go (inr m) w = record { places = i ∷ w.places; chained = goes_on h w.chained; good = (all_cons ok i w.places).1 (here, w.good); fits = λ p. omega (arith, w.fits (omega arith)) }

  keeps_back : (i : ℕ) → Keeps s len heads i → Whole s i × T (all ok (chain s i))
  unfolding chain all
  keeps_back zero k = let e = chain-zero s in (subst (Chained s 0) (sym e) ended, subst (λ ps. T (all ok ps)) (sym e) tt)
  keeps_back (suc i) k =
      let w = walked k in
      let e = chained_enough w.chained (length s) (omega (arith, w.fits (zero-lt-suc i))) in
      (subst (Chained s (suc i)) (sym e) w.chained, subst (λ ps. T (all ok ps)) (sym e) w.good)

  -- 7 and 11 for one chain: what is computed is the chain rule. Of an empty slice there is no head but zero.
  pub chain_rule : (i : ℕ) → (i ≡ 0) ⊎ (0 < length s) → T (chain_keeps s len heads i) ↔ Keeps s len heads i
  unfolding chain_keeps chain
  chain_rule i h = (keeps_there (length s) i (room_all i h), λ k. (keeps_back i k).1)

  -- A chain that keeps the rule is walked whole.
  pub keeps_whole : (i : ℕ) → (i ≡ 0) ⊎ (0 < length s) → T (chain_keeps s len heads i) → Whole s i
  keeps_whole i h t = (keeps_back i ((chain_rule i h).0 t)).0

  -- The heads in its records pass their test.
  pub keeps_heads : (i : ℕ) → T (chain_keeps s len heads i) → (p : ℕ) → In p (chain s i) → T (heads p)
  unfolding chain_keeps
  keeps_heads i t p m = ((ok_iff p).0 (all_in ok (chain s i) t p m)).1

  -- The chain from zero keeps the rule.
  pub runs_end : chain_keeps s len heads 0 ≡ true
  runs_end = same_test (chain_keeps s len heads 0) true (λ t. tt, λ t. (chain_rule 0 (inl refl)).1 at_end)

  -- Any other does if its first record does, with the heads in it, and the chain from its next does.
  pub runs_step : (i : ℕ) → 0 < i → 0 < length s → chain_keeps s len heads i ≡ elim (ok i) as (λ b. Bool) [ true ↦ chain_keeps s len heads (at s i) | false ↦ false ]
  runs_step i h l = same_test _ _ (λ t. b.1 (there ((chain_rule i (inr l)).0 t)), λ t. (chain_rule i (inr l)).1 (back (b.0 t)))
    where
      b : T (elim (ok i) as (λ b. Bool) [ true ↦ chain_keeps s len heads (at s i) | false ↦ false ]) ↔ (T (ok i) × T (chain_keeps s len heads (at s i)))
      b = both_iff (ok i) (chain_keeps s len heads (at s i))

      there : Keeps s len heads i → T (ok i) × T (chain_keeps s len heads (at s i))
      there k = go i h k
        where
          go : (i : ℕ) → 0 < i → Keeps s len heads i → T (ok i) × T (chain_keeps s len heads (at s i))
          go i p at_end = absurd (not-suc-le-zero p)
          go i p (at_record q m n t k) = ((ok_iff i).1 ((sits_in s len i).1 (m, n), t), (chain_rule (at s i) (inr l)).1 k)

      back : T (ok i) × T (chain_keeps s len heads (at s i)) → Keeps s len heads i
      back r =
          let o = (ok_iff i).0 r.0 in
          let p = (sits_in s len i).0 o.0 in
          at_record h p.0 p.1 o.1 ((chain_rule (at s i) (inr l)).0 r.1)

  -- Where the rule is kept, a chain is its first record and the chain from its next.
  pub chain_step : (i : ℕ) → 0 < i → 0 < length s → T (chain_keeps s len heads i) → chain s i ≡ i ∷ chain s (at s i)
  chain_step i h l t = whole_step s i h (keeps_whole i (inr l) t)
