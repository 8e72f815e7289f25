-- What an index of a chain is, and the laws that the loop which writes it cites.
use Prim.Native.Nat.{ℕ, zero, suc, ◌+◌, ◌≤◌, ◌<◌}
use Rattle.std.specs.Prelude.{◌≡◌, refl, [], ◌∷◌, set}
use Rattle.std.proofs.Common.{sym, ◌∙◌, subst, ⊎_elim, zero-add, add-zero, eq-or-lt_of_le, length-set, get_or-set_same, get_or-set_other, Fits, w32, Fits-lit}
use Rattle.std.proofs.Math.Path.{ap}
use native.Mathlib.Omega.{arith}
use Rattle.std.proofs.Math.ListN.{length}
use Rattle.rules.specs.Lists.{Words}
use Rattle.rules.specs.Sheet.{at, chain, chain_of, records, many, field}

-- us is ws but for the n places from b on, which hold the places of the records of the chain from a head.
pub record Indexed (s : Words) (head : ℕ) (ws us : Words) (b n : ℕ) : Type 0 where
  pub count : n ≡ length (chain s head)
  pub place : (i : ℕ) → i < n → at us (b + i) ≡ at (chain s head) i
  pub below : (i : ℕ) → i < b → at us i ≡ at ws i
  pub above : (i : ℕ) → b + n ≤ i → at us i ≡ at ws i

-- n places are written, and these are left.
pub record Indexing (s : Words) (head : ℕ) (ws us : Words) (b n : ℕ) (left : Words) : Type 0 where
  pub long : length us ≡ length ws
  pub count : n + length left ≡ length (chain s head)
  pub rest : (k : ℕ) → at left k ≡ at (chain s head) (n + k)
  pub place : (j : ℕ) → j < n → at us (b + j) ≡ at (chain s head) j
  pub below : (j : ℕ) → j < b → at us j ≡ at ws j
  pub above : (j : ℕ) → b + n ≤ j → at us j ≡ at ws j

-- A place is a word of the slice, or the head.
of_fits : (s : Words) (k i j : ℕ) → Fits w32 i → ((j : ℕ) → Fits w32 (at s j)) → Fits w32 (at (chain_of k s i) j)
unfolding chain_of
of_fits s zero i j h f = Fits-lit tt
of_fits s (suc k) zero j h f = Fits-lit tt
of_fits s (suc k) (suc i) zero h f = h
of_fits s (suc k) (suc i) (suc j) h f = of_fits s k (at s (suc i)) j (f (suc i)) f

module _ (s : Words) (head : ℕ) (ws : Words) (b : ℕ) where
  -- Nothing is written yet.
  pub index_start : (left : Words) → left ≡ chain s head → Indexing s head ws ws b 0 left
  index_start left e = record {
    long = refl;
    count = zero-add (length left) ∙ ap length e;
    rest = λ k. ap (λ ps. at ps k) e ∙ ap (at (chain s head)) (sym (zero-add k));
    place = λ j h. absurd (omega arith);
    below = λ j h. refl;
    above = λ j h. refl;
  }

  -- None is left.
  pub index_end : (us : Words) (n : ℕ) (left : Words) → Indexing s head ws us b n left → left ≡ [] → Indexed s head ws us b n
  index_end us n left h e = record { count = omega (arith, h.count, ap length e); place = h.place; below = h.below; above = h.above }

  module _ (us : Words) (n i : ℕ) (left more : Words) (h : Indexing s head ws us b n left) (e : left ≡ i ∷ more) where
    -- The place fits a word.
    pub index_fits : Fits w32 head → ((j : ℕ) → Fits w32 (at s j)) → Fits w32 i
    unfolding chain
    index_fits f g = subst (Fits w32) (sym (h.rest 0) ∙ ap (λ ps. at ps 0) e) (of_fits s (length s) head (n + 0) f g)

    -- There is room for it.
    pub index_room : b + length (chain s head) ≤ length ws → b + n < length us
    index_room r = omega (arith, h.long, h.count, ap length e)

    -- One place more is written.
    pub index_on : b + length (chain s head) ≤ length ws → Indexing s head ws (set us (b + n) i) b (n + 1) more
    index_on room = record {
      long = length-set us (b + n) i ∙ h.long;
      count = omega (arith, h.count, ap length e);
      rest = λ k. sym (ap (λ ps. at ps (suc k)) e) ∙ h.rest (suc k) ∙ ap (at (chain s head)) (let q : n + suc k ≡ n + 1 + k = omega arith in q);
      place = λ k lk. ⊎_elim
          (λ q. ap (λ x. at (set us (b + n) i) (b + x)) q ∙ get_or-set_same us (b + n) i 0 (index_room room) ∙ here ∙ ap (at (chain s head)) (sym q))
          (λ lt. get_or-set_other us (b + n) (b + k) i 0 (λ q. omega arith) ∙ h.place k lt)
          (eq-or-lt_of_le (let q : k ≤ n = omega arith in q));
      below = λ k lk. get_or-set_other us (b + n) k i 0 (λ q. omega arith) ∙ h.below k lk;
      above = λ k lk. get_or-set_other us (b + n) k i 0 (λ q. omega arith) ∙ h.above k (omega arith);
    }
      where
        here : i ≡ at (chain s head) n
        here = sym (ap (λ ps. at ps 0) e) ∙ h.rest 0 ∙ ap (at (chain s head)) (add-zero n)

-- An index of the records of one kind is one of the chain that the header word heads.
pub index_room_of : (s : Words) (h head b : ℕ) (ws : Words) → head ≡ at s h → b + many s h ≤ length ws → b + length (chain s head) ≤ length ws
unfolding many records
index_room_of s h head b ws e r = subst (λ x. b + length (chain s x) ≤ length ws) (sym e) r

-- The index of the chain is that of the records.
pub index_of : (s : Words) (h head : ℕ) (ws us : Words) (b n : ℕ) → head ≡ at s h → Indexed s head ws us b n → Indexed s (at s h) ws us b n
index_of s h head ws us b n e x = subst (λ k. Indexed s k ws us b n) e x

-- What an index of the records of one kind tells: how many there are, their places, and their fields.
module _ (s : Words) (h : ℕ) (ws us : Words) (b n : ℕ) (x : Indexed s (at s h) ws us b n) where
  -- How many there are.
  pub indexed-many : n ≡ many s h
  unfolding many records
  indexed-many = x.count

  -- The place of each.
  pub indexed_record : (i : ℕ) → i < n → at us (b + i) ≡ at (records s h) i
  unfolding records
  indexed_record i l = x.place i l

  -- A field of each, by one read of the index.
  pub indexed-field : (i k : ℕ) → i < n → at s (at us (b + i) + k) ≡ field s h i k
  unfolding field
  indexed-field i k l = ap (λ p. at s (p + k)) (indexed_record i l)

-- A chain has no more records than its slice has words.
of_within : (s : Words) (k i : ℕ) → length (chain_of k s i) ≤ k
unfolding chain_of
of_within s zero i = omega arith
of_within s (suc k) zero = omega arith
of_within s (suc k) (suc i) = omega (arith, of_within s k (at s (suc i)))

pub chain-within : (s : Words) (head : ℕ) → length (chain s head) ≤ length s
unfolding chain
chain-within s head = of_within s (length s) head

-- So there are no more records of one kind.
pub many-within : (s : Words) (h : ℕ) → many s h ≤ length s
unfolding many records
many-within s h = chain-within s (at s h)
