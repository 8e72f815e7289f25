-- Laws of `self_inverse` in a well-formed, acyclic table, with marks of the nodes that are their own inverse.
use Prim.Native.Nat.{ℕ, suc, ◌+◌, ◌/◌, ◌≤◌, ◌<◌}
use Rattle.std.specs.Prelude.{◌≡◌, Bool, true, false, not, ◌&&◌, ◌≢◌, length, get_or, drop}
use Rattle.std.proofs.Math.Path.{refl, sym, ap, ap₂}
use Rattle.std.proofs.Common.{◌∙◌, ⊎_elim, add-one, drop_of_length-le, drop-cons}
use native.Mathlib.Omega.{arith}
use Rattle.std.proofs.lemmas.Bool.{not-true, not-false}
use Rattle.rules.specs.Lists.{Words, all}
use Rattle.rules.specs.Sheet.{kind_flag, row_own_inverse}
use Rattle.rules.specs.Types.{Ty, TypeState, unknown, known, Types, invert_if, invert_state, find, state_at, kind, self_inverse_in, self_inverse}
use Rattle.rules.specs.Acyclic.{children}
use Rattle.rules.specs.AcyclicLaws.{children_at}
use Rattle.rules.specs.Transfer.{type_of_word}
use Rattle.rules.specs.Answer.{word_of_type}
use Rattle.rules.specs.Solutions.{rep, WellFormed}
use Rattle.rules.specs.Readings.{Acyclic}
use Rattle.rules.specs.WalksEnd.{self_inverse_enough}
use Rattle.words.specs.Buffers.{cleared}
use Rattle.table.specs.Packing.{types_of, kind_at, kind_in, id_at, id_in, Good}
use Rattle.table.specs.Nodes.{type_word}
use Rattle.table.specs.Reads.{unknown_here}
use Rattle.walks.specs.Marking.{is_marked, with_mark, newly_marked, cleared-none}
use Rattle.walks.specs.Steps.{root_in}

-- A type's own flag: an unknown has none.
unfoldable pub own_inverse_of : Words → TypeState → Bool
own_inverse_of s unknown = false
own_inverse_of s (known i kd d cs) = kind_flag s row_own_inverse kd d

unfoldable pub own_inverse : Words → Types → ℕ → Bool
own_inverse s ts n = own_inverse_of s (state_at ts n)

-- Marked nodes are their own inverse.
pub record Own (s : Words) (ts : Types) (ms : Words) : Type 0 where
  pub all_own : (m : ℕ) → m < length ts → is_marked ms m ≡ true → self_inverse s ts (false, m) ≡ true

-- What a walk from a type comes to, and from the types within root n: the marks that it leaves are right.
pub record Inverted (s : Words) (ts : Types) (t : ℕ) (ms : Words) (r : Bool) : Type 0 where
  pub is : r ≡ self_inverse s ts (type_of_word t)
  pub own : Own s ts ms

pub record AllInverted (s : Words) (ts : Types) (n : ℕ) (ms : Words) (r : Bool) : Type 0 where
  pub is : r ≡ all (self_inverse s ts) (children_at ts n)
  pub own : Own s ts ms

-- The flag that is read: k and d are kind and id of node n.
pub own_none : (s ws : Words) (n k : ℕ) → k ≡ kind_at (types_of ws) n → k ≡ 0 → false ≡ own_inverse s (types_of ws) n
unfolding own_inverse own_inverse_of
own_none s ws n k e z = sym (ap (own_inverse_of s) (unknown_here ws n k e z))

flag_of : (s : Words) (st : TypeState) → kind_in st ≢ 0 → kind_flag s row_own_inverse (kind_in st) (id_in st) ≡ own_inverse_of s st
unfolding kind_in id_in own_inverse_of
flag_of s unknown z = absurd (z refl)
flag_of s (known i kd d cs) z = refl

pub own_flag : (s ws : Words) (n k d k' d' : ℕ) (r : Bool) → k ≡ kind_at (types_of ws) n → k ≢ 0 → d ≡ id_at (types_of ws) n → k' ≡ k → d' ≡ d → r ≡ kind_flag s row_own_inverse k' d' → r ≡ own_inverse s (types_of ws) n
unfolding own_inverse kind_at id_at
own_flag s ws n k d k' d' r ek z ed ek' ed' e = e ∙ ap₂ (kind_flag s row_own_inverse) (ek' ∙ ek) (ed' ∙ ed) ∙ flag_of s (state_at (types_of ws) n) (λ q. z (ek ∙ q))

and-all : (b x : Bool) → ◌≡◌ {A = Bool} (elim b [ true ↦ x | false ↦ false ]) (b && x)
and-all true x = refl
and-all false x = refl

-- `self_inverse` by its own equation.
module _ (s : Words) (ts : Types) (formed : WellFormed ts) (acyclic : Acyclic ts) where
  open_up : (b : Bool) (st : TypeState) → ◌≡◌ {A = Bool} (elim (invert_state b st) [ unknown ↦ false | known i kd d cs ↦ elim (kind_flag s row_own_inverse kd d) [ true ↦ all (λ c. self_inverse_in (suc (length ts)) s ts c) cs | false ↦ false ] ]) (own_inverse_of s st && all (self_inverse s ts) (children st))
  unfolding children all own_inverse_of invert_state self_inverse
  open_up b unknown = refl
  open_up b (known i kd d cs) = and-all (kind_flag s row_own_inverse kd d) (all (self_inverse s ts) cs)

  inverse_step : (t : Ty) → t.1 < length ts → self_inverse s ts t ≡ (own_inverse s ts (rep ts t.1) && all (self_inverse s ts) (children_at ts (rep ts t.1)))
  unfolding self_inverse_in kind find invert_if rep children_at own_inverse
  inverse_step t h = sym (ap (λ k. self_inverse_in k s ts t) (let q : suc (suc (length ts)) ≡ 1 + suc (length ts) = omega arith in q) ∙ self_inverse_enough ts formed acyclic s t h 1) ∙ open_up (find ts t).0 (state_at ts (rep ts t.1))

  inverse_root : (t : Ty) → t.1 < length ts → self_inverse s ts (false, rep ts t.1) ≡ self_inverse s ts t
  inverse_root t h = inverse_step (false, rep ts t.1) (formed t.1 h).0 ∙ ap (λ r. own_inverse s ts r && all (self_inverse s ts) (children_at ts r)) (formed t.1 h).1 ∙ sym (inverse_step t h)

-- n is the root of type word t.
module _ (s ws : Words) (t n : ℕ) (g : Good ws) (h : t / 2 < length (types_of ws)) (e : n ≡ rep (types_of ws) (t / 2)) where
  at_root : self_inverse s (types_of ws) (type_of_word t) ≡ (own_inverse s (types_of ws) n && all (self_inverse s (types_of ws)) (children_at (types_of ws) n))
  unfolding type_of_word
  at_root = inverse_step s (types_of ws) g.formed g.acyclic (type_of_word t) h ∙ ap (λ r. own_inverse s (types_of ws) r && all (self_inverse s (types_of ws)) (children_at (types_of ws) r)) (sym e)

  same_root : self_inverse s (types_of ws) (false, n) ≡ self_inverse s (types_of ws) (type_of_word t)
  unfolding type_of_word
  same_root = ap (λ r. self_inverse s (types_of ws) (false, r)) e ∙ inverse_root s (types_of ws) g.formed g.acyclic (type_of_word t) h

  pub inverted_marked : (ms : Words) (b : Bool) → Own s (types_of ws) ms → b ≡ is_marked ms n → b ≡ true → Inverted s (types_of ws) t ms true
  inverted_marked ms b k eb q = record { is = sym (sym same_root ∙ k.all_own n (root_in ws t n g h e) (sym eb ∙ q)); own = k }

  pub inverted_not : (ms : Words) (b : Bool) → Own s (types_of ws) ms → b ≡ own_inverse s (types_of ws) n → not b ≡ true → Inverted s (types_of ws) t ms false
  inverted_not ms b k eb q = record { is = sym (at_root ∙ ap (λ (x : Bool). x && all (self_inverse s (types_of ws)) (children_at (types_of ws) n)) (sym eb ∙ not-true b q)); own = k }

  below : (b : Bool) → b ≡ own_inverse s (types_of ws) n → b ≡ true → self_inverse s (types_of ws) (type_of_word t) ≡ all (self_inverse s (types_of ws)) (children_at (types_of ws) n)
  below b eb q = at_root ∙ ap (λ (x : Bool). x && all (self_inverse s (types_of ws)) (children_at (types_of ws) n)) (sym eb ∙ q)

  pub inverted_within : (ms : Words) (b c : Bool) → b ≡ own_inverse s (types_of ws) n → not b ≡ false → AllInverted s (types_of ws) n ms c → not c ≡ true → Inverted s (types_of ws) t ms false
  inverted_within ms b c eb q a ec = record { is = sym (below b eb (not-false b q) ∙ sym a.is ∙ not-true c ec); own = a.own }

  pub inverted_whole : (ms us : Words) (b c : Bool) → b ≡ own_inverse s (types_of ws) n → not b ≡ false → AllInverted s (types_of ws) n ms c → not c ≡ false → us ≡ with_mark ms n → Inverted s (types_of ws) t us true
  inverted_whole ms us b c eb q a ec eu = record {
    is = sym true_here;
    own = record { all_own = λ m l z. ⊎_elim (λ w. ap (λ k. self_inverse s (types_of ws) (false, k)) w ∙ same_root ∙ true_here) (λ w. a.own.all_own m l w) (newly_marked ms n m (sym (ap (λ (us' : Words). is_marked us' m) eu) ∙ z)) };
  }
    where
      true_here : self_inverse s (types_of ws) (type_of_word t) ≡ true
      true_here = below b eb (not-false b q) ∙ sym a.is ∙ not-false c ec

-- The loop over the children of root n: all before i are their own inverse.
pub record Passed (s : Words) (ts : Types) (n i : ℕ) (ms : Words) : Type 0 where
  pub rest : all (self_inverse s ts) (children_at ts n) ≡ all (self_inverse s ts) (drop i (children_at ts n))
  pub own : Own s ts ms

pub passed_none : (s : Words) (ts : Types) (n : ℕ) (ms : Words) → Own s ts ms → Passed s ts n 0 ms
passed_none s ts n ms k = record { rest = refl; own = k }

pub passed_all : (s : Words) (ts : Types) (n m i : ℕ) (ms : Words) → m ≡ length (children_at ts n) → Passed s ts n i ms → m ≤ i → AllInverted s ts n ms true
unfolding all
passed_all s ts n m i ms e p h = record { is = sym (p.rest ∙ ap (all (self_inverse s ts)) (drop_of_length-le (children_at ts n) (let q : length (children_at ts n) ≤ i = omega arith in q))); own = p.own }

-- c is child i of root n.
module _ (s : Words) (ts : Types) (n m i c : ℕ) (e : m ≡ length (children_at ts n)) (l : i < m) (ec : c ≡ word_of_type (get_or (children_at ts n) i (false, 0))) (ms : Words) (p : Passed s ts n i ms) (us : Words) (b : Bool) (w : Inverted s ts c us b) where
  told : all (self_inverse s ts) (children_at ts n) ≡ (b && all (self_inverse s ts) (drop (i + 1) (children_at ts n)))
  unfolding all
  told =
      p.rest ∙ ap (all (self_inverse s ts)) (drop-cons (children_at ts n) i (false, 0) (omega arith))
      ∙ and-all (self_inverse s ts (get_or (children_at ts n) i (false, 0))) (all (self_inverse s ts) (drop (suc i) (children_at ts n)))
      ∙ ap₂ (λ (x : Bool) (k : ℕ). x && all (self_inverse s ts) (drop k (children_at ts n))) (sym (w.is ∙ ap (self_inverse s ts) (ap type_of_word ec ∙ type_word (get_or (children_at ts n) i (false, 0))))) (sym (add-one i))

  pub passed_not : not b ≡ true → AllInverted s ts n us false
  passed_not q = record { is = sym (told ∙ ap (λ (x : Bool). x && all (self_inverse s ts) (drop (i + 1) (children_at ts n))) (not-true b q)); own = w.own }

  pub passed_more : not b ≡ false → Passed s ts n (i + 1) us
  passed_more q = record { rest = told ∙ ap (λ (x : Bool). x && all (self_inverse s ts) (drop (i + 1) (children_at ts n))) (not-false b q); own = w.own }

-- Cleared marks: c is the count.
pub own_start : (s ws ms us : Words) (c w : ℕ) → c ≡ length (types_of ws) → w ≡ c → us ≡ cleared w ms → Own s (types_of ws) us
own_start s ws ms us c w ec ew eu = record { all_own = λ m h z. absurd (false≢ (sym (cleared-none w m ms (omega arith)) ∙ sym (ap (λ (us' : Words). is_marked us' m) eu) ∙ z)) }
  where
    false≢ : false ≡ true → ⊥
    false≢ e = let z : ◌≡◌ {A = ℕ} 0 1 = cc in omega arith

pub inverted_end : (s : Words) (ts : Types) (t : ℕ) (ms : Words) (r : Bool) → Inverted s ts t ms r → r ≡ self_inverse s ts (type_of_word t)
inverted_end s ts t ms r w = w.is
