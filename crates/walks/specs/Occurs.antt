-- Laws of `occurs` in a well-formed, acyclic table, with marks of the nodes that hold nothing of v.
use Prim.Native.Nat.{ℕ, suc, ◌+◌, ◌/◌, ◌≤◌, ◌<◌}
use Rattle.std.specs.Prelude.{◌≡◌, Bool, ◌||◌, ◌≢◌, length, get_or, drop}
use Rattle.std.proofs.Math.Path.{refl, sym, ap, ap₂}
use Rattle.std.proofs.Common.{◌∙◌, ⊎_elim, add-one, drop_of_length-le, drop-cons, eq-eqb, ne_eqb}
use Rattle.std.proofs.Math.Bool.{true, false}
use native.Mathlib.Omega.{arith}
use Rattle.std.proofs.Math.Dec.{eqb}
use Rattle.rules.specs.Lists.{Words, any}
use Rattle.rules.specs.Types.{Ty, TypeState, unknown, known, Types, invert_if, find, state_at, occurs_in, occurs}
use Rattle.rules.specs.Acyclic.{children}
use Rattle.rules.specs.AcyclicLaws.{children_at}
use Rattle.rules.specs.Transfer.{type_of_word}
use Rattle.rules.specs.Answer.{word_of_type}
use Rattle.rules.specs.Solutions.{rep, WellFormed}
use Rattle.rules.specs.Readings.{Acyclic}
use Rattle.rules.specs.WalksEnd.{occurs_enough}
use Rattle.words.specs.Buffers.{cleared}
use Rattle.table.specs.Packing.{types_of, Good}
use Rattle.table.specs.Nodes.{type_word}
use Rattle.walks.specs.Steps.{root_in}
use Rattle.walks.specs.Marking.{is_marked, with_mark, newly_marked, cleared-none}

-- Marked nodes have nothing of v.
pub record Clean (ts : Types) (v : ℕ) (ms : Words) : Type 0 where
  pub none : (m : ℕ) → m < length ts → is_marked ms m ≡ true → occurs ts v (false, m) ≡ false

-- What a walk from a type comes to, and from the types within root n: the marks that it leaves are right.
pub record Walked (ts : Types) (v t : ℕ) (ms : Words) (r : Bool) : Type 0 where
  pub is : r ≡ occurs ts v (type_of_word t)
  pub clean : Clean ts v ms

pub record Among (ts : Types) (v n : ℕ) (ms : Words) (r : Bool) : Type 0 where
  pub is : r ≡ any (occurs ts v) (children_at ts n)
  pub clean : Clean ts v ms

-- `occurs` by its own equation: r is the root of type t.
or_any : (b x : Bool) → ◌≡◌ {A = Bool} (elim b [ true ↦ true | false ↦ x ]) (b || x)
or_any true x = refl
or_any false x = refl

module _ (ts : Types) (formed : WellFormed ts) (acyclic : Acyclic ts) (v : ℕ) where
  open_up : (b : Bool) (st : TypeState) → ◌≡◌ {A = Bool} (elim b [ true ↦ true | false ↦ elim st [ unknown ↦ false | known i kd d cs ↦ any (λ c. occurs_in (suc (length ts)) ts v c) cs ] ]) (b || any (occurs ts v) (children st))
  unfolding children any
  open_up true st = refl
  open_up false unknown = refl
  open_up false (known i kd d cs) = refl

  occurs_step : (t : Ty) → t.1 < length ts → occurs ts v t ≡ (eqb (rep ts t.1) v || any (occurs ts v) (children_at ts (rep ts t.1)))
  unfolding occurs_in find invert_if rep children_at
  occurs_step t h = sym (ap (λ k. occurs_in k ts v t) (let q : suc (suc (length ts)) ≡ 1 + suc (length ts) = omega arith in q) ∙ occurs_enough ts formed acyclic v t h 1) ∙ open_up (eqb (rep ts t.1) v) (state_at ts (rep ts t.1))

  occurs_root : (t : Ty) → t.1 < length ts → occurs ts v (false, rep ts t.1) ≡ occurs ts v t
  occurs_root t h = occurs_step (false, rep ts t.1) (formed t.1 h).0 ∙ ap (λ r. eqb r v || any (occurs ts v) (children_at ts r)) (formed t.1 h).1 ∙ sym (occurs_step t h)

-- n is the root of type word t.
module _ (ws : Words) (v t n : ℕ) (g : Good ws) (h : t / 2 < length (types_of ws)) (e : n ≡ rep (types_of ws) (t / 2)) where
  at_root : occurs (types_of ws) v (type_of_word t) ≡ (eqb n v || any (occurs (types_of ws) v) (children_at (types_of ws) n))
  unfolding type_of_word
  at_root = occurs_step (types_of ws) g.formed g.acyclic v (type_of_word t) h ∙ ap (λ r. eqb r v || any (occurs (types_of ws) v) (children_at (types_of ws) r)) (sym e)

  same_root : occurs (types_of ws) v (false, n) ≡ occurs (types_of ws) v (type_of_word t)
  unfolding type_of_word
  same_root = ap (λ r. occurs (types_of ws) v (false, r)) e ∙ occurs_root (types_of ws) g.formed g.acyclic v (type_of_word t) h

  pub walked_here : (ms : Words) → Clean (types_of ws) v ms → n ≡ v → Walked (types_of ws) v t ms true
  walked_here ms k q = record { is = sym (at_root ∙ ap (λ (b : Bool). b || any (occurs (types_of ws) v) (children_at (types_of ws) n)) (eq-eqb n v q)); clean = k }

  pub walked_marked : (ms : Words) (b : Bool) → Clean (types_of ws) v ms → b ≡ is_marked ms n → b ≡ true → Walked (types_of ws) v t ms false
  walked_marked ms b k eb q = record { is = sym (sym same_root ∙ k.none n (root_in ws t n g h e) (sym eb ∙ q)); clean = k }

  below : n ≢ v → occurs (types_of ws) v (type_of_word t) ≡ any (occurs (types_of ws) v) (children_at (types_of ws) n)
  below q = at_root ∙ ap (λ (b : Bool). b || any (occurs (types_of ws) v) (children_at (types_of ws) n)) (ne_eqb n v q)

  pub walked_found : (ms : Words) (b : Bool) → n ≢ v → Among (types_of ws) v n ms b → b ≡ true → Walked (types_of ws) v t ms true
  walked_found ms b q a eb = record { is = sym (below q ∙ sym a.is ∙ eb); clean = a.clean }

  pub walked_none : (ms us : Words) (b : Bool) → n ≢ v → Among (types_of ws) v n ms b → b ≡ false → us ≡ with_mark ms n → Walked (types_of ws) v t us false
  walked_none ms us b q a eb eu = record {
    is = sym nothing;
    clean = record { none = λ m l z. ⊎_elim (λ w. ap (λ k. occurs (types_of ws) v (false, k)) w ∙ same_root ∙ nothing) (λ w. a.clean.none m l w) (newly_marked ms n m (sym (ap (λ (us' : Words). is_marked us' m) eu) ∙ z)) };
  }
    where
      nothing : occurs (types_of ws) v (type_of_word t) ≡ false
      nothing = below q ∙ sym a.is ∙ eb

-- The loop over the children of root n: none before i has anything of v.
pub record Scan (ts : Types) (v n i : ℕ) (ms : Words) : Type 0 where
  pub rest : any (occurs ts v) (children_at ts n) ≡ any (occurs ts v) (drop i (children_at ts n))
  pub clean : Clean ts v ms

pub scan_none : (ts : Types) (v n : ℕ) (ms : Words) → Clean ts v ms → Scan ts v n 0 ms
scan_none ts v n ms k = record { rest = refl; clean = k }

pub scan_end : (ts : Types) (v n m i : ℕ) (ms : Words) → m ≡ length (children_at ts n) → Scan ts v n i ms → m ≤ i → Among ts v n ms false
unfolding any
scan_end ts v n m i ms e s h = record { is = sym (s.rest ∙ ap (any (occurs ts v)) (drop_of_length-le (children_at ts n) (let q : length (children_at ts n) ≤ i = omega arith in q))); clean = s.clean }

-- c is child i of root n.
module _ (ts : Types) (v n m i c : ℕ) (e : m ≡ length (children_at ts n)) (l : i < m) (ec : c ≡ word_of_type (get_or (children_at ts n) i (false, 0))) (ms : Words) (s : Scan ts v n i ms) (us : Words) (b : Bool) (w : Walked ts v c us b) where
  told : any (occurs ts v) (children_at ts n) ≡ (b || any (occurs ts v) (drop (i + 1) (children_at ts n)))
  unfolding any
  told =
      s.rest ∙ ap (any (occurs ts v)) (drop-cons (children_at ts n) i (false, 0) (omega arith))
      ∙ or_any (occurs ts v (get_or (children_at ts n) i (false, 0))) (any (occurs ts v) (drop (suc i) (children_at ts n)))
      ∙ ap₂ (λ (x : Bool) (k : ℕ). x || any (occurs ts v) (drop k (children_at ts n))) (sym (w.is ∙ ap (occurs ts v) (ap type_of_word ec ∙ type_word (get_or (children_at ts n) i (false, 0))))) (sym (add-one i))

  pub scan_hit : b ≡ true → Among ts v n us true
  scan_hit q = record { is = sym (told ∙ ap (λ (x : Bool). x || any (occurs ts v) (drop (i + 1) (children_at ts n))) q); clean = w.clean }

  pub scan_more : b ≡ false → Scan ts v n (i + 1) us
  scan_more q = record { rest = told ∙ ap (λ (x : Bool). x || any (occurs ts v) (drop (i + 1) (children_at ts n))) q; clean = w.clean }

-- Cleared marks: c is the count.
pub clean_start : (ws ms us : Words) (v c w : ℕ) → c ≡ length (types_of ws) → w ≡ c → us ≡ cleared w ms → Clean (types_of ws) v us
clean_start ws ms us v c w ec ew eu = record { none = λ m h z. absurd (false≢ (sym (cleared-none w m ms (omega arith)) ∙ sym (ap (λ (us' : Words). is_marked us' m) eu) ∙ z)) }
  where
    false≢ : false ≡ true → ⊥
    false≢ e = let z : ◌≡◌ {A = ℕ} 0 1 = cc in omega arith

pub walked_whole : (ts : Types) (v t : ℕ) (ms : Words) (r : Bool) → Walked ts v t ms r → r ≡ occurs ts v (type_of_word t)
walked_whole ts v t ms r w = w.is
