-- The modules of the inherent arguments, as nodes that are written one behind the other. A node that is none of the sheet's is left out: no set is its own.
use Rattle.std.specs.Prelude.{ℕ, zero, suc, ◌+◌, ◌*◌, ◌/◌, ◌≤◌, ◌<◌, ◌≡◌, Bool, true, false, ◌≢◌, List, [], ◌∷◌, ◌++◌, map, ltb, length, get_or, set, take, drop, Option, Some, None, Result, Ok, Err, IfOk, IsErrAnd}
use Rattle.std.proofs.Math.Path.{refl, sym, ap}
use Rattle.std.proofs.Common.{◌∙◌, subst, append_assoc, append-nil, add-one, arith, drop_of_length-le, drop-cons, lt-ltb, le-ltb}
use Rattle.rules.specs.Lists.{Words, select}
use Rattle.rules.specs.Types.{Ty, TypeState, unknown, known, Types, invert_if, invert_state, find, state_at, kind}
use Rattle.rules.specs.Transfer.{type_of_word}
use Rattle.rules.specs.Solutions.{rep}
use Rattle.rules.specs.Candidates.{within_def}
use Rattle.rules.specs.Run.{Run, done, stop, asks, ◌>>=◌}
use Rattle.rules.specs.Search.{get_mod, inherent_mods}
use Rattle.table.specs.Packing.{types_of, kind_in, kind_at}
use Rattle.table.specs.Reads.{unknown_here}
use Rattle.walks.specs.Modules.{module_of}
use Rattle.refusals.specs.declared.Refusal.{Refusal}
use Rattle.refusals.specs.declared.Refusal.TheVariants.{SearchLimit}
use Rattle.refusals.specs.Numbers.{number_of}
use Rattle.admitted.specs.declared.Nodes.{Nodes}

-- The nodes that are written.
abbrev pub listed : Nodes → Words
listed ns = take ns.n ns.words

-- Those of some nodes that are nodes of `count` definitions.
unfoldable pub kept : ℕ → Words → Words
kept count xs = select (λ x. ltb x (3 * count)) xs

pub kept-one : (count x : ℕ) (xs : Words) → x < 3 * count → kept count (x ∷ xs) ≡ x ∷ kept count xs
unfolding kept select
kept-one count x xs h = rw (lt-ltb x (3 * count) h, kept, select) refl

kept-none : (count x : ℕ) (xs : Words) → 3 * count ≤ x → kept count (x ∷ xs) ≡ kept count xs
unfolding kept select
kept-none count x xs h = rw (le-ltb x (3 * count) h, kept, select) refl

pub kept_append : (count : ℕ) (xs ys : Words) → kept count (xs ++ ys) ≡ kept count xs ++ kept count ys
unfolding kept select
kept_append count [] ys = refl
kept_append count (x ∷ xs) ys = go (ltb x (3 * count)) refl (kept_append count xs ys)
  where
    go : (b : Bool) → ltb x (3 * count) ≡ b → kept count (xs ++ ys) ≡ kept count xs ++ kept count ys → kept count (x ∷ (xs ++ ys)) ≡ kept count (x ∷ xs) ++ kept count ys
    go true e ih = rw (e, kept, select) (ap (λ (zs : Words). x ∷ zs) ih)
    go false e ih = rw (e, kept, select) ih

-- The node within definition d comes behind others, if it is a node.
pub record Puts (count d : ℕ) (a b : Nodes) : Type 0 where
  pub row : listed b ≡ listed a ++ kept count (within_def d ∷ [])
  pub up : b.n ≤ a.n + 1

pub take-set : (ws : Words) (n v : ℕ) → n < length ws → take (n + 1) (set ws n v) ≡ take n ws ++ (v ∷ [])
take-set [] n v h = absurd (omega arith)
take-set (w ∷ ws) zero v h = refl
take-set (w ∷ ws) (suc n) v h = ap (λ k. take k (w ∷ set ws n v)) (let z : suc n + 1 ≡ suc (n + 1) = omega arith in z) ∙ ap (λ (l : Words). w ∷ l) (take-set ws n v (omega arith))

pub put_in : (count d v : ℕ) (a b : Nodes) → d < count → v ≡ 3 * d + 1 → listed b ≡ listed a ++ (v ∷ []) → b.n ≡ a.n + 1 → Puts count d a b
unfolding kept select
put_in count d v a b l e h n = record {
  row = h ∙ ap (λ (xs : Words). listed a ++ xs) (ap (λ (x : ℕ). x ∷ []) e ∙ sym (kept-one count (within_def d) [] (omega arith)));
  up = omega (arith, n);
}

pub put_past : (count d : ℕ) (a : Nodes) → count ≤ d → Puts count d a a
unfolding kept select
put_past count d a h = record { row = sym (append-nil (listed a)) ∙ ap (λ (xs : Words). listed a ++ xs) (sym (kept-none count (within_def d) [] (omega arith))); up = omega arith }

-- The module of an inherent argument; an unknown one is 18.
unfoldable pub inherent_mod : Words → Types → Ty → Run Words
inherent_mod s ts t = elim (kind ts t) [ unknown ↦ stop 18 | known inv kd id cs ↦ get_mod s ts t ]

-- What a value of the code is.
unfoldable pub nodes_run : Result Nodes Refusal → Run Words
nodes_run (Ok ns) = done (listed ns)
nodes_run (Err refusal) = stop (number_of refusal)

-- A refusal that is handed on by a `?`.
pub handed_on : {A : Type 0} (P : Result A Refusal → Type 0) (r : Result A Refusal) (refusal : Refusal) → IsErrAnd r (λ e. e ≡ refusal) → P (Err refusal) → P r
handed_on P (Ok x) refusal h p = absurd h
handed_on P (Err e) refusal h p = subst (λ k. P (Err k)) (sym h) p

-- Nodes behind others.
unfoldable pub behind : ℕ → Words → Run Words → Run Words
behind count acc x = x >>= λ ns. done (acc ++ kept count ns)

-- The nodes that x comes to are put behind some, at most `more` of them, or x stops.
pub record Gathers (x : Run Words) (count more : ℕ) (a : Nodes) (r : Result Nodes Refusal) : Type 0 where
  pub is : nodes_run r ≡ behind count (listed a) x
  pub few : IfOk r (λ b. b.n ≤ a.n + more)

-- One argument, of kind k at its root.
module _ (s ws : Words) (t k root : ℕ) (er : root ≡ rep (types_of ws) (t / 2)) (ek : k ≡ kind_at (types_of ws) root) where
  at_unknown : (b : Bool) (st : TypeState) (x : Run Words) → st ≡ unknown → ◌≡◌ {A = Run Words} (elim (invert_state b st) [ unknown ↦ stop 18 | known inv kd id cs ↦ x ]) (stop 18)
  unfolding invert_state
  at_unknown b st x e = ap {B = Run Words} (λ z. elim (invert_state b z) as (λ y. Run Words) [ unknown ↦ stop 18 | known inv kd id cs ↦ x ]) e

  at_known : (b : Bool) (st : TypeState) (x : Run Words) → kind_in st ≢ 0 → ◌≡◌ {A = Run Words} (elim (invert_state b st) [ unknown ↦ stop 18 | known inv kd id cs ↦ x ]) x
  unfolding invert_state kind_in
  at_known b unknown x z = absurd (z refl)
  at_known b (known i kd d cs) x z = refl

  mod_unknown : k ≡ 0 → inherent_mod s (types_of ws) (type_of_word t) ≡ stop 18
  unfolding inherent_mod kind find invert_if rep type_of_word
  mod_unknown z = at_unknown (find (types_of ws) (type_of_word t)).0 (state_at (types_of ws) (rep (types_of ws) (t / 2))) (get_mod s (types_of ws) (type_of_word t)) (ap (state_at (types_of ws)) (sym er) ∙ unknown_here ws root k ek z)

  mod_known : k ≢ 0 → inherent_mod s (types_of ws) (type_of_word t) ≡ get_mod s (types_of ws) (type_of_word t)
  unfolding inherent_mod kind find invert_if rep type_of_word kind_at
  mod_known z = at_known (find (types_of ws) (type_of_word t)).0 (state_at (types_of ws) (rep (types_of ws) (t / 2))) (get_mod s (types_of ws) (type_of_word t)) (λ q. z (ek ∙ ap (λ r. kind_in (state_at (types_of ws) r)) er ∙ q))

  pub module_unknown : (count : ℕ) (ns : Nodes) → k ≡ 0 → Gathers (inherent_mod s (types_of ws) (type_of_word t)) count 1 ns (Err SearchLimit)
  unfolding nodes_run behind ◌>>=◌
  module_unknown count ns z = record { is = sym (ap (behind count (listed ns)) (mod_unknown z)); few = tt }

  module _ (z : k ≢ 0) (m : Result (Option ℕ) Refusal) (em : module_of m ≡ get_mod s (types_of ws) (type_of_word t)) (count : ℕ) (ns : Nodes) where
    comes : (x : Result (Option ℕ) Refusal) → m ≡ x → module_of x ≡ inherent_mod s (types_of ws) (type_of_word t)
    comes x e = ap module_of (sym e) ∙ em ∙ sym (mod_known z)

    pub module_nowhere : m ≡ Ok None → Gathers (inherent_mod s (types_of ws) (type_of_word t)) count 1 ns (Ok ns)
    unfolding nodes_run behind ◌>>=◌ module_of kept select
    module_nowhere e = record { is = ap {B = Run Words} done (sym (append-nil (listed ns))) ∙ ap (behind count (listed ns)) (comes (Ok None) e); few = omega arith }

    pub module_within : (d : ℕ) (b : Nodes) → m ≡ Ok (Some d) → Puts count d ns b → Gathers (inherent_mod s (types_of ws) (type_of_word t)) count 1 ns (Ok b)
    unfolding nodes_run behind ◌>>=◌ module_of
    module_within d b e p = record { is = ap {B = Run Words} done p.row ∙ ap (behind count (listed ns)) (comes (Ok (Some d)) e); few = p.up }

    pub module_error : (f : Refusal) → m ≡ Err f → Gathers (inherent_mod s (types_of ws) (type_of_word t)) count 1 ns (Err f)
    unfolding nodes_run behind ◌>>=◌ module_of
    module_error f e = record { is = ap (behind count (listed ns)) (comes (Err f) e); few = tt }

-- All arguments, one after the other.
pub bind_assoc : {A B C : Type 0} (m : Run A) (f : A → Run B) (g : B → Run C) → (m >>= f >>= g) ≡ (m >>= λ a. f a >>= g)
unfolding ◌>>=◌
bind_assoc (done a) f g = refl
bind_assoc (stop n) f g = refl
bind_assoc (asks m) f g = ap asks (bind_assoc m f g)

pub bind_same : {A B : Type 0} (m : Run A) (f g : A → Run B) → ((a : A) → f a ≡ g a) → (m >>= f) ≡ (m >>= g)
unfolding ◌>>=◌
bind_same (done a) f g h = h a
bind_same (stop n) f g h = refl
bind_same (asks m) f g h = ap asks (bind_same m f g h)

mods_next : (s : Words) (ts : Types) (t : Ty) (us : List Ty) → inherent_mods s ts (t ∷ us) ≡ (inherent_mod s ts t >>= λ ns. inherent_mods s ts us >>= λ ms. done (ns ++ ms))
unfolding inherent_mods inherent_mod ◌>>=◌
mods_next s ts t us = go (kind ts t)
  where
    go : (st : TypeState) → ◌≡◌ {A = Run Words} (elim st [ unknown ↦ stop 18 | known inv kd id cs ↦ get_mod s ts t >>= λ ns. inherent_mods s ts us >>= λ ms. done (ns ++ ms) ]) (elim st [ unknown ↦ stop 18 | known inv kd id cs ↦ get_mod s ts t ] >>= λ ns. inherent_mods s ts us >>= λ ms. done (ns ++ ms))
    go unknown = refl
    go (known inv kd id cs) = refl

unfoldable pub list_of : Run Words → Words
list_of (done xs) = xs
list_of (stop n) = []
list_of (asks r) = []

unfoldable pub IsDone : Run Words → Type 0
IsDone (done xs) = Unit {0}
IsDone (stop n) = ⊥
IsDone (asks r) = ⊥

unfoldable pub IsStop : Run Words → Type 0
IsStop (done xs) = ⊥
IsStop (stop n) = Unit {0}
IsStop (asks r) = ⊥

module _ (count : ℕ) (acc : Words) (rest : Run Words) where
  -- The first comes to nodes that are written: the others come behind them.
  first_written : (x : Run Words) (more : Words) → done more ≡ behind count acc x → behind count acc (x >>= λ ns. rest >>= λ ms. done (ns ++ ms)) ≡ behind count more rest
  unfolding behind ◌>>=◌ list_of IsDone
  first_written (stop n) more e = absurd (subst IsDone e tt)
  first_written (asks x) more e = absurd (subst IsDone e tt)
  first_written (done ns) more e =
      bind_assoc rest (λ ms. done (ns ++ ms)) (λ ks. done (acc ++ kept count ks))
      ∙ bind_same rest (λ ms. done (acc ++ kept count (ns ++ ms))) (λ ms. done (more ++ kept count ms)) (λ ms. ap {B = Run Words} done (ap (λ (l : Words). acc ++ l) (kept_append count ns ms) ∙ sym (append_assoc acc (kept count ns) (kept count ms)) ∙ ap (λ (l : Words). l ++ kept count ms) (sym (ap list_of e))))

  -- It stops: so does the whole.
  first_stops : (x : Run Words) (k : ℕ) → stop k ≡ behind count acc x → behind count acc (x >>= λ ns. rest >>= λ ms. done (ns ++ ms)) ≡ stop k
  unfolding behind ◌>>=◌ IsStop
  first_stops (done ns) k e = absurd (subst IsStop e tt)
  first_stops (asks x) k e = absurd (subst IsStop e tt)
  first_stops (stop n) k e = sym e

-- The loop: nodes are put behind others, and the arguments from k on are left.
pub record Gathering (s : Words) (ts : Types) (args : Words) (count k : ℕ) (a b : Nodes) : Type 0 where
  pub rest : behind count (listed a) (inherent_mods s ts (map type_of_word args)) ≡ behind count (listed b) (inherent_mods s ts (map type_of_word (drop k args)))
  pub few : b.n ≤ a.n + k

pub gather_start : (s : Words) (ts : Types) (args : Words) (count : ℕ) (a : Nodes) → Gathering s ts args count 0 a a
gather_start s ts args count a = record { rest = refl; few = omega arith }

module _ (s : Words) (ts : Types) (args : Words) (count k : ℕ) (a b : Nodes) (g : Gathering s ts args count k a b) (h : k < length args) (r : Result Nodes Refusal) (f : Gathers (inherent_mod s ts (type_of_word (get_or args k 0))) count 1 b r) where
  t : ℕ
  t = get_or args k 0

  next_left : behind count (listed a) (inherent_mods s ts (map type_of_word args)) ≡ behind count (listed b) (inherent_mod s ts (type_of_word t) >>= λ ns. inherent_mods s ts (map type_of_word (drop (k + 1) args)) >>= λ ms. done (ns ++ ms))
  unfolding t
  next_left =
      g.rest
      ∙ ap (λ (l : Words). behind count (listed b) (inherent_mods s ts (map type_of_word l))) (drop-cons args k 0 h ∙ ap (λ j. t ∷ drop j args) (sym (add-one k)))
      ∙ ap (behind count (listed b)) (mods_next s ts (type_of_word t) (map type_of_word (drop (k + 1) args)))

  pub gather_on : (c : Nodes) → r ≡ Ok c → Gathering s ts args count (k + 1) a c
  unfolding nodes_run t
  gather_on c e = record {
    rest = next_left ∙ first_written count (listed b) (inherent_mods s ts (map type_of_word (drop (k + 1) args))) (inherent_mod s ts (type_of_word t)) (listed c) (sym (ap nodes_run e) ∙ f.is);
    few = omega (arith, g.few, subst (λ q. IfOk q (λ d. d.n ≤ b.n + 1)) e f.few);
  }

  pub gather_stops : (refusal : Refusal) → r ≡ Err refusal → Gathers (inherent_mods s ts (map type_of_word args)) count (length args) a (Err refusal)
  unfolding nodes_run t
  gather_stops refusal e = record {
    is = sym (next_left ∙ first_stops count (listed b) (inherent_mods s ts (map type_of_word (drop (k + 1) args))) (inherent_mod s ts (type_of_word t)) (number_of refusal) (sym (ap nodes_run e) ∙ f.is));
    few = tt;
  }

pub gather_end : (s : Words) (ts : Types) (args : Words) (count k : ℕ) (a b : Nodes) → Gathering s ts args count k a b → length args ≤ k → k ≤ length args → Gathers (inherent_mods s ts (map type_of_word args)) count (length args) a (Ok b)
unfolding nodes_run behind inherent_mods ◌>>=◌ kept select
gather_end s ts args count k a b g h u = record {
  is = ap {B = Run Words} done (sym (append-nil (listed b))) ∙ sym (g.rest ∙ ap (λ (l : Words). behind count (listed b) (inherent_mods s ts (map type_of_word l))) (drop_of_length-le args h));
  few = omega (arith, g.few);
}
