-- Types read as terms: the solutions of a table, what a well-formed table is, its reading with unknowns left free, and substitution. Robinson's theorem is stated in these words.
use Rattle.std.specs.Prelude.{ℕ, zero, suc, ◌+◌, ◌≤◌, ◌<◌, ◌≡◌, refl, Bool, true, false, List, [], ◌∷◌, ◌≢◌, ◌⊎◌, T, eqb, length, get_or, set, replicate}
use Rattle.std.proofs.Common.{sym, ◌∙◌, ap, ap₂, subst, inl, inr, not-suc-le-zero, le_refl, arith, eqb→eq, length-set}
use Rattle.std.proofs.Math.Dec.{eqb_refl}
use Rattle.std.proofs.lemmas.List.{length-replicate}
use Rattle.rules.specs.Reach.{Marks, marked}
use Rattle.rules.specs.ReachLaws.{count, count_le, none-marked}
use Rattle.rules.specs.Types.{Ty, TypeState, unknown, known, Types, node_at, state_at}
use Rattle.rules.specs.Pigeonholes.{count_set, marked-set}

-- Terms: unknowns, types of a kind and an id over their children, and lists of children.
pub data Term : Type 0 where
  var : ℕ → Term
  con : ℕ → ℕ → Term → Term
  nil : Term
  cons : Term → Term → Term

-- How many types stand in a term: a type is larger than each of its children.
unfoldable pub term_size : Term → ℕ
term_size (var n) = 0
term_size (con k d t) = suc (term_size t)
term_size nil = 0
term_size (cons t u) = term_size t + term_size u

-- A solution gives each node a term. (A substitution is the same: it gives each unknown a term.)
abbrev pub Sol : Type 0
Sol = ℕ → Term

-- The terms of some types, as a list. Inversion is not read: Robinson's theorem is about upright types.
unfoldable pub terms : Sol → List Ty → Term
terms θ [] = nil
terms θ (c ∷ cs) = cons (θ c.1) (terms θ cs)

-- Solutions that agree on each of some types give them the same terms.
pub terms-same : (θ σ : Sol) (cs : List Ty) → ((j : ℕ) → j < length cs → θ (get_or cs j (false, 0)).1 ≡ σ (get_or cs j (false, 0)).1) → terms θ cs ≡ terms σ cs
unfolding terms
terms-same θ σ [] h = refl
terms-same θ σ (c ∷ cs) h = ap₂ cons (h 0 (omega arith)) (terms-same θ σ cs (λ j l. h (suc j) (omega arith)))

-- The root of a node's class.
unfoldable pub rep : Types → ℕ → ℕ
rep ts n = (node_at ts n).up.1

-- The term of root r is of the kind and the id that its state says, over the terms of its children.
abbrev pub Fits : Sol → ℕ → TypeState → Type 0
Fits θ r unknown = Unit {0}
Fits θ r (known i k d cs) = θ r ≡ con k d (terms θ cs)

-- The solutions of a table, read as equations: every node has the term of its root, and every root that of its state.
abbrev pub Solves : Types → Sol → Type 0
Solves ts θ = (n : ℕ) → n < length ts → (θ n ≡ θ (rep ts n)) × Fits θ (rep ts n) (state_at ts (rep ts n))

-- Types are nodes of a table of N nodes.
abbrev pub AllIn : ℕ → List Ty → Type 0
AllIn N [] = Unit {0}
AllIn N (c ∷ cs) = (c.1 < N) × AllIn N cs

-- The children of a state are.
abbrev pub ChildrenIn : ℕ → TypeState → Type 0
ChildrenIn N unknown = Unit {0}
ChildrenIn N (known i k d cs) = AllIn N cs

-- A well-formed table: the root of every node is a node and its own root, and a root's children are nodes.
abbrev pub WellFormed : Types → Type 0
WellFormed ts = (n : ℕ) → n < length ts → (rep ts n < length ts) × (rep ts (rep ts n) ≡ rep ts n) × ChildrenIn (length ts) (state_at ts (rep ts n))

-- Equal numbers, by the test.
pub eqb_true : (m n : ℕ) → m ≡ n → eqb m n ≡ true
eqb_true m n e = go (eqb m n) refl
  where
    go : (b : Bool) → eqb m n ≡ b → eqb m n ≡ true
    go true h = h
    go false h = absurd (subst T h (subst (λ k. T (eqb m k)) e (eqb_refl m)))

pub eqb_false : (m n : ℕ) → m ≢ n → eqb m n ≡ false
eqb_false m n e = go (eqb m n) refl
  where
    go : (b : Bool) → eqb m n ≡ b → eqb m n ≡ false
    go true h = absurd (e (eqb→eq m n (subst T (sym h) tt)))
    go false h = h

-- What is known is not unknown.
pub known≢ : {i : Bool} {k d : ℕ} {cs : List Ty} → known i k d cs ≡ unknown → ⊥
known≢ q = subst isKnown q tt
  where
    isKnown : TypeState → Type 0
    isKnown unknown = ⊥
    isKnown (known i' k' d' cs') = Unit {0}

-- A substitution, applied to a term.
unfoldable pub sub : Sol → Term → Term
sub τ (var n) = τ n
sub τ (con k d t) = con k d (sub τ t)
sub τ nil = nil
sub τ (cons t u) = cons (sub τ t) (sub τ u)

sub-terms : (τ σ : Sol) (cs : List Ty) → sub τ (terms σ cs) ≡ terms (λ n. sub τ (σ n)) cs
unfolding sub terms
sub-terms τ σ [] = refl
sub-terms τ σ (c ∷ cs) = ap (cons (sub τ (σ c.1))) (sub-terms τ σ cs)

-- A solution with a substitution applied to it is a solution.
pub solves_sub : (ts : Types) (τ σ : Sol) → Solves ts σ → Solves ts (λ n. sub τ (σ n))
unfolding sub
solves_sub ts τ σ sv n h = (ap (sub τ) (sv n h).0, go (state_at ts (rep ts n)) (sv n h).1)
  where
    go : (st : TypeState) → Fits σ (rep ts n) st → Fits (λ m. sub τ (σ m)) (rep ts n) st
    go unknown f = tt
    go (known i k d cs) f = ap (sub τ) f ∙ ap (con k d) (sub-terms τ σ cs)

-- A solution that leaves each unknown free: it reads the table as terms over its unknowns.
pub record Free (ts : Types) (σ : Sol) : Type 0 where
  pub solves : Solves ts σ
  pub vars : (r : ℕ) → r < length ts → rep ts r ≡ r → state_at ts r ≡ unknown → σ r ≡ var r

-- A table that can be read so: it is acyclic. (Readings: exactly if its rank falls from each node to the children of its root.)
abbrev pub Readable : Types → Type 0
Readable ts = (σ : Sol) × Free ts σ

-- Two solutions of a table that can be read as terms are one where they agree on its unknowns.
unique_of : (k : ℕ) (ts : Types) (σ θ θ' : Sol) → WellFormed ts → Solves ts σ → Solves ts θ → Solves ts θ' → ((r : ℕ) → r < length ts → rep ts r ≡ r → state_at ts r ≡ unknown → θ r ≡ θ' r) → (n : ℕ) → n < length ts → term_size (σ n) < k → θ n ≡ θ' n
unfolding term_size terms
unique_of zero ts σ θ θ' formed ss sv sv' e n h l = absurd (not-suc-le-zero l)
unique_of (suc k) ts σ θ θ' formed ss sv sv' e n h l = go (state_at ts (rep ts n)) refl (unique_of k ts σ θ θ' formed ss sv sv' e)
  where
    inside : (cs : List Ty) → AllIn (length ts) cs → term_size (terms σ cs) < k → ((m : ℕ) → m < length ts → term_size (σ m) < k → θ m ≡ θ' m) → terms θ cs ≡ terms θ' cs
    inside [] a q ih = refl
    inside (c ∷ cs) a q ih = ap₂ cons (ih c.1 a.0 (omega arith)) (inside cs a.1 (omega arith) ih)

    go : (st : TypeState) → state_at ts (rep ts n) ≡ st → ((m : ℕ) → m < length ts → term_size (σ m) < k → θ m ≡ θ' m) → θ n ≡ θ' n
    go unknown q ih = (sv n h).0 ∙ e (rep ts n) (formed n h).0 (formed n h).1 q ∙ sym (sv' n h).0
    go (known i kd d cs) q ih =
        let whole : (ρ : Sol) → Solves ts ρ → ρ n ≡ con kd d (terms ρ cs) = λ ρ s. (s n h).0 ∙ subst (Fits ρ (rep ts n)) q (s n h).1 in
        whole θ sv ∙ ap (con kd d) (inside cs (subst (ChildrenIn (length ts)) q (formed n h).2) (omega (arith, ap term_size (whole σ ss))) ih) ∙ sym (whole θ' sv')

-- The same, with no bound.
pub unique : (ts : Types) (θ θ' : Sol) → WellFormed ts → Readable ts → Solves ts θ → Solves ts θ' → ((r : ℕ) → r < length ts → rep ts r ≡ r → state_at ts r ≡ unknown → θ r ≡ θ' r) → (n : ℕ) → n < length ts → θ n ≡ θ' n
unique ts θ θ' formed r sv sv' e n h = unique_of (suc (term_size (r.0 n))) ts r.0 θ θ' formed r.1.solves sv sv' e n h (le_refl _)

-- Every solution is an instance of the free one.
pub instance : (ts : Types) (σ θ : Sol) → WellFormed ts → Free ts σ → Solves ts θ → (n : ℕ) → n < length ts → sub θ (σ n) ≡ θ n
unfolding sub
instance ts σ θ formed fr sv = unique ts (λ n. sub θ (σ n)) θ formed (σ, fr) (solves_sub ts θ σ fr.solves) sv (λ r h e u. ap (sub θ) (fr.vars r h e u))

-- Fuel n for a walk down a table of N nodes, from one whose term has size sz: those passed so far are marked, and are larger; n and they together are more than N.
pub record Fuel (n N : ℕ) (θ : Sol) (sz : ℕ) : Type 0 where
  pub ms : Marks
  pub len : length ms ≡ N
  pub above : (r : ℕ) → T (marked ms r) → sz < term_size (θ r)
  pub left : N < n + count ms

-- None cannot be enough.
pub fuel_none : (N : ℕ) (θ : Sol) (sz : ℕ) → Fuel 0 N θ sz → ⊥
fuel_none N θ sz f = omega (arith, count_le f.ms, f.len, f.left)

-- A step down to a smaller one takes one of it.
pub fuel_step : (n N : ℕ) (θ : Sol) (sz sz' x : ℕ) → x < N → term_size (θ x) ≡ sz → sz' < sz → Fuel (suc n) N θ sz → Fuel n N θ sz'
fuel_step n N θ sz sz' x h e l f =
    record {
      ms = set f.ms x true;
      len = length-set f.ms x true ∙ f.len;
      above = λ r t. go r (marked-set f.ms x r t);
      left = omega (arith, f.left, count_set f.ms x (rw f.len h) (λ t. omega (arith, f.above x t)));
    }
  where
    go : (r : ℕ) → (r ≡ x) ⊎ T (marked f.ms r) → sz' < term_size (θ r)
    go r (inl q) = subst (λ k. sz' < term_size (θ k)) (sym q) (rw e l)
    go r (inr t) = omega (arith, f.above r t)

-- What is enough for one is enough for a smaller one.
pub fuel_less : (n N : ℕ) (θ : Sol) (sz sz' : ℕ) → sz' ≤ sz → Fuel n N θ sz → Fuel n N θ sz'
fuel_less n N θ sz sz' l f = record { ms = f.ms; len = f.len; above = λ r t. omega (arith, f.above r t); left = f.left }

-- At the start any fuel above N will do.
pub fuel_over : (n N : ℕ) (θ : Sol) (sz : ℕ) → N < n → Fuel n N θ sz
fuel_over n N θ sz h = record { ms = replicate N false; len = length-replicate N false; above = λ r t. absurd (none-marked N r t); left = omega arith }

pub fuel_full : (N : ℕ) (θ : Sol) (sz : ℕ) → Fuel (suc N) N θ sz
fuel_full N θ sz = fuel_over (suc N) N θ sz (le_refl (suc N))
