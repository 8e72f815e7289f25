-- A solution of the question's table and a reading of the signature's give refs a meaning, and Errors their names.
use Rattle.std.specs.Prelude.{ℕ, zero, suc, ◌+◌, ◌-◌, ◌/◌, ◌%◌, ◌≤◌, ◌<◌, ◌≡◌, Bool, true, false, ◌≢◌, eqb, ltb, length, get_or, take}
use Rattle.std.proofs.Math.Path.{refl, sym, ap, ap₂}
use Rattle.std.proofs.Common.{◌∙◌, subst, ⊎_elim, le_of_suc-le-suc, not-suc-le-zero, eq-or-lt_of_le, get_or-take}
use mathlib.Core.List.{List, [], ◌∷◌, map}
use Rattle.std.proofs.Math.Decide.{ℕ_discrete}
use native.Mathlib.Omega.{arith}
use Rattle.std.proofs.Math.Seq.{length-take-le}
use borrow.Author.Tests.{eq-eqb, ne_eqb, lt-ltb, le-ltb}
use Rattle.rules.specs.Lists.{Words}
use Rattle.rules.specs.Layout.{kind_param, kind_error}
use Rattle.rules.specs.Sheet.{at, chain}
use Rattle.rules.specs.Types.{Ty, Types, TypeState, unknown, known, state_at, invert_if, find}
use Rattle.rules.specs.Acyclic.{children}
use Rattle.rules.specs.AcyclicLaws.{children_at, map-length}
use Rattle.rules.specs.Transfer.{type_of_word, cell_types, node_state, table}
use Rattle.rules.specs.Answer.{word_of_type}
use Rattle.rules.specs.RootRank.{child_in}
use Rattle.rules.specs.Solutions.{rep, AllIn, ChildrenIn, WellFormed}
use Rattle.rules.specs.CheckedTables.{table_length_lem, table_state, table-flat}
use Rattle.rules.specs.ErrorsApart.{IsError}
use Rattle.rules.specs.SignedTerms.{Signed, SignedSol, scons, turned, value, values, made, label, label_same, value-find, SignedFits, SignedSuits, SignedCommon}
use Rattle.table.specs.Packing.{types_of, kind_in, id_in, inverted_in, kind_at, id_at, inverted_at}
use Rattle.table.specs.Nodes.{types_few, type_word, word_type}
use Rattle.table.specs.ChildTypes.{type_in, type_there, known_in}
use Rattle.queries.specs.declared.Query.{Query}
use Rattle.queries.specs.Queries.{four, query_of}
use Rattle.queries.specs.Few.{map_at}
use Rattle.refs.specs.Meaning.{odd, means, row, Sort, ErrorsApart, Meaning}
use Rattle.order.specs.Brought.{Brought}
use Rattle.loose.specs.Loose.{LooseMeaning}
use Rattle.clash.specs.Pairs.{Agree, Clashing}

-- A number that none of the first n is above.
unfoldable pub above : (ℕ → ℕ) → ℕ → ℕ
above f zero = 0
above f (suc n) = f n + above f n

above_each : (f : ℕ → ℕ) (n k : ℕ) → k < n → f k ≤ above f n
unfolding above
above_each f zero k h = absurd (not-suc-le-zero h)
above_each f (suc n) k h = ⊎_elim (λ e. omega (arith, ap f e)) (λ l. omega (arith, above_each f n k l)) (eq-or-lt_of_le (le_of_suc-le-suc h))

-- The names of Errors by their refs: those of the roots of the question's table by ν, of its other nodes, which nothing is read by, above all others, and of the records by κ.
unfoldable pub node_name : Words → (ℕ → ℕ) → (ℕ → ℕ) → ℕ → ℕ
node_name ws ν κ n = elim (eqb (rep (types_of ws) n) n) [ true ↦ ν n | false ↦ suc (above ν 256 + above κ 1024) + n ]

unfoldable pub names : Words → (ℕ → ℕ) → (ℕ → ℕ) → ℕ → ℕ
names ws ν κ r = elim (ltb r 256) [ true ↦ node_name ws ν κ r | false ↦ κ (r - 1024) ]

-- The term of a node by its state.
unfoldable pub node_term : Words → (ℕ → ℕ) → SignedSol → ℕ → TypeState → Signed
node_term s ν σ n unknown = σ n
node_term s ν σ n (known i k d cs) = made s i k (label ν k d n) (values s σ cs)

-- The terms of all refs, Errors of the question's table by ν: σ solves that, and τ reads the signature's by π.
unfoldable pub reading : Words → Words → (ℕ → ℕ) → SignedSol → SignedSol → SignedSol → SignedSol
reading s ws ν σ π τ r = elim (ltb r 256) [ true ↦ node_term s ν σ r (state_at (types_of ws) r) | false ↦ elim (ltb r 1024) [ true ↦ π (r - 256) | false ↦ τ (r - 1024) ] ]

module _ (s ws : Words) (ν : ℕ → ℕ) (σ π τ : SignedSol) where
  pub reading-node : (n : ℕ) → n < 256 → reading s ws ν σ π τ n ≡ node_term s ν σ n (state_at (types_of ws) n)
  unfolding reading
  reading-node n h = rw (lt-ltb n 256 h, reading)

  pub reading_record : (k : ℕ) → reading s ws ν σ π τ (1024 + k) ≡ τ k
  unfolding reading
  reading_record k = rw (le-ltb (1024 + k) 256 (omega arith), le-ltb (1024 + k) 1024 (omega arith), reading) (ap τ (let z : 1024 + k - 1024 ≡ k = omega arith in z))

  reading-param : (d : ℕ) → d < 8 → reading s ws ν σ π τ (256 + d) ≡ π d
  unfolding reading
  reading-param d h = rw (le-ltb (256 + d) 256 (omega arith), lt-ltb (256 + d) 1024 (omega arith), reading) (ap π (let z : 256 + d - 256 ≡ d = omega arith in z))

module _ (ws : Words) (ν κ : ℕ → ℕ) where
  names-node : (n : ℕ) → n < 256 → names ws ν κ n ≡ node_name ws ν κ n
  unfolding names
  names-node n h = rw (lt-ltb n 256 h, names)

  names_record : (k : ℕ) → names ws ν κ (1024 + k) ≡ κ k
  unfolding names
  names_record k = rw (le-ltb (1024 + k) 256 (omega arith), names) (ap κ (let z : 1024 + k - 1024 ≡ k = omega arith in z))

  name_root : (n : ℕ) → rep (types_of ws) n ≡ n → node_name ws ν κ n ≡ ν n
  unfolding node_name
  name_root n e = rw (eq-eqb (rep (types_of ws) n) n e, node_name)

  name_other : (n : ℕ) → rep (types_of ws) n ≢ n → node_name ws ν κ n ≡ suc (above ν 256 + above κ 1024) + n
  unfolding node_name
  name_other n e = rw (ne_eqb (rep (types_of ws) n) n e, node_name)

  -- Nodes that have one name are one if roots are, and no node has the name of a record if no root has.
  names_nodes : (a b : ℕ) → a < 256 → b < 256 → (rep (types_of ws) a ≡ a → rep (types_of ws) b ≡ b → ν a ≡ ν b → a ≡ b) → names ws ν κ a ≡ names ws ν κ b → a ≡ b
  names_nodes a b ha hb f e = go (ℕ_discrete (rep (types_of ws) a) a) (ℕ_discrete (rep (types_of ws) b) b)
    where
      same : node_name ws ν κ a ≡ node_name ws ν κ b
      same = sym (names-node a ha) ∙ e ∙ names-node b hb

      go : Dec (rep (types_of ws) a ≡ a) → Dec (rep (types_of ws) b ≡ b) → a ≡ b
      go (yes p) (yes q) = f p q (sym (name_root a p) ∙ same ∙ name_root b q)
      go (yes p) (no q) = absurd (omega (arith, same, name_root a p, name_other b q, above_each ν 256 a ha))
      go (no p) (yes q) = absurd (omega (arith, same, name_other a p, name_root b q, above_each ν 256 b hb))
      go (no p) (no q) = omega (arith, same, name_other a p, name_other b q)

  names-both : (a b : ℕ) → a < 1024 → b < 256 → (rep (types_of ws) b ≡ b → κ a ≢ ν b) → names ws ν κ (1024 + a) ≢ names ws ν κ b
  names-both a b ha hb f e = go (ℕ_discrete (rep (types_of ws) b) b)
    where
      same : κ a ≡ node_name ws ν κ b
      same = sym (names_record a) ∙ e ∙ names-node b hb

      go : Dec (rep (types_of ws) b ≡ b) → ⊥
      go (yes q) = f q (same ∙ name_root b q)
      go (no q) = omega (arith, same, name_other b q, above_each κ 1024 a ha)

fits_term : (s : Words) (ν μ : ℕ → ℕ) (σ : SignedSol) (n : ℕ) (st : TypeState) → SignedFits s ν σ n st → ν n ≡ μ n → node_term s μ σ n st ≡ σ n
unfolding node_term
fits_term s ν μ σ n unknown f e = refl
fits_term s ν μ σ n (known i k d cs) f e = sym (f ∙ ap (λ x. made s i k x (values s σ cs)) (label_same ν μ k d n n e))

node_sort : (s : Words) (ν : ℕ → ℕ) (σ : SignedSol) (n : ℕ) (st : TypeState) (t : Signed) → kind_in st ≢ 0 → t ≡ node_term s ν σ n st → Sort s t (inverted_in st) (kind_in st) (label ν (kind_in st) (id_in st) n)
unfolding node_term kind_in id_in inverted_in
node_sort s ν σ n unknown t z e = absurd (z refl)
node_sort s ν σ n (known i k d cs) t z e = record { over = values s σ cs; is = e }

-- A state of the kind Error.
error_state : (st : TypeState) → kind_in st ≡ kind_error → IsError st
unfolding kind_in
error_state unknown e = absurd (omega arith)
error_state (known i k d cs) e = e

-- A record with a kind is a known node, and one without is unknown.
pub unknown_state : (s : Words) (p : ℕ) → at s (p + 1) ≡ 0 → node_state s p ≡ unknown
unfolding node_state
unknown_state s p z = rw (eq-eqb (at s (p + 1)) 0 z, node_state)

pub known_state : (s : Words) (p : ℕ) → at s (p + 1) ≢ 0 → node_state s p ≡ known (eqb (at s (p + 2)) 1) (at s (p + 1)) (at s (p + 3)) (cell_types s (at s (p + 4)))
unfolding node_state
known_state s p z = rw (ne_eqb (at s (p + 1)) 0 z, node_state)

suits_param : (s : Words) (κ : ℕ → ℕ) (π τ : SignedSol) (n : ℕ) (i : Bool) (k d : ℕ) (cs : List Ty) → SignedSuits s κ π τ n (known i k d cs) → k ≡ 1 → τ n ≡ turned s i (π d)
suits_param s κ π τ n i k d cs f e = rw (eq-eqb k kind_param e, SignedSuits) at f

suits_plain : (s : Words) (κ : ℕ → ℕ) (π τ : SignedSol) (n : ℕ) (i : Bool) (k d : ℕ) (cs : List Ty) → SignedSuits s κ π τ n (known i k d cs) → k ≢ 1 → τ n ≡ made s i k (label κ k d n) (values s τ cs)
suits_plain s κ π τ n i k d cs f e = rw (ne_eqb k kind_param e, SignedSuits) at f

-- The type words of a question.
four_at : (xs : Words) (k : ℕ) → k < 4 → at (four xs) k ≡ at xs k
four_at xs zero h = refl
four_at xs (suc zero) h = refl
four_at xs (suc (suc zero)) h = refl
four_at xs (suc (suc (suc zero))) h = refl
four_at xs (suc (suc (suc (suc k)))) h = absurd (omega arith)

module _ (q : Query) (few : q.n ≤ 4) where
  pub query_length : length (query_of q).1 ≡ q.n
  unfolding query_of
  query_length = map-length type_of_word (take q.n (four q.args)) ∙ length-take-le q.n (four q.args) few

  pub query_type : (k : ℕ) → k < q.n → get_or (query_of q).1 k (false, 0) ≡ type_of_word (at q.args k)
  unfolding query_of
  query_type k h =
      map_at type_of_word (false, 0) (take q.n (four q.args)) k (omega (arith, length-take-le q.n (four q.args) few))
      ∙ ap type_of_word (get_or-take q.n (four q.args) k 0 h ∙ four_at q.args k (omega arith))

  pub query_in : (n k : ℕ) → AllIn n (query_of q).1 → k < q.n → (type_of_word (at q.args k)).1 < n
  query_in n k a h = subst (λ (t : Ty). t.1 < n) (query_type k h) (child_in n (query_of q).1 k a (omega (arith, query_length)))

values_at : (s : Words) (τ σ : SignedSol) (xs ys : List Ty) → values s τ xs ≡ values s σ ys → (k : ℕ) → k < length xs → value s τ (get_or xs k (false, 0)) ≡ value s σ (get_or ys k (false, 0))
unfolding values
values_at s τ σ [] ys e k h = absurd (not-suc-le-zero h)
values_at s τ σ (x ∷ xs) [] e k h = let z : ◌≡◌ {A = ℕ} 0 1 = cc in absurd (omega arith)
values_at s τ σ (x ∷ xs) (y ∷ ys) e zero h = cc
values_at s τ σ (x ∷ xs) (y ∷ ys) e (suc k) h = let z : values s τ xs ≡ values s σ ys = cc in values_at s τ σ xs ys z k (le_of_suc-le-suc h)

-- The node of a type's word.
pub word_node : (t : Ty) → word_of_type t / 2 ≡ t.1
unfolding type_of_word
word_node t = ap (λ (u : Ty). u.1) (type_word t)

-- What the word of a type means.
means_type : (s : Words) (m : SignedSol) (t : Ty) → t.1 < 2048 → means s m (word_of_type t) ≡ turned s t.0 (m t.1)
unfolding means odd type_of_word
means_type s m t h =
    let e = type_word t in
    let n : word_of_type t / 2 ≡ t.1 = ap (λ (u : Ty). u.1) e in
    (λ i. turned s (e i).0 (m ((e i).1 % 2048))) ∙ ap (λ k. turned s t.0 (m k)) (let z : t.1 % 2048 ≡ t.1 = omega arith in z)

-- The type of a record's ref.
pub record_word : (t : Ty) → t.1 < 1024 → 2048 + word_of_type t % 2048 ≡ word_of_type (t.0, 1024 + t.1)
unfolding word_of_type
record_word (true, n) h = omega arith
record_word (false, n) h = omega arith

module _ (s ws : Words) (h : ℕ) (short : length (chain s h) ≤ 1024) (formed : WellFormed (table s h)) (whole : WellFormed (types_of ws)) (xs ys : List Ty) (c : SignedCommon s (types_of ws) (table s h) xs ys) where
  abbrev μ : ℕ → ℕ
  μ = names ws c.name c.called

  abbrev m : SignedSol
  m = reading s ws μ c.σ c.π c.τ

  -- A type of the question's table means what the type of a root does that it is,
  root_value : (t : Ty) → t.1 < length (types_of ws) → value s c.σ t ≡ means s m (word_of_type (find (types_of ws) t))
  unfolding value find invert_if rep
  root_value t l =
      let r = rep (types_of ws) t.1 in
      let o = whole t.1 l in
      let small : r < 256 = omega (arith, o.0, types_few ws) in
      let named : c.name r ≡ μ r = sym (names-node ws c.name c.called r small ∙ name_root ws c.name c.called r o.1) in
      value-find s (types_of ws) c.σ t (c.solves t.1 l).0
      ∙ ap (turned s (find (types_of ws) t).0) (sym (fits_term s c.name μ c.σ r (state_at (types_of ws) r) (c.solves t.1 l).1 named) ∙ sym (reading-node s ws μ c.σ c.π c.τ r small))
      ∙ sym (means_type s m (find (types_of ws) t) (omega (arith, o.0, types_few ws)))

  node-rows : (cs : List Ty) → AllIn (length (types_of ws)) cs → values s c.σ cs ≡ row s m (map (λ (t : Ty). word_of_type (type_in ws t)) cs)
  unfolding values row
  node-rows [] a = refl
  node-rows (t ∷ cs) a = ap₂ scons (root_value t a.0 ∙ ap (λ (u : Ty). means s m (word_of_type u)) (sym (type_there ws t a.0))) (node-rows cs a.1)

  node_over : (n : ℕ) (st : TypeState) → ChildrenIn (length (types_of ws)) st → kind_in st ≢ 0 → node_term s μ c.σ n st ≡ made s (inverted_in st) (kind_in st) (label μ (kind_in st) (id_in st) n) (row s m (map (λ (t : Ty). word_of_type (type_in ws t)) (children st)))
  unfolding node_term kind_in id_in inverted_in children
  node_over n unknown a z = absurd (z refl)
  node_over n (known i k d cs) a z = ap (made s i k (label μ k d n)) (node-rows cs a)

  -- and a type of the signature's what its record says.
  record_value : (t : Ty) → t.1 < 1024 → value s c.τ t ≡ means s m (2048 + word_of_type t % 2048)
  unfolding value
  record_value t l = ap (turned s t.0) (sym (reading_record s ws μ c.σ c.π c.τ t.1)) ∙ sym (means_type s m (t.0, 1024 + t.1) (omega arith)) ∙ ap (means s m) (sym (record_word t l))

  size : length (table s h) ≡ length (chain s h)
  size = table_length_lem s h

  record_rows : (cs : List Ty) → AllIn (length (table s h)) cs → values s c.τ cs ≡ row s m (map (λ (t : Ty). 2048 + word_of_type t % 2048) cs)
  unfolding values row
  record_rows [] a = refl
  record_rows (t ∷ cs) a = ap₂ scons (record_value t (omega (arith, a.0, size))) (record_rows cs a.1)

  module _ (k : ℕ) (l : k < length (chain s h)) (z : at s (at (chain s h) k + 1) ≢ 0) where
    here : k < length (table s h)
    here = omega (arith, size)

    state : state_at (table s h) k ≡ known (eqb (at s (at (chain s h) k + 2)) 1) (at s (at (chain s h) k + 1)) (at s (at (chain s h) k + 3)) (cell_types s (at s (at (chain s h) k + 4)))
    state = table_state s h k here ∙ known_state s (at (chain s h) k) z

    suits : SignedSuits s c.called c.π c.τ k (known (eqb (at s (at (chain s h) k + 2)) 1) (at s (at (chain s h) k + 1)) (at s (at (chain s h) k + 3)) (cell_types s (at s (at (chain s h) k + 4))))
    suits = subst (SignedSuits s c.called c.π c.τ k) state (c.reads k here)

    cells_in : AllIn (length (table s h)) (cell_types s (at s (at (chain s h) k + 4)))
    cells_in = subst (ChildrenIn (length (table s h))) (ap (state_at (table s h)) (table-flat s h k here) ∙ state) (formed k here).2

    error_here : at s (at (chain s h) k + 1) ≡ kind_error → IsError (state_at (table s h) k)
    error_here e = subst IsError (sym state) e

  errors : ErrorsApart s (chain s h) ws μ
  unfolding kind_at
  errors = record {
    nodes = λ a b ha hb ea eb e. names_nodes ws c.name c.called a b ha hb (λ p q. c.apart a b (known_in ws a (omega (arith, ea))) (known_in ws b (omega (arith, eb))) p q (error_state (state_at (types_of ws) a) ea) (error_state (state_at (types_of ws) b) eb)) e;
    records = λ a b ha hb ea eb e.
        let za : at s (at (chain s h) a + 1) ≢ 0 = omega (arith, ea) in
        let zb : at s (at (chain s h) b + 1) ≢ 0 = omega (arith, eb) in
        c.apart-source a b (here a ha za) (here b hb zb) (error_here a ha za ea) (error_here b hb zb eb) (sym (names_record ws c.name c.called a) ∙ e ∙ names_record ws c.name c.called b);
    both = λ a b ha hb ea eb.
        let za : at s (at (chain s h) a + 1) ≢ 0 = omega (arith, ea) in
        names-both ws c.name c.called a b (omega arith) hb (λ q. c.apart-both a b (here a ha za) (known_in ws b (omega (arith, eb))) q (error_here a ha za ea) (error_state (state_at (types_of ws) b) eb));
  }

  pub meaning : Meaning s (chain s h) ws m
  unfolding kind_at id_at inverted_at children_at
  meaning = record {
    records = record {
      name = μ;
      few = short;
      param = λ k l e d.
          reading_record s ws μ c.σ c.π c.τ k
          ∙ suits_param s c.called c.π c.τ k (eqb (at s (at (chain s h) k + 2)) 1) _ _ _ (suits k l (omega arith)) e
          ∙ ap (turned s (eqb (at s (at (chain s h) k + 2)) 1)) (sym (reading-param s ws μ c.σ c.π c.τ (at s (at (chain s h) k + 3)) d));
      plain = λ k l z y.
          reading_record s ws μ c.σ c.π c.τ k
          ∙ suits_plain s c.called c.π c.τ k (eqb (at s (at (chain s h) k + 2)) 1) _ _ _ (suits k l z) y
          ∙ ap₂ (λ (d : ℕ) (t : Signed). made s (eqb (at s (at (chain s h) k + 2)) 1) (at s (at (chain s h) k + 1)) d t)
          (label_same c.called μ (at s (at (chain s h) k + 1)) (at s (at (chain s h) k + 3)) k (1024 + k) (sym (names_record ws c.name c.called k)))
          (record_rows (cell_types s (at s (at (chain s h) k + 4))) (cells_in k l z));
    };
    nodes = record {
      known = λ n l z. node_sort s μ c.σ n (state_at (types_of ws) n) (m n) z (reading-node s ws μ c.σ c.π c.τ n l);
      root = λ n l z own. reading-node s ws μ c.σ c.π c.τ n l ∙ node_over n (state_at (types_of ws) n) (subst (λ k. ChildrenIn (length (types_of ws)) (state_at (types_of ws) k)) own (whole n (known_in ws n z)).2) z;
    };
    errors = errors;
  }

  -- Arguments of the same terms mean the same.
  pub agree : (p q : Query) → p.n ≡ q.n → q.n ≤ 4 → AllIn (length (table s h)) (query_of p).1 → AllIn (length (types_of ws)) (query_of q).1 → values s c.τ (query_of p).1 ≡ values s c.σ (query_of q).1 → Agree s m ws p q
  agree p q en few a b e = record {
    same = λ k l.
        let x = type_of_word (at p.args k) in
        let y = type_of_word (at q.args k) in
        let u : x.1 < length (table s h) = query_in p (omega arith) (length (table s h)) k a (omega arith) in
        let v : y.1 < length (types_of ws) = query_in q few (length (types_of ws)) k b l in
        ap (λ w. means s m (2048 + w % 2048)) (sym (word_type (at p.args k)))
        ∙ sym (record_value x (omega (arith, u, size)))
        ∙ ap (value s c.τ) (sym (query_type p (omega arith) k (omega arith)))
        ∙ values_at s c.τ c.σ (query_of p).1 (query_of q).1 e k (omega (arith, query_length p (omega arith)))
        ∙ ap (value s c.σ) (query_type q few k l)
        ∙ root_value y v;
  }

-- What refs mean by terms that a source and the question's table have in common.
unfoldable pub common_meaning : (s ws : Words) (xs ys : List Ty) (src : Types) → SignedCommon s (types_of ws) src xs ys → SignedSol
common_meaning s ws xs ys src c = reading s ws (names ws c.name c.called) c.σ c.π c.τ

-- Where the arguments clash there are no terms that they have in common; for a candidate, such that what is loose is not its own inverse.
pub never_common : (s ws : Words) (h : ℕ) → length (chain s h) ≤ 1024 → WellFormed (table s h) → WellFormed (types_of ws) → (p q : Query) → p.n ≡ q.n → q.n ≤ 4 → AllIn (length (table s h)) (query_of p).1 → AllIn (length (types_of ws)) (query_of q).1 →
    (g : Bool) → Clashing g s (chain s h) ws p q true → (c : SignedCommon s (types_of ws) (table s h) (query_of p).1 (query_of q).1) → (g ≡ true → LooseMeaning s (chain s h) ws p q (common_meaning s ws (query_of p).1 (query_of q).1 (table s h) c)) → (g ≡ true → Brought s (chain s h) ws p q) → ⊥
unfolding common_meaning
never_common s ws h short formed whole p q en few a b g k c free brought =
    k.clash refl (reading s ws (names ws c.name c.called) c.σ c.π c.τ)
    (meaning s ws h short formed whole (query_of p).1 (query_of q).1 c)
    free
    brought
    (agree s ws h short formed whole (query_of p).1 (query_of q).1 c p q en few a b c.same)
