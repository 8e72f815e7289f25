-- Where a candidate's signature unifies with the question, no unknown of the question and no parameter whose label nothing known has becomes its own inverse, however types that would have to be the same are labelled.
use Rattle.std.specs.Prelude.{ℕ, zero, suc, ◌+◌, ◌-◌, ◌<◌, ◌≤◌, ◌≡◌, Bool, List, [], map, ◌≢◌, ltb, get_or, replicate}
use Rattle.std.proofs.Math.Path.{refl, sym, ap, subst}
use Rattle.std.proofs.Common.{◌∙◌, ⊎_elim, not-suc-le-zero, lt_irrefl, arith, ltb→lt, lt→ltb}
use Rattle.std.proofs.Math.Bool.{true, false}
use Rattle.std.proofs.Math.Option.{Option, none, some, none-ne-some, some-injective}
use Rattle.std.proofs.Math.Dec.{T, eqb, eqb→eq}
use Rattle.std.proofs.Math.ListN.{length}
use Rattle.std.proofs.lemmas.List.{length-replicate, get_or-replicate}
use Rattle.std.proofs.Math.Seq.{get_or-append-add}
use Rattle.rules.specs.Lists.{Words, range}
use Rattle.rules.specs.Layout.{header_impls, kind_param}
use Rattle.rules.specs.Sheet.{many, impl_table}
use Rattle.rules.specs.Types.{Ty, TypeState, unknown, known, TypeNode, Types, new_node, node_at, invert_if, state_at, success, ImplType}
use Rattle.rules.specs.Transfer.{mapped, param_for, transfer_types, import_types, import_impl_type, new_nodes}
use Rattle.rules.specs.Search.{Finder, impl_signature, fresh_params, with_fresh}
use Rattle.rules.specs.Solutions.{rep, AllIn, ChildrenIn, WellFormed, eqb_true, known≢}
use Rattle.rules.specs.Pigeonholes.{lt_or}
use Rattle.rules.specs.CheckedTables.{table-flat, Ready, new_nodes_at}
use Rattle.rules.specs.Slim.{ParamBelow}
use Rattle.rules.specs.Neat.{Neat, in_more, fresh_neat, fresh-length, signature_neat, signature_in, signature_below}
use Rattle.rules.specs.SearchKeeps.{fresh_count, signed, met, signature_brought, signature_met}
use Rattle.rules.specs.CommonTerms.{fresh_first}
use Rattle.rules.specs.Labels.{labels, Labels, Unheld, impl_type_labels}
use Rattle.rules.specs.LabelsCome.{LabelsMeet, LabelsCome, labels-same, labels-come}
use Rattle.rules.specs.SignedTerms.{Signed, svar, inverse, inverse_twice, turned, value, SignedSuits, SignedCommon}
use Rattle.rules.specs.SignedImports.{SignedJoined, signed_given, candidate_joined}

-- Labels by which a source's types xs and a table's types ys are alike: f of the table's nodes, g of the source's and π of its parameters. A Param is labelled as its parameter, and the children of two known types of one label are alike, be they of the table or, but for Params, of the source.
pub record Alike (ts src : Types) (xs ys : List Ty) (f g π : ℕ → ℕ) : Type 0 where
  pub nodes : Labels f ts
  pub param : (r : ℕ) (i : Bool) (d : ℕ) (cs : List Ty) → r < length src → state_at src r ≡ known i kind_param d cs → g r ≡ π d
  pub source : (a b : ℕ) → a < length src → b < length src → g a ≡ g b → (i j : Bool) (k d k' d' : ℕ) (cs ds : List Ty) → k ≢ kind_param → k' ≢ kind_param → state_at src a ≡ known i k d cs → state_at src b ≡ known j k' d' ds → labels g cs ≡ labels g ds
  pub both : (a b : ℕ) → a < length src → b < length ts → rep ts b ≡ b → g a ≡ f b → (i j : Bool) (k d k' d' : ℕ) (cs ds : List Ty) → k ≢ kind_param → state_at src a ≡ known i k d cs → state_at ts b ≡ known j k' d' ds → labels g cs ≡ labels f ds
  pub args : labels g xs ≡ labels f ys

-- Label l is held by no known root of the table, and by no known node of the source but Params.
pub record Loose (ts src : Types) (f g : ℕ → ℕ) (l : ℕ) : Type 0 where
  pub table : Unheld f ts l
  pub source : (r : ℕ) → r < length src → g r ≡ l → (i : Bool) (k d : ℕ) (cs : List Ty) → state_at src r ≡ known i k d cs → k ≡ kind_param

-- What a source of n parameters and a table have in common, and what is loose: a node of the table or of the source, or a parameter, whose label nothing known has is not its own inverse.
pub record SignedLoose (s : Words) (ts src : Types) (n : ℕ) (xs ys : List Ty) : Type 0 where
  pub common : SignedCommon s ts src xs ys
  pub node : (f g π : ℕ → ℕ) → Alike ts src xs ys f g π → (k : ℕ) → k < length ts → Loose ts src f g (f k) → inverse s (common.σ k) ≢ common.σ k
  pub param : (f g π : ℕ → ℕ) → Alike ts src xs ys f g π → (d : ℕ) → d < n → Loose ts src f g (π d) → inverse s (common.π d) ≢ common.π d
  pub source : (f g π : ℕ → ℕ) → Alike ts src xs ys f g π → (r : ℕ) → r < length src → Loose ts src f g (g r) → inverse s (common.τ r) ≢ common.τ r

-- Node n as a type, upright.
abbrev upright : ℕ → Ty
upright n = (false, n)

range_type : (i n d : ℕ) → d < n → get_or (map upright (range i n)) d (upright 0) ≡ upright (i + d)
unfolding range
range_type i zero d h = absurd (not-suc-le-zero h)
range_type i (suc n) zero h = ap upright (omega arith)
range_type i (suc n) (suc d) h = range_type (suc i) n d (omega arith) ∙ ap upright (omega arith)

-- Fresh unknowns behind a table, and the types that stand for parameters.
module _ (ts : Types) (n : ℕ) where
  pub fresh-param : (d : ℕ) → d < n → get_or (fresh_params ts n) d (upright 0) ≡ upright (length ts + d)
  unfolding fresh_params
  fresh-param d h = range_type (length ts) n d h

  pub fresh-node : (d : ℕ) → d < n → node_at (with_fresh ts n) (length ts + d) ≡ new_node (length ts + d) unknown
  unfolding with_fresh node_at
  fresh-node d h =
      get_or-append-add ts (new_nodes (length ts) (replicate n unknown)) d (new_node 0 unknown)
      ∙ new_nodes_at (length ts) (replicate n unknown) d (subst (λ m. d < m) (sym (length-replicate {A = TypeState} n unknown)) h)
      ∙ ap (new_node (length ts + d)) (get_or-replicate {A = TypeState} n d unknown unknown h)

  -- A node behind the table: an unknown, its own root.
  fresh-after : (k : ℕ) → length ts ≤ k → k < length (with_fresh ts n) → node_at (with_fresh ts n) k ≡ new_node k unknown
  fresh-after k l h =
      let q : length ts + (k - length ts) ≡ k = omega arith in
      subst (λ m. node_at (with_fresh ts n) m ≡ new_node m unknown) q (fresh-node (k - length ts) (omega (arith, fresh-length ts n)))

  fresh-rep : (k : ℕ) → length ts ≤ k → k < length (with_fresh ts n) → rep (with_fresh ts n) k ≡ k
  unfolding rep new_node
  fresh-rep k l h = ap (λ (nd : TypeNode). nd.up.1) (fresh-after k l h)

  fresh_state : (k : ℕ) → length ts ≤ k → k < length (with_fresh ts n) → state_at (with_fresh ts n) k ≡ unknown
  unfolding state_at new_node
  fresh_state k l h = ap (λ (nd : TypeNode). nd.state) (fresh-after k l h)

  -- One of the table is as it was.
  first_rep : (k : ℕ) → k < length ts → rep (with_fresh ts n) k ≡ rep ts k
  unfolding rep
  first_rep k h = ap (λ (nd : TypeNode). nd.up.1) (fresh_first ts n k h)

  first_state : (k : ℕ) → k < length ts → state_at (with_fresh ts n) k ≡ state_at ts k
  unfolding state_at
  first_state k h = ap (λ (nd : TypeNode). nd.state) (fresh_first ts n k h)

  -- A known node is one of the table.
  known_first : (k : ℕ) → k < length (with_fresh ts n) → (i : Bool) (kd d : ℕ) (cs : List Ty) → state_at (with_fresh ts n) k ≡ known i kd d cs → k < length ts
  known_first k h i kd d cs e = ⊎_elim (λ l. l) (λ l. absurd (known≢ (sym e ∙ fresh_state k l h))) (lt_or k (length ts))

-- Labels of the first N nodes by f, of those behind them by π.
unfoldable with_labels : ℕ → (ℕ → ℕ) → (ℕ → ℕ) → ℕ → ℕ
with_labels N f π k = elim (ltb k N) [ true ↦ f k | false ↦ π (k - N) ]

label_first : (N : ℕ) (f π : ℕ → ℕ) (k : ℕ) → k < N → with_labels N f π k ≡ f k
unfolding with_labels
label_first N f π k h = go (ltb k N) refl
  where
    go : (b : Bool) → ltb k N ≡ b → with_labels N f π k ≡ f k
    go true e = rw (e, with_labels)
    go false e = absurd (subst T e (lt→ltb k N h))

label_after : (N : ℕ) (f π : ℕ → ℕ) (d : ℕ) → with_labels N f π (N + d) ≡ π d
unfolding with_labels
label_after N f π d = go (ltb (N + d) N) refl
  where
    go : (b : Bool) → ltb (N + d) N ≡ b → with_labels N f π (N + d) ≡ π d
    go true e = absurd (lt_irrefl N (omega (arith, ltb→lt (N + d) N (subst T (sym e) tt))))
    go false e = rw (e, with_labels) (ap π (omega arith))

-- What no parameter stands for is no Param.
plain-kind : (ps : List Ty) (st : TypeState) → param_for (some ps) st ≡ none → (i : Bool) (k d : ℕ) (cs : List Ty) → st ≡ known i k d cs → k ≢ kind_param
unfolding param_for
plain-kind ps st e i k d cs q z = none-ne-some _ (sym (rw (eqb_true k kind_param z, param_for) at (sym (ap (param_for (some ps)) q) ∙ e)))

-- Labels of a table and a source extend to fresh unknowns for the source's n parameters.
module _ (ts src : Types) (n : ℕ) (formed : WellFormed ts) (below : (k : ℕ) → ParamBelow n (state_at src k)) (xs ys : List Ty) (f g π : ℕ → ℕ) (alike : Alike ts src xs ys f g π) where
  abbrev by_fresh : ℕ → ℕ
  by_fresh = with_labels (length ts) f π

  first_label : (k : ℕ) → k < length ts → by_fresh k ≡ f k
  first_label = label_first (length ts) f π

  -- A known root of the table, with its children.
  record Before (k : ℕ) (st : TypeState) (cs : List Ty) : Type 0 where
    inside : k < length ts
    own : rep ts k ≡ k
    state : state_at ts k ≡ st
    same : labels by_fresh cs ≡ labels f cs

  before : (k : ℕ) → k < length (with_fresh ts n) → rep (with_fresh ts n) k ≡ k → (i : Bool) (kd d : ℕ) (cs : List Ty) → state_at (with_fresh ts n) k ≡ known i kd d cs → Before k (known i kd d cs) cs
  before k h r i kd d cs e =
      let l = known_first ts n k h i kd d cs e in
      let own : rep ts k ≡ k = sym (first_rep ts n k l) ∙ r in
      let state = sym (first_state ts n k l) ∙ e in
      record { inside = l; own = own; state = state; same = labels-same by_fresh f (length ts) first_label cs (subst (ChildrenIn (length ts)) (ap (state_at ts) own ∙ state) (formed k l).2) }

  fresh-labels : Labels by_fresh (with_fresh ts n)
  fresh-labels = record {
    up = λ k h. ⊎_elim (λ l. first_label k l ∙ alike.nodes.up k l ∙ sym (first_label (rep ts k) (formed k l).0) ∙ ap by_fresh (sym (first_rep ts n k l))) (λ l. ap by_fresh (sym (fresh-rep ts n k l h))) (lt_or k (length ts));
    closed = λ a b ha hb ra rb e i j k d k' d' cs ds p q.
        let x = before a ha ra i k d cs p in
        let y = before b hb rb j k' d' ds q in
        x.same ∙ alike.nodes.closed a b x.inside y.inside x.own y.own (sym (first_label a x.inside) ∙ e ∙ first_label b y.inside) i j k d k' d' cs ds x.state y.state ∙ sym y.same;
  }

  fresh_unheld : (l : ℕ) → Unheld f ts l → Unheld by_fresh (with_fresh ts n) l
  fresh_unheld l u = record { at = λ k h r e. ⊎_elim (λ b. first_state ts n k b ∙ u.at k b (sym (first_rep ts n k b) ∙ r) (sym (first_label k b) ∙ e)) (λ b. fresh_state ts n k b h) (lt_or k (length ts)) }

  -- What stands for a Param has its label.
  given_label : (r : ℕ) (u : Ty) → r < length src → param_for (some (fresh_params ts n)) (state_at src r) ≡ some u → (u.1 < length (with_fresh ts n)) × (g r ≡ by_fresh u.1)
  unfolding param_for invert_if
  given_label r u h q = go (state_at src r) refl (below r) q
    where
      go : (st : TypeState) → state_at src r ≡ st → ParamBelow n st → param_for (some (fresh_params ts n)) st ≡ some u → (u.1 < length (with_fresh ts n)) × (g r ≡ by_fresh u.1)
      go unknown e b w = absurd (none-ne-some u w)
      go (known i k d cs) e b w = by_kind (eqb k kind_param) refl
        where
          by_kind : (o : Bool) → eqb k kind_param ≡ o → (u.1 < length (with_fresh ts n)) × (g r ≡ by_fresh u.1)
          by_kind false z = absurd (none-ne-some u (rw (z, param_for) at w))
          by_kind true z =
              let kd : k ≡ kind_param = eqb→eq k kind_param (subst T (sym z) tt) in
              let is : u.1 ≡ length ts + d = ap (λ (t : Ty). t.1) (sym (some-injective _ _ (rw (z, param_for) at w))) ∙ ap (λ (t : Ty). t.1) (fresh-param ts n d (b kd)) in
              (omega (arith, is, b kd, fresh-length ts n), alike.param r i d cs h (e ∙ ap (λ x. known i x d cs) kd) ∙ sym (label_after (length ts) f π d) ∙ ap by_fresh (sym is))

  fresh_meets : LabelsMeet src (some (fresh_params ts n)) (with_fresh ts n) g by_fresh
  fresh_meets = record {
    nodes = fresh-labels;
    param = given_label;
    source = λ a b ha hb pa pb e i j k d k' d' cs ds p q. alike.source a b ha hb e i j k d k' d' cs ds (plain-kind (fresh_params ts n) (state_at src a) pa i k d cs p) (plain-kind (fresh_params ts n) (state_at src b) pb j k' d' ds q) p q;
    both = λ a b ha hb pa rb e i j k d k' d' cs ds p q.
        let y = before b hb rb j k' d' ds q in
        alike.both a b ha y.inside y.own (e ∙ first_label b y.inside) i j k d k' d' cs ds (plain-kind (fresh_params ts n) (state_at src a) pa i k d cs p) p y.state ∙ sym y.same;
  }

  -- A node of the source with a loose label for which no parameter stands is unknown.
  loose_source : (l : ℕ) → Loose ts src f g l → (r : ℕ) → r < length src → param_for (some (fresh_params ts n)) (state_at src r) ≡ none → g r ≡ l → state_at src r ≡ unknown
  loose_source l w r h p e = go (state_at src r) refl
    where
      go : (st : TypeState) → state_at src r ≡ st → state_at src r ≡ unknown
      go unknown q = q
      go (known i k d cs) q = absurd (plain-kind (fresh_params ts n) (state_at src r) p i k d cs q (w.source r h e i k d cs q))

-- What is not its own inverse is not so inverted; an upright unknown is not.
turned_not : (s : Words) (b : Bool) (t : Signed) → inverse s t ≢ t → inverse s (turned s b t) ≢ turned s b t
unfolding turned
turned_not s true t n e = n (sym (sym (inverse_twice s t) ∙ e))
turned_not s false t n e = n e

upright_not : (r : ℕ) → svar r true ≢ svar r false
upright_not r e = let z : ◌≡◌ {A = ℕ} 0 1 = cc in absurd (omega arith)

-- A candidate whose signature unifies with the question.
module _ (a : Finder) (w₀ : Words) (ready : Ready a w₀) (ts : Types) (q : ImplType) (neat : Neat ts) (inside : AllIn (length ts) q.1) (i : ℕ) (h : i < many a.sheet header_impls) (won : (met a.sheet ts q i).0 ≡ success) where
  abbrev n : ℕ
  n = fresh_count a.sheet i

  abbrev src : Types
  src = (impl_signature a.sheet i).0

  abbrev xs : List Ty
  xs = (impl_signature a.sheet i).1.1

  abbrev us : Types
  us = (met a.sheet ts q i).1

  -- Where a node of the source went.
  abbrev went_to : ℕ → Option Ty
  went_to = mapped (transfer_types src (some (fresh_params ts n)) xs ([], with_fresh ts n)).1.0

  src-flat : (k : ℕ) → k < length src → rep src k ≡ k
  unfolding impl_signature
  src-flat = table-flat a.sheet (impl_table a.sheet i)

  on : (k : ℕ) → k < length (with_fresh ts n) → k < length us
  on k l = omega (arith, (signature_brought a w₀ ready ts q neat inside i h).grown, (signature_met a w₀ ready ts q neat inside i h).len)

  module _ (f g π : ℕ → ℕ) (alike : Alike ts src xs q.1 f g π) where
    abbrev by_params : ℕ → ℕ
    by_params = with_labels (length ts) f π

    come : LabelsCome src (some (fresh_params ts n)) (with_fresh ts n) g by_params xs (transfer_types src (some (fresh_params ts n)) xs ([], with_fresh ts n))
    come = labels-come src (signature_neat a w₀ ready i h) src-flat (some (fresh_params ts n)) (with_fresh ts n) (fresh_neat ts n neat).proper.formed g by_params (fresh_meets ts src n neat.proper.formed (signature_below a w₀ ready i h) xs q.1 f g π alike) xs (signature_in a w₀ ready i h)

    -- The question's arguments have the labels that they had.
    asked : labels come.by q.1 ≡ labels f q.1
    asked = labels-same come.by f (length ts) (λ k l. come.old k (omega (arith, fresh-length ts n)) ∙ label_first (length ts) f π k l) q.1 inside

    left : Labels come.by us × ((l : ℕ) → Unheld come.by (signed a.sheet ts i).1 l → Unheld come.by us l)
    unfolding import_impl_type import_types
    left =
        let b = signature_brought a w₀ ready ts q neat inside i h in
        impl_type_labels a.sheet come.by (signed a.sheet ts i).1 (signed a.sheet ts i).0 q b.neat.proper.formed b.inside (in_more (length ts) (length (signed a.sheet ts i).1) (omega (arith, fresh-length ts n, b.grown)) q.1 inside) b.neat.proper.kept won
        come.nodes (come.came ∙ alike.args ∙ sym asked)

    -- A node whose label nothing known has is unknown when they have met,
    left_unknown : (l k : ℕ) → Loose ts src f g l → k < length us → come.by k ≡ l → state_at us (rep us k) ≡ unknown
    unfolding import_impl_type import_types
    left_unknown l k w b e =
        let good = (signature_met a w₀ ready ts q neat inside i h).neat.proper.formed k b in
        let unheld = come.unheld l (fresh_unheld ts src n neat.proper.formed (signature_below a w₀ ready i h) xs q.1 f g π alike l w.table) (loose_source ts src n neat.proper.formed (signature_below a w₀ ready i h) xs q.1 f g π alike l w) in
        (left.1 l unheld).at (rep us k) good.0 good.1 (sym (left.0.up k b) ∙ e)

    -- be it one that was there,
    stays_unknown : (k : ℕ) → k < length (with_fresh ts n) → Loose ts src f g (by_params k) → state_at us (rep us k) ≡ unknown
    stays_unknown k l w = left_unknown (by_params k) k w (on k l) (come.old k l)

    -- or one that came.
    came_unknown : (r : ℕ) (u : Ty) → Loose ts src f g (g r) → went_to r ≡ some u → (u.1 < length us) × (state_at us (rep us u.1) ≡ unknown)
    unfolding import_impl_type import_types
    came_unknown r u w e =
        let x = come.went r u e in
        let b : u.1 < length us = omega (arith, x.0, (signature_met a w₀ ready ts q neat inside i h).len) in
        (b, left_unknown (g r) u.1 w b x.1)

  module _ (c : SignedJoined a.sheet ts src xs q.1 us (signed_given a.sheet (fresh_params ts n)) went_to) (f g π : ℕ → ℕ) (alike : Alike ts src xs q.1 f g π) where
    loose_param : (d : ℕ) → d < n → Loose ts src f g (π d) → inverse a.sheet (c.common.π d) ≢ c.common.π d
    unfolding signed_given value turned
    loose_param d l w =
        let b : length ts + d < length (with_fresh ts n) = omega (arith, fresh-length ts n) in
        subst (λ t. inverse a.sheet t ≢ t) (sym (c.given d ∙ ap (value a.sheet c.common.σ) (fresh-param ts n d l))) (c.free (length ts + d) (on (length ts + d) b) (stays_unknown f g π alike (length ts + d) b (subst (Loose ts src f g) (sym (label_after (length ts) f π d)) w)))

    loose_unknown : (r : ℕ) → r < length src → state_at src r ≡ unknown → Loose ts src f g (g r) → inverse a.sheet (c.common.τ r) ≢ c.common.τ r
    unfolding value inverse
    loose_unknown r l e w = go (went_to r) refl
      where
        go : (o : Option Ty) → went_to r ≡ o → inverse a.sheet (c.common.τ r) ≢ c.common.τ r
        go (some u) q = let x = came_unknown f g π alike r u w q in subst (λ t. inverse a.sheet t ≢ t) (sym (c.came r u l e q)) (turned_not a.sheet u.0 (c.common.σ u.1) (c.free u.1 x.0 x.1))
        go none q = subst (λ t. inverse a.sheet t ≢ t) (sym (c.left r l e q)) (λ z. upright_not r z)

    -- A node of the source with a loose label is unknown, or a Param.
    loose_node : (r : ℕ) → r < length src → Loose ts src f g (g r) → inverse a.sheet (c.common.τ r) ≢ c.common.τ r
    loose_node r l w = go (state_at src r) refl
      where
        go : (st : TypeState) → state_at src r ≡ st → inverse a.sheet (c.common.τ r) ≢ c.common.τ r
        go unknown e = loose_unknown r l e w
        go (known o k d cs) e =
            let kd : k ≡ kind_param = w.source r l refl o k d cs e in
            let st : state_at src r ≡ known o kind_param d cs = e ∙ ap (λ x. known o x d cs) kd in
            let is : c.common.τ r ≡ turned a.sheet o (c.common.π d) = subst (SignedSuits a.sheet c.common.called c.common.π c.common.τ r) st (c.common.reads r l) in
            subst (λ t. inverse a.sheet t ≢ t) (sym is) (turned_not a.sheet o (c.common.π d) (loose_param d (subst (ParamBelow n) st (signature_below a w₀ ready i h r) refl) (subst (Loose ts src f g) (alike.param r o d cs l st) w)))

  -- There are terms with sides that both are, and what is loose is not its own inverse.
  pub candidate_loose : SignedLoose a.sheet ts src n xs q.1
  candidate_loose = record {
    common = c.common;
    node = λ f g π alike k l w.
        let b : k < length (with_fresh ts n) = omega (arith, fresh-length ts n) in
        c.free k (on k b) (stays_unknown f g π alike k b (subst (Loose ts src f g) (sym (label_first (length ts) f π k l)) w));
    param = loose_param c;
    source = loose_node c;
  }
    where
      c : SignedJoined a.sheet ts src xs q.1 us (signed_given a.sheet (fresh_params ts n)) went_to
      c = candidate_joined a w₀ ready ts q neat inside i h won
