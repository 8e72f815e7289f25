-- The candidates that are computed are the impls that the sets admit, each once, by id. For every checked sheet.
use Prim.Native.Nat.{ℕ, zero, suc, ◌+◌, ◌/◌, ◌%◌, ◌<◌}
use Rattle.std.specs.Prelude.{◌≡◌, ◌&&◌, [], ◌∷◌, ◌⊎◌, ◌↔◌, ◌≢◌}
use Rattle.std.proofs.Math.Path.{refl, subst}
use Rattle.std.proofs.Common.{sym, T_not}
use Rattle.std.proofs.Math.Bool.{Bool, true, false, not}
use Rattle.std.proofs.Math.Logic.{inl, inr, ⊎_elim}
use native.Mathlib.Omega.{arith}
use Rattle.std.proofs.Math.Dec.{T, eqb, eqb→eq, eqb_refl, not_T}
use Rattle.std.proofs.Math.ListN.{length}
use Rattle.rules.specs.Lists.{Words, any, range, optional}
use Rattle.rules.specs.Layout.{header_definitions, header_traits, header_impls, binding_vis, binding_impl, flag_manual, flag_basic, flag_unsafe, flag_named}
use Rattle.rules.specs.Sheet.{at, many, bindings, trait_def, impl_flag, impl_trait}
use Rattle.rules.specs.Reach.{marked, marks_of}
use Rattle.rules.specs.Candidates.{within_def, within_ancestors, Edge, edges, node_count, graph, linked, same_component, ancestors, visible, open_edge, may_take, binds, may_enter, gets_to, admitted, get_candidates, general_candidates}
use Rattle.rules.specs.Members.{In, first, later, in_cases, in_empty, any_in, and_iff, not_iff, is_in_in, select_in, range_in, Rising, range_rising, select_rising}
use Rattle.rules.specs.ReachLaws.{From, here, then, closure_paths, marks_in, marks_length}
use Rattle.rules.specs.CheckLaws.{Checked}
use Rattle.rules.proofs.CheckLaws.{passed}
use Rattle.rules.specs.CheckedSheet.{valid, graph-length, graph_at, trait_def_in, binding_impl_in}
use Rattle.rules.specs.Admission.{EdgeFrom, Reaches, arrived, along, Together, Ancestor, LetsIn, public, names, OpenPath, stays, onward, binding_node, Binds, Admits, SomeAdmits}
use Rattle.rules.proofs.AncestorLaws.{ancestors_in}
use Rattle.rules.proofs.Components.{reaches_on, linked_edge, linked_from, edge_to, linked_to, components}

-- The level of a node, and the definition, from its number.
abbrev level : Bool → ℕ
level true = 0
level false = 1

node_of : (f : Bool) (n : ℕ) → n % 3 ≡ level f → n ≡ binding_node f (n / 3)
node_of true n e = omega arith
node_of false n e = omega arith

node_is : (f : Bool) (n d : ℕ) → n ≡ binding_node f d → (n / 3 ≡ d) × (n % 3 ≡ level f)
node_is true n d e = (omega arith, omega arith)
node_is false n d e = (omega arith, omega arith)

-- Two flags agree.
agree_iff : (f b : Bool) → T ((elim f as (λ x. Bool → Bool) [ true ↦ λ a. a | false ↦ λ a. not a ]) b) ↔ (f ≡ b)
agree_iff true true = (λ t. refl, λ e. tt)
agree_iff true false = (λ t. absurd t, λ e. subst T e tt)
agree_iff false true = (λ t. absurd t, λ e. subst T (sym e) tt)
agree_iff false false = (λ t. refl, λ e. tt)

module _ (s : Words) (c : Checked s) (src : ℕ) (h : src < many s header_definitions) where
  abbrev anc : Words
  anc = ancestors s src

  -- `visible` says which vis lets the source in.
  pub visible_iff : (v : ℕ) → T (visible (ancestors s src) v) ↔ LetsIn s src v
  unfolding visible optional
  visible_iff zero = (λ t. public, λ l. tt)
  visible_iff (suc a) = (λ t. names ((ancestors_in s c a src h).0 ((is_in_in a anc).0 t)), λ l. (is_in_in a anc).1 ((ancestors_in s c a src h).1 (named a l)))
    where
      named : (a : ℕ) → LetsIn s src (suc a) → Ancestor s a src
      named a (names x) = x

  open_iff : (x y : ℕ) → x < node_count s → T (open_edge (graph s) anc x y) ↔ ((v : ℕ) × EdgeFrom s x v y × LetsIn s src v)
  unfolding open_edge
  open_iff x y l = rw (graph_at s x l) (there, back)
    where
      test : Edge → Bool
      test e = eqb e.1 y && visible anc e.0

      there : T (any test (edges s x)) → (v : ℕ) × EdgeFrom s x v y × LetsIn s src v
      there t =
          let r = (any_in test (edges s x)).0 t in
          let b = (and_iff (eqb r.0.1 y) (visible anc r.0.0)).0 r.2 in
          (r.0.0, subst (λ z. In (r.0.0, z) (edges s x)) (eqb→eq r.0.1 y b.0) r.1, (visible_iff r.0.0).0 b.1)

      back : (v : ℕ) × EdgeFrom s x v y × LetsIn s src v → T (any test (edges s x))
      back r = (any_in test (edges s x)).1 ((r.0, y), r.1, (and_iff (eqb y y) (visible anc r.0)).1 (eqb_refl y, (visible_iff r.0).1 r.2))

  -- What the source may take is an edge that stays in the component, or whose vis lets it in.
  take_there : (x y : ℕ) → T (may_take (graph s) anc x y) → (v : ℕ) × EdgeFrom s x v y × (Together s x y ⊎ LetsIn s src v)
  unfolding may_take
  take_there x y t = go (linked (graph s) x y) refl (open_edge (graph s) anc x y) refl t
    where
      go : (b : Bool) → linked (graph s) x y ≡ b → (o : Bool) → open_edge (graph s) anc x y ≡ o → T (may_take (graph s) anc x y) → (v : ℕ) × EdgeFrom s x v y × (Together s x y ⊎ LetsIn s src v)
      go false e o f u = absurd (rw (e, may_take) at u)
      go true e true f u =
          let l = linked_from s x y (subst T (sym e) tt) in
          let r = (open_iff x y l).0 (subst T (sym f) tt) in
          (r.0, r.1, inr r.2)
      go true e false f u =
          let l = linked_from s x y (subst T (sym e) tt) in
          let r = (linked_edge s x y l).0 (subst T (sym e) tt) in
          (r.0, r.1, inl ((components s c x y l (edge_to s c x l r.0 y r.1)).0 (rw (e, f, may_take) at u)))

  take-linked : (x y : ℕ) → T (may_take (graph s) anc x y) → T (linked (graph s) x y)
  unfolding may_take
  take-linked x y t = go (linked (graph s) x y) refl t
    where
      go : (b : Bool) → linked (graph s) x y ≡ b → T (may_take (graph s) anc x y) → T (linked (graph s) x y)
      go true e u = subst T (sym e) tt
      go false e u = absurd (rw (e, may_take) at u)

  take_back : (x v y : ℕ) → x < node_count s → EdgeFrom s x v y → Together s x y ⊎ LetsIn s src v → T (may_take (graph s) anc x y)
  unfolding may_take
  take_back x v y l e w = go (linked (graph s) x y) refl (open_edge (graph s) anc x y) refl w
    where
      go : (b : Bool) → linked (graph s) x y ≡ b → (o : Bool) → open_edge (graph s) anc x y ≡ o → Together s x y ⊎ LetsIn s src v → T (may_take (graph s) anc x y)
      go false q o f u = absurd (subst T q ((linked_edge s x y l).1 (v, e)))
      go true q true f u = rw (q, f, may_take) tt
      go true q false f (inl g) = rw (q, f, may_take) ((components s c x y l (edge_to s c x l v y e)).1 g)
      go true q false f (inr g) = absurd (subst T f ((open_iff x y l).1 (v, e, g)))

  -- Open paths from nodes lead to nodes.
  pub open_node : {x y : ℕ} → x < node_count s → OpenPath s src x y → y < node_count s
  open_node l stays = l
  open_node l (onward {y} {v} {z} p e w) = edge_to s c y (open_node l p) v z e

  to_there : (nodes : Words) (m : ℕ) → From (may_take (graph s) anc) (marks_of (length (graph s)) nodes) m → (n : ℕ) × In n nodes × (n < node_count s) × OpenPath s src n m
  to_there nodes m (here t) = let r = (marks_in (length (graph s)) nodes m).0 t in (m, r.0, subst (λ k. m < k) (graph-length s) r.1, stays)
  to_there nodes m (then {y} p t) =
      let r = to_there nodes y p in
      let k = take_there y m t in
      (r.0, r.1, r.2, onward r.3 k.1 k.2)

  to_back : (nodes : Words) (n m : ℕ) → In n nodes → n < node_count s → OpenPath s src n m → From (may_take (graph s) anc) (marks_of (length (graph s)) nodes) m
  to_back nodes n m i l stays = here ((marks_in (length (graph s)) nodes n).1 (i, subst (λ k. n < k) (sym (graph-length s)) l))
  to_back nodes n m i l (onward {y} {v} p e w) = then (to_back nodes n y i l p) (take_back y v m (open_node l p) e w)

  -- `gets_to`: where an open path leads from some node among these.
  pub gets_to_iff : (nodes : Words) (m : ℕ) → T (marked (gets_to s src nodes) m) ↔ ((n : ℕ) × In n nodes × (n < node_count s) × OpenPath s src n m)
  unfolding gets_to
  gets_to_iff nodes m =
      let p = closure_paths (may_take (graph s) anc) (length (graph s)) (marks_of (length (graph s)) nodes) (marks_length (length (graph s)) nodes) taken m in
      (λ t. to_there nodes m (p.0 t), λ r. p.1 (to_back nodes r.0 m r.1 r.2 r.3))
    where
      taken : (y z : ℕ) → T (may_take (graph s) anc y z) → z < length (graph s)
      taken y z t = linked_to s c y z (take-linked y z t)

  binds_there : (i n : ℕ) (f : Bool) → impl_flag s flag_named i ≡ f → (b : ℕ) → In b (bindings s (n / 3)) → T (eqb (at s (b + binding_impl)) i && visible anc (at s (b + binding_vis)) && eqb (n % 3) (level f)) → Binds s src n i
  binds_there i n f e b m t =
      let p = (and_iff (eqb (at s (b + binding_impl)) i && visible anc (at s (b + binding_vis))) (eqb (n % 3) (level f))).0 t in
      let q = (and_iff (eqb (at s (b + binding_impl)) i) (visible anc (at s (b + binding_vis)))).0 p.0 in
      record {
        definition = n / 3;
        node = rw e (node_of f n (eqb→eq (n % 3) (level f) p.1));
        binding = b;
        stands = m;
        impl = eqb→eq (at s (b + binding_impl)) i q.0;
        vis = (visible_iff (at s (b + binding_vis))).0 q.1;
      }

  binds-back : (i n : ℕ) (f : Bool) → impl_flag s flag_named i ≡ f → (w : Binds s src n i) → In w.binding (bindings s (n / 3)) × T (eqb (at s (w.binding + binding_impl)) i && visible anc (at s (w.binding + binding_vis)) && eqb (n % 3) (level f))
  binds-back i n f e w =
      let k = node_is f n w.definition (subst (λ g. n ≡ binding_node g w.definition) e w.node) in (
        rw k.0 w.stands,
        (and_iff (eqb (at s (w.binding + binding_impl)) i && visible anc (at s (w.binding + binding_vis))) (eqb (n % 3) (level f))).1 (
          (and_iff (eqb (at s (w.binding + binding_impl)) i) (visible anc (at s (w.binding + binding_vis)))).1
              (rw w.impl (eqb_refl i), (visible_iff (at s (w.binding + binding_vis))).1 w.vis),
          rw k.1 (eqb_refl (level f)),
        ),
      )

  -- `binds` says which node binds an impl with a vis that lets the source in.
  pub binds_iff : (i n : ℕ) → T (binds s (ancestors s src) i n) ↔ Binds s src n i
  unfolding binds
  binds_iff i n = go (impl_flag s flag_named i) refl
    where
      test : Bool → ℕ → Bool
      test f b = eqb (at s (b + binding_impl)) i && visible anc (at s (b + binding_vis)) && eqb (n % 3) (level f)

      tested : (f : Bool) → impl_flag s flag_named i ≡ f → T (any (test f) (bindings s (n / 3))) ↔ Binds s src n i
      tested f e =
          let a = any_in (test f) (bindings s (n / 3)) in
          (λ t. let r = a.0 t in binds_there i n f e r.0 r.1 r.2, λ w. let r = binds-back i n f e w in a.1 (w.binding, r.0, r.1))

      go : (f : Bool) → impl_flag s flag_named i ≡ f → T (binds s anc i n) ↔ Binds s src n i
      go true e = rw (e, binds) (tested true e)
      go false e = rw (e, binds) (tested false e)

  -- An impl that a node binds is one of the sheet's.
  binds_in : (n i : ℕ) → n < node_count s → Binds s src n i → i < many s header_impls
  unfolding node_count
  binds_in n i l w = subst (λ k. k < many s header_impls) w.impl (binding_impl_in s (valid s (passed s c).values) w.definition (below (impl_flag s flag_named i) w.node) w.binding w.stands)
    where
      below : (f : Bool) → n ≡ binding_node f w.definition → w.definition < many s header_definitions
      below true e = omega arith
      below false e = omega arith

  -- So is an impl that the set of a node admits.
  pub admits_in : (n i : ℕ) → n < node_count s → Admits s src n i → i < many s header_impls
  admits_in n i l w = binds_in w.end i (open_node l w.path) w.binds

  -- "Manual, unsafe and Error impls never enter."
  enter_iff : (i : ℕ) → T (may_enter s i) ↔ ((impl_flag s flag_manual i ≡ false) × (impl_flag s flag_unsafe i ≡ false) × (impl_trait s i ≢ 0))
  unfolding may_enter
  enter_iff i = (there, back)
    where
      a : T (may_enter s i) ↔ (T (not (impl_flag s flag_manual i) && not (impl_flag s flag_unsafe i)) × T (not (eqb (impl_trait s i) 0)))
      a = and_iff (not (impl_flag s flag_manual i) && not (impl_flag s flag_unsafe i)) (not (eqb (impl_trait s i) 0))

      b : T (not (impl_flag s flag_manual i) && not (impl_flag s flag_unsafe i)) ↔ (T (not (impl_flag s flag_manual i)) × T (not (impl_flag s flag_unsafe i)))
      b = and_iff (not (impl_flag s flag_manual i)) (not (impl_flag s flag_unsafe i))

      there : T (may_enter s i) → (impl_flag s flag_manual i ≡ false) × (impl_flag s flag_unsafe i ≡ false) × (impl_trait s i ≢ 0)
      there t =
          let p = a.0 t in
          let q = b.0 p.0 in
          ((not_iff (impl_flag s flag_manual i)).0 q.0, (not_iff (impl_flag s flag_unsafe i)).0 q.1, λ e. T_not (eqb (impl_trait s i) 0) p.1 (rw e (eqb_refl 0)))

      back : (impl_flag s flag_manual i ≡ false) × (impl_flag s flag_unsafe i ≡ false) × (impl_trait s i ≢ 0) → T (may_enter s i)
      back r = a.1 (b.1 ((not_iff (impl_flag s flag_manual i)).1 r.0, (not_iff (impl_flag s flag_unsafe i)).1 r.1), not_T (eqb (impl_trait s i) 0) (λ t. r.2 (eqb→eq (impl_trait s i) 0 t)))

  module _ (nodes : Words) where
    admitted_there : (i : ℕ) → In i (admitted s src nodes) → SomeAdmits s src nodes i
    unfolding admitted
    admitted_there i u =
        let t = ((select_in _ (range 0 (many s header_impls)) i).0 u).1 in
        let p = (and_iff (may_enter s i) (any (λ n. marked (gets_to s src nodes) n && binds s anc i n) (range 0 (node_count s)))).0 t in
        let m = (any_in (λ n. marked (gets_to s src nodes) n && binds s anc i n) (range 0 (node_count s))).0 p.1 in
        let q = (and_iff (marked (gets_to s src nodes) m.0) (binds s anc i m.0)).0 m.2 in
        let r = (gets_to_iff nodes m.0).0 q.0 in
        let e = (enter_iff i).0 p.0 in
        (r.0, r.1, r.2, record { end = m.0; path = r.3; binds = (binds_iff i m.0).0 q.1; not_manual = e.0; not_unsafe = e.1; not_error = e.2 })

    admitted-back : (i n : ℕ) → In n nodes → n < node_count s → Admits s src n i → In i (admitted s src nodes)
    unfolding admitted
    admitted-back i n u l w =
        let k = open_node l w.path in
        let m = (gets_to_iff nodes w.end).1 (n, u, l, w.path) in
        let b = (and_iff (marked (gets_to s src nodes) w.end) (binds s anc i w.end)).1 (m, (binds_iff i w.end).1 w.binds) in
        let t = (any_in (λ n. marked (gets_to s src nodes) n && binds s anc i n) (range 0 (node_count s))).1 (w.end, (range_in 0 (node_count s) w.end).1 (omega arith, omega arith), b) in
        let j = admits_in n i l w in
        let e = (enter_iff i).1 (w.not_manual, w.not_unsafe, w.not_error) in
        (select_in _ (range 0 (many s header_impls)) i).1 ((range_in 0 (many s header_impls) i).1 (omega arith, omega arith), (and_iff (may_enter s i) (any (λ n. marked (gets_to s src nodes) n && binds s anc i n) (range 0 (node_count s)))).1 (e, t))

    -- The computed list holds exactly the impls to which the set of some node among these admits the source.
    pub admission : (i : ℕ) → In i (admitted s src nodes) ↔ SomeAdmits s src nodes i
    admission i = (admitted_there i, λ r. admitted-back i r.0 r.1 r.2 r.3)

    -- `get_candidates`: those of a trait and a basic flag.
    pub candidates : (t : ℕ) (b : Bool) (i : ℕ) → In i (get_candidates s src nodes t b) ↔ (SomeAdmits s src nodes i × (impl_trait s i ≡ suc t) × (impl_flag s flag_basic i ≡ b))
    unfolding get_candidates
    candidates t b i = (there, back)
      where
        there : In i (get_candidates s src nodes t b) → SomeAdmits s src nodes i × (impl_trait s i ≡ suc t) × (impl_flag s flag_basic i ≡ b)
        there u =
            let r = (select_in _ (admitted s src nodes) i).0 u in
            let p = (and_iff (eqb (impl_trait s i) (suc t)) _).0 r.1 in
            ((admission i).0 r.0, eqb→eq (impl_trait s i) (suc t) p.0, (agree_iff (impl_flag s flag_basic i) b).0 p.1)

        back : SomeAdmits s src nodes i × (impl_trait s i ≡ suc t) × (impl_flag s flag_basic i ≡ b) → In i (get_candidates s src nodes t b)
        back r =
            (select_in _ (admitted s src nodes) i).1
            ((admission i).1 r.0, (and_iff (eqb (impl_trait s i) (suc t)) _).1 (rw r.1 (eqb_refl (suc t)), (agree_iff (impl_flag s flag_basic i) b).1 r.2))

  -- The source's general node is a node.
  general_node : within_ancestors src < node_count s
  unfolding node_count
  general_node = omega arith

  trait_node : (t : ℕ) → t < many s header_traits → within_def (trait_def s t) < node_count s
  unfolding node_count
  trait_node t l = omega (arith, trait_def_in s (valid s (passed s c).values) t l)

  -- `general_candidates`: the impls to which the source's general set admits it.
  pub general : (i : ℕ) → In i (general_candidates s src) ↔ Admits s src (within_ancestors src) i
  unfolding general_candidates
  general i = let a = admission (within_ancestors src ∷ []) i in (λ u. there (a.0 u), λ w. a.1 (within_ancestors src, first, general_node, w))
    where
      there : SomeAdmits s src (within_ancestors src ∷ []) i → Admits s src (within_ancestors src) i
      there r = ⊎_elim (λ e. subst (λ n. Admits s src n i) e r.3) (λ k. absurd (in_empty k)) (in_cases r.1)

  -- "Candidates of a trait and basic flag come from three places": the general set, the set within the trait's definition, and those of further nodes, within the modules of the inherent arguments.
  pub three_places :
      (t : ℕ) → t < many s header_traits → (ns : Words) (b : Bool) (i : ℕ) →
      In i (get_candidates s src (within_ancestors src ∷ within_def (trait_def s t) ∷ ns) t b)
      ↔ ((Admits s src (within_ancestors src) i ⊎ (Admits s src (within_def (trait_def s t)) i ⊎ SomeAdmits s src ns i)) × (impl_trait s i ≡ suc t) × (impl_flag s flag_basic i ≡ b))
  three_places t l ns b i = let a = candidates (within_ancestors src ∷ within_def (trait_def s t) ∷ ns) t b i in (λ u. let r = a.0 u in (there r.0, r.1, r.2), λ r. a.1 (back r.0, r.1, r.2))
    where
      there : SomeAdmits s src (within_ancestors src ∷ within_def (trait_def s t) ∷ ns) i → Admits s src (within_ancestors src) i ⊎ (Admits s src (within_def (trait_def s t)) i ⊎ SomeAdmits s src ns i)
      there r =
          ⊎_elim (λ e. inl (subst (λ n. Admits s src n i) e r.3))
          (λ k. inr (⊎_elim (λ e. inl (subst (λ n. Admits s src n i) e r.3)) (λ m. inr (r.0, m, r.2, r.3)) (in_cases k)))
          (in_cases r.1)

      back : Admits s src (within_ancestors src) i ⊎ (Admits s src (within_def (trait_def s t)) i ⊎ SomeAdmits s src ns i) → SomeAdmits s src (within_ancestors src ∷ within_def (trait_def s t) ∷ ns) i
      back (inl w) = (within_ancestors src, first, general_node, w)
      back (inr (inl w)) = (within_def (trait_def s t), later first, trait_node t l, w)
      back (inr (inr r)) = (r.0, later (later r.1), r.2, r.3)

-- The list rises: each impl once, by id.
pub admitted_rises : (s : Words) (src : ℕ) (nodes : Words) → Rising (admitted s src nodes)
unfolding admitted
admitted_rises s src nodes = select_rising _ (range 0 (many s header_impls)) (range_rising 0 (many s header_impls))

-- So does that of a trait and a basic flag.
pub candidates_rise : (s : Words) (src : ℕ) (nodes : Words) (t : ℕ) (b : Bool) → Rising (get_candidates s src nodes t b)
unfolding get_candidates
candidates_rise s src nodes t b = select_rising _ (admitted s src nodes) (admitted_rises s src nodes)

-- And that of the general set.
pub general_rises : (s : Words) (src : ℕ) → Rising (general_candidates s src)
unfolding general_candidates
general_rises s src = admitted_rises s src (within_ancestors src ∷ [])

-- Open paths join; between nodes that reach each other every path is open.
open_on : {s : Words} {src x y z : ℕ} → OpenPath s src x y → OpenPath s src y z → OpenPath s src x z
open_on p stays = p
open_on p (onward q e w) = onward (open_on p q) e w

together_open : {s : Words} {src x y : ℕ} → Reaches s x y → Reaches s y x → OpenPath s src x y
together_open arrived b = stays
together_open (along p e) b = onward (together_open p (reaches_on (along arrived e) b)) e (inl (along arrived e, reaches_on b p))

-- "Nodes that reach each other share one set": what the set of one admits, the set of the other does.
pub one_set : {s : Words} {src x y i : ℕ} → Together s x y → Admits s src x i → Admits s src y i
one_set g w = record { end = w.end; path = open_on (together_open g.1 g.0) w.path; binds = w.binds; not_manual = w.not_manual; not_unsafe = w.not_unsafe; not_error = w.not_error }

-- The same from the other side: an edge is open if its vis lets the source in wherever the edge leaves the component.
pub leaving : (s : Words) → Checked s → (src x v y : ℕ) → x < node_count s → y < node_count s → (Together s x y ⊎ LetsIn s src v) ↔ ((Together s x y → ⊥) → LetsIn s src v)
leaving s c src x v y hx hy = (λ w. λ n. ⊎_elim (λ g. absurd (n g)) (λ l. l) w, go (same_component (graph s) x y) refl)
  where
    k : T (same_component (graph s) x y) ↔ Together s x y
    k = components s c x y hx hy

    go : (b : Bool) → same_component (graph s) x y ≡ b → ((Together s x y → ⊥) → LetsIn s src v) → Together s x y ⊎ LetsIn s src v
    go true e f = inl (k.0 (subst T (sym e) tt))
    go false e f = inr (f (λ g. subst T e (k.1 g)))
