-- Components against Tarjan (1972): two nodes share a component exactly if each reaches the other along edges. For every checked sheet.
use Rattle.std.specs.Prelude.{ℕ, zero, suc, ◌/◌, ◌%◌, ◌<◌, ◌≡◌, [], ◌∷◌, ◌⊎◌, ◌↔◌, T, eqb, length, get_or}
use Rattle.std.proofs.Common.{suc-le-suc, zero-lt-suc, sym, ap₂, subst, inl, inr, arith, eqb→eq}
use Rattle.std.proofs.Math.Dec.{eqb_refl}
use Rattle.rules.specs.Lists.{Words, any}
use Rattle.rules.specs.Reach.{reach, marks_of}
use Rattle.rules.specs.Candidates.{direct, within_def, within_ancestors, Edge, Graph, for_each_child, edges, node_count, graph, linked, same_component}
use Rattle.rules.specs.Admission.{EdgeFrom, Reaches, arrived, along}
use Rattle.rules.specs.CheckLaws.{Checked}
use Rattle.rules.proofs.CheckLaws.{passed}
use Rattle.rules.specs.CheckedSheet.{Valid, valid, graph-length, graph_at, edges_lead}
use Rattle.rules.specs.Members.{In, first, in_cases, in_empty, any_in, and_iff}
use Rattle.rules.specs.ReachLaws.{From, here, then, closure_paths, marks_in, marks_length}

-- A node is a definition and a level, and its edges are those of `for_each_child` for them: direct,
pub edges-direct : (s : Words) (d : ℕ) → edges s (direct d) ≡ for_each_child s d 0
unfolding edges
edges-direct s d = ap₂ (for_each_child s) (let e : direct d / 3 ≡ d = omega arith in e) (let e : direct d % 3 ≡ 0 = omega arith in e)

-- within,
pub edges-within : (s : Words) (d : ℕ) → edges s (within_def d) ≡ for_each_child s d 1
unfolding edges
edges-within s d = ap₂ (for_each_child s) (let e : within_def d / 3 ≡ d = omega arith in e) (let e : within_def d % 3 ≡ 1 = omega arith in e)

-- and within ancestors.
pub edges-ancestors : (s : Words) (d : ℕ) → edges s (within_ancestors d) ≡ for_each_child s d 2
unfolding edges
edges-ancestors s d = ap₂ (for_each_child s) (let e : within_ancestors d / 3 ≡ d = omega arith in e) (let e : within_ancestors d % 3 ≡ 2 = omega arith in e)

-- A path and a path from where it ends are a path.
pub reaches_on : {s : Words} {x y z : ℕ} → Reaches s x y → Reaches s y z → Reaches s x z
reaches_on p arrived = p
reaches_on p (along q e) = along (reaches_on p q) e

-- The graph links x to y exactly if an edge leads from x to y.
pub linked_edge : (s : Words) (x y : ℕ) → x < node_count s → T (linked (graph s) x y) ↔ ((v : ℕ) × EdgeFrom s x v y)
unfolding linked
linked_edge s x y h = rw (graph_at s x h) (there, back)
  where
    a : T (any (λ e. eqb e.1 y) (edges s x)) ↔ ((e : Edge) × In e (edges s x) × T (eqb e.1 y))
    a = any_in (λ e. eqb e.1 y) (edges s x)

    there : T (any (λ e. eqb e.1 y) (edges s x)) → (v : ℕ) × EdgeFrom s x v y
    there t = let r = a.0 t in (r.0.0, subst (λ z. In (r.0.0, z) (edges s x)) (eqb→eq r.0.1 y r.2) r.1)

    back : (v : ℕ) × EdgeFrom s x v y → T (any (λ e. eqb e.1 y) (edges s x))
    back r = a.1 ((r.0, y), r.1, eqb_refl y)

rows_below : (g : Graph) (x : ℕ) (e : Edge) → In e (get_or g x []) → x < length g
rows_below [] x e h = absurd (in_empty h)
rows_below (es ∷ g) zero e h = zero-lt-suc (length g)
rows_below (es ∷ g) (suc x) e h = suc-le-suc (rows_below g x e h)

-- The graph has links from nodes alone.
pub linked_from : (s : Words) (x y : ℕ) → T (linked (graph s) x y) → x < node_count s
unfolding linked
linked_from s x y t = let r = (any_in (λ (e : Edge). eqb e.1 y) (get_or (graph s) x [])).0 t in subst (λ n. x < n) (graph-length s) (rows_below (graph s) x r.0 r.1)

module _ (s : Words) (c : Checked s) where
  values : Valid s
  values = valid s (passed s c).values

  -- An edge from a node leads to a node.
  pub edge_to : (x : ℕ) → x < node_count s → (vis y : ℕ) → EdgeFrom s x vis y → y < node_count s
  edge_to x h vis y e = edges_lead s values x h (vis, y) e

  -- So the graph's links lead to places in it: proved from the checks, and not assumed of the sheet.
  pub linked_to : (x y : ℕ) → T (linked (graph s) x y) → y < length (graph s)
  linked_to x y t =
      let l = linked_from s x y t in
      let r = (linked_edge s x y l).0 t in
      subst (λ n. y < n) (sym (graph-length s)) (edge_to x l r.0 y r.1)

  -- From a node paths lead to nodes.
  pub reaches_node : {x y : ℕ} → x < node_count s → Reaches s x y → y < node_count s
  reaches_node h arrived = h
  reaches_node h (along {y} {v = vis} {z} p e) = edge_to y (reaches_node h p) vis z e

  reach_there : (x y : ℕ) → From (linked (graph s)) (marks_of (length (graph s)) (x ∷ [])) y → Reaches s x y
  reach_there x y (here t) = go (in_cases ((marks_in (length (graph s)) (x ∷ []) y).0 t).0)
    where
      go : (y ≡ x) ⊎ In y [] → Reaches s x y
      go (inl e) = subst (Reaches s x) (sym e) arrived
      go (inr i) = absurd (in_empty i)
  reach_there x y (then {y = z} p t) = along (reach_there x z p) ((linked_edge s z y (linked_from s z y t)).0 t).1

  reach-back : (x y : ℕ) → x < node_count s → Reaches s x y → From (linked (graph s)) (marks_of (length (graph s)) (x ∷ [])) y
  reach-back x y h arrived = here ((marks_in (length (graph s)) (x ∷ []) x).1 (first, subst (λ n. x < n) (sym (graph-length s)) h))
  reach-back x y h (along {y = z} {v = vis} p e) = then (reach-back x z h p) ((linked_edge s z y (reaches_node h p)).1 (vis, e))

  -- `reach`: what is computed from a node is what a path from it reaches.
  pub reach_paths : (x y : ℕ) → x < node_count s → T (reach (length (graph s)) (linked (graph s)) x y) ↔ Reaches s x y
  unfolding reach
  reach_paths x y h =
      let p = closure_paths (linked (graph s)) (length (graph s)) (marks_of (length (graph s)) (x ∷ [])) (marks_length (length (graph s)) (x ∷ [])) linked_to y in
      (λ t. reach_there x y (p.0 t), λ r. p.1 (reach-back x y h r))

  -- Two nodes share a component exactly if each reaches the other along edges.
  pub components : (x y : ℕ) → x < node_count s → y < node_count s → T (same_component (graph s) x y) ↔ (Reaches s x y × Reaches s y x)
  unfolding same_component
  components x y hx hy =
      let b = and_iff (reach (length (graph s)) (linked (graph s)) x y) (reach (length (graph s)) (linked (graph s)) y x) in
      let p = reach_paths x y hx in
      let q = reach_paths y x hy in
      (λ t. let r = b.0 t in (p.0 r.0, q.0 r.1), λ r. b.1 (p.1 r.0, q.1 r.1))

  -- So sharing a component is an equivalence, and the components part the nodes. Every node is in its own component;
  pub component_refl : (x : ℕ) → x < node_count s → T (same_component (graph s) x x)
  component_refl x h = (components x x h h).1 (arrived, arrived)

  -- it does not matter which of two is asked;
  pub component_sym : (x y : ℕ) → x < node_count s → y < node_count s → T (same_component (graph s) x y) → T (same_component (graph s) y x)
  component_sym x y hx hy t = let r = (components x y hx hy).0 t in (components y x hy hx).1 (r.1, r.0)

  -- and two components that have a node in common are one.
  pub component_trans : (x y z : ℕ) → x < node_count s → y < node_count s → z < node_count s → T (same_component (graph s) x y) → T (same_component (graph s) y z) → T (same_component (graph s) x z)
  component_trans x y z hx hy hz t u =
      let p = (components x y hx hy).0 t in
      let q = (components y z hy hz).0 u in
      (components x z hx hz).1 (reaches_on p.0 q.0, reaches_on q.1 p.1)
