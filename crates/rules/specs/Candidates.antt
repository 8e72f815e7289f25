-- Document 01, "One question", candidates: `for_each_child`, components, which impls a set admits for a source, and `get_candidates`.
use Rattle.std.specs.Prelude.{ℕ, zero, suc, ◌+◌, ◌*◌, ◌/◌, ◌%◌, Bool, true, false, not, ◌&&◌, List, [], ◌∷◌, ◌++◌, map, eqb, length, get_or}
use Rattle.std.proofs.Math.Option.{none, some}
use Rattle.rules.specs.Lists.{Words, any, select, concat_map, range, optional, optional_list, is_in}
use Rattle.rules.specs.Layout.{header_definitions, header_impls, header_prelude, binding_vis, binding_impl, member_vis, member_import, member_id, flag_manual, flag_basic, flag_unsafe, flag_named}
use Rattle.rules.specs.Sheet.{at, many, parent, trait_vis, def_trait, bindings, named_members, implicit_members, import_def, trait_def, impl_flag, impl_trait}
use Rattle.rules.specs.Reach.{Marks, marked, closure, marks_of, reach}

-- A node is a definition and a `Level`, as one number: 3 × definition + level. `Level::Direct`;
abbrev pub direct : ℕ → ℕ
direct d = 3 * d

-- `Level::Within`;
abbrev pub within_def : ℕ → ℕ
within_def d = 3 * d + 1

-- `Level::WithinAncestors`.
abbrev pub within_ancestors : ℕ → ℕ
within_ancestors d = 3 * d + 2

-- An edge: a vis, and the node that it leads to.
abbrev pub Edge : Type 0
Edge = ℕ × ℕ

-- `get_member`: the definition that a member names, if it names one.
unfoldable pub get_member : Words → ℕ → Words
get_member s m =
    elim (eqb (at s (m + member_import)) 0) [ true ↦ at s (m + member_id) ∷ [] | false ↦ optional_list (import_def s (at s (m + member_id))) ]

-- From a member to the direct level of its definition.
unfoldable pub member_edges : Words → ℕ → List Edge
member_edges s m = map (λ d. (at s (m + member_vis), direct d)) (get_member s m)

-- From an impl binding into the definition of its trait, where the impl is named or not as asked.
unfoldable pub binding_edges : Words → Bool → ℕ → List Edge
binding_edges s b m =
    elim (impl_flag s flag_named (at s (m + binding_impl))) as (λ x. List Edge) [ true ↦ elim b [ true ↦ go | false ↦ [] ] | false ↦ elim b [ true ↦ [] | false ↦ go ] ]
  where
    go : List Edge
    go = map (λ t. (at s (m + binding_vis), within_def (trait_def s t))) (optional_list (impl_trait s (at s (m + binding_impl))))

-- `for_each_child`: the edges of a definition's node at level 0 (direct), 1 (within) or 2 (within ancestors), in its order.
unfoldable pub for_each_child : Words → ℕ → ℕ → List Edge
for_each_child s d zero =
    map (λ t. (trait_vis s d, within_def (trait_def s t))) (optional_list (def_trait s d))
    ++ concat_map (binding_edges s true) (bindings s d)
    ++ concat_map (member_edges s) (implicit_members s d)
for_each_child s d (suc zero) =
    ((0, direct d) ∷ [])
    ++ concat_map (member_edges s) (named_members s d)
    ++ concat_map (binding_edges s false) (bindings s d)
for_each_child s d (suc (suc l)) =
    (0, within_def d)
    ∷ elim (optional (parent s d)) [
      | some p ↦ (0, within_ancestors p) ∷ []
      | none ↦ map (λ p. (0, within_def p)) (optional_list (at s header_prelude))
    ]

-- The edges of a node.
unfoldable pub edges : Words → ℕ → List Edge
edges s n = for_each_child s (n / 3) (n % 3)

-- How many nodes there are.
unfoldable pub node_count : Words → ℕ
node_count s = 3 * many s header_definitions

-- The graph: the edges of each node.
abbrev pub Graph : Type 0
Graph = List (List Edge)

-- The graph of a sheet.
unfoldable pub graph : Words → Graph
graph s = map (edges s) (range 0 (node_count s))

-- An edge leads from node x to node y.
unfoldable pub linked : Graph → ℕ → ℕ → Bool
linked g x y = any (λ e. eqb e.1 y) (get_or g x [])

-- "Nodes that reach each other share one set": x and y are in one component.
unfoldable pub same_component : Graph → ℕ → ℕ → Bool
same_component g x y = reach (length g) (linked g) x y && reach (length g) (linked g) y x

-- "Ancestors are the parent's ancestors and the definition itself": k of them at most.
unfoldable pub ancestors_of : ℕ → Words → ℕ → Words
ancestors_of zero s d = []
ancestors_of (suc k) s d = d ∷ elim (optional (parent s d)) [ none ↦ [] | some p ↦ ancestors_of k s p ]

-- The ancestors of a definition: no more than there are definitions.
unfoldable pub ancestors : Words → ℕ → Words
ancestors s d = ancestors_of (many s header_definitions) s d

-- `visible`: a vis is public or names one of the source's ancestors.
unfoldable pub visible : Words → ℕ → Bool
visible anc vis = elim (optional vis) [ none ↦ true | some d ↦ is_in d anc ]

-- An edge from x to y whose vis lets the source in.
unfoldable pub open_edge : Graph → Words → ℕ → ℕ → Bool
open_edge g anc x y = any (λ e. eqb e.1 y && visible anc e.0) (get_or g x [])

-- The source may go from node x to node y: by such an edge, or by one that stays in the component, where vis is not applied.
unfoldable pub may_take : Graph → Words → ℕ → ℕ → Bool
may_take g anc x y = elim (linked g x y) [ false ↦ false | true ↦ elim (open_edge g anc x y) [ true ↦ true | false ↦ same_component g x y ] ]

-- `add_direct_candidate`: node n binds impl i with a vis that lets the source in; a named impl at the direct level, an unnamed one within.
unfoldable pub binds : Words → Words → ℕ → ℕ → Bool
binds s anc i n =
    any (λ b. eqb (at s (b + binding_impl)) i && visible anc (at s (b + binding_vis)) && level_fits (impl_flag s flag_named i) (n % 3)) (bindings s (n / 3))
  where
    level_fits : Bool → ℕ → Bool
    level_fits true l = eqb l 0
    level_fits false l = eqb l 1

-- "Manual, unsafe and Error impls never enter."
unfoldable pub may_enter : Words → ℕ → Bool
may_enter s i = not (impl_flag s flag_manual i) && not (impl_flag s flag_unsafe i) && not (eqb (impl_trait s i) 0)

-- The nodes that the source gets to from some nodes.
unfoldable pub gets_to : Words → ℕ → Words → Marks
gets_to s src nodes =
    let g = graph s in
    let anc = ancestors s src in
    closure (length g) (may_take g anc) (marks_of (length g) nodes)

-- The impls that the sets of some nodes admit for a source, rising.
unfoldable pub admitted : Words → ℕ → Words → Words
admitted s src nodes =
    let anc = ancestors s src in
    let ms = gets_to s src nodes in
    select (λ i. may_enter s i && any (λ n. marked ms n && binds s anc i n) (range 0 (node_count s))) (range 0 (many s header_impls))

-- `get_candidates`: those among them of a trait and a basic flag.
unfoldable pub get_candidates : Words → ℕ → Words → ℕ → Bool → Words
get_candidates s src nodes t b = select (λ i. eqb (impl_trait s i) (suc t) && same (impl_flag s flag_basic i) b) (admitted s src nodes)
  where
    same : Bool → Bool → Bool
    same true c = c
    same false c = not c

-- `general_candidates`: the impls that the general set of a source admits.
unfoldable pub general_candidates : Words → ℕ → Words
general_candidates s src = admitted s src (within_ancestors src ∷ [])
