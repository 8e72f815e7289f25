-- What a sheet that passes 8 promises: ids name records, parents come before their children, and every edge of the candidate graph leads to a node.
use Prim.Native.Nat.{ℕ, zero, suc, ◌+◌, ◌*◌, ◌/◌, ◌%◌, ◌≤◌, ◌<◌}
use Rattle.std.specs.Prelude.{◌≡◌, Bool, length, get_or}
use Rattle.std.proofs.Math.Path.{refl}
use Rattle.std.proofs.Common.{sym, ◌∙◌, ap, subst, le_of_suc-le-suc, not-suc-le-zero, zero-add, add-zero, add-suc, suc-add}
use Rattle.std.proofs.Math.Bool.{true, false}
use mathlib.Core.List.{List, [], ◌∷◌, ◌++◌, map}
use Rattle.std.proofs.Math.Option.{none, some}
use native.Mathlib.Omega.{arith}
use Rattle.std.proofs.Math.Dec.{T, eqb, ltb→lt, leb→le}
use Rattle.std.proofs.lemmas.List.{length-map}
use Rattle.rules.specs.Lists.{Words, all, concat_map, range, optional, optional_list}
use Rattle.rules.specs.Limits.{limit_definitions, limit_impls}
use Rattle.rules.specs.Layout.{header_definitions, header_generics, header_traits, header_impls, header_opaques, header_structs, header_enums, header_unions, header_closures, header_imports, header_prelude, header_fork, header_drop, header_duplicate, header_erase, binding_vis, binding_impl, member_vis, member_import, member_id, import_definition, flag_named}
use Rattle.rules.specs.Sheet.{at, import_def, records, field, parent, trait_vis, def_trait, bindings, named_members, implicit_members, trait_def, impl_flag, impl_trait, many}
use Rattle.rules.specs.Candidates.{direct, within_def, within_ancestors, get_member, Edge, member_edges, binding_edges, for_each_child, edges, node_count, graph}
use Rattle.rules.specs.Values.{is_id, is_optional, binding_ok, member_ok, definition_ok, definitions_ok, trait_ok, impl_ok, args_ok, import_ok, generics_ok, opaque_ok, struct_ok, closure_ok, flex_trait_ok, sheet_values}
use Rattle.rules.specs.Members.{In, first, later, all_in, all_get}
pub use Rattle.rules.specs.CheckLaws.{both, part}

-- The parts of 8: the limits, prelude?, fork?, drop?, duplicate?, erase?, and the record of each id.
pub record Valid (s : Words) : Type 0 where
  pub definition_count : many s header_definitions ≤ limit_definitions
  pub impl_count : many s header_impls ≤ limit_impls
  pub prelude : at s header_prelude ≤ many s header_definitions
  pub fork : T (flex_trait_ok s (at s header_fork))
  pub drop : T (flex_trait_ok s (at s header_drop))
  pub duplicate : at s header_duplicate ≤ many s header_impls
  pub erase : at s header_erase ≤ many s header_impls
  pub definitions : (d : ℕ) → d < many s header_definitions → T (definition_ok s d (at (records s header_definitions) d))
  pub generics : (g : ℕ) → g < many s header_generics → T (generics_ok s (at (records s header_generics) g))
  pub traits : (t : ℕ) → t < many s header_traits → T (trait_ok s (at (records s header_traits) t))
  pub impls : (i : ℕ) → i < many s header_impls → T (impl_ok s (at (records s header_impls) i))
  pub opaques : (o : ℕ) → o < many s header_opaques → T (opaque_ok s (at (records s header_opaques) o))
  pub structs : (o : ℕ) → o < many s header_structs → T (struct_ok s (at (records s header_structs) o))
  pub enums : (o : ℕ) → o < many s header_enums → T (opaque_ok s (at (records s header_enums) o))
  pub unions : (o : ℕ) → o < many s header_unions → T (struct_ok s (at (records s header_unions) o))
  pub closures : (o : ℕ) → o < many s header_closures → T (closure_ok s (at (records s header_closures) o))
  pub imports : (i : ℕ) → i < many s header_imports → T (import_ok s (at (records s header_imports) i))

definitions_at : (s : Words) (d : ℕ) (ps : Words) → T (definitions_ok s d ps) → (n : ℕ) → n < length ps → T (definition_ok s (n + d) (get_or ps n 0))
unfolding definitions_ok
definitions_at s d [] t n h = absurd (not-suc-le-zero h)
definitions_at s d (p ∷ ps) t zero h = subst (λ k. T (definition_ok s k p)) (sym (zero-add d)) (both (definition_ok s d p) (definitions_ok s (suc d) ps) t).0
definitions_at s d (p ∷ ps) t (suc n) h = subst (λ k. T (definition_ok s k (get_or ps n 0))) (add-suc n d ∙ sym (suc-add n d)) (definitions_at s (suc d) ps (both (definition_ok s d p) (definitions_ok s (suc d) ps) t).1 n (le_of_suc-le-suc h))

-- A sheet that passes 8 has them.
pub valid : (s : Words) → T (sheet_values s) → Valid s
unfolding sheet_values many is_optional
valid s t = let h = part _ t in record {
  definition_count = leb→le (length (records s header_definitions)) limit_definitions (h 0);
  impl_count = leb→le (length (records s header_impls)) limit_impls (h 1);
  prelude = leb→le (at s header_prelude) (length (records s header_definitions)) (h 2);
  fork = h 3;
  drop = h 4;
  duplicate = leb→le (at s header_duplicate) (length (records s header_impls)) (h 5);
  erase = leb→le (at s header_erase) (length (records s header_impls)) (h 6);
  definitions = λ d l. subst (λ k. T (definition_ok s k (at (records s header_definitions) d))) (add-zero d) (definitions_at s 0 (records s header_definitions) (h 7) d l);
  generics = λ g l. all_get (generics_ok s) (records s header_generics) g 0 (h 8) l;
  traits = λ t l. all_get (trait_ok s) (records s header_traits) t 0 (h 9) l;
  impls = λ i l. all_get (impl_ok s) (records s header_impls) i 0 (h 10) l;
  opaques = λ o l. all_get (opaque_ok s) (records s header_opaques) o 0 (h 11) l;
  structs = λ o l. all_get (struct_ok s) (records s header_structs) o 0 (h 12) l;
  enums = λ o l. all_get (opaque_ok s) (records s header_enums) o 0 (h 13) l;
  unions = λ o l. all_get (struct_ok s) (records s header_unions) o 0 (h 14) l;
  closures = λ o l. all_get (closure_ok s) (records s header_closures) o 0 (h 15) l;
  imports = λ i l. all_get (import_ok s) (records s header_imports) i 0 (h 16) l;
}

-- Edges that all lead below N.
abbrev Leads : ℕ → List Edge → Type 0
Leads N [] = Unit {0}
Leads N (e ∷ es) = (e.1 < N) × Leads N es

leads-append : (N : ℕ) (xs ys : List Edge) → Leads N xs → Leads N ys → Leads N (xs ++ ys)
leads-append N [] ys h k = k
leads-append N (x ∷ xs) ys h k = (h.0, leads-append N xs ys h.1 k)

leads_concat : (N : ℕ) (f : ℕ → List Edge) (g : ℕ → Bool) → ((p : ℕ) → T (g p) → Leads N (f p)) → (ps : Words) → T (all g ps) → Leads N (concat_map f ps)
unfolding concat_map all
leads_concat N f g h [] t = tt
leads_concat N f g h (p ∷ ps) t = go (g p) refl t (leads_concat N f g h ps)
  where
    go : (b : Bool) → g p ≡ b → T (all g (p ∷ ps)) → (T (all g ps) → Leads N (concat_map f ps)) → Leads N (concat_map f (p ∷ ps))
    go true e u ih = leads-append N (f p) (concat_map f ps) (h p (subst T (sym e) tt)) (ih (rw (e, all) at u))
    go false e u ih = absurd (rw (e, all) at u)

leads_opt : (N m : ℕ) (f : ℕ → Edge) → ((t : ℕ) → t < m → (f t).1 < N) → (w : ℕ) → w ≤ m → Leads N (map f (optional_list w))
unfolding optional_list
leads_opt N m f h zero l = tt
leads_opt N m f h (suc t) l = (h t l, tt)

leads_in : (N : ℕ) (es : List Edge) → Leads N es → (e : Edge) → In e es → e.1 < N
leads_in N es h e i = go e es i h
  where
    go : (e : Edge) (es : List Edge) → In e es → Leads N es → e.1 < N
    go e es first h = h.0
    go e es (later {xs = us} i) h = go e us i h.1

range_length : (i n : ℕ) → length (range i n) ≡ n
unfolding range
range_length i zero = refl
range_length i (suc n) = ap suc (range_length (suc i) n)

-- Element y of what f gives from i on.
range_get : {A : Type 0} (f : ℕ → List A) (i n y : ℕ) → y < n → get_or (map f (range i n)) y [] ≡ f (i + y)
unfolding range
range_get f i zero y h = absurd (not-suc-le-zero h)
range_get f i (suc n) zero h = ap f (sym (add-zero i))
range_get f i (suc n) (suc y) h = range_get f (suc i) n y (le_of_suc-le-suc h) ∙ ap f (suc-add i y ∙ sym (add-suc i y))

-- The graph has as many places as there are nodes.
pub graph-length : (s : Words) → length (graph s) ≡ node_count s
unfolding graph
graph-length s = length-map (range 0 (node_count s)) (edges s) ∙ range_length 0 (node_count s)

-- At the place of a node stand its edges.
pub graph_at : (s : Words) (x : ℕ) → x < node_count s → get_or (graph s) x [] ≡ edges s x
unfolding graph
graph_at s x h = range_get (edges s) 0 (node_count s) x h ∙ ap (edges s) (zero-add x)

module _ (s : Words) (v : Valid s) where
  -- A trait's definition is there.
  pub trait_def_in : (t : ℕ) → t < many s header_traits → trait_def s t < many s header_definitions
  unfolding trait_ok is_id trait_def field
  trait_def_in t h = ltb→lt _ (many s header_definitions) (part _ (v.traits t h) 0)

  -- An impl's trait? is 0 or names a trait.
  pub impl_trait_in : (i : ℕ) → i < many s header_impls → impl_trait s i ≤ many s header_traits
  unfolding impl_ok args_ok is_optional impl_trait field
  impl_trait_in i h = leb→le _ (many s header_traits) (part _ (part _ (v.impls i h) 3) 0)

  -- An import's definition? is 0 or names a definition.
  pub import_def_in : (i : ℕ) → i < many s header_imports → import_def s i ≤ many s header_definitions
  unfolding import_ok is_optional field import_def
  import_def_in i h = leb→le _ (many s header_definitions) (v.imports i h)

  N : ℕ
  N = 3 * many s header_definitions

  into_trait : (t : ℕ) → t < many s header_traits → within_def (trait_def s t) < N
  unfolding N
  into_trait t h = omega (arith, trait_def_in t h)

  lead_binding : (b : Bool) (m : ℕ) → T (binding_ok s m) → Leads N (binding_edges s b m)
  unfolding binding_edges binding_ok is_id
  lead_binding b m t = go (impl_flag s flag_named (at s (m + binding_impl))) refl b
    where
      there : Leads N (map (λ t. (at s (m + binding_vis), within_def (trait_def s t))) (optional_list (impl_trait s (at s (m + binding_impl)))))
      there = leads_opt N (many s header_traits) (λ t. (at s (m + binding_vis), within_def (trait_def s t))) into_trait (impl_trait s (at s (m + binding_impl))) (impl_trait_in (at s (m + binding_impl)) (ltb→lt _ (many s header_impls) (part _ t 1)))

      go : (f : Bool) → impl_flag s flag_named (at s (m + binding_impl)) ≡ f → (c : Bool) → Leads N (binding_edges s c m)
      go true e true = rw (e, binding_edges) there
      go true e false = rw (e, binding_edges) tt
      go false e true = rw (e, binding_edges) tt
      go false e false = rw (e, binding_edges) there

  lead_member : (m : ℕ) → T (member_ok s m) → Leads N (member_edges s m)
  unfolding member_edges get_member member_ok is_id N import_def
  lead_member m t = go (eqb (at s (m + member_import)) 0) refl (part _ t 2)
    where
      go : (b : Bool) → eqb (at s (m + member_import)) 0 ≡ b → T (elim b as (λ x. Bool) [ true ↦ is_id s header_definitions (at s (m + member_id)) | false ↦ is_id s header_imports (at s (m + member_id)) ]) → Leads N (member_edges s m)
      go true e u = rw (e, member_edges, get_member) (omega (arith, ltb→lt (at s (m + member_id)) (many s header_definitions) u), tt)
      go false e u = rw (e, member_edges, get_member) (leads_opt N (many s header_definitions) (λ d. (at s (m + member_vis), direct d)) (λ d h. omega arith) (field s header_imports (at s (m + member_id)) import_definition) (import_def_in (at s (m + member_id)) (ltb→lt (at s (m + member_id)) (many s header_imports) u)))

  module _ (d : ℕ) (h : d < many s header_definitions) where
    -- A parent's id is below the definition's own.
    pub parent_low : parent s d ≤ d
    unfolding definition_ok parent field
    parent_low = leb→le _ d (part _ (v.definitions d h) 0)

    -- Its trait? is 0 or names a trait.
    pub trait_here : def_trait s d ≤ many s header_traits
    unfolding definition_ok is_optional def_trait field
    trait_here = leb→le _ (many s header_traits) (part _ (v.definitions d h) 2)

    lead_bindings : (b : Bool) → Leads N (concat_map (binding_edges s b) (bindings s d))
    unfolding definition_ok bindings field
    lead_bindings b = leads_concat N (binding_edges s b) (binding_ok s) (lead_binding b) (bindings s d) (part _ (v.definitions d h) 3)

    lead_named : Leads N (concat_map (member_edges s) (named_members s d))
    unfolding definition_ok named_members field
    lead_named = leads_concat N (member_edges s) (member_ok s) lead_member (named_members s d) (part _ (v.definitions d h) 4)

    lead_implicit : Leads N (concat_map (member_edges s) (implicit_members s d))
    unfolding definition_ok implicit_members field
    lead_implicit = leads_concat N (member_edges s) (member_ok s) lead_member (implicit_members s d) (part _ (v.definitions d h) 5)

    lead_edges : (l : ℕ) → Leads N (for_each_child s d l)
    unfolding for_each_child N optional
    lead_edges zero =
        leads-append N (map (λ t. (trait_vis s d, within_def (trait_def s t))) (optional_list (def_trait s d)) ++ concat_map (binding_edges s true) (bindings s d)) (concat_map (member_edges s) (implicit_members s d))
        (leads-append N (map (λ t. (trait_vis s d, within_def (trait_def s t))) (optional_list (def_trait s d))) (concat_map (binding_edges s true) (bindings s d))
        (leads_opt N (many s header_traits) (λ t. (trait_vis s d, within_def (trait_def s t))) into_trait (def_trait s d) trait_here) (lead_bindings true)) lead_implicit
    lead_edges (suc zero) = (omega arith, leads-append N (concat_map (member_edges s) (named_members s d)) (concat_map (binding_edges s false) (bindings s d)) lead_named (lead_bindings false))
    lead_edges (suc (suc l)) = (omega arith, go (parent s d) refl)
      where
        go : (w : ℕ) → parent s d ≡ w → Leads N (elim (optional w) as (λ o. List Edge) [ some p ↦ (0, within_ancestors p) ∷ [] | none ↦ map (λ p. (0, within_def p)) (optional_list (at s header_prelude)) ])
        go zero e = leads_opt N (many s header_definitions) (λ p. (0, within_def p)) (λ p k. omega arith) (at s header_prelude) v.prelude
        go (suc p) e = (omega (arith, parent_low), tt)

    -- The impl of a definition's binding is one of the sheet's.
    pub binding_impl_in : (b : ℕ) → In b (bindings s d) → at s (b + binding_impl) < many s header_impls
    unfolding definition_ok binding_ok is_id bindings field
    binding_impl_in b i = ltb→lt _ (many s header_impls) (part _ (all_in (binding_ok s) (bindings s d) (part _ (v.definitions d h) 3) b i) 1)

  -- Every edge of the candidate graph leads from a node to a node.
  pub edges_lead : (x : ℕ) → x < node_count s → (e : Edge) → In e (edges s x) → e.1 < node_count s
  unfolding edges node_count N
  edges_lead x h e i = leads_in (node_count s) (edges s x) (lead_edges (x / 3) (omega arith) (x % 3)) e i
