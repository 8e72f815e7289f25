-- Document 01, "One question": results, built-ins, impl parameters, candidates, sub-questions, and the refusals 14 to 19 where they are met.
use Rattle.std.specs.Prelude.{ℕ, zero, suc, ◌+◌, ◌/◌, ◌%◌, Bool, true, false, not, ◌&&◌, ◌||◌, List, [], ◌∷◌, ◌++◌, map, eqb, ltb, length, get_or, take, replicate}
use Rattle.std.proofs.Math.Option.{Option, none, some}
use Rattle.rules.specs.Lists.{Words, range, optional, optional_list}
use Rattle.rules.specs.Limits.{limit_nodes, limit_results, limit_tree_nodes}
use Rattle.rules.specs.Layout.{header_opaques, header_structs, header_enums, header_unions, header_closures, header_fork, header_drop, header_duplicate, header_erase, impl_param_trait, impl_param_args, owner_definition, closure_flex, flex_fork, flex_drop, tree_param, tree_def, tree_fork_closure, tree_drop_closure, kind_opaque, kind_struct, kind_enum, kind_union, kind_fn, kind_closure, kind_ref, kind_default, kind_error}
use Rattle.rules.specs.Sheet.{at, field, type_params, generics_table, impl_param_records, trait_def, inherent_params, impl_generics, impl_trait, impl_table, impl_args}
use Rattle.rules.specs.Types.{Ty, TypeState, unknown, known, Types, success, failure, indeterminate, ImplType, kind, unify_impl_type, approx_eq}
use Rattle.rules.specs.Transfer.{import_impl_type, import_impl_types, cell_types, new_nodes, table}
use Rattle.rules.specs.Candidates.{within_def, within_ancestors, get_candidates}
use Rattle.rules.specs.Run.{Run, done, stop, asks, ◌>>=◌}

-- `Finder`: the sheet, the source and its generics.
pub record Finder : Type 0 where
  pub sheet : Words
  pub source : ℕ
  pub generics : ℕ

-- `TirImpl`s in a row, laid out as the answer has them: the first one's kind (1 Param, 2 Def, 3 ForkClosure, 4 DropClosure), its id and its children, and the trees after it.
pub data Trees : Type 0 where
  end : Trees
  tree : ℕ → ℕ → Trees → Trees → Trees

-- How many nodes they have.
unfoldable pub tree_size : Trees → ℕ
tree_size end = 0
tree_size (tree k i c n) = suc (tree_size c + tree_size n)

-- A tree without children.
abbrev pub leaf : ℕ → ℕ → Trees
leaf k i = tree k i end end

-- A result, `TypeCtx`: the types as it leaves them, and its tree (or, of sub-questions, its trees).
abbrev pub Result : Type 0
Result = Types × Trees

-- Results added behind results, one by one. 16: a fifth; 17: one whose trees have over 256 nodes.
unfoldable pub add_results : List Result → List Result → Run (List Result)
add_results fs [] = done fs
add_results fs (g ∷ gs) =
    elim (ltb (length fs) limit_results) [
      | false ↦ stop 16
      | true ↦ elim (ltb limit_tree_nodes (tree_size g.1)) [ true ↦ stop 17 | false ↦ add_results (fs ++ (g ∷ [])) gs ]
    ]

-- List by list: all results of one come before the next is asked.
unfoldable pub collect : {B : Type 0} → (B → Run (List Result)) → List B → List Result → Run (List Result)
collect f [] fs = done fs
collect f (b ∷ bs) fs = f b >>= λ gs. add_results fs gs >>= λ hs. collect f bs hs

-- 14: a `Types` would pass 256 nodes.
unfoldable pub check_nodes : {B : Type 0} → Types → Run B → Run B
check_nodes ts r = elim (ltb limit_nodes (length ts)) [ true ↦ stop 14 | false ↦ r ]

-- An impl's signature, `sigs.impls`, with its table.
unfoldable pub impl_signature : Words → ℕ → Types × ImplType
impl_signature s i = (table s (impl_table s i), (impl_trait s i, cell_types s (impl_args s i)))

-- The impl parameters of generics, `sigs.impl_params`, with their table.
unfoldable pub impl_params : Words → ℕ → Types × List ImplType
impl_params s g = (table s (generics_table s g), map (λ p. (at s (p + impl_param_trait), cell_types s (at s (p + impl_param_args)))) (impl_param_records s g))

-- `find_auto_impls_fork` and `_drop`: an upright Fn, or Default either way, gives duplicate or erase where set (header word h);
-- an upright closure with that flex (bit b) gives its own (tree kind k).
unfoldable pub find_auto_impl : Words → ℕ → ℕ → ℕ → TypeState → List Trees
find_auto_impl s h b k unknown = []
find_auto_impl s h b k (known inv kd id cs) =
    elim (eqb kd kind_default || (eqb kd kind_fn && not inv)) [
      | true ↦ map (leaf tree_def) (optional_list (at s h))
      | false ↦ elim (eqb kd kind_closure && not inv && eqb ((field s header_closures id closure_flex / b) % 2) 1) [ true ↦ leaf k id ∷ [] | false ↦ [] ]
    ]

-- `find_auto_impls`: one trait set as both counts as Fork.
unfoldable pub find_auto_impls : Words → Types → ImplType → List Trees
find_auto_impls s ts q =
    let st = kind ts (get_or q.1 0 (false, 0)) in
    elim (eqb q.0 0) [
      | true ↦ []
      | false ↦ elim (eqb q.0 (at s header_fork)) [
        | true ↦ find_auto_impl s header_duplicate flex_fork tree_fork_closure st
        | false ↦ elim (eqb q.0 (at s header_drop)) [ true ↦ find_auto_impl s header_erase flex_drop tree_drop_closure st | false ↦ [] ]
      ]
    ]

-- The generics' impl parameters that unify with the question, from parameter n on.
unfoldable pub from_impl_params : Finder → Types → ImplType → ℕ → List ImplType → List Result → Run (List Result)
from_impl_params a ts q n [] fs = done fs
from_impl_params a ts q n (p ∷ ps) fs =
    elim (approx_eq q p) [
      | false ↦ from_impl_params a ts q (suc n) ps fs
      | true ↦
          let w = import_impl_type (impl_params a.sheet a.generics).0 none p ts in
          let m = unify_impl_type a.sheet w.1 w.0 q in
          check_nodes w.1 (elim m.0 [
            | success ↦ (add_results fs ((m.1, leaf tree_param n) ∷ []) >>= λ gs. from_impl_params a ts q (suc n) ps gs)
            | failure ↦ from_impl_params a ts q (suc n) ps fs
            | indeterminate ↦ from_impl_params a ts q (suc n) ps fs
          ])
    ]

-- `get_mod`: the module of a type, looked for through Ref, to k levels: its within node, or none. 19: an Error type where a module is sought.
unfoldable pub get_mod_in : ℕ → Words → Types → Ty → Run Words
get_mod_in zero s ts t = done []
get_mod_in (suc k) s ts t =
    elim (kind ts t) [
      | unknown ↦ done []
      | known inv kd id cs ↦
          elim (eqb kd kind_error) [
            | true ↦ stop 19
            | false ↦ elim (eqb kd kind_ref) [
              | true ↦ get_mod_in k s ts (get_or cs 0 (false, 0))
              | false ↦ done (map (λ h. within_def (field s h id owner_definition)) (owners kd))
            ]
          ]
    ]
  where
    -- the chain of the records that say where a kind's types are defined
    owners : ℕ → Words
    owners kd =
        elim (eqb kd kind_opaque) [
          | true ↦ header_opaques ∷ []
          | false ↦ elim (eqb kd kind_struct) [
            | true ↦ header_structs ∷ []
            | false ↦ elim (eqb kd kind_enum) [ true ↦ header_enums ∷ [] | false ↦ elim (eqb kd kind_union) [ true ↦ header_unions ∷ [] | false ↦ [] ] ]
          ]
        ]

-- `get_mod`: no way down is longer than the table.
unfoldable pub get_mod : Words → Types → Ty → Run Words
get_mod s ts t = get_mod_in (suc (length ts)) s ts t

-- The modules of the inherent arguments, in order. An unknown one is 18 whatever the count.
unfoldable pub inherent_mods : Words → Types → List Ty → Run Words
inherent_mods s ts [] = done []
inherent_mods s ts (t ∷ us) =
    elim (kind ts t) [ unknown ↦ stop 18 | known inv kd id cs ↦ get_mod s ts t >>= λ ns. inherent_mods s ts us >>= λ ms. done (ns ++ ms) ]

-- `find_impl_candidates`: from the source's general set, the set within the trait's definition, and within the module of each inherent argument.
unfoldable pub find_impl_candidates : Finder → Types → ImplType → Bool → Run Words
find_impl_candidates a ts q basic =
    elim (optional q.0) [
      | none ↦ done []
      | some t ↦
          inherent_mods a.sheet ts (take (inherent_params a.sheet t) q.1) >>= λ ns.
          done (get_candidates a.sheet a.source (within_ancestors a.source ∷ within_def (trait_def a.sheet t) ∷ ns) t basic)
    ]

-- The first of some trees, with other trees after it.
unfoldable pub before : Trees → Trees → Trees
before end us = us
before (tree k i c n) us = tree k i c us

-- `find_subimpls`: sub-questions from left to right, each asked of every result of those before it. `ask` is the question one level down.
unfoldable pub find_subimpls : (Types → ImplType → Run (List Result)) → Types → List ImplType → Run (List Result)
find_subimpls ask ts [] = done ((ts, end) ∷ [])
find_subimpls ask ts (q ∷ qs) =
    ask ts q >>= λ rs.
    collect (λ r. find_subimpls ask r.0 qs >>= λ us. done (map (λ u. (u.0, before r.1 u.1)) us)) rs []

-- The types that stand for n type parameters, behind a table.
unfoldable pub fresh_params : Types → ℕ → List Ty
fresh_params ts n = map (λ k. (false, k)) (range (length ts) n)

-- The table with n fresh unknowns behind it, `new_var`.
unfoldable pub with_fresh : Types → ℕ → Types
with_fresh ts n = ts ++ new_nodes (length ts) (replicate n unknown)

-- One candidate impl: fresh unknowns stand for its type parameters, its signature must unify with the question, and its impl parameters are asked.
unfoldable pub try_candidate : (Types → ImplType → Run (List Result)) → Words → Types → ImplType → ℕ → Run (List Result)
try_candidate ask s ts q i =
    let g = impl_generics s i in
    let n = type_params s g in
    let ps : Option (List Ty) = some (fresh_params ts n) in
    let w = import_impl_type (impl_signature s i).0 ps (impl_signature s i).1 (with_fresh ts n) in
    let m = unify_impl_type s w.1 w.0 q in
    let d = import_impl_types (impl_params s g).0 ps (impl_params s g).1 m.1 in
    check_nodes w.1 (elim m.0 [
      | success ↦ check_nodes d.1 (find_subimpls ask d.1 d.0 >>= λ rs. done (map (λ r. (r.0, tree tree_def i r.1 end)) rs))
      | failure ↦ done []
      | indeterminate ↦ done []
    ])

-- Built-in fork and drop, then the impl parameters: basic skips both.
unfoldable pub before_candidates : Finder → Bool → Types → ImplType → Run (List Result)
before_candidates a true ts q = done []
before_candidates a false ts q =
    add_results [] (map (λ t. (ts, t)) (find_auto_impls a.sheet ts q)) >>= λ fs.
    from_impl_params a ts q 0 (impl_params a.sheet a.generics).1 fs

-- A question, `_find_impl`, with d levels left for it and what it asks: built-ins, impl parameters, candidates by id. Sub-questions are never basic. 15: none is left.
unfoldable pub question : ℕ → Finder → Bool → Types → ImplType → Run (List Result)
question zero a basic ts q = asks (stop 15)
question (suc d) a basic ts q = asks (
    before_candidates a basic ts q >>= λ fs.
    find_impl_candidates a ts q basic >>= λ is.
    collect (try_candidate (λ us r. question d a false us r) a.sheet ts q) is fs)
