-- Tables stay neat through the whole search: for a call that no check from 6 to 13 refuses, every table of every result of every question is neat, and no smaller than the table asked,
-- so that all its types are still nodes of it. One lemma for each definition of the search; `ask`, the question one level down, is a parameter with a hypothesis.
use Rattle.std.specs.Prelude.{ℕ, zero, suc, ◌+◌, ◌≤◌, ◌<◌, ◌≡◌, Bool, length, take}
use Rattle.std.proofs.Math.Path.{refl}
use Rattle.std.proofs.Math.Bool.{true, false}
use mathlib.Core.List.{List, [], ◌∷◌, ◌++◌, map}
use Rattle.std.proofs.Math.Option.{Option, none, some}
use Rattle.std.proofs.Math.Nat.{le_refl}
use Rattle.std.proofs.Common.{arith}
use Rattle.std.proofs.Math.Dec.{ltb}
use Rattle.rules.specs.Lists.{Words, range, optional}
use Rattle.rules.specs.Limits.{limit_nodes, limit_results, limit_tree_nodes}
use Rattle.rules.specs.Layout.{header_impls, tree_param}
use Rattle.rules.specs.Sheet.{many, type_params, trait_def, inherent_params, impl_generics}
use Rattle.rules.specs.Types.{Types, UnifyResult, success, failure, indeterminate, Unified, ImplType, unify_impl_type, approx_eq}
use Rattle.rules.specs.Transfer.{import_impl_type, import_impl_types}
use Rattle.rules.specs.Candidates.{within_def, within_ancestors, admitted, get_candidates}
use Rattle.rules.specs.Run.{Run, ◌>>=◌}
use Rattle.rules.specs.Search.{Finder, Trees, tree_size, leaf, Result, add_results, collect, check_nodes, impl_signature, impl_params, find_auto_impls, from_impl_params, inherent_mods, find_impl_candidates, fresh_params, with_fresh, before_candidates}
use Rattle.rules.specs.Robinson.{AllIn}
use Rattle.rules.specs.CheckedTables.{Ready}
use Rattle.rules.specs.Yields.{Every, every_append, every_select, Yields, yields_bind, yields_any}
use Rattle.rules.specs.TransferCount.{row}
use Rattle.rules.specs.Neat.{Neat, QueriesIn, in_more, Brought, Joined, low_none, query_brought, query_under, queries_under, unify_query_neat, fresh_neat, fresh-length, impl_generics_in, signature_neat, signature_in, signature_plain, impl_params_neat, impl_params_in, impl_params-plain}

-- Adding results, and collecting them list by list, adds nothing that was not there.
module _ (P : Result → Type 0) where
  add_keeps : (fs gs : List Result) → Every P fs → Every P gs → Yields (Every P) (add_results fs gs)
  unfolding add_results
  add_keeps fs [] h k = h
  add_keeps fs (g ∷ gs) h k = go (ltb (length fs) limit_results) refl (ltb limit_tree_nodes (tree_size g.1)) refl (add_keeps (fs ++ (g ∷ [])) gs (every_append P fs (g ∷ []) h (k.0, tt)) k.1)
    where
      go : (b : Bool) → ltb (length fs) limit_results ≡ b → (c : Bool) → ltb limit_tree_nodes (tree_size g.1) ≡ c → Yields (Every P) (add_results (fs ++ (g ∷ [])) gs) → Yields (Every P) (add_results fs (g ∷ gs))
      go false e c q ih = rw (e, add_results) tt
      go true e true q ih = rw (e, q, add_results) tt
      go true e false q ih = rw (e, q, add_results) ih

  pub collect_keeps : {B : Type 0} (Q : B → Type 0) (f : B → Run (List Result)) → ((b : B) → Q b → Yields (Every P) (f b)) → (bs : List B) (fs : List Result) → Every Q bs → Every P fs → Yields (Every P) (collect f bs fs)
  unfolding collect
  collect_keeps Q f each [] fs h k = k
  collect_keeps Q f each (b ∷ bs) fs h k =
      yields_bind (Every P) (Every P) (f b) (λ gs. add_results fs gs >>= λ hs. collect f bs hs) (each b h.0) λ gs m.
      yields_bind (Every P) (Every P) (add_results fs gs) (λ hs. collect f bs hs) (add_keeps fs gs k m) λ hs n. collect_keeps Q f each bs hs h.1 n

-- Where 14 does not end it, a run goes on.
pub nodes_keep : {B : Type 0} (P : B → Type 0) (ts : Types) (r : Run B) → Yields P r → Yields P (check_nodes ts r)
unfolding check_nodes
nodes_keep P ts r h = go (ltb limit_nodes (length ts)) refl
  where
    go : (b : Bool) → ltb limit_nodes (length ts) ≡ b → Yields P (check_nodes ts r)
    go true e = rw (e, check_nodes) tt
    go false e = rw (e, check_nodes) h

-- A result of a question of table ts: its table is neat, and has at least the nodes of ts.
pub record Kept (ts : Types) (r : Result) : Type 0 where
  pub neat : Neat r.0
  pub grown : length ts ≤ length r.0

-- So are all of some results.
abbrev pub AllKept : Types → List Result → Type 0
AllKept ts fs = Every (Kept ts) fs

range_below : (i n N : ℕ) → i + n ≤ N → Every (λ k. k < N) (range i n)
unfolding range
range_below i zero N h = tt
range_below i (suc n) N h = (omega arith, range_below (suc i) n N (omega arith))

get_in : (s : Words) (src : ℕ) (nodes : Words) (t : ℕ) (b : Bool) → Every (λ i. i < many s header_impls) (get_candidates s src nodes t b)
unfolding get_candidates admitted
get_in s src nodes t b =
    every_select (λ i. i < many s header_impls) _ (admitted s src nodes)
    (every_select (λ i. i < many s header_impls) _ (range 0 (many s header_impls)) (range_below 0 (many s header_impls) (many s header_impls) (omega arith)))

-- Candidates are impls of the sheet.
pub candidates_in : (a : Finder) (ts : Types) (q : ImplType) (basic : Bool) → Yields (Every (λ i. i < many a.sheet header_impls)) (find_impl_candidates a ts q basic)
unfolding find_impl_candidates
candidates_in a ts q basic = go (optional q.0) refl
  where
    go : (o : Option ℕ) → optional q.0 ≡ o → Yields (Every (λ i. i < many a.sheet header_impls)) (find_impl_candidates a ts q basic)
    go none e = rw (e, find_impl_candidates) tt
    go (some t) e =
        rw (e, find_impl_candidates)
        (yields_bind (λ (ns : Words). Unit {0}) (Every (λ i. i < many a.sheet header_impls)) (inherent_mods a.sheet ts (take (inherent_params a.sheet t) q.1)) _ (yields_any (inherent_mods a.sheet ts (take (inherent_params a.sheet t) q.1)))
        (λ ns u. get_in a.sheet a.source (within_ancestors a.source ∷ within_def (trait_def a.sheet t) ∷ ns) t basic))

-- A sub-question keeps tables: what `ask` is to do.
abbrev pub Asks : (Types → ImplType → Run (List Result)) → Type 0
Asks ask = (us : Types) (r : ImplType) → Neat us → AllIn (length us) r.1 → Yields (AllKept us) (ask us r)

-- The tables of one candidate: how many fresh unknowns it takes, its signature's import behind them, the join with the question, and the import of its impl parameters.
abbrev pub fresh_count : Words → ℕ → ℕ
fresh_count s i = type_params s (impl_generics s i)

abbrev pub signed : Words → Types → ℕ → ImplType × Types
signed s ts i = import_impl_type (impl_signature s i).0 (some (fresh_params ts (fresh_count s i))) (impl_signature s i).1 (with_fresh ts (fresh_count s i))

abbrev pub met : Words → Types → ImplType → ℕ → Unified
met s ts q i = unify_impl_type s (signed s ts i).1 (signed s ts i).0 q

abbrev pub needs : Words → Types → ImplType → ℕ → List ImplType × Types
needs s ts q i = import_impl_types (impl_params s (impl_generics s i)).0 (some (fresh_params ts (fresh_count s i))) (impl_params s (impl_generics s i)).1 (met s ts q i).1

-- For a call that passed 6 to 13: a question, of a neat table and with types of it.
module _ (a : Finder) (w₀ : Words) (ready : Ready a w₀) (ts : Types) (q : ImplType) (neat : Neat ts) (inside : AllIn (length ts) q.1) where
  -- One candidate.
  module _ (i : ℕ) (h : i < many a.sheet header_impls) where
    abbrev g : ℕ
    g = impl_generics a.sheet i

    abbrev pub n : ℕ
    n = fresh_count a.sheet i

    -- Its signature comes into a neat table,
    pub signature_brought : Brought (with_fresh ts n) (signed a.sheet ts i).0.1 (signed a.sheet ts i).1
    signature_brought = query_under (impl_signature a.sheet i).0 (signature_neat a w₀ ready i h) ts n (signature_plain a w₀ ready i h) (with_fresh ts n) (fresh_neat ts n neat) (omega (arith, fresh-length ts n)) (impl_signature a.sheet i).1 (signature_in a w₀ ready i h)

    -- the join with the question leaves one, whatever it comes to,
    pub signature_met : Joined (signed a.sheet ts i).1 (met a.sheet ts q i).1
    signature_met = unify_query_neat a.sheet (signed a.sheet ts i).1 (signed a.sheet ts i).0 q signature_brought.neat signature_brought.inside (in_more (length ts) (length (signed a.sheet ts i).1) (omega (arith, fresh-length ts n, signature_brought.grown)) q.1 inside)

    -- and so does the import of its impl parameters, whose types are nodes of it: the sub-questions.
    pub needs-brought : Brought (met a.sheet ts q i).1 (row (needs a.sheet ts q i).0) (needs a.sheet ts q i).1
    needs-brought = queries_under (impl_params a.sheet g).0 (impl_params_neat a w₀ ready g (impl_generics_in a w₀ ready i h)) ts n (impl_params-plain a w₀ ready g (impl_generics_in a w₀ ready i h)) (met a.sheet ts q i).1 signature_met.neat (omega (arith, fresh-length ts n, signature_brought.grown, signature_met.len)) (impl_params a.sheet g).1 (impl_params_in a w₀ ready g (impl_generics_in a w₀ ready i h))

    pub needs_grown : length ts ≤ length (needs a.sheet ts q i).1
    needs_grown = omega (arith, fresh-length ts n, signature_brought.grown, signature_met.len, needs-brought.grown)

  -- The impl parameters of the caller's generics.
  params_keep : (n : ℕ) (ps : List ImplType) (fs : List Result) → QueriesIn (length (impl_params a.sheet a.generics).0) ps → AllKept ts fs → Yields (AllKept ts) (from_impl_params a ts q n ps fs)
  unfolding from_impl_params
  params_keep n [] fs h k = k
  params_keep n (p ∷ ps) fs h k = go (approx_eq q p) refl m.0 refl (params_keep (suc n) ps)
    where
      w : ImplType × Types
      w = import_impl_type (impl_params a.sheet a.generics).0 none p ts

      b : Brought ts w.0.1 w.1
      b = query_brought (impl_params a.sheet a.generics).0 (impl_params_neat a w₀ ready a.generics ready.generics) none ts neat (low_none ts) p h.0

      m : Unified
      m = unify_impl_type a.sheet w.1 w.0 q

      u : Joined w.1 m.1
      u = unify_query_neat a.sheet w.1 w.0 q b.neat b.inside (in_more (length ts) (length w.1) b.grown q.1 inside)

      go : (c : Bool) → approx_eq q p ≡ c → (v : UnifyResult) → m.0 ≡ v → ((gs : List Result) → QueriesIn (length (impl_params a.sheet a.generics).0) ps → AllKept ts gs → Yields (AllKept ts) (from_impl_params a ts q (suc n) ps gs)) → Yields (AllKept ts) (from_impl_params a ts q n (p ∷ ps) fs)
      go false e v e' ih = rw (e, from_impl_params) (ih fs h.1 k)
      go true e failure e' ih = rw (e, e', from_impl_params) (nodes_keep (AllKept ts) w.1 _ (ih fs h.1 k))
      go true e indeterminate e' ih = rw (e, e', from_impl_params) (nodes_keep (AllKept ts) w.1 _ (ih fs h.1 k))
      go true e success e' ih =
          rw (e, e', from_impl_params)
          (nodes_keep (AllKept ts) w.1 _
          (yields_bind (AllKept ts) (AllKept ts) (add_results fs ((m.1, leaf tree_param n) ∷ [])) (λ gs. from_impl_params a ts q (suc n) ps gs)
          (add_keeps (Kept ts) fs ((m.1, leaf tree_param n) ∷ []) k (record { neat = u.neat; grown = omega (arith, u.len, b.grown) }, tt))
          (λ gs l. ih gs h.1 l)))

  -- Built-ins leave the table as it is.
  pub before_keeps : (basic : Bool) → Yields (AllKept ts) (before_candidates a basic ts q)
  unfolding before_candidates
  before_keeps true = tt
  before_keeps false =
      yields_bind (AllKept ts) (AllKept ts) (add_results [] (map (λ (t : Trees). (ts, t)) (find_auto_impls a.sheet ts q))) _
      (add_keeps (Kept ts) [] (map (λ (t : Trees). (ts, t)) (find_auto_impls a.sheet ts q)) tt (each (find_auto_impls a.sheet ts q)))
      (λ fs k. params_keep 0 (impl_params a.sheet a.generics).1 fs (impl_params_in a w₀ ready a.generics ready.generics) k)
    where
      each : (us : List Trees) → AllKept ts (map (λ (t : Trees). (ts, t)) us)
      each [] = tt
      each (t ∷ us) = (record { neat = neat; grown = le_refl (length ts) }, each us)
