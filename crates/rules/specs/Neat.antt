-- A neat table: its classes have roots, each the upright type of its class, its types are nodes, none reaches itself, and none has over 8 children. Imports, joins and fresh unknowns keep tables neat;
-- and the tables of a checked sheet and question are neat to start with.
use Prim.Native.Nat.{ℕ, zero, suc, ◌+◌, ◌≤◌, ◌<◌}
use Rattle.std.specs.Prelude.{◌≡◌, true, false, ◌⊎◌, eqb, ltb, get_or, replicate}
use Rattle.std.proofs.Math.Path.{refl, ap, subst, fun_ext}
use Rattle.std.proofs.Common.{sym, ◌∙◌, inl, inr, not-suc-le-zero, arith, length-append}
use Rattle.std.proofs.Math.Bool.{Bool}
use mathlib.Core.List.{List, [], ◌∷◌, ◌++◌, map}
use Rattle.std.proofs.Math.Option.{Option, none, some, none-ne-some, some-injective}
use Rattle.std.proofs.Math.Logic.{⊎_elim}
use Rattle.std.proofs.Math.Nat.{le_trans}
use Rattle.std.proofs.Math.Dec.{T, ltb→lt}
use Rattle.std.proofs.Math.ListN.{length, set}
use Rattle.std.proofs.lemmas.List.{length-replicate}
use Rattle.rules.specs.Lists.{Words, range, concat_map}
use Rattle.rules.specs.Limits.{limit_sheet}
use Rattle.rules.specs.Layout.{header_generics, header_impls, impl_param_trait, impl_param_args, question_table, kind_param}
use Rattle.rules.specs.Sheet.{at, many, records, field, type_params, generics_table, impl_param_records, impl_generics, impl_table, impl_args}
use Rattle.rules.specs.Types.{Ty, TypeState, unknown, known, Types, new_node, invert_if, find, state_at, ImplType, unify, unify_impl_type}
use Rattle.rules.specs.Transfer.{Transfer, mapped, param_for, transfer_each, transfer_in, transfer_types, import_types, import_impl_type, transfer_impl_types, import_impl_types, export_types, export_impl_type, cell_types, new_nodes, table}
use Rattle.rules.specs.Search.{Finder, impl_signature, impl_params, fresh_params, with_fresh}
use Rattle.rules.specs.Values.{is_id, in_table, generics_ok, impl_ok, args_ok, table_ok}
use Rattle.rules.specs.Robinson.{AllIn}
use Rattle.rules.specs.RootRank.{child_in}
use Rattle.rules.specs.Readings.{ranked_readable}
use Rattle.rules.specs.TransferKeeps.{imports}
use Rattle.rules.specs.UnifyKeeps.{unify_keeps, impl_type_keeps}
use Rattle.rules.specs.FreshKeeps.{Proper, fresh_proper}
use Rattle.rules.specs.ChainLaws.{chain_short}
use Rattle.rules.specs.CheckedSheet.{part}
use Rattle.rules.specs.CheckedTables.{table_length_lem, Ready, question-formed, question-free, generics_formed, generics_free, impl_formed, impl_free, new_nodes-length}
use Rattle.rules.specs.Yields.{Every, every_map, every_all}
use Rattle.rules.specs.Carried.{unify_carries, impl_type_carries, pushed}
use Rattle.rules.specs.Slim.{Slim, slim_join, slim_import, slim_fresh, slim_table, ParamBelow, param_below, no_params}
use Rattle.rules.specs.TransferCount.{row, row_moves}
use Rattle.rules.specs.UprightRoots.{RootsUpright, unify-upright, impl_type_upright, import_upright, fresh-upright, table-upright}

-- Document 01 asks it of a sheet's and a question's tables (8, 9, 12, 13).
pub record Neat (ts : Types) : Type 0 where
  pub proper : Proper ts
  pub slim : Slim ts
  pub upright : RootsUpright ts

-- Types stay in a table that grows.
pub in_more : (n m : ℕ) → n ≤ m → (xs : List Ty) → AllIn n xs → AllIn m xs
in_more n m h [] a = tt
in_more n m h (x ∷ xs) a = (le_trans a.0 h, in_more n m h xs a.1)

-- The arguments of some impl types are nodes of a table of n.
abbrev pub QueriesIn : ℕ → List ImplType → Type 0
QueriesIn n qs = Every (λ (q : ImplType). AllIn n q.1) qs

in_from : (n : ℕ) (xs : List Ty) → ((j : ℕ) → j < length xs → (get_or xs j (false, 0)).1 < n) → AllIn n xs
in_from n [] f = tt
in_from n (x ∷ xs) f = (f 0 (omega arith), in_from n xs (λ j l. f (suc j) (omega arith)))

-- Two lists of types of a table, and what follows for rows of them.
pub in_append : (n : ℕ) (xs ys : List Ty) → AllIn n xs → AllIn n ys → AllIn n (xs ++ ys)
in_append n [] ys a b = b
in_append n (x ∷ xs) ys a b = (a.0, in_append n xs ys a.1 b)

in_first : (n : ℕ) (xs ys : List Ty) → AllIn n (xs ++ ys) → AllIn n xs × AllIn n ys
in_first n [] ys a = (tt, a)
in_first n (x ∷ xs) ys a = let r = in_first n xs ys a.1 in ((a.0, r.0), r.1)

in_row : (n : ℕ) (qs : List ImplType) → QueriesIn n qs → AllIn n (row qs)
unfolding concat_map
in_row n [] h = tt
in_row n (q ∷ qs) h = in_append n q.1 (row qs) h.0 (in_row n qs h.1)

-- Types of a row are types of the impl types it was made of.
pub from_row : (n : ℕ) (qs : List ImplType) → AllIn n (row qs) → QueriesIn n qs
unfolding concat_map
from_row n [] h = tt
from_row n (q ∷ qs) h = let r = in_first n q.1 (row qs) h in (r.0, from_row n qs r.1)

in_at : (n : ℕ) (xs : List Ty) (j : ℕ) → AllIn n xs → 0 < n → (get_or xs j (false, 0)).1 < n
in_at n [] j a h = h
in_at n (x ∷ xs) zero a h = a.0
in_at n (x ∷ xs) (suc j) a h = in_at n xs j a.1 h

-- What an import leaves: a neat table, no smaller, and the types in it.
pub record Brought (dst : Types) (ts : List Ty) (us : Types) : Type 0 where
  pub neat : Neat us
  pub grown : length dst ≤ length us
  pub inside : AllIn (length us) ts

-- What stands for a Param is a node of the table.
abbrev pub Low : Option (List Ty) → Types → Type 0
Low ps dst = (st : TypeState) (u : Ty) → param_for ps st ≡ some u → u.1 < length dst

-- Nothing does where no parameters are given.
pub low_none : (dst : Types) → Low none dst
unfolding param_for
low_none dst st u e = absurd (none-ne-some u e)

low_some : (ps : List Ty) (dst : Types) → AllIn (length dst) ps → 0 < length dst → Low (some ps) dst
unfolding param_for invert_if
low_some ps dst a h unknown u e = absurd (none-ne-some u e)
low_some ps dst a h (known i k d cs) u e = go (eqb k kind_param) refl
  where
    go : (b : Bool) → eqb k kind_param ≡ b → u.1 < length dst
    go true q = subst (λ (t : Ty). t.1 < length dst) (some-injective _ _ (rw (q, param_for) at e)) (in_at (length dst) ps d a h)
    go false q = absurd (none-ne-some u (rw (q, param_for) at e))

module _ (src : Types) (ns : Neat src) (ps : Option (List Ty)) (dst : Types) (nd : Neat dst) (low : Low ps dst) where
  -- `import` of types,
  pub types_brought : (ts : List Ty) → AllIn (length src) ts → Brought dst (import_types src ps ts dst).0 (import_types src ps ts dst).1
  types_brought ts a =
      let i = imports src ns.proper.formed ns.proper.kept ps dst nd.proper.formed nd.proper.kept low ts (λ j l. child_in (length src) ts j a l) in
      record {
        neat = record { proper = record { formed = i.formed; kept = i.kept }; slim = slim_import src ns.proper.formed ns.slim ps ts dst a nd.slim; upright = import_upright src ns.proper.formed ps ts dst a nd.upright };
        grown = i.with_first;
        inside = in_from (length (import_types src ps ts dst).1) (import_types src ps ts dst).0 (λ j l. i.inside j (subst (λ k. j < k) i.len l));
      }

  -- of an `ImplType`,
  pub query_brought : (q : ImplType) → AllIn (length src) q.1 → Brought dst (import_impl_type src ps q dst).0.1 (import_impl_type src ps q dst).1
  unfolding import_impl_type
  query_brought q a = types_brought q.1 a

  -- and of a list of them.
  pub queries_brought : (qs : List ImplType) → QueriesIn (length src) qs → Brought dst (row (import_impl_types src ps qs dst).0) (import_impl_types src ps qs dst).1
  unfolding import_impl_types import_types
  queries_brought qs a = subst (λ (r : List Ty × Transfer). Brought dst r.0 r.1.1) (row_moves src ps qs ([], dst)) (types_brought (row qs) (in_row (length src) qs a))

neat_empty : Neat []
unfolding Slim
neat_empty = record { proper = record { formed = λ n h. absurd (not-suc-le-zero h); kept = ranked_readable [] (λ n h. absurd (not-suc-le-zero h)) (λ n. 0) (record { falls = λ n h. absurd (not-suc-le-zero h) }) }; slim = tt; upright = λ n h. absurd (not-suc-le-zero h) }

-- `export` of types,
pub types_exported : (src : Types) → Neat src → (ts : List Ty) → AllIn (length src) ts → Brought [] (export_types src ts).0 (export_types src ts).1
unfolding export_types
types_exported src ns ts a = types_brought src ns none [] neat_empty (low_none []) ts a

-- and of an `ImplType`.
pub query_exported : (src : Types) → Neat src → (q : ImplType) → AllIn (length src) q.1 → Brought [] (export_impl_type src q).0.1 (export_impl_type src q).1
unfolding export_impl_type
query_exported src ns q a = query_brought src ns none [] neat_empty (low_none []) q a

-- What a join leaves, whatever it comes to: a neat table, as long.
pub record Joined (ts us : Types) : Type 0 where
  pub neat : Neat us
  pub len : length us ≡ length ts

-- `unify`.
pub unify_neat : (s : Words) (ts : Types) (a b : Ty) → Neat ts → a.1 < length ts → b.1 < length ts → Joined ts (unify s ts a b).1
unify_neat s ts a b n ha hb =
    let k = unify_keeps s ts a b n.proper.formed ha hb n.proper.kept in
    record { neat = record { proper = record { formed = k.formed; kept = k.kept }; slim = unify_carries Slim slim_join s ts a b n.slim; upright = unify-upright s ts a b n.upright }; len = k.len }

-- `unify_impl_type`.
pub unify_query_neat : (s : Words) (ts : Types) (a b : ImplType) → Neat ts → AllIn (length ts) a.1 → AllIn (length ts) b.1 → Joined ts (unify_impl_type s ts a b).1
unify_query_neat s ts a b n ha hb =
    let k = impl_type_keeps s ts a b n.proper.formed ha hb n.proper.kept in
    record { neat = record { proper = record { formed = k.formed; kept = k.kept }; slim = impl_type_carries Slim slim_join s ts a b n.slim; upright = impl_type_upright s ts a b n.upright }; len = k.len }

-- Fresh unknowns.
pub fresh_neat : (ts : Types) (n : ℕ) → Neat ts → Neat (with_fresh ts n)
unfolding with_fresh
fresh_neat ts n t = record { proper = fresh_proper n ts t.proper; slim = slim_fresh ts n t.slim; upright = fresh-upright ts n t.upright }

-- How many nodes there are then.
pub fresh-length : (ts : Types) (n : ℕ) → length (with_fresh ts n) ≡ length ts + n
unfolding with_fresh
fresh-length ts n = length-append ts (new_nodes (length ts) (replicate n unknown)) ∙ ap (λ k. length ts + k) (new_nodes-length (length ts) (replicate n unknown) ∙ length-replicate {A = TypeState} n unknown)

-- Nodes in a row, from i on.
pub range_in : (i n N : ℕ) → i + n ≤ N → AllIn N (map (λ k. (false, k)) (range i n))
unfolding range
range_in i zero N h = tt
range_in i (suc n) N h = (omega arith, range_in (suc i) n N (omega arith))

-- Where no state of the source is a Param, parameters make no difference.
module _ (src : Types) (ps : Option (List Ty)) (plain : (n : ℕ) → param_for ps (state_at src n) ≡ none) where
  in_same : (k : ℕ) (t : Ty) (m : Transfer) → transfer_in k src ps t m ≡ transfer_in k src none t m
  unfolding transfer_in param_for
  in_same zero t m = refl
  in_same (suc k) t m = go (mapped m.0 (find src t).1) refl (state_at src (find src t).1) refl (fun_ext (λ u. fun_ext (in_same k u)))
    where
      go : (o : Option Ty) → mapped m.0 (find src t).1 ≡ o → (st : TypeState) → state_at src (find src t).1 ≡ st → transfer_in k src ps ≡ transfer_in k src none → transfer_in (suc k) src ps t m ≡ transfer_in (suc k) src none t m
      go (some u) e st q ih = rw (e, transfer_in)
      go none e unknown q ih = rw (e, plain (find src t).1, q, transfer_in)
      go none e (known i kd d cs) q ih =
          rw (e, plain (find src t).1, q, transfer_in)
          (ap (λ (f : Ty → Transfer → Ty × Transfer). filled i kd d (transfer_each f cs (pushed m (find src t).1))) ih)
        where
          filled : Bool → ℕ → ℕ → List Ty × Transfer → Ty × Transfer
          filled i kd d w = (((find src t).0, length m.1), (w.1.0, set w.1.1 (length m.1) (new_node (length m.1) (known i kd d w.0))))

  types_same : (ts : List Ty) (m : Transfer) → transfer_types src ps ts m ≡ transfer_types src none ts m
  unfolding transfer_types
  types_same ts m = ap (λ (f : Ty → Transfer → Ty × Transfer). transfer_each f ts m) (fun_ext (λ u. fun_ext (in_same (suc (length src)) u)))

  queries_same : (qs : List ImplType) (m : Transfer) → transfer_impl_types src ps qs m ≡ transfer_impl_types src none qs m
  unfolding transfer_impl_types
  queries_same [] m = refl
  queries_same (q ∷ qs) m =
      ap (λ (a : List Ty × Transfer). ((q.0, a.0) ∷ (transfer_impl_types src ps qs a.1).0, (transfer_impl_types src ps qs a.1).1)) (types_same q.1 m)
      ∙ ap (λ (b : List ImplType × Transfer). ((q.0, (transfer_types src none q.1 m).0) ∷ b.0, b.1)) (queries_same qs (transfer_types src none q.1 m).1)

zero_or_more : (n : ℕ) → (n ≡ 0) ⊎ (0 < n)
zero_or_more zero = inl refl
zero_or_more (suc n) = inr (omega arith)

-- Imports under n type parameters, for which fresh unknowns stand behind table ts.
module _ (src : Types) (ns : Neat src) (ts : Types) (n : ℕ) (plain : n ≡ 0 → (ps : Option (List Ty)) (k : ℕ) → param_for ps (state_at src k) ≡ none) (dst : Types) (nd : Neat dst) (long : length ts + n ≤ length dst) where
  fresh_low : 0 < n → Low (some (fresh_params ts n)) dst
  unfolding fresh_params
  fresh_low h = low_some (fresh_params ts n) dst (range_in (length ts) n (length dst) long) (omega arith)

  -- `import` of an `ImplType` under them,
  pub query_under : (q : ImplType) → AllIn (length src) q.1 → let w = import_impl_type src (some (fresh_params ts n)) q dst in Brought dst w.0.1 w.1
  unfolding import_impl_type import_types
  query_under q a = ⊎_elim
      (λ e. subst (λ (r : List Ty × Transfer). Brought dst r.0 r.1.1) (sym (types_same src (some (fresh_params ts n)) (plain e (some (fresh_params ts n))) q.1 ([], dst))) (query_brought src ns none dst nd (low_none dst) q a))
      (λ h. query_brought src ns (some (fresh_params ts n)) dst nd (fresh_low h) q a)
      (zero_or_more n)

  -- and of a list of them.
  pub queries_under : (qs : List ImplType) → QueriesIn (length src) qs → let w = import_impl_types src (some (fresh_params ts n)) qs dst in Brought dst (row w.0) w.1
  unfolding import_impl_types
  queries_under qs a = ⊎_elim
      (λ e. subst (λ (r : List ImplType × Transfer). Brought dst (row r.0) r.1.1) (sym (queries_same src (some (fresh_params ts n)) (plain e (some (fresh_params ts n))) qs ([], dst))) (queries_brought src ns none dst nd (low_none dst) qs a))
      (λ h. queries_brought src ns (some (fresh_params ts n)) dst nd (fresh_low h) qs a)
      (zero_or_more n)

-- Types that the checks found in a table.
pub in_checked : (n : ℕ) (xs : List Ty) → T (in_table n xs) → AllIn n xs
in_checked n xs t = go xs (every_all (λ (t : Ty). ltb t.1 n) xs t)
  where
    go : (xs : List Ty) → Every (λ (t : Ty). T (ltb t.1 n)) xs → AllIn n xs
    go [] h = tt
    go (x ∷ xs) h = (ltb→lt x.1 n h.0, go xs h.1)

-- The tables of a call that passed 6 to 13.
module _ (a : Finder) (q : Words) (r : Ready a q) where
  few : (h : ℕ) → many a.sheet h ≤ limit_sheet
  unfolding many records
  few h = le_trans (chain_short a.sheet (at a.sheet h)) r.short

  -- The question's.
  pub question_neat : Neat (table q (at q question_table))
  question_neat = record { proper = record { formed = question-formed a q r; kept = question-free a q r }; slim = slim_table a.sheet q few (type_params a.sheet a.generics) (at q question_table) r.typed; upright = table-upright q (at q question_table) }

  -- An impl's signature, over its table.
  module _ (i : ℕ) (h : i < many a.sheet header_impls) where
    -- Its generics are there.
    pub impl_generics_in : impl_generics a.sheet i < many a.sheet header_generics
    unfolding impl_ok is_id impl_generics field
    impl_generics_in = ltb→lt _ (many a.sheet header_generics) (part _ (r.values.impls i h) 0)

    signature_ok : T (table_ok a.sheet a.sheet (type_params a.sheet (impl_generics a.sheet i)) (impl_table a.sheet i))
    unfolding impl_ok impl_generics impl_table field
    signature_ok = part _ (r.values.impls i h) 2

    -- Its table is neat,
    pub signature_neat : Neat (impl_signature a.sheet i).0
    unfolding impl_signature impl_table
    signature_neat = record { proper = record { formed = impl_formed a q r i h; kept = impl_free a q r i h }; slim = slim_table a.sheet a.sheet few _ (impl_table a.sheet i) signature_ok; upright = table-upright a.sheet (impl_table a.sheet i) }

    -- its arguments are nodes of it,
    pub signature_in : AllIn (length (impl_signature a.sheet i).0) (impl_signature a.sheet i).1.1
    unfolding impl_signature impl_ok args_ok impl_table impl_args field
    signature_in = in_checked _ _ (subst (λ k. T (in_table k (cell_types a.sheet (impl_args a.sheet i)))) (sym (table_length_lem a.sheet (impl_table a.sheet i))) (part _ (part _ (r.values.impls i h) 3) 2))

    -- its Params are below the count of its type parameters,
    pub signature_below : (k : ℕ) → ParamBelow (type_params a.sheet (impl_generics a.sheet i)) (state_at (impl_signature a.sheet i).0 k)
    unfolding impl_signature
    signature_below = param_below a.sheet a.sheet _ (impl_table a.sheet i) signature_ok

    -- and it has no Param where its generics have no type parameters.
    pub signature_plain : type_params a.sheet (impl_generics a.sheet i) ≡ 0 → (ps : Option (List Ty)) (k : ℕ) → param_for ps (state_at (impl_signature a.sheet i).0 k) ≡ none
    unfolding impl_signature
    signature_plain e = no_params a.sheet a.sheet (impl_table a.sheet i) (subst (λ n. T (table_ok a.sheet a.sheet n (impl_table a.sheet i))) e signature_ok)

  -- The impl parameters of generics, over their table.
  module _ (g : ℕ) (h : g < many a.sheet header_generics) where
    impl_params_ok : T (table_ok a.sheet a.sheet (type_params a.sheet g) (generics_table a.sheet g))
    unfolding generics_ok type_params generics_table field
    impl_params_ok = part _ (r.values.generics g h) 1

    -- It is neat,
    pub impl_params_neat : Neat (impl_params a.sheet g).0
    unfolding impl_params generics_table
    impl_params_neat = record { proper = record { formed = generics_formed a q r g h; kept = generics_free a q r g h }; slim = slim_table a.sheet a.sheet few _ (generics_table a.sheet g) impl_params_ok; upright = table-upright a.sheet (generics_table a.sheet g) }

    -- their arguments are nodes of it,
    pub impl_params_in : QueriesIn (length (impl_params a.sheet g).0) (impl_params a.sheet g).1
    unfolding impl_params generics_ok args_ok generics_table impl_param_records field
    impl_params_in =
        every_map (λ p. T (args_ok a.sheet a.sheet (generics_table a.sheet g) (at a.sheet (p + impl_param_trait)) (at a.sheet (p + impl_param_args)))) _ _
        (λ p t. in_checked _ _ (subst (λ k. T (in_table k (cell_types a.sheet (at a.sheet (p + impl_param_args))))) (sym (table_length_lem a.sheet (generics_table a.sheet g))) (part _ t 2)))
        (impl_param_records a.sheet g)
        (every_all _ (impl_param_records a.sheet g) (part _ (r.values.generics g h) 3))

    -- and it has no Param where there are no type parameters.
    pub impl_params-plain : type_params a.sheet g ≡ 0 → (ps : Option (List Ty)) (k : ℕ) → param_for ps (state_at (impl_params a.sheet g).0 k) ≡ none
    unfolding impl_params
    impl_params-plain e = no_params a.sheet a.sheet (generics_table a.sheet g) (subst (λ n. T (table_ok a.sheet a.sheet n (generics_table a.sheet g))) e impl_params_ok)
