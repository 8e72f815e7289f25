-- One candidate's impl parameters, imported under the types that stand for its type parameters: its sub-questions.
use Rattle.std.specs.Prelude.{ℕ, ◌+◌, ◌*◌, ◌≤◌, ◌<◌, ◌≡◌, refl, Bool, true, false, length, take, Result, Ok, Err}
use Rattle.std.proofs.Common.{sym, ◌∙◌, ap, arith}
use Rattle.std.proofs.Math.Path.{ap₂, subst}
use mathlib.Core.List.{List}
use Rattle.std.proofs.Math.Option.{Option, some}
use Rattle.rules.specs.Lists.{Words}
use Rattle.rules.specs.Limits.{limit_nodes}
use Rattle.rules.specs.Layout.{header_generics, header_impls, generics_table_word, generics_type_params, impl_generics_word}
use Rattle.rules.specs.Sheet.{field, many, impl_generics}
use Rattle.rules.specs.Types.{Ty, Types, ImplType}
use Rattle.rules.specs.Solutions.{AllIn}
use Rattle.rules.specs.Transfer.{import_types, import_impl_types, table}
use Rattle.rules.specs.Search.{impl_params}
use Rattle.rules.specs.Neat.{Neat, QueriesIn, impl_generics_in, impl_params_in, fresh-length}
use Rattle.rules.specs.SearchKeeps.{fresh_count, met, needs, signature_brought, signature_met}
use Rattle.table.specs.Packing.{types_of, Packed}
use Rattle.table.specs.Nodes.{types_few}
use Rattle.transfer.specs.Moving.{params_of}
use Rattle.transfer.specs.Imports.{types_in, Imports, ImportsImpls, imports_impls}
use Rattle.transfer.specs.Callers.{inside_all}
use Rattle.refusals.specs.declared.Refusal.{Refusal}
use Rattle.refusals.specs.declared.Refusal.TheVariants.{TypesFull}
use Rattle.queries.specs.declared.Queries.{Queries}
use Rattle.queries.specs.Queries.{query_in, queries_of}
use Rattle.queries.specs.Few.{Few, few_params}
use Rattle.queries.specs.Gathering.{WithinFour}
use Rattle.queries.specs.Rows.{Rowed, Unrowed, impls_imported, row_inside}
use Rattle.opening.specs.Standing.{standing, standing-fresh, Stands}
use Rattle.opening.specs.Signing.{counted}
use Rattle.opening.specs.Bringing.{Lent}
use Rattle.opening.specs.Sound.{generics_lent, Sound, finder, params_neat, params-table}

-- The import o, as sub-questions r and the table that out is.
pub record Asks (o : List ImplType × Types) (r : Queries) (out : Words) : Type 0 where
  pub is : o ≡ (queries_of r, types_of out)
  pub room : length o.1 ≤ limit_nodes
  pub within : WithinFour r
  pub counts : (k : ℕ) → (query_in r k).n ≤ 4

-- Refused where there is no room.
pub record Needs (o : List ImplType × Types) (r : Result Queries Refusal) (out : Words) : Type 0 where
  pub packed : Packed out
  pub full : (refusal : Refusal) → r ≡ Err refusal → (refusal ≡ TypesFull) × (limit_nodes < length o.1)
  pub asks : (qs : Queries) → r ≡ Ok qs → Asks o qs out

is_told : Result Queries Refusal → ℕ
is_told (Ok qs) = 1
is_told (Err refusal) = 0

refusal_of : Result Queries Refusal → Refusal
refusal_of (Err refusal) = refusal
refusal_of (Ok qs) = TypesFull

queries_told : Queries → Result Queries Refusal → Queries
queries_told r (Ok qs) = qs
queries_told r (Err refusal) = r

-- The type words of qs are the first m of ts, and vs has what they become.
module _ (src : Types) (qs : Queries) (ts : Words) (m : ℕ) (rowed : Rowed qs ts m) where
  pub row_there : QueriesIn (length src) (queries_of qs) → AllIn (length src) (types_in m ts)
  row_there a = inside_all src m ts (row_inside src qs (queries_of qs) ts m rowed refl a)

  module _ (ps : Option (List Ty)) (ws us vs : Words) (b : Bool) (i : Imports (import_types src ps (types_in m ts) (types_of ws)) us ts vs m b) where
    impls : ImportsImpls src ps ws us ts vs m b
    impls = imports_impls src ps ws us ts vs m b i

    pub needs_full : (refusal : Refusal) → refusal ≡ TypesFull → b ≡ false → Needs (import_impl_types src ps (queries_of qs) (types_of ws)) (Err refusal) us
    unfolding is_told refusal_of
    needs_full refusal e f = record { packed = i.replaces.packed; full = λ x z. (sym (ap refusal_of z) ∙ e, (impls.comes (queries_of qs) (sym rowed.is)).full f); asks = λ x z. absurd (omega (arith, ap is_told z)) }

    pub needs_asks : (r : Queries) → Unrowed qs vs r → b ≡ true → Needs (import_impl_types src ps (queries_of qs) (types_of ws)) (Ok r) us
    unfolding is_told queries_told
    needs_asks r u f = record {
      packed = i.replaces.packed;
      full = λ x z. absurd (omega (arith, ap is_told z));
      asks = λ x z. subst (λ (v : Queries). Asks (import_impl_types src ps (queries_of qs) (types_of ws)) v us) (ap (queries_told r) z) (record { is = whole; room = subst (λ (o : List ImplType × Types). length o.1 ≤ limit_nodes) (sym whole) (types_few us); within = u.within; counts = u.few });
    }
      where
        whole : import_impl_types src ps (queries_of qs) (types_of ws) ≡ (queries_of r, types_of us)
        whole = (impls_imported src ps ws us ts vs qs r m b rowed impls u).is f

pub row_few : (qs : Queries) (ts : Words) (m : ℕ) → Rowed qs ts m → 16 ≤ length ts → m ≤ length ts
row_few qs ts m r h = omega (arith, r.most)

-- The import of the impl parameters of impl i.
abbrev pub needed_by : Words → ℕ → Option (List Ty) → Types → List ImplType × Types
needed_by s i ps ts = import_impl_types (impl_params s (impl_generics s i)).0 ps (impl_params s (impl_generics s i)).1 ts

-- g are its generics, and head heads their table.
module _ (s : Words) (sound : Sound s) (i : ℕ) (h : i < many s header_impls) (g : ℕ) (eg : g ≡ field s header_impls i impl_generics_word) where
  own : g ≡ impl_generics s i
  unfolding impl_generics
  own = eg

  there : g < many s header_generics
  there = subst (λ k. k < many s header_generics) (sym own) (impl_generics_in (finder s sound) sound.question sound.ready i h)

  pub generics_few : Few (impl_params s g).1
  generics_few = few_params (finder s sound) sound.question sound.ready g there

  module _ (head : ℕ) (e : head ≡ field s header_generics g generics_table_word) where
    pub generics_neat : Neat (table s head)
    generics_neat = params_neat s sound g head there e

    pub need_lent : (places map : Words) → length s ≤ 5 * length places → (length s ≤ 5 * length map) × (256 ≤ length map) → Lent s head places map
    need_lent places map j k = generics_lent s sound g head places map there e j k

    module _ (qs : Queries) (eq : queries_of qs ≡ (impl_params s g).1) where
      pub generics_inside : QueriesIn (length (table s head)) (queries_of qs)
      generics_inside = subst (λ (ps : List ImplType). QueriesIn (length (table s head)) ps) (sym eq) (subst (λ (ts : Types). QueriesIn (length ts) (impl_params s g).1) (sym (params-table s sound g head there e)) (impl_params_in (finder s sound) sound.question sound.ready g there))

      pub generics_needs : (ps ds us : Words) (r : Result Queries Refusal) → Needs (import_impl_types (table s head) (params_of true ps) (queries_of qs) (types_of ds)) r us → Needs (needed_by s i (params_of true ps) (types_of ds)) r us
      generics_needs ps ds us r n =
          subst (λ (o : List ImplType × Types). Needs o r us)
          (ap₂ (λ (src : Types) (l : List ImplType). import_impl_types src (params_of true ps) l (types_of ds)) (params-table s sound g head there e) eq
          ∙ ap (λ k. import_impl_types (impl_params s k).0 (params_of true ps) (impl_params s k).1 (types_of ds)) own) n

-- After the join: for whatever table and question this is the table of. b is the count of nodes before the fresh unknowns.
pub record Follows (s : Words) (i b : ℕ) (ds : Words) (r : Result Queries Refusal) (out : Words) : Type 0 where
  pub at : (ts : Types) (q : ImplType) → length ts ≡ b → types_of ds ≡ (met s ts q i).1 → Needs (needs s ts q i) r out

-- n is the count of type parameters of impl i.
module _ (s : Words) (i g n : ℕ) (eg : g ≡ field s header_impls i impl_generics_word) (en : n ≡ field s header_generics g generics_type_params) where
  count : n ≡ fresh_count s i
  count = counted s i g n eg en

  pub standing_few : (b : ℕ) (ds : Words) → b + fresh_count s i ≤ length (types_of ds) → b + n ≤ 256
  standing_few b ds l = omega (arith, count, types_few ds)

  pub need_follows : (b : ℕ) (ps ds us : Words) (r : Result Queries Refusal) → Stands b n ps → Needs (needed_by s i (params_of true (take n ps)) (types_of ds)) r us → Follows s i b ds r us
  unfolding params_of
  need_follows b ps ds us r t m = record {
    at = λ ts q e f.
        subst (λ (o : List ImplType × Types). Needs o r us)
        (ap₂ (λ (xs : List Ty) (vs : Types). needed_by s i (some xs) vs) (t.is ∙ ap₂ standing (sym e) count ∙ standing-fresh ts (fresh_count s i)) f) m;
  }

-- The fresh unknowns are still there after the join.
pub fresh_there : (s : Words) → Sound s → (ts : Types) (q : ImplType) → Neat ts → AllIn (length ts) q.1 → (i : ℕ) → i < many s header_impls → (b : ℕ) (us : Words) → b ≡ length ts → types_of us ≡ (met s ts q i).1 → b + fresh_count s i ≤ length (types_of us)
fresh_there s sound ts q neat a i h b us e f =
    let l : length (types_of us) ≡ length (met s ts q i).1 = ap (λ (vs : Types). length vs) f in
    let u = signature_met (finder s sound) sound.question sound.ready ts q neat a i h in
    let k = signature_brought (finder s sound) sound.question sound.ready ts q neat a i h in
    omega (arith, l, u.len, k.grown, fresh-length ts (fresh_count s i))
