-- One candidate: its signature, under the types that stand for its type parameters, and after fresh unknowns.
use Rattle.std.specs.Prelude.{Result, Err, ℕ, ◌+◌, ◌≤◌, ◌<◌, ◌≡◌, Bool, true, false, take}
use Rattle.std.proofs.Common.{sym, ◌∙◌, le_trans, arith, leb→le}
use Rattle.std.proofs.Math.Path.{ap, ap₂, subst}
use mathlib.Core.List.{List}
use Rattle.std.proofs.Math.Option.{Option, some}
use Rattle.std.proofs.Math.ListN.{length}
use Rattle.rules.specs.Lists.{Words}
use Rattle.rules.specs.Limits.{limit_nodes, limit_type_params}
use Rattle.rules.specs.Layout.{header_generics, header_impls, generics_type_params, impl_generics_word, impl_trait_word, impl_table_word, impl_args_word}
use Rattle.rules.specs.Sheet.{field, many, type_params, impl_generics, impl_trait, impl_table, impl_args}
use Rattle.rules.specs.Types.{Ty, Types, ImplType}
use Rattle.rules.specs.Solutions.{AllIn}
use Rattle.rules.specs.Transfer.{import_impl_type, cell_types, table}
use Rattle.rules.specs.Search.{impl_signature, with_fresh}
use Rattle.rules.specs.Values.{generics_ok}
use Rattle.rules.specs.CheckLaws.{part}
use Rattle.rules.specs.Neat.{Neat, Brought, impl_generics_in, signature_neat, signature_in, in_more, fresh-length}
use Rattle.rules.specs.SearchKeeps.{fresh_count, signed, signature_brought}
use Rattle.table.specs.Packing.{types_of}
use Rattle.table.specs.Nodes.{types_few}
use Rattle.transfer.specs.Moving.{params_of}
use Rattle.queries.specs.declared.Query.{Query}
use Rattle.queries.specs.Queries.{query_of}
use Rattle.queries.specs.Few.{few_args}
use Rattle.refusals.specs.declared.Refusal.{Refusal}
use Rattle.refusals.specs.declared.Refusal.TheVariants.{TypesFull}
use Rattle.opening.specs.Fresh.{Freshens}
use Rattle.opening.specs.Standing.{standing, standing-fresh, Stands}
use Rattle.opening.specs.Meeting.{Meets, meets_none}
use Rattle.opening.specs.Sound.{Sound, finder}

-- The import of the signature of impl i.
abbrev pub signed_by : Words → ℕ → Option (List Ty) → Types → ImplType × Types
signed_by s i ps ts = import_impl_type (impl_signature s i).0 ps (impl_signature s i).1 ts

-- What an import leaves, of its own result.
abbrev pub Leaves : Types → ImplType × Types → Type 0
Leaves ts o = Brought ts o.0.1 o.1

module _ (s : Words) (sound : Sound s) (i : ℕ) (h : i < many s header_impls) where
  pub signature_few : (args : ℕ) → args ≡ field s header_impls i impl_args_word → length (cell_types s args) ≤ 4
  unfolding impl_args
  signature_few args e = subst (λ a. length (cell_types s a) ≤ 4) (sym e) (few_args (finder s sound) sound.question sound.ready i h)

  module _ (head : ℕ) (e : head ≡ field s header_impls i impl_table_word) where
    signature_table : table s head ≡ (impl_signature s i).0
    unfolding impl_signature impl_table
    signature_table = ap (table s) e

    pub table_neat : Neat (table s head)
    table_neat = subst Neat (sym signature_table) (signature_neat (finder s sound) sound.question sound.ready i h)

    module _ (tr args : ℕ) (p : Query) (et : tr ≡ field s header_impls i impl_trait_word) (ea : args ≡ field s header_impls i impl_args_word) (ep : query_of p ≡ (tr, cell_types s args)) where
      signature_query : query_of p ≡ (impl_signature s i).1
      unfolding impl_signature impl_trait impl_args
      signature_query = ep ∙ ap₂ {C = ImplType} (λ (t a : ℕ). (t, cell_types s a)) et ea

      pub signature_inside : AllIn (length (table s head)) (query_of p).1
      signature_inside = subst (λ (ts : Types). AllIn (length ts) (query_of p).1) (sym signature_table) (subst (λ (q : ImplType). AllIn (length (impl_signature s i).0) q.1) (sym signature_query) (signature_in (finder s sound) sound.question sound.ready i h))

      same_import : (ps : Option (List Ty)) (ts : Types) → import_impl_type (table s head) ps (query_of p) ts ≡ signed_by s i ps ts
      same_import ps ts = ap₂ (λ (src : Types) (q : ImplType). import_impl_type src ps q ts) signature_table signature_query

      pub signature_leaves : (ps ds : Words) → Leaves (types_of ds) (signed_by s i (params_of true ps) (types_of ds)) → Brought (types_of ds) (import_impl_type (table s head) (params_of true ps) (query_of p) (types_of ds)).0.1 (import_impl_type (table s head) (params_of true ps) (query_of p) (types_of ds)).1
      signature_leaves ps ds b = subst (λ (o : ImplType × Types). Leaves (types_of ds) o) (sym (same_import (params_of true ps) (types_of ds))) b

      pub signature_meets : (ps ds us : Words) (q : ImplType) (r : Result Bool Refusal) → Meets s (import_impl_type (table s head) (params_of true ps) (query_of p) (types_of ds)) q r us → Meets s (signed_by s i (params_of true ps) (types_of ds)) q r us
      signature_meets ps ds us q r m = subst (λ (o : ImplType × Types). Meets s o q r us) (same_import (params_of true ps) (types_of ds)) m

-- Under the types from node b on, n of them.
module _ (s : Words) (i b n : ℕ) (ps ds : Words) (t : Stands b n ps) where
  stood : signed_by s i (params_of true (take n ps)) (types_of ds) ≡ signed_by s i (some (standing b n)) (types_of ds)
  unfolding params_of
  stood = ap (λ (xs : List Ty). signed_by s i (some xs) (types_of ds)) t.is

  pub stood_leaves : Leaves (types_of ds) (signed_by s i (some (standing b n)) (types_of ds)) → Leaves (types_of ds) (signed_by s i (params_of true (take n ps)) (types_of ds))
  stood_leaves l = subst (λ (o : ImplType × Types). Leaves (types_of ds) o) (sym stood) l

  pub stood_meets : (us : Words) (q : ImplType) (r : Result Bool Refusal) → Meets s (signed_by s i (params_of true (take n ps)) (types_of ds)) q r us → Meets s (signed_by s i (some (standing b n)) (types_of ds)) q r us
  stood_meets us q r m = subst (λ (o : ImplType × Types). Meets s o q r us) stood m

-- g are the generics of impl i, and n their count of type parameters.
pub counted : (s : Words) (i g n : ℕ) → g ≡ field s header_impls i impl_generics_word → n ≡ field s header_generics g generics_type_params → n ≡ fresh_count s i
unfolding type_params impl_generics
counted s i g n eg en = en ∙ ap (λ k. field s header_generics k generics_type_params) eg

-- After fresh unknowns: ws is the table before them, us after, and b its count of nodes.
module _ (s : Words) (sound : Sound s) (i : ℕ) (h : i < many s header_impls) (g n : ℕ) (eg : g ≡ field s header_impls i impl_generics_word) (en : n ≡ field s header_generics g generics_type_params) where
  count : n ≡ fresh_count s i
  count = counted s i g n eg en

  pub params_few : n ≤ 8
  unfolding generics_ok type_params field
  params_few = subst (λ k. k ≤ 8) (sym count) (leb→le (type_params s (impl_generics s i)) limit_type_params (part _ (sound.ready.values.generics (impl_generics s i) (impl_generics_in (finder s sound) sound.question sound.ready i h)) 0))

  module _ (ws us : Words) (b : ℕ) (ok : Bool) (eb : b ≡ length (types_of ws)) (f : Freshens ws us n ok) (q : Query) (neat : Neat (types_of ws)) (a : AllIn (length (types_of ws)) (query_of q).1) where
    brought : Leaves (with_fresh (types_of ws) (fresh_count s i)) (signed s (types_of ws) i)
    brought = signature_brought (finder s sound) sound.question sound.ready (types_of ws) (query_of q) neat a i h

    -- There is no room for them.
    pub sign_full : (refusal : Refusal) → refusal ≡ TypesFull → ok ≡ false → Meets s (signed s (types_of ws) i) (query_of q) (Err refusal) us
    sign_full refusal t e = meets_none s (signed s (types_of ws) i) (query_of q) refusal us t f.packed (le_trans (subst (λ k. limit_nodes < length (with_fresh (types_of ws) k)) count (f.full e)) brought.grown)

    -- There is.
    module _ (e : ok ≡ true) where
      now_fresh : types_of us ≡ with_fresh (types_of ws) (fresh_count s i)
      now_fresh = f.room e ∙ ap (with_fresh (types_of ws)) count

      longer : length (types_of us) ≡ length (types_of ws) + n
      longer = ap (λ (ts : Types). length ts) (f.room e) ∙ fresh-length (types_of ws) n

      is_signed : signed_by s i (some (standing b n)) (types_of us) ≡ signed s (types_of ws) i
      is_signed =
          ap₂ (λ (ps : List Ty) (ts : Types). signed_by s i (some ps) ts) (ap₂ standing eb count ∙ standing-fresh (types_of ws) (fresh_count s i)) now_fresh

      pub fresh_few : b + n ≤ 256
      fresh_few = omega (arith, longer, eb, types_few us)

      pub fresh-question : AllIn (length (types_of us)) (query_of q).1
      fresh-question = in_more (length (types_of ws)) (length (types_of us)) (omega (arith, longer)) (query_of q).1 a

      pub fresh-leaves : Leaves (types_of us) (signed_by s i (some (standing b n)) (types_of us))
      fresh-leaves = subst (λ (o : ImplType × Types). Leaves (types_of us) o) (sym is_signed) (subst (λ (ts : Types). Leaves ts (signed s (types_of ws) i)) (sym now_fresh) brought)

      pub sign_meets : (vs : Words) (r : Result Bool Refusal) → Meets s (signed_by s i (some (standing b n)) (types_of us)) (query_of q) r vs → Meets s (signed s (types_of ws) i) (query_of q) r vs
      sign_meets vs r m = subst (λ (o : ImplType × Types). Meets s o (query_of q) r vs) is_signed m
