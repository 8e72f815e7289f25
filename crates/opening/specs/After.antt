-- For the callers: what `sign`, `meet_param` and `need` leave is a neat table, no smaller, with the sub-questions' types in it.
use Rattle.std.specs.Prelude.{ℕ, ◌≤◌, ◌<◌, ◌≡◌, List, length}
use Rattle.std.proofs.Common.{sym, ap, subst, arith}
use Rattle.std.proofs.Math.Option.{none}
use Rattle.rules.specs.Lists.{Words}
use Rattle.rules.specs.Layout.{header_generics, header_impls}
use Rattle.rules.specs.Sheet.{many}
use Rattle.rules.specs.Types.{Types, ImplType}
use Rattle.rules.specs.Solutions.{AllIn}
use Rattle.rules.specs.Transfer.{import_impl_type}
use Rattle.rules.specs.Search.{impl_params}
use Rattle.rules.specs.Neat.{Neat, Brought, Joined, QueriesIn, from_row, low_none, query_brought, unify_query_neat, impl_params_neat, in_more, fresh-length}
use Rattle.rules.specs.SearchKeeps.{fresh_count, signed, needs, signature_brought, signature_met, needs-brought}
use Rattle.table.specs.Packing.{types_of}
use Rattle.queries.specs.declared.Queries.{Queries}
use Rattle.queries.specs.Queries.{queries_of}
use Rattle.opening.specs.Meeting.{join_of, Agrees}
use Rattle.opening.specs.Needing.{Asks}
use Rattle.opening.specs.Sound.{Sound, finder}

-- A question of a neat table, with types of it.
module _ (s : Words) (sound : Sound s) (ts : Types) (q : ImplType) (neat : Neat ts) (a : AllIn (length ts) q.1) where
  -- A candidate that fits.
  module _ (i : ℕ) (h : i < many s header_impls) where
    pub signed_neat : (us : Words) → Agrees s (signed s ts i) q us → Neat (types_of us)
    signed_neat us g = subst Neat (sym g.types) (signature_met (finder s sound) sound.question sound.ready ts q neat a i h).neat

    module _ (r : Queries) (us : Words) (g : Asks (needs s ts q i) r us) where
      table : (needs s ts q i).1 ≡ types_of us
      table = ap (λ (o : List ImplType × Types). o.1) g.is

      pub needs_neat : Neat (types_of us)
      needs_neat = subst Neat table (needs-brought (finder s sound) sound.question sound.ready ts q neat a i h).neat

      pub needs_inside : QueriesIn (length (types_of us)) (queries_of r)
      needs_inside = subst (λ (o : List ImplType × Types). QueriesIn (length o.1) o.0) g.is (from_row (length (needs s ts q i).1) (needs s ts q i).0 (needs-brought (finder s sound) sound.question sound.ready ts q neat a i h).inside)

      pub needs_grown : length ts ≤ length (types_of us)
      needs_grown =
          let b = signature_brought (finder s sound) sound.question sound.ready ts q neat a i h in
          let m = signature_met (finder s sound) sound.question sound.ready ts q neat a i h in
          let n = needs-brought (finder s sound) sound.question sound.ready ts q neat a i h in
          omega (arith, fresh-length ts (fresh_count s i), b.grown, m.len, n.grown, ap (λ (vs : Types). length vs) table)

  -- An impl parameter that fits.
  module _ (g : ℕ) (h : g < many s header_generics) (p : ImplType) (k : AllIn (length (impl_params s g).0) p.1) (us : Words) (f : Agrees s (import_impl_type (impl_params s g).0 none p ts) q us) where
    abbrev o : ImplType × Types
    o = import_impl_type (impl_params s g).0 none p ts

    came : Brought ts o.0.1 o.1
    came = query_brought (impl_params s g).0 (impl_params_neat (finder s sound) sound.question sound.ready g h) none ts neat (low_none ts) p k

    joined : Joined o.1 (join_of s o q).1
    joined = unify_query_neat s o.1 o.0 q came.neat came.inside (in_more (length ts) (length o.1) came.grown q.1 a)

    pub param_neat : Neat (types_of us)
    param_neat = subst Neat (sym f.types) joined.neat

    pub param_grown : length ts ≤ length (types_of us)
    param_grown = omega (arith, came.grown, joined.len, ap (λ (vs : Types). length vs) f.types)
