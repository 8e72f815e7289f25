-- An impl parameter of the caller's generics that clashes with the question.
use Rattle.std.specs.Prelude.{ℕ, ◌+◌, ◌*◌, ◌≤◌, ◌≡◌, Bool, true, false, ◌≢◌, length, take}
use Rattle.std.proofs.Common.{sym, subst, arith}
use Rattle.std.proofs.Math.Path.{ap}
use Rattle.std.proofs.Math.Option.{none}
use Rattle.rules.specs.Lists.{Words}
use Rattle.rules.specs.Limits.{limit_nodes}
use Rattle.rules.specs.Layout.{header_generics, generics_table_word}
use Rattle.rules.specs.Sheet.{chain, field, generics_table}
use Rattle.rules.specs.Types.{Types, ImplType, success, unify_impl_type}
use Rattle.rules.specs.Transfer.{table, import_impl_type}
use Rattle.rules.specs.Search.{Finder, impl_params}
use Rattle.rules.specs.Solutions.{AllIn, WellFormed}
use Rattle.rules.specs.CheckedTables.{Ready}
use Rattle.rules.specs.Neat.{Neat, impl_params_neat}
use Rattle.rules.specs.SignedTerms.{SignedCommon}
use Rattle.rules.specs.SignedImports.{param-signed}
use Rattle.table.specs.Packing.{types_of}
use Rattle.chart.specs.Index.{Indexed}
use Rattle.queries.specs.declared.Query.{Query}
use Rattle.queries.specs.Queries.{query_of}
use Rattle.queries.specs.Sizes.{generics_few}
use Rattle.queries.specs.Takes.{ParamTakes}
use Rattle.clash.specs.Pairs.{Clashing}
use Rattle.clash.specs.Readings.{never_common}
use Rattle.clash.specs.Places.{places_room, places_few, places-length, places_are}
use Rattle.clash.specs.Signatures.{never}

-- The sheet of a call with generics g that passed its checks.
pub record Calling (s : Words) (g : ℕ) : Type 0 where
  pub source : ℕ
  pub question : Words
  pub ready : Ready (record { sheet = s; source = source; generics = g }) question

-- An impl parameter p of generics g, imported.
abbrev pub brought : Words → ℕ → ImplType → Types → ImplType × Types
brought s g p ts = import_impl_type (impl_params s g).0 none p ts

-- true: there is room for it, and it does not unify with the question.
pub record ParamClashes (s : Words) (g : ℕ) (ts : Types) (p q : ImplType) (r : Bool) : Type 0 where
  pub room : r ≡ true → length (brought s g p ts).1 ≤ limit_nodes
  pub unfit : r ≡ true → (unify_impl_type s (brought s g p ts).1 (brought s g p ts).0 q).0 ≢ success

pub param_not : (s : Words) (g : ℕ) (ts : Types) (p q : ImplType) → ParamClashes s g ts p q false
param_not s g ts p q = record { room = λ e. absurd (never e); unfit = λ e. absurd (never e) }

module _ (s : Words) (g : ℕ) (call : Calling s g) (head : ℕ) (eh : head ≡ field s header_generics g generics_table_word) where
  abbrev finder : Finder
  finder = record { sheet = s; source = call.source; generics = g }

  few : 5 * length (chain s head) ≤ length s
  few = subst (λ x. 5 * length (chain s x) ≤ length s) (sym eh) (generics_few s call.ready.chains g call.ready.generics)

  its_table : table s head ≡ (impl_params s g).0
  unfolding impl_params generics_table
  its_table = ap (table s) eh

  formed : WellFormed (table s head)
  formed = subst WellFormed (sym its_table) (impl_params_neat finder call.question call.ready g call.ready.generics).proper.formed

  module _ (ws : Words) (l : length s ≤ 5 * length ws) where
    pub param_room : 0 + length (chain s head) ≤ length ws
    param_room = places_room s head few ws l

    module _ (us : Words) (n : ℕ) (x : Indexed s head ws us 0 n) (long : length us ≡ length ws) where
      pub param_few : n ≤ length us
      param_few = places_few s head few ws l us n x long

      pub param-length : n ≡ length (take n us)
      param-length = places-length s head few ws l us n x long

      module _ (ts : Words) (p q : Query) (neat : Neat (types_of ts)) (inside : AllIn (length (types_of ts)) (query_of q).1) (most : q.n ≤ 4) (into : AllIn (length (impl_params s g).0) (query_of p).1) (same : p.n ≡ q.n) (t : ℕ) (takes : ParamTakes s g (query_of p) t) (small : length (types_of ts) + t ≤ limit_nodes) where
        its_room : length (brought s g (query_of p) (types_of ts)).1 ≤ limit_nodes
        its_room = omega (arith, takes.most (types_of ts))

        its_types : AllIn (length (table s head)) (query_of p).1
        its_types = subst (λ (src : Types). AllIn (length src) (query_of p).1) (sym its_table) into

        never_met : Clashing false s (take n us) ts p q true → (unify_impl_type s (brought s g (query_of p) (types_of ts)).1 (brought s g (query_of p) (types_of ts)).0 (query_of q)).0 ≢ success
        never_met k = λ won.
            never_common s ts head (omega (arith, few, call.ready.short)) formed neat.proper.formed p q same most its_types inside false
            (subst (λ (ps : Words). Clashing false s ps ts p q true) (places_are s head few ws l us n x long) k)
            (subst (λ (src : Types). SignedCommon s (types_of ts) src (query_of p).1 (query_of q).1) (sym its_table)
            (param-signed finder call.question call.ready (types_of ts) (query_of q) neat inside (query_of p) into won))
            (λ e. absurd (never e))
            (λ e. absurd (never e))

        pub param-found : (r : Bool) → Clashing false s (take n us) ts p q r → ParamClashes s g (types_of ts) (query_of p) (query_of q) r
        param-found r k = record { room = λ e. its_room; unfit = λ e. never_met (subst (Clashing false s (take n us) ts p q) e k) }
