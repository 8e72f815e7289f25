-- A candidate whose signature clashes with the question.
use Rattle.std.specs.Prelude.{ℕ, ◌+◌, ◌-◌, ◌*◌, ◌≤◌, ◌<◌, ◌≡◌, refl, Bool, true, false, ◌≢◌, T, leb, length, take}
use Rattle.std.proofs.Math.Path.{sym, subst}
use Rattle.std.proofs.Common.{◌∙◌, ap, arith, leb→le}
use mathlib.Core.List.{List}
use Rattle.rules.specs.Lists.{Words}
use Rattle.rules.specs.Limits.{limit_nodes}
use Rattle.rules.specs.Layout.{header_impls, impl_table_word}
use Rattle.rules.specs.Sheet.{at, chain, field, many, impl_table, impl_args}
use Rattle.rules.specs.Types.{Ty, Types, ImplType, success}
use Rattle.rules.specs.Transfer.{cell_types, table}
use Rattle.rules.specs.Search.{impl_signature}
use Rattle.rules.specs.Solutions.{AllIn, WellFormed}
use Rattle.rules.specs.Neat.{Neat}
use Rattle.rules.specs.SearchKeeps.{fresh_count, signed, met}
use Rattle.rules.specs.Loose.{SignedLoose, candidate_loose}
use Rattle.table.specs.Packing.{types_of}
use Rattle.chart.specs.Fields.{field_found}
use Rattle.chart.specs.Index.{Indexed}
use Rattle.queries.specs.declared.Query.{Query}
use Rattle.queries.specs.Queries.{query_of}
use Rattle.queries.specs.Sizes.{impl_few}
use Rattle.queries.specs.Takes.{SignatureTakes}
use Rattle.opening.specs.Sound.{Sound, finder}
use Rattle.opening.specs.Signing.{signature_few, table_neat, signature_inside}
use Rattle.clash.specs.Pairs.{Clashing}
use Rattle.clash.specs.Readings.{never_common}
use Rattle.clash.specs.LooseReadings.{loose_meaning}
use Rattle.clash.specs.Brought.{candidate_brought}
use Rattle.clash.specs.Places.{places_room, places_few, places-length, places_are}

-- true: there is room for the signature, and it does not unify with the question.
pub record Clashes (s : Words) (ts : Types) (q : ImplType) (i : ℕ) (r : Bool) : Type 0 where
  pub room : r ≡ true → length (signed s ts i).1 ≤ limit_nodes
  pub unfit : r ≡ true → (met s ts q i).0 ≢ success

pub never : false ≡ true → ⊥
never e = let z : ◌≡◌ {A = ℕ} 0 1 = cc in omega arith

pub clashes_not : (s : Words) (ts : Types) (q : ImplType) (i : ℕ) → Clashes s ts q i false
clashes_not s ts q i = record { room = λ e. absurd (never e); unfit = λ e. absurd (never e) }

-- true: the signature of the impl whose record is at p has as many arguments as the question, and cannot mean what that does.
pub record Against (s ps ws : Words) (q : Query) (p : ℕ) (r : Bool) : Type 0 where
  pub signature : r ≡ true → (a : Query) × (query_of a ≡ (at s (p + 3), cell_types s (at s (p + 5)))) × (a.n ≡ q.n) × Clashing true s ps ws a q true

pub against_not : (s ps ws : Words) (q : Query) (p : ℕ) → Against s ps ws q p false
against_not s ps ws q p = record { signature = λ e. absurd (never e) }

pub against_args : (s ps ws : Words) (q : Query) (p tr args v : ℕ) (a : Query) (r : Bool) → tr ≡ at s (p + 3) → args ≡ at s (p + 5) → v ≡ args → query_of a ≡ (tr, cell_types s v) → a.n ≡ q.n → Clashing true s ps ws a q r → Against s ps ws q p r
against_args s ps ws q p tr args v a r et ea ev eq en k = record { signature = λ e. (a, eq ∙ (λ t. (et t, cell_types s ((ev ∙ ea) t))), en, subst (Clashing true s ps ws a q) e k) }

pub args_read : (s : Words) (p args v : ℕ) → length (cell_types s (at s (p + 5))) ≤ 4 → args ≡ at s (p + 5) → v ≡ args → length (cell_types s v) ≤ 4
args_read s p args v h ea ev = subst (λ k. length (cell_types s k) ≤ 4) (sym (ev ∙ ea)) h

-- true: n nodes more are no more than the most.
pub record Room (ts : Types) (n : ℕ) (r : Bool) : Type 0 where
  pub room : r ≡ true → length ts + n ≤ limit_nodes

pub room_none : (ts : Types) (n : ℕ) → Room ts n false
room_none ts n = record { room = λ e. absurd (never e) }

pub room_count : (ts : Types) (n c w : ℕ) → n ≤ 256 → c ≡ length ts → w ≡ c → Room ts n (leb w (256 - n))
room_count ts n c w h ec ew = record { room = λ e. omega (arith, leb→le w (256 - n) (subst T (sym e) tt)) }

-- The record of impl i is at p.
pub record ImplAt (s : Words) (i p : ℕ) : Type 0 where
  pub word : (k : ℕ) → at s (p + k) ≡ field s header_impls i k

pub impl_at : (s : Words) (i head p : ℕ) → head ≡ at s 4 → p ≡ at (chain s head) i → ImplAt s i p
impl_at s i head p e ep = record { word = λ k. field_found s header_impls i k head p (at s (p + k)) e ep refl }

module _ (s : Words) (sound : Sound s) (i : ℕ) (h : i < many s header_impls) (p : ℕ) (o : ImplAt s i p) where
  pub args_few : length (cell_types s (at s (p + 5))) ≤ 4
  args_few = signature_few s sound i h (at s (p + 5)) (o.word 5)

  module _ (head : ℕ) (eh : head ≡ at s (p + 4)) where
    found : head ≡ field s header_impls i impl_table_word
    found = eh ∙ o.word 4

    few : 5 * length (chain s head) ≤ length s
    few = subst (λ x. 5 * length (chain s x) ≤ length s) (sym found) (impl_few s sound.ready.chains i h)

    module _ (ws : Words) (l : length s ≤ 5 * length ws) where
      pub index_room : 0 + length (chain s head) ≤ length ws
      index_room = places_room s head few ws l

      module _ (us : Words) (n : ℕ) (x : Indexed s head ws us 0 n) (long : length us ≡ length ws) where
        pub index_few : n ≤ length us
        index_few = places_few s head few ws l us n x long

        pub index_length : n ≡ length (take n us)
        index_length = places-length s head few ws l us n x long

        places : take n us ≡ chain s head
        places = places_are s head few ws l us n x long

        module _ (ts : Words) (q : Query) (neat : Neat (types_of ts)) (inside : AllIn (length (types_of ts)) (query_of q).1) (most : q.n ≤ 4) (t : ℕ) (takes : SignatureTakes s i t) (small : length (types_of ts) + t ≤ limit_nodes) where
          short : length (chain s head) ≤ 1024
          short = omega (arith, few, sound.short)

          formed : WellFormed (table s head)
          formed = (table_neat s sound i h head found).proper.formed

          room : length (signed s (types_of ts) i).1 ≤ limit_nodes
          room = omega (arith, takes.most (types_of ts))

          common : (a : Query) → query_of a ≡ (at s (p + 3), cell_types s (at s (p + 5))) → (met s (types_of ts) (query_of q) i).0 ≡ success → SignedLoose s (types_of ts) (table s head) (fresh_count s i) (query_of a).1 (query_of q).1
          unfolding impl_signature impl_table impl_args
          common a ea won =
              subst (λ (src : Types). SignedLoose s (types_of ts) src (fresh_count s i) (query_of a).1 (query_of q).1) (ap (table s) (sym found))
              (subst (λ (xs : List Ty). SignedLoose s (types_of ts) (table s (field s header_impls i impl_table_word)) (fresh_count s i) xs (query_of q).1) (ap (cell_types s) (sym (o.word 5)) ∙ sym (ap (λ (y : ImplType). y.1) ea))
              (candidate_loose (finder s sound) sound.question sound.ready (types_of ts) (query_of q) neat inside i h won))

          never_met : (a : Query) → query_of a ≡ (at s (p + 3), cell_types s (at s (p + 5))) → a.n ≡ q.n → Clashing true s (take n us) ts a q true → (met s (types_of ts) (query_of q) i).0 ≢ success
          never_met a ea en k = λ won.
              let into = signature_inside s sound i h head found (at s (p + 3)) (at s (p + 5)) a (o.word 3) (o.word 5) ea in
              let c = common a ea won in
              never_common s ts head short formed neat.proper.formed a q en most into inside true
              (subst (λ (ps : Words). Clashing true s ps ts a q true) places k)
              c.common
              (λ e. loose_meaning s ts head short formed neat.proper.formed a q en most into inside (fresh_count s i) c)
              (λ e. candidate_brought s sound i h ts q neat inside won head found (at s (p + 3)) (at s (p + 5)) a (o.word 5) ea en)

          pub clash_found : (r : Bool) → Against s (take n us) ts q p r → Clashes s (types_of ts) (query_of q) i r
          clash_found r k = record {
            room = λ e. room;
            unfit = λ e. let a = k.signature e in never_met a.0 a.1 a.2 a.3;
          }
