-- What one candidate comes to before its sub-questions are asked, and what the code leaves where it is opened.
use Rattle.std.specs.Prelude.{ℕ, ◌+◌, ◌-◌, ◌≤◌, ◌<◌, ◌≡◌, Bool, true, false, ◌≢◌, ltb, length, Option, Some, None, Ok, Err}
use Rattle.std.specs.Prelude.{Result as Outcome}
use Rattle.std.proofs.Math.Path.{refl}
use Rattle.std.proofs.Common.{sym, ◌∙◌, ap, subst, arith}
use Rattle.std.proofs.lemmas.Bool.{ltb-true, ltb-false}
use mathlib.Core.List.{List, [], map}
use Rattle.std.proofs.Math.Option.{some}
use borrow.Author.Tests.{lt-ltb, le-ltb, eq-eqb}
use Rattle.std.specs.Array.{AllOfLen}
use Rattle.std.proofs.lemmas.List.{get_or_past}
use borrow.Rule.Slice.PartMut.{put_mid}
use Rattle.rules.specs.Lists.{Words}
use Rattle.rules.specs.Limits.{limit_nodes}
use Rattle.rules.specs.Layout.{header_generics, header_impls, generics_impl_params, impl_generics_word}
use Rattle.rules.specs.Sheet.{at, many, field, impl_generics}
use Rattle.rules.specs.Types.{Types, UnifyResult, success, failure, indeterminate, ImplType}
use Rattle.rules.specs.Run.{Run, done, stop, ◌>>=◌}
use Rattle.rules.specs.Transfer.{import_impl_types, transfer_impl_types}
use Rattle.rules.specs.Search.{end, Result, check_nodes, impl_params, fresh_params, find_subimpls, try_candidate}
use Rattle.rules.specs.SearchKeeps.{fresh_count, signed, met, needs}
use Rattle.rules.specs.Neat.{Neat, QueriesIn}
use Rattle.table.specs.Packing.{types_of, Packed}
use Rattle.table.specs.Nodes.{types_few}
use Rattle.slots.specs.Slots.{Written}
use Rattle.slots.specs.Adding.{under}
use Rattle.slots.specs.Parts.{part, part-table}
use Rattle.queries.specs.declared.Query.{Query}
use Rattle.queries.specs.declared.Queries.{Queries}
use Rattle.queries.specs.Queries.{query_of, no_query, query_in, queries_of, queries_none}
use Rattle.queries.specs.Takes.{SignatureTakes}
use Rattle.refusals.specs.declared.Refusal.{Refusal}
use Rattle.refusals.specs.declared.Refusal.TheVariants.{TypesFull}
use Rattle.refusals.specs.Numbers.{number_of}
use Rattle.opening.specs.Sound as opening
use Rattle.opening.specs.Meeting.{Meets}
use Rattle.opening.specs.Needing.{Asks, Needs, Follows, fresh_there}
use Rattle.opening.specs.After.{needs_neat, needs_inside}
use Rattle.clash.specs.Signatures.{Clashes}
use Rattle.steps.specs.Asking.{Asking, Tail, Opens, asking_table}
use Rattle.steps.specs.Behind.{back-table, back_opened}
use Rattle.steps.specs.Beginning.{params_none}

-- What one candidate comes to: 14 by its signature, nothing, 14 by its impl parameters, or what its sub-questions give.
module _ (ask : Types → ImplType → Run (List Result)) (s : Words) (ts : Types) (q : ImplType) (i : ℕ) where
  pub candidate_full : limit_nodes < length (signed s ts i).1 → try_candidate ask s ts q i ≡ stop 14
  unfolding try_candidate check_nodes
  candidate_full h = rw (lt-ltb limit_nodes (length (signed s ts i).1) h, check_nodes)

  module _ (h : length (signed s ts i).1 ≤ limit_nodes) where
    pub candidate_failed : (met s ts q i).0 ≢ success → try_candidate ask s ts q i ≡ done []
    unfolding try_candidate check_nodes
    candidate_failed k = go (met s ts q i).0 refl
      where
        go : (v : UnifyResult) → (met s ts q i).0 ≡ v → try_candidate ask s ts q i ≡ done []
        go success x = absurd (k x)
        go failure x = rw (le-ltb limit_nodes (length (signed s ts i).1) h, x, check_nodes)
        go indeterminate x = rw (le-ltb limit_nodes (length (signed s ts i).1) h, x, check_nodes)

    pub candidate_crowded : (met s ts q i).0 ≡ success → limit_nodes < length (needs s ts q i).1 → try_candidate ask s ts q i ≡ stop 14
    unfolding try_candidate check_nodes
    candidate_crowded x k = rw (le-ltb limit_nodes (length (signed s ts i).1) h, x, lt-ltb limit_nodes (length (needs s ts q i).1) k, check_nodes)

    pub candidate_asks : (met s ts q i).0 ≡ success → length (needs s ts q i).1 ≤ limit_nodes → try_candidate ask s ts q i ≡ (find_subimpls ask (needs s ts q i).1 (needs s ts q i).0 >>= λ rs. done (map (under i) rs))
    unfolding try_candidate check_nodes
    candidate_asks x k = rw (le-ltb limit_nodes (length (signed s ts i).1) h, x, le-ltb limit_nodes (length (needs s ts q i).1) k, check_nodes)

-- Four questions of no type words.
pub none_few : (r : Queries) (P : Query → Type 0) → ((x : Query) → P x → x.n ≡ 0) → AllOfLen P r.items 4 → (k : ℕ) → (query_in r k).n ≤ 4
none_few r P h a k = go (ltb k 4) refl
  where
    go : (b : Bool) → ltb k 4 ≡ b → (query_in r k).n ≤ 4
    go true e = omega (arith, h (query_in r k) (a.at k no_query (ltb-true k 4 e)))
    go false e = omega (arith, ap (λ (x : Query). x.n) (get_or_past r.items k no_query (omega (arith, a.long, ltb-false k 4 e))))

needs_case : Outcome Queries Refusal → ℕ
needs_case (Ok qs) = 1
needs_case (Err refusal) = 0

needs_queries : Queries → Outcome Queries Refusal → Queries
needs_queries r (Ok qs) = qs
needs_queries r (Err refusal) = r

-- The generics of a candidate without impl parameters ask for nothing: the table stays as it is.
pub seeks_none : (s : Words) (i b g h : ℕ) (ds : Words) (r : Queries) → g ≡ field s header_impls i impl_generics_word → h ≡ field s header_generics g generics_impl_params → h ≡ 0 → Packed ds → r.n ≡ 0 → ((k : ℕ) → (query_in r k).n ≤ 4) → Follows s i b ds (Ok r) ds
unfolding import_impl_types transfer_impl_types impl_generics needs_case needs_queries
seeks_none s i b g h ds r eg eh z p n few = record { at = λ ts q e d. one ts q d }
  where
    none : (impl_params s (impl_generics s i)).1 ≡ []
    none = ap (λ (k : ℕ). (impl_params s k).1) (sym eg) ∙ params_none s g h eh (eq-eqb h 0 z)

    empty : queries_of r ≡ []
    empty = queries_none r 0 (omega (arith, n))

    whole : (ts : Types) (q : ImplType) → types_of ds ≡ (met s ts q i).1 → needs s ts q i ≡ (queries_of r, types_of ds)
    whole ts q d = ap (λ (l : List ImplType). import_impl_types (impl_params s (impl_generics s i)).0 (some (fresh_params ts (fresh_count s i))) l (met s ts q i).1) none ∙ λ t. (sym empty t, sym d t)

    asks : (ts : Types) (q : ImplType) → types_of ds ≡ (met s ts q i).1 → Asks (needs s ts q i) r ds
    asks ts q d = record {
      is = whole ts q d;
      room = subst (λ (o : List ImplType × Types). length o.1 ≤ limit_nodes) (sym (whole ts q d)) (types_few ds);
      within = record { many = omega (arith, n); each = λ k m. few k };
      counts = few;
    }

    one : (ts : Types) (q : ImplType) → types_of ds ≡ (met s ts q i).1 → Needs (needs s ts q i) (Ok r) ds
    one ts q d = record {
      packed = p;
      full = λ refusal x. absurd (omega (arith, ap needs_case x));
      asks = λ qs x. subst (λ (v : Queries). Asks (needs s ts q i) v ds) (ap (needs_queries r) x) (asks ts q d);
    }

-- A candidate is opened in a part whose table ts was.
pub record PartOpens (s : Words) (ts : Types) (q : ImplType) (i : ℕ) (r : Outcome (Option Queries) Refusal) (out : Words) : Type 0 where
  pub packed : Packed out
  pub full : (refusal : Refusal) → r ≡ Err refusal → (ask : Types → ImplType → Run (List Result)) → try_candidate ask s ts q i ≡ stop (number_of refusal)
  pub unfit : r ≡ Ok None → (ask : Types → ImplType → Run (List Result)) → try_candidate ask s ts q i ≡ done []
  pub asks : (qs : Queries) → r ≡ Ok (Some qs) → (ask : Types → ImplType → Run (List Result)) → try_candidate ask s ts q i ≡ (find_subimpls ask (types_of out) (queries_of qs) >>= λ rs. done (map (under i) rs))
  pub tail : (qs : Queries) → r ≡ Ok (Some qs) → Tail out qs 0

-- A number for each, the refusal, and the sub-questions.
opened_case : Outcome (Option Queries) Refusal → ℕ
opened_case (Err refusal) = 0
opened_case (Ok None) = 1
opened_case (Ok (Some qs)) = 2

opened_refusal : Outcome (Option Queries) Refusal → Refusal
opened_refusal (Err refusal) = refusal
opened_refusal (Ok qs) = TypesFull

opened_queries : Queries → Outcome (Option Queries) Refusal → Queries
opened_queries r (Ok (Some qs)) = qs
opened_queries r (Ok None) = r
opened_queries r (Err refusal) = r

module _ (s ws us : Words) (q : Query) (i : ℕ) (m : Outcome Bool Refusal) (w : Meets s (signed s (types_of ws) i) (query_of q) m us) where
  refused : (refusal : Refusal) (out : Words) → refusal ≡ TypesFull → Packed out → ((ask : Types → ImplType → Run (List Result)) → try_candidate ask s (types_of ws) (query_of q) i ≡ stop 14) → PartOpens s (types_of ws) (query_of q) i (Err refusal) out
  unfolding opened_case opened_refusal
  refused refusal out e p h = record {
    packed = p;
    full = λ z x ask. h ask ∙ ap (λ y. stop (number_of y)) (sym e ∙ ap opened_refusal x);
    unfit = λ x. absurd (omega (arith, ap opened_case x));
    asks = λ qs x. absurd (omega (arith, ap opened_case x));
    tail = λ qs x. absurd (omega (arith, ap opened_case x));
  }

  pub part_full : (refusal : Refusal) → m ≡ Err refusal → PartOpens s (types_of ws) (query_of q) i (Err refusal) us
  part_full refusal e = refused refusal us (w.full refusal e).0 w.packed (λ ask. candidate_full ask s (types_of ws) (query_of q) i (w.full refusal e).1)

  pub part_unfit : (b : Bool) → m ≡ Ok b → b ≡ false → PartOpens s (types_of ws) (query_of q) i (Ok None) us
  unfolding opened_case
  part_unfit b e n = record {
    packed = w.packed;
    full = λ z x. absurd (omega (arith, ap opened_case x));
    unfit = λ x ask. candidate_failed ask s (types_of ws) (query_of q) i (w.unfit (e ∙ ap Ok n)).room (w.unfit (e ∙ ap Ok n)).failed;
    asks = λ qs x. absurd (omega (arith, ap opened_case x));
    tail = λ qs x. absurd (omega (arith, ap opened_case x));
  }

  module _ (sound : opening.Sound s) (a : Asking ws q) (h : i < many s header_impls) (b : ℕ) (e : b ≡ length (types_of ws)) (fits : Bool) (is : m ≡ Ok fits) (told : fits ≡ true) where
    x : m ≡ Ok true
    x = is ∙ ap Ok told

    pub part_room : b + fresh_count s i ≤ length (types_of us)
    part_room = fresh_there s sound (types_of ws) (query_of q) a.neat a.inside i h b us e (w.fits x).types

    module _ (r : Outcome Queries Refusal) (out : Words) (k : Follows s i b us r out) where
      sought : Needs (needs s (types_of ws) (query_of q) i) r out
      sought = k.at (types_of ws) (query_of q) (sym e) (w.fits x).types

      pub part_crowded : (refusal : Refusal) → r ≡ Err refusal → PartOpens s (types_of ws) (query_of q) i (Err refusal) out
      part_crowded refusal y = refused refusal out (sought.full refusal y).0 sought.packed (λ ask. candidate_crowded ask s (types_of ws) (query_of q) i (w.fits x).room (w.fits x).met (sought.full refusal y).1)

      pub part_fits : (qs : Queries) → r ≡ Ok qs → PartOpens s (types_of ws) (query_of q) i (Ok (Some qs)) out
      unfolding opened_case opened_queries
      part_fits qs y = record {
        packed = sought.packed;
        full = λ z v. absurd (omega (arith, ap opened_case v));
        unfit = λ v. absurd (omega (arith, ap opened_case v));
        asks = λ v z ask. asked ask ∙ ap (λ (l : Queries). find_subimpls ask (types_of out) (queries_of l) >>= λ rs. done (map (under i) rs)) (ap (opened_queries qs) z);
        tail = λ v z. subst (λ (l : Queries). Tail out l 0) (ap (opened_queries qs) z) ready;
      }
        where
          g : Asks (needs s (types_of ws) (query_of q) i) qs out
          g = sought.asks qs y

          asked : (ask : Types → ImplType → Run (List Result)) → try_candidate ask s (types_of ws) (query_of q) i ≡ (find_subimpls ask (types_of out) (queries_of qs) >>= λ rs. done (map (under i) rs))
          asked ask =
              candidate_asks ask s (types_of ws) (query_of q) i (w.fits x).room (w.fits x).met g.room
              ∙ ap (λ (o : List ImplType × Types). find_subimpls ask o.1 o.0 >>= λ rs. done (map (under i) rs)) g.is

          ready : Tail out qs 0
          ready = record {
            packed = sought.packed;
            neat = needs_neat s sound (types_of ws) (query_of q) a.neat a.inside i h qs out g;
            inside = needs_inside s sound (types_of ws) (query_of q) a.neat a.inside i h qs out g;
            few = g.within.many;
            counts = g.counts;
          }

-- The part is that behind slot 4, where the table was copied.
module _ (ws us : Words) (q : Query) (w : Written ws us 6410 (types_of ws, end)) where
  pub behind_asking : Asking ws q → Asking (part 6410 us) q
  behind_asking a = asking_table ws (part 6410 us) q a (part-table 6410 us (types_of ws) w.slot.table)

  pub opens : (s : Words) (i : ℕ) (r : Outcome (Option Queries) Refusal) (ys : Words) → length ys ≡ length (part 6410 us) → PartOpens s (types_of (part 6410 us)) (query_of q) i r ys → Opens s ws (query_of q) i r (put_mid 6410 (length us - 6410) us ys)
  opens s i r ys kept o =
      let back = put_mid 6410 (length us - 6410) us ys in
      let same = (part-table 6410 us (types_of ws) w.slot.table).is in
      let t = part-table 6410 back (types_of ys) (back-table ws us ys w kept o.packed) in
      record {
        opened = back_opened ws us ys w kept;
        full = λ refusal x ask. ap (λ (ts : Types). try_candidate ask s ts (query_of q) i) (sym same) ∙ o.full refusal x ask;
        unfit = λ x ask. ap (λ (ts : Types). try_candidate ask s ts (query_of q) i) (sym same) ∙ o.unfit x ask;
        asks = λ qs x ask.
            ap (λ (ts : Types). try_candidate ask s ts (query_of q) i) (sym same) ∙ o.asks qs x ask
            ∙ ap (λ (ts : Types). find_subimpls ask ts (queries_of qs) >>= λ rs. done (map (under i) rs)) (sym t.is);
        tail = λ qs x. let y = o.tail qs x in record {
          packed = t.packed;
          neat = subst Neat (sym t.is) y.neat;
          inside = subst (λ (ts : Types). QueriesIn (length ts) (queries_of qs)) (sym t.is) y.inside;
          few = y.few;
          counts = y.counts;
        };
      }

-- The word that was read is what the signature takes.
pub signature_read : (s sets : Words) (i n : ℕ) → SignatureTakes s i (at sets (34948 + i)) → n ≡ at sets (34948 + i) → SignatureTakes s i n
signature_read s sets i n h e = subst (SignatureTakes s i) (sym e) h

-- A candidate that clashes with the question is not opened: nothing changes.
pub opens_clash : (s ws : Words) (q : Query) (i : ℕ) (r : Bool) → Clashes s (types_of ws) (query_of q) i r → r ≡ true → Opens s ws (query_of q) i (Ok None) ws
unfolding opened_case
opens_clash s ws q i r c e = record {
  opened = record { len = refl; at = λ j h. refl };
  full = λ refusal x. absurd (omega (arith, ap opened_case x));
  unfit = λ x ask. candidate_failed ask s (types_of ws) (query_of q) i (c.room e) (c.unfit e);
  asks = λ qs x. absurd (omega (arith, ap opened_case x));
  tail = λ qs x. absurd (omega (arith, ap opened_case x));
}
