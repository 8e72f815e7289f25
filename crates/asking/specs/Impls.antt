-- The impl call behind its checks: what it relies on, and that it comes to the rules' `impl_within`.
use Rattle.std.specs.Prelude.{ℕ, ◌≤◌, ◌<◌, ◌≡◌, List, [], ◌∷◌, eqb, ltb, length, take, replicate, Ok, Err}
use Rattle.std.specs.Prelude.{Result as Tried}
use Rattle.std.proofs.Math.Path.{refl, ap}
use Rattle.std.proofs.Common.{sym, ◌∙◌, subst, length-take, get_or-take}
use Rattle.std.proofs.Math.Option.{none}
use native.Mathlib.Omega.{arith}
use Rattle.std.proofs.Math.Dec.{leb, leb→le}
use Rattle.rules.specs.Lists.{Words}
use Rattle.rules.specs.Sheet.{at}
use Rattle.rules.specs.Limits.{limit_sheet, limit_question, limit_depth}
use Rattle.rules.specs.Layout.{header_definitions, header_generics}
use Rattle.rules.specs.Types.{Types, ImplType}
use Rattle.rules.specs.Run.{Run, Out, within}
use Rattle.rules.specs.Search.{Result, question}
use Rattle.rules.specs.Check.{refusal, impl_checks, of_sheet, of_ids}
use Rattle.rules.specs.CheckLaws.{unrefused, not_not}
use Rattle.rules.specs.CheckedSheet.{part}
use Rattle.rules.specs.Values.{is_id}
use Rattle.rules.specs.Lists.{holds}
use Rattle.rules.specs.Calls.{question_types, impl_query, impl_search, impl_within}
use Rattle.rules.specs.SearchKeeps.{AllKept}
use Rattle.table.specs.Packing.{types_of, Packed, Becomes}
use Rattle.refusals.specs.declared.Stopped.{Stopped}
use Rattle.refusals.specs.Numbers.{end_number, end_count}
use Rattle.slots.specs.Turns.{Asked, count_of, Answers}
use Rattle.queries.specs.declared.Query.{Query}
use Rattle.queries.specs.Queries.{query_of}
use Rattle.queries.specs.Few.{few_query}
use Rattle.steps.specs.declared.Finder.{Finder}
use Rattle.steps.specs.Asking.{finder_of, Searching}
use Rattle.loading.specs.Nodes.{Fitting}
use Rattle.loading.specs.Exports.{Asks, Reads, Exports}
use Rattle.loading.specs.Checked.{impl_fitting, impl_asks}
use Rattle.closing.specs.Searched.{impl_kept}
use Rattle.closing.specs.Ends.{Front, IfFound, EndsImpl, front_self, ends_front, ends_call, searched_one}
use Rattle.closing.specs.Ended.{Ends}

-- A question that passed its checks: its table fits, and its query's types are nodes of it.
pub record Questions (q : Words) : Type 0 where
  pub fitting : Fitting (question_types q)
  pub few : length (impl_query q).1 ≤ 4
  pub asks : (r : Query) → r.n ≤ 4 → query_of r ≡ impl_query q → Asks (question_types q) r

-- A call that passed its checks, with the sets of its source.
pub record Impls (s sets q : Words) (f : Finder) (basic : ℕ) : Type 0 where
  pub searching : Searching s sets f
  pub passed : refusal (impl_checks (finder_of s f) basic q) ≡ none
  pub sheet_short : length s ≤ limit_sheet
  pub short : length q ≤ limit_question

module _ (s sets q : Words) (f : Finder) (basic : ℕ) (h : Impls s sets q f basic) where
  pub impls_question : Questions q
  impls_question = record {
    fitting = impl_fitting (finder_of s f) basic q h.passed h.sheet_short h.short;
    few = few_query (finder_of s f) basic q h.sheet_short h.passed;
    asks = impl_asks (finder_of s f) basic q h.passed h.sheet_short h.short;
  }

  pub impls_basic : basic < 2
  unfolding impl_checks of_sheet of_ids
  impls_basic =
      let ids = not_not (holds (is_id s header_definitions f.source ∷ is_id s header_generics f.generics ∷ leb basic 1 ∷ [])) (unrefused (impl_checks (finder_of s f) basic q) h.passed 4) in
      let l = leb→le basic 1 (part (is_id s header_definitions f.source ∷ is_id s header_generics f.generics ∷ leb basic 1 ∷ []) ids 2) in
      omega arith

-- The loaded table, and the query over it.
pub loaded_asks : (q ts : Words) (r : Query) → Questions q → Becomes ts (question_types q) → Reads (impl_query q) r → Asks (types_of ts) r
loaded_asks q ts r h b e = subst (λ (x : Types). Asks x r) (sym b.is) (h.asks r e.few e.is)

pub loaded_packed : (q ts : Words) → Becomes ts (question_types q) → Packed ts
loaded_packed q ts b = b.packed

pub exported : (q ts us : Words) (p r : Query) → Becomes ts (question_types q) → Reads (impl_query q) p → Exports (types_of ts) (query_of p) us r → Exports (question_types q) (impl_query q) us r
exported q ts us p r b e x = subst (λ (i : ImplType). Exports (question_types q) i us r) e.is (subst (λ (t : Types). Exports t (query_of p) us r) b.is x)

pub front_taken : (ws us : Words) → 2564 ≤ length ws → us ≡ take 2564 ws → Front ws us
front_taken ws us h e = record { long = omega (arith, ap (λ (l : Words). length l) e, length-take 2564 ws); same = λ i l. ap (λ (w : Words). at w i) e ∙ get_or-take 2564 ws i 0 l }

pub ended : (s q ts : Words) (p asked : Query) (searched : Asked) (vs ws buf out : Words) (r : ℕ) → Becomes ts (question_types q) → Reads (impl_query q) p → Front vs ws → EndsImpl s (types_of ts) (query_of p) (query_of asked) searched ws buf out r → EndsImpl s (question_types q) (impl_query q) (query_of asked) searched vs buf out r
ended s q ts p asked searched vs ws buf out r b e f x = ends_front s (question_types q) (impl_query q) (query_of asked) searched vs ws buf out r f (subst (λ (i : ImplType). EndsImpl s (question_types q) i (query_of asked) searched ws buf out r) e.is (subst (λ (t : Types). EndsImpl s t (query_of p) (query_of asked) searched ws buf out r) b.is x))

pub new_table : 1025 ≤ length (replicate {A = ℕ} 1025 0)
new_table = omega arith

pub new_map : 256 ≤ length (replicate {A = ℕ} 256 0)
new_map = omega arith

-- The count after.
count-after : (o : Out (List Result) × ℕ) (a : Asked) (out : Words) → Answers o a out → count_of a ≡ o.1
count-after o (Ok h) out w = ap (λ (x : Out (List Result) × ℕ). x.1) (sym (w.found h refl).is)
count-after o (Err k) out w = ap (λ (x : Out (List Result) × ℕ). x.1) (sym (w.refuses k refl))

module _ (s sets q : Words) (f : Finder) (basic count : ℕ) (h : Impls s sets q f basic) (us vs : Words) (asked : Query) (x : Exports (question_types q) (impl_query q) us asked) (searched : Asked)
    (w : Answers (within (ltb f.limit) (question 16 (finder_of s f) (eqb basic 1) (types_of us) (query_of asked)) count) searched vs) where
  -- The search is the rules'.
  searches : impl_search (finder_of s f) (eqb basic 1) q ≡ question 16 (finder_of s f) (eqb basic 1) (types_of us) (query_of asked)
  unfolding impl_search
  searches = ap (λ (e : ImplType × Types). question limit_depth (finder_of s f) (eqb basic 1) e.1 e.0) x.is

  answers : Answers (within (ltb f.limit) (impl_search (finder_of s f) (eqb basic 1) q) count) searched vs
  answers = subst (λ (m : Run (List Result)). Answers (within (ltb f.limit) m count) searched vs) (sym searches) w

  pub ask_one : IfFound searched asked vs
  ask_one = searched_one _ searched vs (types_of us) asked answers
      (λ rs e. subst (λ (ts : Types). AllKept ts rs) (ap (λ (y : ImplType × Types). y.1) x.is) (impl_kept (finder_of s f) basic q h.sheet_short h.passed (ltb f.limit) (eqb basic 1) count rs _ (λ i. (e i, (within (ltb f.limit) (impl_search (finder_of s f) (eqb basic 1) q) count).1)))) x.asks

  pub ask_ends : (buf out : Words) (r : Tried ℕ Stopped) → 662794 ≤ length vs → EndsImpl s (question_types q) (impl_query q) (query_of asked) searched vs buf out (end_number r) → end_count r ≡ count_of searched → Ends (impl_within (ltb f.limit) (finder_of s f) (eqb basic 1) q count) buf out r
  unfolding impl_within
  ask_ends buf out r long e k = record {
    closed = ends_call s q (question_types q) (impl_query q) (query_of asked) searched vs buf out (end_number r) e refl refl (ap (λ (y : ImplType × Types). y.0) (sym x.is)) vs _ (front_self vs (omega arith)) answers;
    count = k ∙ count-after _ searched vs answers;
  }
