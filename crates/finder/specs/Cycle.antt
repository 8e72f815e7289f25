-- The members of the search that have loops: the candidates of a question, and the results of a sub-question; how a question and sub-questions begin.
use Rattle.std.specs.Prelude.{ℕ, zero, suc, ◌+◌, ◌-◌, ◌*◌, ◌≤◌, ◌<◌, ◌≡◌, Bool, false, ◌≢◌, List, [], ◌∷◌, eqb, ltb, length, get_or, drop, replicate}
use Rattle.std.proofs.Math.Path.{refl, ap}
use Rattle.std.proofs.Common.{sym, ◌∙◌, subst, arith, get_or-drop}
use Rattle.std.proofs.lemmas.List.{length-replicate}
use Rattle.std.specs.Prelude.{Ok, Err, Option, Some, None}
use Rattle.std.specs.Prelude.{Result as Outcome}
use Rattle.refusals.specs.declared.Refusal.{Refusal}
use Rattle.refusals.specs.Numbers.{number_of}
use Rattle.rules.specs.Lists.{Words}
use Rattle.rules.specs.Layout.{header_impls}
use Rattle.rules.specs.Sheet.{at, many}
use Rattle.rules.specs.Types.{Types, ImplType}
use Rattle.rules.specs.Run.{Run, ◌>>=◌, Out, within}
use Rattle.rules.specs.Search.{end, Result, collect, find_impl_candidates, find_subimpls, try_candidate, before_candidates, question}
use Rattle.rules.specs.Search as rules
use Rattle.rules.specs.Solutions.{AllIn}
use Rattle.rules.proofs.CheckLaws.{passed}
use Rattle.rules.specs.CheckedSheet.{valid}
use Rattle.rules.specs.Yields.{Every, every_weaken, came}
use Rattle.rules.proofs.Yields.{yields_within}
use Rattle.rules.specs.Neat.{Neat, QueriesIn, in_more}
use Rattle.rules.specs.SearchKeeps.{AllKept}
use Rattle.rules.proofs.SearchKeeps.{question_keeps}
use Rattle.rules.proofs.ResultLimits.{question_few}
use Rattle.table.specs.Packing.{types_of, Packed}
use Rattle.trees.specs.Forests.{Single}
use Rattle.refusals.specs.declared.Refusal.TheVariants.{TooDeep, SearchLimit}
use Rattle.refusals.specs.declared.Stopped.{Stopped}
use Rattle.slots.specs.declared.Results.{Results}
use Rattle.slots.specs.Slots.{Table, Slot, Slots, Written, slots_kept}
use Rattle.slots.specs.Adding.{under, Element}
use Rattle.slots.specs.Gathering.{Row}
use Rattle.slots.specs.Turns.{Asked, Got, Answers, answers_refused, answers_same, then_got, then_refused, adding, Stepped, going_start, collect_next, collect-none}
use Rattle.slots.specs.Parts.{part, part_length, part-table, Lent, lent, slots_back}
use Rattle.slots.specs.Settling.{Sub, Settles, JoinSettles}
use borrow.Rule.Slice.PartMut.{put_mid}
use Rattle.candidates.specs.Find.{Standing, from_on}
use Rattle.admitted.specs.declared.Found.{Found as Sets}
use Rattle.admitted.specs.Found.{Finds, Gives, ids, nodes_of, found_stops, found_goes, found-standing}
use Rattle.queries.specs.declared.Query.{Query}
use Rattle.queries.specs.declared.Queries.{Queries}
use Rattle.queries.specs.Queries.{query_of, query_in, queries_of, queries_next, queries_none}
use Rattle.queries.specs.Takes.{SignatureTakes}
use Rattle.steps.specs.declared.Finder.{Finder}
use Rattle.steps.specs.Asking.{finder_of, sets_of, takes_of, Sound, Scratch, Searching, Front, Asking, Tail, Begins, Opens, front_table, asking_table}
use Rattle.steps.specs.Loops.{Stepping, stepping_start, stepping_few, stepping_low, stepping_same, stepping_end, stepping_on, stepping_refused}
use Rattle.finder.specs.Singles.{One, question_ones}
use Rattle.finder.specs.Steps.{ask_below, candidates_left, question_over, question_deep, question_start}
use Rattle.finder.specs.Tails.{sub_one, tail_next, tail_last, Resting, rest-turn, rest_end}
use Rattle.steps.specs.Built.{NoneLeft}
use Rattle.finder.specs.Members.{CandidateStep, ResultStep, candidate_stops, candidate_none, candidate_sub, candidate_steps, result_sub, result_element, result_steps}

pub few_impls : (s sets : Words) (f : Finder) → Searching s sets f → many s header_impls ≤ 384
few_impls s sets f h = omega (arith, (valid s (passed s h.stands.checked).values).impl_count)

-- How a question ends before its candidates, and goes on with them.
module _ (L : ℕ) (a : rules.Finder) (basic : Bool) (q : ImplType) (d count : ℕ) where
  pub question_limit : (ts : Types) (out : Words) → L < count + 1 → Answers (within (ltb L) (question d a basic ts q) count) (Err (record { refusal = SearchLimit; count = count + 1 })) out
  question_limit ts out h = answers_refused _ (record { refusal = SearchLimit; count = count + 1 }) out (question_over L a basic ts q count d (omega arith))

  pub question_depth : (ts : Types) (out : Words) → count + 1 ≤ L → d ≡ 0 → Answers (within (ltb L) (question d a basic ts q) count) (Err (record { refusal = TooDeep; count = count + 1 })) out
  question_depth ts out h e = answers_refused _ (record { refusal = TooDeep; count = count + 1 }) out (question_deep L a basic ts q count d e (omega arith))

  module _ (ws us : Words) (first : Asked) (low : count + 1 ≤ L) (deep : d ≢ 0) (b : Begins a basic ws q (count + 1) first us) where
    starts : within (ltb L) (question d a basic (types_of ws) q) count ≡ within (ltb L) (before_candidates a basic (types_of ws) q >>= λ fs. candidates_left (d - 1) a basic (types_of ws) q fs) (count + 1)
    starts = question_start L a basic (types_of ws) q count d deep (omega arith)

    pub question_refused : (s : Stopped) → first ≡ Err s → Answers (within (ltb L) (question d a basic (types_of ws) q) count) (Err s) us
    question_refused s e = answers_refused _ s us (starts ∙ then_refused (ltb L) (before_candidates a basic (types_of ws) q) (λ fs. candidates_left (d - 1) a basic (types_of ws) q fs) (count + 1) (number_of s.refusal) s.count ((b.at L).refuses s e))

    module _ (h : Results) (e : first ≡ Ok h) where
      stood : Got (within (ltb L) (before_candidates a basic (types_of ws) q) (count + 1)) h.count h.n us
      stood = (b.at L).found h e

      pub question_goes : (r : Asked) (out : Words) → Packed ws → Stepped L (candidates_left (d - 1) a basic (types_of us) q) h.n h.count us r out → Answers (within (ltb L) (question d a basic (types_of ws) q) count) r out
      question_goes r out p s =
          let t = front_table ws us b.front.len b.front.at p in
          answers_same _ (within (ltb L) (candidates_left (d - 1) a basic (types_of ws) q stood.results) h.count) r out
          (starts ∙ then_got (ltb L) (before_candidates a basic (types_of ws) q) (λ fs. candidates_left (d - 1) a basic (types_of ws) q fs) (count + 1) h.count stood.results stood.is)
          (subst (λ (ts : Types). Answers (within (ltb L) (candidates_left (d - 1) a basic ts q stood.results) h.count) r out) t.is (s.at stood.results stood.size stood.stand))

module _ (a : rules.Finder) (basic : Bool) (ws us : Words) (q : ImplType) (count : ℕ) (first : Asked) (b : Begins a basic ws q count first us) (h : Results) (e : first ≡ Ok h) where
  began : Got (within (ltb 0) (before_candidates a basic (types_of ws) q) count) h.count h.n us
  began = (b.at 0).found h e

  pub begun_results : (h.count ≤ 4000000000) × Row us 1282 h.n × (h.n ≤ 4)
  begun_results = (began.low, record { results = began.results; size = began.size; slots = began.stand }, began.few)

pub begun_long : (a : rules.Finder) (basic : Bool) (ws us : Words) (p : ImplType) (count : ℕ) (r : Asked) → Begins a basic ws p count r us → length us ≡ length ws
begun_long a basic ws us p count r b = b.front.len

pub begun_asking : (a : rules.Finder) (basic : Bool) (ws us : Words) (q : Query) (p : ImplType) (count : ℕ) (r : Asked) → Asking ws q → Begins a basic ws p count r us → Asking us q
begun_asking a basic ws us q p count r h b = asking_table ws us q h (front_table ws us b.front.len b.front.at h.packed)

-- The loop over candidates: those from an id on are left.
pub record Trying (s : Words) (f : Finder) (basic : ℕ) (q : Query) (d : ℕ) (x : Sets) (n₀ c₀ : ℕ) (ws₀ ws : Words) (from n c : ℕ) : Type 0 where
  pub front : Front ws₀ ws
  pub asking : Asking ws q
  pub going : Stepping f.limit (candidates_left d (finder_of s f) (eqb basic 1) (types_of ws₀) (query_of q)) (λ fs. collect (try_candidate (ask_below d (finder_of s f)) s (types_of ws₀) (query_of q)) (from_on from (ids s f.source x)) fs) n₀ c₀ ws₀ n c ws

module _ (s : Words) (f : Finder) (basic : ℕ) (q : Query) (d : ℕ) (x : Sets) (n₀ c₀ : ℕ) (ws₀ ws : Words) (from n c : ℕ) (t : Trying s f basic q d x n₀ c₀ ws₀ ws from n c) where
  pub trying_asking : Asking ws q
  trying_asking = t.asking

  pub trying_long : length ws ≡ length ws₀
  trying_long = t.front.len

  pub trying_few : n ≤ 4
  trying_few = stepping_few f.limit _ n₀ c₀ ws₀ _ n c ws t.going

  pub trying_low : c ≤ 4000000000
  trying_low = stepping_low f.limit _ n₀ c₀ ws₀ _ n c ws t.going

-- Where candidates cannot be looked for.
pub sets_refused : (s sets : Words) (f : Finder) (basic : ℕ) (q : Query) (d n₀ c₀ : ℕ) (ws₀ : Words) → Searching s sets f → (refusal : Refusal) → Finds s f.source (types_of ws₀) (query_of q) basic (Err refusal)
    → Stepped f.limit (candidates_left d (finder_of s f) (eqb basic 1) (types_of ws₀) (query_of q)) n₀ c₀ ws₀ (Err (record { refusal = refusal; count = c₀ })) ws₀
unfolding candidates_left within ◌>>=◌
sets_refused s sets f basic q d n₀ c₀ ws₀ search refusal h = record {
  at = λ fs u t. answers_refused _ (record { refusal = refusal; count = c₀ }) ws₀ (ap (λ (m : Run Words). within (ltb f.limit) (m >>= λ is. collect (try_candidate (ask_below d (finder_of s f)) s (types_of ws₀) (query_of q)) is fs) c₀)
      (found_stops s f.source (sets_of sets) (types_of ws₀) (query_of q) basic search.stands (Err refusal) refusal h refl f.generics));
}

module _ (s sets : Words) (f : Finder) (basic : ℕ) (q : Query) (d : ℕ) (x : Sets) (n₀ c₀ : ℕ) (ws₀ : Words) (search : Searching s sets f) (sets-are : Finds s f.source (types_of ws₀) (query_of q) basic (Ok x)) where
  -- All are left,
  pub trying_start : Asking ws₀ q → Row ws₀ 1282 n₀ → n₀ ≤ 4 → c₀ ≤ 4000000000 → Trying s f basic q d x n₀ c₀ ws₀ ws₀ 0 n₀ c₀
  unfolding candidates_left ◌>>=◌
  trying_start a row few low = record {
    front = record { len = refl; at = λ i l. refl };
    asking = a;
    going = stepping_same f.limit _ n₀ c₀ ws₀ _ n₀ c₀ ws₀ (stepping_start f.limit _ n₀ c₀ ws₀ ws₀ row few low (λ fs e t. t)) _
        (λ fs. ap (λ (m : Run Words). m >>= λ is. collect (try_candidate (ask_below d (finder_of s f)) s (types_of ws₀) (query_of q)) is fs) (found_goes s f.source (sets_of sets) (types_of ws₀) (query_of q) basic search.stands x sets-are f.generics));
  }

  standing : Standing s f.source (sets_of sets) (nodes_of x)
  standing = found-standing s f.source (sets_of sets) (types_of ws₀) (query_of q) basic search.stands x sets-are

  module _ (ws : Words) (from n c : ℕ) (t : Trying s f basic q d x n₀ c₀ ws₀ ws from n c) (packed : Packed ws₀) (o : Option ℕ) (g : Gives s (sets_of sets) x from o) where
    table : Table ws 0 (types_of ws₀)
    table = front_table ws₀ ws t.front.len t.front.at packed

    -- the next is one of them,
    module _ (id : ℕ) (more : o ≡ Some id) (r : Asked) (out : Words) (k : CandidateStep f.limit (try_candidate (ask_below d (finder_of s f)) s (types_of ws) (query_of q) id) n c ws r out) where
      one : Stepped f.limit (adding (try_candidate (ask_below d (finder_of s f)) s (types_of ws₀) (query_of q) id)) n c ws r out
      one = subst (λ (ts : Types). Stepped f.limit (adding (try_candidate (ask_below d (finder_of s f)) s ts (query_of q) id)) n c ws r out) table.is k.step

      here : Stepping f.limit (candidates_left d (finder_of s f) (eqb basic 1) (types_of ws₀) (query_of q)) (λ fs. adding (try_candidate (ask_below d (finder_of s f)) s (types_of ws₀) (query_of q) id) fs >>= λ hs. collect (try_candidate (ask_below d (finder_of s f)) s (types_of ws₀) (query_of q)) (from_on (id + 1) (ids s f.source x)) hs) n₀ c₀ ws₀ n c ws
      here = stepping_same f.limit _ n₀ c₀ ws₀ _ n c ws t.going _
          (λ fs. ap (λ (l : Words). collect (try_candidate (ask_below d (finder_of s f)) s (types_of ws₀) (query_of q)) l fs) (g.found id more f.source standing) ∙ collect_next (try_candidate (ask_below d (finder_of s f)) s (types_of ws₀) (query_of q)) id (from_on (id + 1) (ids s f.source x)) fs)

      pub trying_refused : (e : Stopped) → r ≡ Err e → Stepped f.limit (candidates_left d (finder_of s f) (eqb basic 1) (types_of ws₀) (query_of q)) n₀ c₀ ws₀ (Err e) out
      trying_refused e p = stepping_refused f.limit _ n₀ c₀ ws₀ _ _ n c ws here r out one e p

      pub trying_on : (h : Results) → r ≡ Ok h → Trying s f basic q d x n₀ c₀ ws₀ out (id + 1) h.n h.count
      trying_on h p = record {
        front = record { len = k.front.len ∙ t.front.len; at = λ i l. k.front.at i l ∙ t.front.at i l };
        asking = asking_table ws out q t.asking (front_table ws out k.front.len k.front.at t.asking.packed);
        going = stepping_on f.limit _ n₀ c₀ ws₀ _ _ n c ws here r out one h p;
      }

    -- or none is left.
    pub trying_end : o ≡ None → Stepped f.limit (candidates_left d (finder_of s f) (eqb basic 1) (types_of ws₀) (query_of q)) n₀ c₀ ws₀ (Ok (record { n = n; count = c })) ws
    trying_end e = stepping_end f.limit _ n₀ c₀ ws₀ _ n c ws t.going
        (λ fs. ap (λ (l : Words). collect (try_candidate (ask_below d (finder_of s f)) s (types_of ws₀) (query_of q)) l fs) (g.none e f.source standing) ∙ collect-none (try_candidate (ask_below d (finder_of s f)) s (types_of ws₀) (query_of q)) fs)

-- A result of a sub-question, of which those from one on are asked.
pub record Ready_for (qs : Queries) (from : ℕ) (r : Result) : Type 0 where
  pub one : Single r.1
  pub neat : Neat r.0
  pub inside : QueriesIn (length r.0) (drop from (queries_of qs))

pub record ElementAt (ws : Words) (a : ℕ) (qs : Queries) (from : ℕ) : Type 0 where
  pub result : Result
  pub slot : Slot ws a result
  pub for : Ready_for qs from result
  pub few : qs.n ≤ 4
  pub counts : (k : ℕ) → (query_in qs k).n ≤ 4

-- m of them in slots 5 to 8.
pub record Elements (ws : Words) (m : ℕ) (qs : Queries) (from : ℕ) : Type 0 where
  pub all : List Result
  pub size : length all ≡ m
  pub there : Slots ws 6410 all
  pub for : Every (Ready_for qs from) all
  pub few : qs.n ≤ 4
  pub counts : (k : ℕ) → (query_in qs k).n ≤ 4

-- What each gives is collected.
pub record Collects (L : ℕ) (f : Result → Run (List Result)) (m count : ℕ) (ws : Words) (r : Asked) (out : Words) : Type 0 where
  pub at : (all : List Result) → length all ≡ m → Slots ws 6410 all → Every One all → Answers (within (ltb L) (collect f all []) count) r out

-- k of them are done.
pub record Collecting (L : ℕ) (f : Result → Run (List Result)) (m count : ℕ) (qs : Queries) (from : ℕ) (ws₀ ws : Words) (k n c : ℕ) : Type 0 where
  pub long : length ws ≡ length ws₀
  pub first : Elements ws₀ m qs from
  pub elements : Elements ws m qs from
  pub at : (all : List Result) → length all ≡ m → Slots ws₀ 6410 all → Every One all → Resting L (within (ltb L) (collect f all []) count) f m k ws n c

pub collecting_start : (L : ℕ) (f : Result → Run (List Result)) (m count : ℕ) (qs : Queries) (from : ℕ) (ws : Words) → count ≤ 4000000000 → Elements ws m qs from → Collecting L f m count qs from ws ws 0 0 count
collecting_start L f m count qs from ws low e = record {
  long = refl;
  first = e;
  elements = e;
  at = λ all p t o. record { all = all; size = p; ones = o; there = t; going = going_start L _ (λ fs. collect f all fs) ws count low refl };
}

module _ (L : ℕ) (f : Result → Run (List Result)) (m count : ℕ) (qs : Queries) (from : ℕ) (ws₀ ws : Words) (k n c : ℕ) (g : Collecting L f m count qs from ws₀ ws k n c) where
  now_at : Resting L (within (ltb L) (collect f g.first.all []) count) f m k ws n c
  now_at = g.at g.first.all g.first.size g.first.there (every_weaken (Ready_for qs from) One (λ r h. h.one) g.first.all g.first.for)

  pub collecting_few : n ≤ 4
  collecting_few = now_at.going.few

  pub collecting_long : length ws ≡ length ws₀
  collecting_long = g.long

  pub collecting_low : c ≤ 4000000000
  collecting_low = now_at.going.low

  every_get : (P : Result → Type 0) (rs : List Result) (j : ℕ) (d : Result) → Every P rs → j < length rs → P (get_or rs j d)
  every_get P [] j d h l = absurd (omega arith)
  every_get P (r ∷ rs) zero d h l = h.0
  every_get P (r ∷ rs) (suc j) d h l = every_get P rs j d h.1 (omega arith)

  pub collecting_element : k < m → ElementAt ws (6410 + 1282 * k) qs from
  collecting_element h =
      let e = g.elements in
      record {
        result = get_or e.all k ([], end);
        slot = e.there.at k (omega (arith, e.size));
        for = every_get (Ready_for qs from) e.all k ([], end) e.for (omega (arith, e.size));
        few = e.few;
        counts = e.counts;
      }

  module _ (more : k < m) (small : m ≤ 4) (r : Asked) (out : Words) (s : ResultStep L f k n c ws r out) where
    pub collecting_on : (h : Results) → r ≡ Ok h → Collecting L f m count qs from ws₀ out (k + 1) h.n h.count
    collecting_on h e = record {
      long = s.keeps.len ∙ g.long;
      first = g.first;
      elements = let x = g.elements in record {
        all = x.all;
        size = x.size;
        there = slots_kept ws out 6410 x.all s.keeps.len (λ i p q. s.keeps.at i (omega arith) (omega (arith, x.size))) x.there;
        for = x.for;
        few = x.few;
        counts = x.counts;
      };
      at = λ all p t o. (rest-turn L _ f m k ws out n c r (g.at all p t o) more small s.keeps s.step).on h e;
    }

    pub collecting_refused : (e : Stopped) → r ≡ Err e → Collects L f m count ws₀ (Err e) out
    collecting_refused d e = record { at = λ all p t o. (rest-turn L _ f m k ws out n c r (g.at all p t o) more small s.keeps s.step).stops d e }

  pub collecting_end : m ≤ k → Collects L f m count ws₀ (Ok (record { n = n; count = c })) ws
  collecting_end h = record { at = λ all p t o. rest_end L _ f m k ws n c (g.at all p t o) h }

-- A result's table, copied to slot 9, with the sub-questions that are left.
pub element_of : (ws : Words) (a : ℕ) (qs : Queries) (from : ℕ) → ElementAt ws a qs from → Element ws a
element_of ws a qs from e = record { result = e.result; slot = e.slot; one = e.for.one }

pub element_tail : (ws us : Words) (a : ℕ) (qs : Queries) (from : ℕ) → ElementAt ws a qs from → Written ws us 11538 (types_of (drop a ws), end) → Tail (part 11538 us) qs from
element_tail ws us a qs from e w =
    let t = part-table 11538 us (types_of (drop a ws)) w.slot.table in
    let same : types_of (part 11538 us) ≡ e.result.0 = t.is ∙ e.slot.table.is in
    record {
      packed = t.packed;
      neat = subst Neat (sym same) e.for.neat;
      inside = subst (λ (ts : Types). QueriesIn (length ts) (drop from (queries_of qs))) (sym same) e.for.inside;
      few = e.few;
      counts = e.counts;
    }

-- Sub-questions: none are left, or one.
pub sub-none : (L d : ℕ) (a : rules.Finder) (ws out : Words) (qs : Queries) (from count : ℕ) (r : Asked) → qs.n ≤ from → NoneLeft ws count r out → Answers (within (ltb L) (find_subimpls (ask_below d a) (types_of ws) (drop from (queries_of qs))) count) r out
sub-none L d a ws out qs from count r h n = subst (λ (l : List ImplType). Answers (within (ltb L) (find_subimpls (ask_below d a) (types_of ws) l) count) r out) (sym (queries_none qs from h)) (n.at L (ask_below d a))

pub sub-last : (L d : ℕ) (a : rules.Finder) (ws out : Words) (qs : Queries) (from count : ℕ) (r : Asked) → qs.n ≡ from + 1 → Answers (within (ltb L) (question d a false (types_of ws) (query_of (query_in qs from))) count) r out →
    Answers (within (ltb L) (find_subimpls (ask_below d a) (types_of ws) (drop from (queries_of qs))) count) r out
sub-last L d a ws out qs from count r h w = answers_same _ _ r out (ap (λ (m : Run (List Result)). within (ltb L) m count) (ap (find_subimpls (ask_below d a) (types_of ws)) one ∙ tail_last (ask_below d a) (types_of ws) (query_of (query_in qs from)) (question_few d a false (types_of ws) (query_of (query_in qs from))) (question_ones d a false (types_of ws) (query_of (query_in qs from))))) w
  where
    one : drop from (queries_of qs) ≡ query_of (query_in qs from) ∷ []
    one = queries_next qs from (omega arith) ∙ ap (λ (l : List ImplType). query_of (query_in qs from) ∷ l) (queries_none qs (from + 1) (omega arith))

-- The first of more, asked of a copy of the table in slot 4.
pub first_asking : (ws us : Words) (qs : Queries) (from : ℕ) → Tail ws qs from → from < qs.n → Written ws us 5128 (types_of ws, end) → Asking (part 5128 us) (query_in qs from)
first_asking ws us qs from t h w =
    let x = part-table 5128 us (types_of ws) w.slot.table in
    record {
      packed = x.packed;
      neat = subst Neat (sym x.is) t.neat;
      inside = subst (λ (ts : Types). AllIn (length ts) (query_of (query_in qs from)).1) (sym x.is) (subst (QueriesIn (length (types_of ws))) (queries_next qs from h) t.inside).0;
      few = t.counts from;
    }

module _ (L d : ℕ) (a : rules.Finder) (sound : Sound a) (ws us ys back : Words) (qs : Queries) (from count : ℕ) (first : Asked) (t : Tail ws qs from) (h : from < qs.n) (room : 11538 ≤ length ws)
    (copied : Written ws us 5128 (types_of ws, end)) (w : Answers (within (ltb L) (question d a false (types_of (part 5128 us)) (query_of (query_in qs from))) count) first ys) (l : Lent 5128 us ys back) where
  abbrev q : ImplType
  q = query_of (query_in qs from)

  same : types_of (part 5128 us) ≡ types_of ws
  same = (part-table 5128 us (types_of ws) copied.slot.table).is

  asked : Answers (within (ltb L) (question d a false (types_of ws) q) count) first ys
  asked = subst (λ (ts : Types). Answers (within (ltb L) (question d a false ts q) count) first ys) same w

  runs : within (ltb L) (find_subimpls (ask_below d a) (types_of ws) (drop from (queries_of qs))) count ≡ within (ltb L) (question d a false (types_of ws) q >>= λ rs. collect (sub_one (ask_below d a) (drop (from + 1) (queries_of qs))) rs []) count
  runs = ap (λ (m : Run (List Result)). within (ltb L) m count) (ap (find_subimpls (ask_below d a) (types_of ws)) (queries_next qs from h) ∙ tail_next (ask_below d a) (types_of ws) q (drop (from + 1) (queries_of qs)))

  pub sub_refused : (s : Stopped) (out : Words) → first ≡ Err s → Answers (within (ltb L) (find_subimpls (ask_below d a) (types_of ws) (drop from (queries_of qs))) count) (Err s) out
  sub_refused s out e = answers_refused _ s out (runs ∙ then_refused (ltb L) (question d a false (types_of ws) q) (λ rs. collect (sub_one (ask_below d a) (drop (from + 1) (queries_of qs))) rs []) count (number_of s.refusal) s.count (asked.refuses s e))

  module _ (x : Results) (e : first ≡ Ok x) where
    g : Got (within (ltb L) (question d a false (types_of ws) q) count) x.count x.n ys
    g = asked.found x e

    ones : Every One g.results
    ones = came (Every One) (within (ltb L) (question d a false (types_of ws) q) count).0 g.results (yields_within (Every One) (ltb L) (question d a false (types_of ws) q) count (question_ones d a false (types_of ws) q)) (ap (λ (o : Out (List Result) × ℕ). o.0) g.is)

    inside : QueriesIn (length (types_of ws)) (q ∷ drop (from + 1) (queries_of qs))
    inside = subst (QueriesIn (length (types_of ws))) (queries_next qs from h) t.inside

    kept : AllKept (types_of ws) g.results
    kept = came (AllKept (types_of ws)) (within (ltb L) (question d a false (types_of ws) q) count).0 g.results
        (yields_within (AllKept (types_of ws)) (ltb L) (question d a false (types_of ws) q) count (question_keeps a sound.question sound.ready d false (types_of ws) q t.neat inside.0))
        (ap (λ (o : Out (List Result) × ℕ). o.0) g.is)

    ready : (rs : List Result) → Every One rs → AllKept (types_of ws) rs → Every (Ready_for qs (from + 1)) rs
    ready [] o k = tt
    ready (r ∷ rs) o k = (
      record {
        one = o.0;
        neat = k.0.neat;
        inside = every_weaken (λ (p : ImplType). AllIn (length (types_of ws)) p.1) (λ (p : ImplType). AllIn (length r.0) p.1) (λ p. in_more (length (types_of ws)) (length r.0) k.0.grown p.1) (drop (from + 1) (queries_of qs)) inside.1;
      },
      ready rs o.1 k.1,
    )

    stands : Slots back 6410 g.results
    stands = slots_back 5128 1282 us ys back g.results l (omega (arith, g.size, g.few, copied.len)) g.stand

    pub sub_elements : Elements back x.n qs (from + 1) × (x.n ≤ 4) × (x.count ≤ 4000000000)
    sub_elements = (record { all = g.results; size = g.size; there = stands; for = ready g.results ones kept; few = t.few; counts = t.counts }, g.few, g.low)

    pub sub_goes : (r : Asked) (out : Words) → Collects L (sub_one (ask_below d a) (drop (from + 1) (queries_of qs))) x.n x.count back r out → Answers (within (ltb L) (find_subimpls (ask_below d a) (types_of ws) (drop from (queries_of qs))) count) r out
    sub_goes r out k = answers_same _ _ r out (runs ∙ then_got (ltb L) (question d a false (types_of ws) q) (λ rs. collect (sub_one (ask_below d a) (drop (from + 1) (queries_of qs))) rs []) count x.count g.results g.is) (k.at g.results g.size stands ones)

-- What a candidate comes to once it is opened.
pub searching_takes : (s sets : Words) (f : Finder) (i : ℕ) → Searching s sets f → i < many s header_impls → SignatureTakes s i (at sets (34948 + i))
unfolding takes_of
searching_takes s sets f i h l = subst (SignatureTakes s i) (get_or-drop 34948 sets i 0) (h.taken.signatures i l)

module _ (s ws us : Words) (q : ImplType) (i : ℕ) (x : Outcome (Option Queries) Refusal) (o : Opens s ws q i x us) where
  pub opened_full : (L n cur : ℕ) (ask : Types → ImplType → Run (List Result)) (refusal : Refusal) → x ≡ Err refusal → CandidateStep L (try_candidate ask s (types_of ws) q i) n cur ws (Err (record { refusal = refusal; count = cur })) us
  opened_full L n cur ask refusal e = candidate_stops L _ n cur refusal ws us (o.full refusal e ask) o.opened

  pub opened_unfit : (L : ℕ) (h : Results) (ask : Types → ImplType → Run (List Result)) (y : Option Queries) → x ≡ Ok y → y ≡ None → h.n ≤ 4 → h.count ≤ 4000000000 → CandidateStep L (try_candidate ask s (types_of ws) q i) h.n h.count ws (Ok h) us
  opened_unfit L h ask y e none few low = candidate_none L _ h ws us (o.unfit (e ∙ (λ j. Ok (none j))) ask) o.opened few low

  module _ (y : Option Queries) (e : x ≡ Ok y) (qs : Queries) (some : y ≡ Some qs) where
    fits : x ≡ Ok (Some qs)
    fits = e ∙ (λ j. Ok (some j))

    pub opened_tail : Tail (part 6410 us) qs 0
    opened_tail = o.tail qs fits

    pub opened_part : (d : ℕ) → 41024 * d + 47434 ≤ length ws → 41024 * d + 41024 ≤ length (part 6410 us)
    opened_part d h = omega (arith, part_length 6410 us, o.opened.len)

    module _ (L cur : ℕ) (ask : Types → ImplType → Run (List Result)) (ys : Words) (asked : Asked) (room : 12820 ≤ length ws) (w : Answers (within (ltb L) (find_subimpls ask (types_of (part 6410 us)) (drop 0 (queries_of qs))) cur) asked ys) (l : length ys ≡ length (part 6410 us)) where
      back : Lent 6410 us ys (put_mid 6410 (length us - 6410) us ys)
      back = lent 6410 us ys (omega (arith, o.opened.len)) l

      pub opened_long : length (put_mid 6410 (length us - 6410) us ys) ≡ length ws
      opened_long = back.long ∙ o.opened.len

      pub opened_sub : Sub (put_mid 6410 (length us - 6410) us ys) 7692 asked
      opened_sub = candidate_sub L 0 cur i ask (queries_of qs) ws us ys _ us asked asked (omega arith) room o.opened w back

      pub opened_steps : (n : ℕ) (r : Asked) (out : Words) → n ≤ 4 → Settles (under i) (put_mid 6410 (length us - 6410) us ys) out n 7692 asked r → CandidateStep L (try_candidate ask s (types_of ws) q i) n cur ws r out
      opened_steps n r out few t = candidate_steps L n cur i ask (queries_of qs) ws us ys _ out asked r few room o.opened w back _ (o.asks qs fits ask) t

-- A result once its table is copied, and those that are left are asked of it.
module _ (L cur k : ℕ) (ask : Types → ImplType → Run (List Result)) (ws us : Words) (qs : Queries) (from : ℕ) (e : ElementAt ws (6410 + 1282 * k) qs from) (below : k < 4) (room : 17948 ≤ length ws)
    (c : Written ws us 11538 (types_of (drop (6410 + 1282 * k) ws), end)) (ys : Words) (asked : Asked) (w : Answers (within (ltb L) (find_subimpls ask (types_of (part 11538 us)) (drop from (queries_of qs))) cur) asked ys) (l : length ys ≡ length (part 11538 us)) where
  returned : Lent 11538 us ys (put_mid 11538 (length us - 11538) us ys)
  returned = lent 11538 us ys (omega (arith, c.len)) l

  pub rest_long : length (put_mid 11538 (length us - 11538) us ys) ≡ length ws
  rest_long = returned.long ∙ c.len

  pub rest_element : Element (put_mid 11538 (length us - 11538) us ys) (6410 + 1282 * k)
  rest_element = result_element L 0 cur k ask (drop from (queries_of qs)) ws us ys _ us asked asked (omega arith) below room c w returned (element_of ws (6410 + 1282 * k) qs from e)

  pub rest-sub : Sub (put_mid 11538 (length us - 11538) us ys) 12820 asked
  rest-sub = result_sub L 0 cur k ask (drop from (queries_of qs)) ws us ys _ us asked asked (omega arith) below room c w returned

  pub rest-steps : (n : ℕ) (r : Asked) (out : Words) → n ≤ 4 → JoinSettles (put_mid 11538 (length us - 11538) us ys) out n (6410 + 1282 * k) 12820 asked r → ResultStep L (sub_one ask (drop from (queries_of qs))) k n cur ws r out
  rest-steps n r out few j = result_steps L n cur k ask (drop from (queries_of qs)) ws us ys _ out asked r few below room c w returned (element_of ws (6410 + 1282 * k) qs from e) j

-- Room in the parts that are lent.
pub rest_part : (ws us : Words) (a d l : ℕ) → 41024 * d + 6410 + 11538 * l ≤ length ws → 0 < l → Written ws us 11538 (types_of (drop a ws), end) → 41024 * d + 6410 + 11538 * (l - 1) ≤ length (part 11538 us)
rest_part ws us a d l h p w = omega (arith, part_length 11538 us, w.len)

pub first_part : (ws us : Words) (d l : ℕ) → 41024 * d + 6410 + 11538 * l ≤ length ws → 0 < l → Written ws us 5128 (types_of ws, end) → 41024 * d + 6410 ≤ length (part 5128 us)
first_part ws us d l h p w = omega (arith, part_length 5128 us, w.len)

pub sub_long : (ws us ys : Words) → Written ws us 5128 (types_of ws, end) → 11538 ≤ length ws → length ys ≡ length (part 5128 us) → length (put_mid 5128 (length us - 5128) us ys) ≡ length ws
sub_long ws us ys w h e = (lent 5128 us ys (omega (arith, w.len)) e).long ∙ w.len

-- What the first of more sub-questions came to, in the words that came back.
module _ (L d : ℕ) (s sets : Words) (f : Finder) (search : Searching s sets f) (ws us ys : Words) (qs : Queries) (from count : ℕ) (first : Asked) (t : Tail ws qs from) (h : from < qs.n) (room : 11538 ≤ length ws)
    (copied : Written ws us 5128 (types_of ws, end)) (w : Answers (within (ltb L) (question d (finder_of s f) false (types_of (part 5128 us)) (query_of (query_in qs from))) count) first ys) (k : length ys ≡ length (part 5128 us)) where
  came_back : Lent 5128 us ys (put_mid 5128 (length us - 5128) us ys)
  came_back = lent 5128 us ys (omega (arith, copied.len)) k

  pub asked_refused : (e : Stopped) → first ≡ Err e → Answers (within (ltb L) (find_subimpls (ask_below d (finder_of s f)) (types_of ws) (drop from (queries_of qs))) count) (Err e) (put_mid 5128 (length us - 5128) us ys)
  asked_refused e p = sub_refused L d (finder_of s f) search.sound ws us ys _ qs from count first t h room copied w came_back e _ p

  module _ (x : Results) (p : first ≡ Ok x) where
    pub asked_elements : Elements (put_mid 5128 (length us - 5128) us ys) x.n qs (from + 1) × (x.n ≤ 4) × (x.count ≤ 4000000000)
    asked_elements = sub_elements L d (finder_of s f) search.sound ws us ys _ qs from count first t h room copied w came_back x p

    pub asked_goes : (r : Asked) (out : Words) → Collects L (sub_one (ask_below d (finder_of s f)) (drop (from + 1) (queries_of qs))) x.n x.count (put_mid 5128 (length us - 5128) us ys) r out → Answers (within (ltb L) (find_subimpls (ask_below d (finder_of s f)) (types_of ws) (drop from (queries_of qs))) count) r out
    asked_goes r out y = sub_goes L d (finder_of s f) search.sound ws us ys _ qs from count first t h room copied w came_back x p r out y

-- New slices for an import: of n words, from a sheet of at most five times as many.
module _ (n : ℕ) (s : Words) (h : length s ≤ 5 * n) where
  long : length s ≤ 5 * length (replicate {A = ℕ} n 0)
  long = subst (λ k. length s ≤ 5 * k) (sym (length-replicate {0} {A = ℕ} n 0)) h

  new_slices : (m : ℕ) → n ≤ m → 256 ≤ m → Scratch s (replicate n 0) (replicate m 0)
  new_slices m l k = record {
    places_long = long;
    map_long = subst (λ j. length s ≤ 5 * j) (sym (length-replicate {0} {A = ℕ} m 0)) (omega arith);
    marks_long = subst (λ j. 256 ≤ j) (sym (length-replicate {0} {A = ℕ} m 0)) k;
  }

pub scratch_small : (s : Words) → length s ≤ 320 → Scratch s (replicate 64 0) (replicate 256 0)
scratch_small s h = new_slices 64 s (omega arith) 256 (omega arith) (omega arith)

pub scratch_middle : (s : Words) → length s ≤ 1280 → Scratch s (replicate 256 0) (replicate 512 0)
scratch_middle s h = new_slices 256 s (omega arith) 512 (omega arith) (omega arith)

pub scratch_wide : (s : Words) (f : Finder) → Sound (finder_of s f) → Scratch s (replicate 1024 0) (replicate 1024 0)
scratch_wide s f h = let short = h.ready.short in new_slices 1024 s (omega (arith, short)) 1024 (omega arith) (omega arith)
