-- Results of a sub-search added behind those of a search, one by one: `add_results` of the rules.
use Rattle.std.specs.Prelude.{ℕ, ◌+◌, ◌*◌, ◌≤◌, ◌<◌, ◌≡◌, refl, Bool, List, [], ◌∷◌, ◌++◌, map, length, drop, Ok, Err}
use Rattle.std.proofs.Common.{sym, ◌∙◌, add-one, arith, length-append, length-drop, drop-cons}
use Rattle.std.proofs.Math.Path.{ap}
use Rattle.std.proofs.Math.ListN.{get_or}
use Rattle.rules.specs.Lists.{Words}
use Rattle.rules.specs.Sheet.{at}
use Rattle.rules.specs.Run.{within}
use Rattle.rules.specs.Search.{end, Result, add_results}
use Rattle.trees.specs.Forests.{Single}
use Rattle.refusals.specs.declared.Refusal.{Refusal}
use Rattle.slots.specs.declared.Results.{Results}
use Rattle.slots.specs.Slots.{slot_length, Slot, Slots, slot_kept, slots_kept}
use Rattle.slots.specs.Copies.{Filled}
use Rattle.slots.specs.Adding.{Verdict, results_end, Adds, Gives, behind, Element, Joins}
use Rattle.slots.specs.Turns.{Asked, Answers, answers_refused, answers_found}

-- Some m results stand from a place on.
pub record Row (ws : Words) (a m : ℕ) : Type 0 where
  pub results : List Result
  pub size : length results ≡ m
  pub slots : Slots ws a results

-- What is made of the results at `from` is added behind n; slot 0 and what lies behind slot 4 is as it was.
pub record Gathers (give : Result → Result) (ws us : Words) (n from : ℕ) (sub : Results) (r : Asked) : Type 0 where
  pub len : length us ≡ length ws
  pub low : (i : ℕ) → i < slot_length → at us i ≡ at ws i
  pub high : (i : ℕ) → results_end ≤ i → at us i ≡ at ws i
  pub at : (fs gs : List Result) → length fs ≡ n → length gs ≡ sub.n → Slots ws slot_length fs → Slots ws from gs → (over : ℕ → Bool) → Answers (within over (add_results fs (map give gs)) sub.count) r us

-- On the way: k of them are added, and n results stand.
pub record Partly (give : Result → Result) (fs gs : List Result) (ws : Words) (n k : ℕ) : Type 0 where
  pub results : List Result
  pub size : length results ≡ n
  pub stand : Slots ws slot_length results
  pub same : add_results fs (map give gs) ≡ add_results results (map give (drop k gs))

pub record Gathering (give : Result → Result) (ws us : Words) (from n₀ n m k : ℕ) : Type 0 where
  pub len : length us ≡ length ws
  pub few : n ≤ 4
  pub low : (i : ℕ) → i < slot_length → at us i ≡ at ws i
  pub high : (i : ℕ) → results_end ≤ i → at us i ≡ at ws i
  pub at : (fs gs : List Result) → length fs ≡ n₀ → length gs ≡ m → Slots ws slot_length fs → Slots ws from gs → Partly give fs gs us n k

-- The same behind the tree of the result at e.
pub record JoinGathers (ws us : Words) (n e from : ℕ) (sub : Results) (r : Asked) : Type 0 where
  pub at : (x : Result) → Slot ws e x → Single x.1 → Gathers (behind x.1) ws us n from sub r

pub record JoinGathering (ws us : Words) (e from n₀ n m k : ℕ) : Type 0 where
  pub at : (x : Result) → Slot ws e x → Single x.1 → Gathering (behind x.1) ws us from n₀ n m k

pub gathering_none : (give : Result → Result) (ws : Words) (from n m : ℕ) → n ≤ 4 → Gathering give ws ws from n n m 0
gathering_none give ws from n m h = record {
  len = refl;
  few = h;
  low = λ i l. refl;
  high = λ i l. refl;
  at = λ fs gs e d s t. record { results = fs; size = e; stand = s; same = refl };
}

module _ (give : Result → Result) (ws us : Words) (from n₀ n m k : ℕ) (behind-all : 6410 ≤ from) (row : Row ws from m) (g : Gathering give ws us from n₀ n m k) (more : k < m) where
  -- Result k stands still.
  still : (gs : List Result) → length gs ≡ m → Slots ws from gs → Slot us (from + slot_length * k) (get_or gs k ([], end))
  still gs d t = (slots_kept ws us from gs g.len (λ i p q. g.high i (omega arith)) t).at k (omega arith)

  pub filled_next : Filled us (from + 1282 * k)
  filled_next = record { result = get_or row.results k ([], end); slot = still row.results row.size row.slots }

  -- The rule's next result.
  next : (gs : List Result) → length gs ≡ m → map give (drop k gs) ≡ give (get_or gs k ([], end)) ∷ map give (drop (k + 1) gs)
  next gs d = ap (map give) (drop-cons gs k ([], end) (omega arith)) ∙ ap (λ i. give (get_or gs k ([], end)) ∷ map give (drop i gs)) (sym (add-one k))

  module _ (vs : Words) (o : Verdict) (a : Gives give us vs n (from + 1282 * k) o) where
    frame : Adds us vs n (give (get_or row.results k ([], end))) o
    frame = a.at (get_or row.results k ([], end)) (still row.results row.size row.slots)

    pub gathering_more : o ≡ Ok tt → Gathering give ws vs from n₀ (n + 1) m (k + 1)
    gathering_more e = record {
      len = frame.len ∙ g.len;
      few = omega (arith, frame.few e);
      low = λ i l. frame.low i l ∙ g.low i l;
      high = λ i l. frame.high i l ∙ g.high i l;
      at = λ fs gs p d s t. one fs gs p d s t;
    }
      where
        one : (fs gs : List Result) → length fs ≡ n₀ → length gs ≡ m → Slots ws slot_length fs → Slots ws from gs → Partly give fs gs vs (n + 1) (k + 1)
        one fs gs p d s t =
            let q = g.at fs gs p d s t in
            let x = get_or gs k ([], end) in
            let h = (a.at x (still gs d t)).at q.results q.size q.stand in
            record {
              results = q.results ++ (give x ∷ []);
              size = length-append q.results (give x ∷ []) ∙ ap (λ i. i + 1) q.size;
              stand = h.stand e;
              same = q.same ∙ ap (add_results q.results) (next gs d) ∙ h.goes e (map give (drop (k + 1) gs));
            }

    pub gathering_stops : (refusal : Refusal) (sub : Results) → o ≡ Err refusal → m ≡ sub.n → Gathers give ws vs n₀ from sub (Err (record { refusal = refusal; count = sub.count }))
    unfolding within
    gathering_stops refusal sub e z = record {
      len = frame.len ∙ g.len;
      low = λ i l. frame.low i l ∙ g.low i l;
      high = λ i l. frame.high i l ∙ g.high i l;
      at = λ fs gs p d s t over.
          let d' : length gs ≡ m = d ∙ sym z in
          let q = g.at fs gs p d' s t in
          let x = get_or gs k ([], end) in
          let h = (a.at x (still gs d' t)).at q.results q.size q.stand in
          answers_refused _ (record { refusal = refusal; count = sub.count }) vs (ap (λ r. within over r sub.count) (q.same ∙ ap (add_results q.results) (next gs d') ∙ h.stops refusal e (map give (drop (k + 1) gs))));
    }

drop_all : (k : ℕ) (gs : List Result) → length gs ≤ k → drop k gs ≡ []
drop_all k gs h = none (drop k gs) (omega (arith, length-drop k gs))
  where
    none : (l : List Result) → length l ≡ 0 → l ≡ []
    none [] e = refl
    none (x ∷ l) e = absurd (omega arith)

pub gathering_done : (give : Result → Result) (ws us : Words) (from n₀ n k : ℕ) (sub : Results) → Gathering give ws us from n₀ n sub.n k → sub.n ≤ k → sub.count ≤ 4000000000 → Gathers give ws us n₀ from sub (Ok (record { n = n; count = sub.count }))
unfolding within add_results
gathering_done give ws us from n₀ n k sub g h low = record {
  len = g.len;
  low = g.low;
  high = g.high;
  at = λ fs gs p d s t over.
      let q = g.at fs gs p d s t in
      answers_found _ (record { n = n; count = sub.count }) q.results us (ap (λ r. within over r sub.count) (q.same ∙ ap (λ (l : List Result). add_results q.results (map give l)) (drop_all k gs (omega arith)))) low q.size g.few q.stand;
}

-- The element stands still.
module _ (ws us : Words) (e from n₀ n m k : ℕ) (el : Element ws e) (behind-all : 6410 ≤ e) (g : JoinGathering ws us e from n₀ n m k) where
  pub element_next : Element us e
  element_next =
      let h = g.at el.result el.slot el.one in
      record { result = el.result; slot = slot_kept ws us e el.result h.len (λ i p q. h.high i (omega arith)) el.slot; one = el.one }

  pub join_filled_next : 6410 ≤ from → Row ws from m → k < m → Filled us (from + 1282 * k)
  join_filled_next b row more = filled_next (behind el.result.1) ws us from n₀ n m k b row (g.at el.result el.slot el.one) more

  step : (x : Result) → Slot ws e x → Gathering (behind x.1) ws us from n₀ n m k → Slot us e x
  step x s h = slot_kept ws us e x h.len (λ i p q. h.high i (omega arith)) s

  pub joining_more : (vs : Words) (o : Verdict) → 6410 ≤ from → Row ws from m → k < m → Joins us vs n e (from + 1282 * k) o → o ≡ Ok tt → JoinGathering ws vs e from n₀ (n + 1) m (k + 1)
  joining_more vs o b row more j d = record {
    at = λ x s one. let h = g.at x s one in gathering_more (behind x.1) ws us from n₀ n m k b row h more vs o (j.at x (step x s h) one) d;
  }

  pub joining_few : (vs : Words) (o : Verdict) → 6410 ≤ from → Row ws from m → k < m → Joins us vs n e (from + 1282 * k) o → o ≡ Ok tt → n + 1 ≤ 4
  joining_few vs o b row more j d = ((joining_more vs o b row more j d).at el.result el.slot el.one).few

  pub joining_stops : (vs : Words) (o : Verdict) (refusal : Refusal) (sub : Results) → 6410 ≤ from → Row ws from m → k < m → Joins us vs n e (from + 1282 * k) o → o ≡ Err refusal → m ≡ sub.n → JoinGathers ws vs n₀ e from sub (Err (record { refusal = refusal; count = sub.count }))
  joining_stops vs o refusal sub b row more j d z = record {
    at = λ x s one. let h = g.at x s one in gathering_stops (behind x.1) ws us from n₀ n m k b row h more vs o (j.at x (step x s h) one) refusal sub d z;
  }

pub joining_none : (ws : Words) (e from n m : ℕ) → n ≤ 4 → JoinGathering ws ws e from n n m 0
joining_none ws e from n m h = record { at = λ x s one. gathering_none (behind x.1) ws from n m h }

pub joining_done : (ws us : Words) (e from n₀ n k : ℕ) (sub : Results) → JoinGathering ws us e from n₀ n sub.n k → sub.n ≤ k → sub.count ≤ 4000000000 → JoinGathers ws us n₀ e from sub (Ok (record { n = n; count = sub.count }))
joining_done ws us e from n₀ n k sub g h low = record { at = λ x s one. gathering_done (behind x.1) ws us from n₀ n k sub (g.at x s one) h low }
