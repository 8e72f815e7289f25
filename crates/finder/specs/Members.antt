-- The members of the cycle: what each leaves, in the part of the slice that it is lent, and the laws that lead there from what it calls.
-- A question's part: slot 0 the table, slots 1 to 4 its results, from slot 5 on the part of a candidate's sub-questions. A part of sub-questions: slot 0 the table,
-- slots 1 to 4 their results, from slot 4 on the part of the first, whose results stand in slots 5 to 8, and from slot 9 on the part of those that are left. Slot 4 has the first one's table,
-- and only then the fourth result.
use Rattle.std.specs.Prelude.{ℕ, ◌+◌, ◌-◌, ◌*◌, ◌≤◌, ◌<◌, ◌≡◌, List, [], ◌∷◌, map, ltb, length, drop, Ok, Err}
use Rattle.std.proofs.Common.{sym, ◌∙◌, ap, subst, arith}
use Rattle.rules.specs.Lists.{Words}
use Rattle.rules.specs.Sheet.{at}
use Rattle.rules.specs.Types.{Types, ImplType}
use Rattle.rules.specs.Run.{Run, done, stop, ◌>>=◌, Out, within}
use Rattle.rules.specs.Search.{end, Result, add_results, collect, find_subimpls}
use Rattle.table.specs.Packing.{types_of}
use Rattle.trees.specs.Forests.{Single}
use Rattle.refusals.specs.declared.Refusal.{Refusal}
use Rattle.refusals.specs.Numbers.{number_of}
use Rattle.slots.specs.declared.Results.{Results}
use Rattle.slots.specs.Slots.{slot_length, Slot, Written, slot_kept, slots_kept}
use Rattle.slots.specs.Adding.{under, behind, Element}
use Rattle.slots.specs.Turns.{Asked, Answers, answers_refused, answers_found, adding, Going, Stepped, Turned, turn, going_same, going_end, collect_next, collect-none}
use Rattle.slots.specs.Parts.{part, part-table, Lent}
use Rattle.slots.specs.Settling.{Sub, Settles, JoinSettles, sub_answered, settled}
use Rattle.steps.specs.Asking.{Front, Opened}
use Rattle.finder.specs.Tails.{sub_one, Keeps}

-- The words of a question's part with d levels left, and of a part of sub-questions, of which l are left.
abbrev pub question_room : ℕ → ℕ
question_room d = 41024 * d + 6410

abbrev pub tail_room : ℕ → ℕ → ℕ
tail_room d l = question_room d + 11538 * (l - 1)

-- A member of the loop over candidates: what one gives is added behind n.
pub record CandidateStep (L : ℕ) (run : Run (List Result)) (n cur : ℕ) (ws : Words) (r : Asked) (out : Words) : Type 0 where
  pub front : Front ws out
  pub step : Stepped L (adding run) n cur ws r out

-- A member of the loop over the results of a sub-question: what result k gives with those that are left is added behind n.
pub record ResultStep (L : ℕ) (f : Result → Run (List Result)) (k n cur : ℕ) (ws : Words) (r : Asked) (out : Words) : Type 0 where
  pub keeps : Keeps ws out
  pub step : (x : Result) → Slot ws (6410 + 1282 * k) x → Single x.1 → Stepped L (adding (f x)) n cur ws r out

-- A step from words whose slots 1 to 4 are the same.
stepped_from : (L : ℕ) (step : List Result → Run (List Result)) (n cur : ℕ) (ws us : Words) (r : Asked) (out : Words) → n ≤ 4 → length us ≡ length ws → ((i : ℕ) → i < 6410 → at us i ≡ at ws i) → Stepped L step n cur us r out → Stepped L step n cur ws r out
stepped_from L step n cur ws us r out few e h s = record { at = λ fs p t. s.at fs p (slots_kept ws us slot_length fs e (λ i l m. h i (omega arith)) t) }

-- The loop over candidates: b is the next, or none is left.
pub collect-turn : {B : Type 0} (L : ℕ) (whole : Out (List Result) × ℕ) (f : B → Run (List Result)) (b : B) (bs cs : List B) (n cur : ℕ) (ws : Words) (r : Asked) (out : Words) → bs ≡ b ∷ cs → Going L whole (λ fs. collect f bs fs) ws n cur → CandidateStep L (f b) n cur ws r out → Turned L whole (λ fs. collect f cs fs) r out
collect-turn L whole f b bs cs n cur ws r out e g s =
    turn L whole (adding (f b)) (λ fs. collect f cs fs) ws out n cur r
    (going_same L whole (λ fs. collect f bs fs) (λ fs. adding (f b) fs >>= λ hs. collect f cs hs) ws n cur (λ fs. ap (λ l. collect f l fs) e ∙ collect_next f b cs fs) g) s.step

pub collect_end : {B : Type 0} (L : ℕ) (whole : Out (List Result) × ℕ) (f : B → Run (List Result)) (bs : List B) (n cur : ℕ) (ws : Words) → bs ≡ [] → Going L whole (λ fs. collect f bs fs) ws n cur → Answers whole (Ok (record { n = n; count = cur })) ws
collect_end L whole f bs n cur ws e g = going_end L whole (λ fs. collect f bs fs) ws n cur (λ fs. ap (λ l. collect f l fs) e ∙ collect-none f fs) g

-- A candidate that is refused, and one that does not fit.
pub candidate_stops : (L : ℕ) (run : Run (List Result)) (n cur : ℕ) (refusal : Refusal) (ws out : Words) → run ≡ stop (number_of refusal) → Opened ws out → CandidateStep L run n cur ws (Err (record { refusal = refusal; count = cur })) out
unfolding within ◌>>=◌
candidate_stops L run n cur refusal ws out e o = record {
  front = record { len = o.len; at = λ i l. o.at i (omega arith) };
  step = record { at = λ fs p t. answers_refused _ (record { refusal = refusal; count = cur }) out (ap (λ (x : Run (List Result)). within (ltb L) (adding x fs) cur) e) };
}

pub candidate_none : (L : ℕ) (run : Run (List Result)) (h : Results) (ws out : Words) → run ≡ done [] → Opened ws out → h.n ≤ 4 → h.count ≤ 4000000000 → CandidateStep L run h.n h.count ws (Ok h) out
unfolding within ◌>>=◌ add_results
candidate_none L run h ws out e o few low = record {
  front = record { len = o.len; at = λ i l. o.at i (omega arith) };
  step = record {
    at = λ fs p t. answers_found _ h fs out (ap (λ (x : Run (List Result)). within (ltb L) (adding x fs) h.count) e) low p few (slots_kept ws out slot_length fs o.len (λ i l m. o.at i (omega arith)) t);
  };
}

-- One whose sub-questions were asked in the part from slot 5 on.
module _ (L n cur i : ℕ) (ask : Types → ImplType → Run (List Result)) (qs : List ImplType) (ws us ys back out : Words) (asked r : Asked)
    (few : n ≤ 4) (room : 12820 ≤ length ws) (o : Opened ws us) (w : Answers (within (ltb L) (find_subimpls ask (types_of (part 6410 us)) qs) cur) asked ys) (l : Lent 6410 us ys back) where
  pub candidate_sub : Sub back 7692 asked
  candidate_sub = sub_answered L 6410 cur (find_subimpls ask (types_of (part 6410 us)) qs) asked us ys back w l (omega (arith, o.len))

  pub candidate_steps : (run : Run (List Result)) → run ≡ (find_subimpls ask (types_of (part 6410 us)) qs >>= λ rs. done (map (under i) rs)) → Settles (under i) back out n 7692 asked r → CandidateStep L run n cur ws r out
  candidate_steps run e s = record {
    front = record { len = s.len ∙ l.long ∙ o.len; at = λ j h. s.low j h ∙ l.low j (omega arith) ∙ o.at j (omega arith) };
    step = subst (λ (x : Run (List Result)). Stepped L (adding x) n cur ws r out) (sym e)
        (stepped_from L _ n cur ws us r out few o.len o.at
        (settled L 6410 cur (find_subimpls ask (types_of (part 6410 us)) qs) asked us ys back w l (omega (arith, o.len)) (under i) out n r few (omega arith) s));
  }

-- A result of the first sub-question, whose table was copied to slot 9, and of which those that are left were asked in the part from there on.
module _ (L n cur k : ℕ) (ask : Types → ImplType → Run (List Result)) (qs : List ImplType) (ws us ys back out : Words) (asked r : Asked)
    (few : n ≤ 4) (below : k < 4) (room : 17948 ≤ length ws) (c : Written ws us 11538 (types_of (drop (6410 + 1282 * k) ws), end))
    (w : Answers (within (ltb L) (find_subimpls ask (types_of (part 11538 us)) qs) cur) asked ys) (l : Lent 11538 us ys back) where
  pub result_sub : Sub back 12820 asked
  result_sub = sub_answered L 11538 cur (find_subimpls ask (types_of (part 11538 us)) qs) asked us ys back w l (omega (arith, c.len))

  still : (x : Result) → Slot ws (6410 + 1282 * k) x → Slot back (6410 + 1282 * k) x
  still x s = slot_kept ws back (6410 + 1282 * k) x (l.long ∙ c.len) (λ j p q. l.low j (omega arith) ∙ c.low j (omega arith)) s

  pub result_element : Element ws (6410 + 1282 * k) → Element back (6410 + 1282 * k)
  result_element e = record { result = e.result; slot = still e.result e.slot; one = e.one }

  pub result_steps : Element ws (6410 + 1282 * k) → JoinSettles back out n (6410 + 1282 * k) 12820 asked r → ResultStep L (sub_one ask qs) k n cur ws r out
  result_steps e j = record {
    keeps = record { len = frame.len ∙ l.long ∙ c.len; at = λ m p q. frame.high m p ∙ l.low m q ∙ c.low m q };
    step = λ x s one. each x s (j.at x (still x s) one);
  }
    where
      frame : Settles (behind e.result.1) back out n 12820 asked r
      frame = j.at e.result (still e.result e.slot) e.one

      each : (x : Result) → Slot ws (6410 + 1282 * k) x → Settles (behind x.1) back out n 12820 asked r → Stepped L (adding (sub_one ask qs x)) n cur ws r out
      each x s t =
          let same : types_of (part 11538 us) ≡ x.0 = (part-table 11538 us (types_of (drop (6410 + 1282 * k) ws)) c.slot.table).is ∙ s.table.is in
          stepped_from L _ n cur ws us r out few c.len (λ i h. c.low i (omega arith))
          (settled L 11538 cur (find_subimpls ask x.0 qs) asked us ys back (subst (λ (ts : Types). Answers (within (ltb L) (find_subimpls ask ts qs) cur) asked ys) same w) l (omega (arith, c.len)) (behind x.1) out n r few (omega arith) t)
