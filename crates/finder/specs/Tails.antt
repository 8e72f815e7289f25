-- Sub-questions from left to right, `find_subimpls`: none are left, the last one, and one before others; the loop over the results of the first.
use Rattle.std.specs.Prelude.{ℕ, zero, suc, ◌+◌, ◌*◌, ◌≤◌, ◌<◌, ◌≡◌, refl, List, [], ◌∷◌, ◌++◌, map, ltb, length, get_or, drop, Ok, Err}
use Rattle.std.proofs.Common.{sym, ◌∙◌, ap, append_assoc, add-one, arith, length-append, length-drop, drop-cons}
use Rattle.rules.specs.Lists.{Words}
use Rattle.rules.specs.Sheet.{at}
use Rattle.rules.specs.Types.{Types, ImplType}
use Rattle.rules.specs.Run.{Run, done, stop, asks, ◌>>=◌, Out, within}
use Rattle.rules.specs.Search.{Trees, end, before, Result, add_results, collect, find_subimpls}
use Rattle.rules.specs.Yields.{Every, Yields, yields_both, bind_same, came}
use Rattle.rules.proofs.Yields.{yields_within}
use Rattle.rules.specs.ResultLimits.{Small, Few}
use Rattle.trees.specs.Forests.{Single}
use Rattle.refusals.specs.declared.Stopped.{Stopped}
use Rattle.refusals.specs.Numbers.{number_of}
use Rattle.slots.specs.declared.Results.{Results}
use Rattle.slots.specs.Slots.{Slot, Slots, slots_kept}
use Rattle.slots.specs.Adding.{behind, add_one_more}
use Rattle.slots.specs.Parts.{Lent, slots_back}
use Rattle.slots.specs.Turns.{Asked, Answers, answers_refused, adding, Going, Stepped, Turned, turn, going_same, going_start, going_end, then_got, then_refused, collect_next, collect-none}
use Rattle.finder.specs.Singles.{One}

-- What one result of the first sub-question gives with the sub-questions that are left.
abbrev pub sub_one : (Types → ImplType → Run (List Result)) → List ImplType → Result → Run (List Result)
sub_one ask qs r = find_subimpls ask r.0 qs >>= λ us. done (map (behind r.1) us)

-- One before others.
pub tail_next : (ask : Types → ImplType → Run (List Result)) (ts : Types) (q : ImplType) (qs : List ImplType) → find_subimpls ask ts (q ∷ qs) ≡ (ask ts q >>= λ rs. collect (sub_one ask qs) rs [])
unfolding find_subimpls
tail_next ask ts q qs = refl

-- The last one: its results are those of the sub-questions.
bind_done : {A : Type 0} (m : Run A) → (m >>= λ a. done a) ≡ m
unfolding ◌>>=◌
bind_done (done a) = refl
bind_done (stop n) = refl
bind_done (asks r) = ap asks (bind_done r)

alone : (ts : Trees) → Single ts → before ts end ≡ ts
unfolding before
alone ts s = rw s.is

collect_alone : (ask : Types → ImplType → Run (List Result)) (rs fs : List Result) → Every One rs → Every Small rs → length fs + length rs ≤ 4 → collect (sub_one ask []) rs fs ≡ done (fs ++ rs)
unfolding collect find_subimpls ◌>>=◌ add_results
collect_alone ask [] fs o s h = ap done (sym (nil fs))
  where
    nil : (fs : List Result) → fs ++ [] ≡ fs
    nil [] = refl
    nil (f ∷ fs) = ap (λ (l : List Result). f ∷ l) (nil fs)
collect_alone ask (r ∷ rs) fs o s h =
    ap (λ (ts : Trees). add_results fs ((r.0, ts) ∷ []) >>= λ hs. collect (sub_one ask []) rs hs) (alone r.1 o.0)
    ∙ ap (λ (m : Run (List Result)). m >>= λ hs. collect (sub_one ask []) rs hs) (add_one_more fs r [] (omega arith) s.0)
    ∙ collect_alone ask rs (fs ++ (r ∷ [])) o.1 s.1 (omega (arith, length-append fs (r ∷ [])))
    ∙ ap done (append_assoc fs (r ∷ []) rs)

pub tail_last : (ask : Types → ImplType → Run (List Result)) (ts : Types) (q : ImplType) → Yields Few (ask ts q) → Yields (Every One) (ask ts q) → find_subimpls ask ts (q ∷ []) ≡ ask ts q
tail_last ask ts q few ones =
    tail_next ask ts q []
    ∙ bind_same (λ (rs : List Result). Few rs × Every One rs) (ask ts q) (λ rs. collect (sub_one ask []) rs []) (λ rs. done rs) (yields_both Few (Every One) (ask ts q) few ones)
    (λ rs h. collect_alone ask rs [] h.1 h.0.small (omega (arith, h.0.count)))
    ∙ bind_done (ask ts q)

-- The loop over the m results of the first sub-question, which stand in slots 5 to 8; k of them are done.
pub record Resting (L : ℕ) (whole : Out (List Result) × ℕ) (f : Result → Run (List Result)) (m k : ℕ) (ws : Words) (n cur : ℕ) : Type 0 where
  pub all : List Result
  pub size : length all ≡ m
  pub ones : Every One all
  pub there : Slots ws 6410 all
  pub going : Going L whole (λ fs. collect f (drop k all) fs) ws n cur

pub record Rested (L : ℕ) (whole : Out (List Result) × ℕ) (f : Result → Run (List Result)) (m k : ℕ) (r : Asked) (out : Words) : Type 0 where
  pub on : (h : Results) → r ≡ Ok h → Resting L whole f m k out h.n h.count
  pub stops : (s : Stopped) → r ≡ Err s → Answers whole (Err s) out

-- Slots 5 to 8 are as they were.
pub record Keeps (ws out : Words) : Type 0 where
  pub len : length out ≡ length ws
  pub at : (i : ℕ) → 6410 ≤ i → i < 11538 → at out i ≡ at ws i

every_get : (rs : List Result) (k : ℕ) (d : Result) → Every One rs → k < length rs → One (get_or rs k d)
every_get [] k d h l = absurd (omega arith)
every_get (r ∷ rs) zero d h l = h.0
every_get (r ∷ rs) (suc k) d h l = every_get rs k d h.1 (omega arith)

-- A step with result k is a turn.
pub rest-turn : (L : ℕ) (whole : Out (List Result) × ℕ) (f : Result → Run (List Result)) (m k : ℕ) (ws out : Words) (n cur : ℕ) (r : Asked) → Resting L whole f m k ws n cur → k < m → m ≤ 4 → Keeps ws out →
    ((x : Result) → Slot ws (6410 + 1282 * k) x → Single x.1 → Stepped L (adding (f x)) n cur ws r out) → Rested L whole f m (k + 1) r out
rest-turn L whole f m k ws out n cur r g more small kept step = record {
  on = λ h e. record { all = g.all; size = g.size; ones = g.ones; there = slots_kept ws out 6410 g.all kept.len (λ i p q. kept.at i (omega arith) (omega (arith, g.size))) g.there; going = t.on h e };
  stops = t.stops;
}
  where
    x : Result
    x = get_or g.all k ([], end)

    rest : List Result → Run (List Result)
    rest fs = collect f (drop (k + 1) g.all) fs

    next : (fs : List Result) → collect f (drop k g.all) fs ≡ (adding (f x) fs >>= rest)
    next fs = ap (λ (l : List Result). collect f l fs) (drop-cons g.all k ([], end) (omega (arith, g.size)) ∙ ap (λ i. x ∷ drop i g.all) (sym (add-one k))) ∙ collect_next f x (drop (k + 1) g.all) fs

    t : Turned L whole rest r out
    t = turn L whole (adding (f x)) rest ws out n cur r (going_same L whole (λ fs. collect f (drop k g.all) fs) (λ fs. adding (f x) fs >>= rest) ws n cur next g.going) (step x (g.there.at k (omega (arith, g.size))) (every_get g.all k ([], end) g.ones (omega (arith, g.size))))

-- All are done.
pub rest_end : (L : ℕ) (whole : Out (List Result) × ℕ) (f : Result → Run (List Result)) (m k : ℕ) (ws : Words) (n cur : ℕ) → Resting L whole f m k ws n cur → m ≤ k → Answers whole (Ok (record { n = n; count = cur })) ws
rest_end L whole f m k ws n cur g h = going_end L whole (λ fs. collect f (drop k g.all) fs) ws n cur (λ fs. ap (λ (l : List Result). collect f l fs) (none (drop k g.all) (omega (arith, length-drop k g.all, g.size))) ∙ collect-none f fs) g.going
  where
    none : (l : List Result) → length l ≡ 0 → l ≡ []
    none [] e = refl
    none (x ∷ l) e = absurd (omega arith)

-- The first of more sub-questions was asked in the part from slot 4 on, and answered.
module _ (L count : ℕ) (ask : Types → ImplType → Run (List Result)) (ts : Types) (q : ImplType) (qs : List ImplType) (first : Asked) (ys : Words) (w : Answers (within (ltb L) (ask ts q) count) first ys) where
  abbrev pub whole : Out (List Result) × ℕ
  whole = within (ltb L) (find_subimpls ask ts (q ∷ qs)) count

  asks_first : whole ≡ within (ltb L) (ask ts q >>= λ rs. collect (sub_one ask qs) rs []) count
  asks_first = ap (λ r. within (ltb L) r count) (tail_next ask ts q qs)

  -- A refusal is handed on.
  pub tail_refused : (s : Stopped) (out : Words) → first ≡ Err s → Answers whole (Err s) out
  tail_refused s out e = answers_refused whole s out (asks_first ∙ then_refused (ltb L) (ask ts q) (λ rs. collect (sub_one ask qs) rs []) count (number_of s.refusal) s.count (w.refuses s e))

  -- The loop over its results begins.
  pub tail_start : (h : Results) (ws back : Words) → Yields (Every One) (ask ts q) → first ≡ Ok h → Lent 5128 ws ys back → 11538 ≤ length ws → Resting L whole (sub_one ask qs) h.n 0 back 0 h.count
  tail_start h ws back ones e l room =
      let g = w.found h e in
      record {
        all = g.results;
        size = g.size;
        ones = came (Every One) (within (ltb L) (ask ts q) count).0 g.results (yields_within (Every One) (ltb L) (ask ts q) count ones) (ap (λ (o : Out (List Result) × ℕ). o.0) g.is);
        there = slots_back 5128 1282 ws ys back g.results l (omega (arith, g.size, g.few)) g.stand;
        going = going_start L whole (λ fs. collect (sub_one ask qs) (drop 0 g.results) fs) back h.count g.low (asks_first ∙ then_got (ltb L) (ask ts q) (λ rs. collect (sub_one ask qs) rs []) count h.count g.results g.is);
      }
