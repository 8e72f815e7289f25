-- A search's answer in the code's words, and its loops: the whole run is what is left of it from the results that stand at the front.
-- The step limit is a parameter.
use Rattle.std.specs.Prelude.{ℕ, ◌≤◌, ◌≡◌, refl, Bool, List, [], ◌∷◌, ltb, length, Ok, Err}
use Rattle.std.specs.Prelude.{Result as Outcome}
use Rattle.std.proofs.Common.{sym, ◌∙◌, ap, subst, arith}
use Rattle.rules.specs.Lists.{Words}
use Rattle.rules.specs.Limits.{limit_results}
use Rattle.rules.specs.Run.{Run, done, stop, asks, ◌>>=◌, Out, got, refused, within}
use Rattle.rules.specs.RunLaws.{after}
use Rattle.rules.proofs.RunLaws.{within_bind}
use Rattle.rules.specs.Search.{Result, add_results, collect}
use Rattle.refusals.specs.declared.Stopped.{Stopped}
use Rattle.refusals.specs.Numbers.{number_of}
use Rattle.slots.specs.declared.Results.{Results}
use Rattle.slots.specs.Slots.{slot_length, Slots, slots_none}

-- What a search comes to: results, or the refusal with the count after it.
abbrev pub Asked : Type 0
Asked = Outcome Results Stopped

-- The count after it.
abbrev pub count_of : Asked → ℕ
count_of (Ok h) = h.count
count_of (Err s) = s.count

-- No count that a search starts from is higher.
abbrev pub count_most : ℕ
count_most = 4000000000

-- A run came to results, which stand in the slots from 1 on.
pub record Got (o : Out (List Result) × ℕ) (c n : ℕ) (out : Words) : Type 0 where
  pub results : List Result
  pub size : length results ≡ n
  pub is : o ≡ (got results, c)
  pub low : c ≤ count_most
  pub few : n ≤ limit_results
  pub stand : Slots out slot_length results

-- The answer r, with the words out, is what a run came to.
pub record Answers (o : Out (List Result) × ℕ) (r : Asked) (out : Words) : Type 0 where
  pub found : (h : Results) → r ≡ Ok h → Got o h.count h.n out
  pub refuses : (s : Stopped) → r ≡ Err s → o ≡ (refused (number_of s.refusal), s.count)

pub answers_refused : (o : Out (List Result) × ℕ) (s : Stopped) (out : Words) → o ≡ (refused (number_of s.refusal), s.count) → Answers o (Err s) out
answers_refused o s out e = record { found = λ h p. absurd (no h p); refuses = λ t p. subst (λ (t : Stopped). o ≡ (refused (number_of t.refusal), t.count)) (same t p) e }
  where
    no : (h : Results) → ◌≡◌ {A = Asked} (Err s) (Ok h) → ⊥
    no h p = cc

    same : (t : Stopped) → ◌≡◌ {A = Asked} (Err s) (Err t) → s ≡ t
    same t p = cc

pub answers_found : (o : Out (List Result) × ℕ) (h : Results) (rs : List Result) (out : Words) → o ≡ (got rs, h.count) → h.count ≤ count_most → length rs ≡ h.n → h.n ≤ 4 → Slots out 1282 rs → Answers o (Ok h) out
answers_found o h rs out e low size few s = record {
  found = λ k p. subst (λ (k : Results). Got o k.count k.n out) (same k p) (record { results = rs; size = size; is = e; low = low; few = few; stand = s });
  refuses = λ t p. absurd (no t p);
}
  where
    no : (t : Stopped) → ◌≡◌ {A = Asked} (Ok h) (Err t) → ⊥
    no t p = cc

    same : (k : Results) → ◌≡◌ {A = Asked} (Ok h) (Ok k) → h ≡ k
    same k p = cc

-- An answer to what another run came to that came to the same.
pub answers_same : (o p : Out (List Result) × ℕ) (r : Asked) (out : Words) → o ≡ p → Answers p r out → Answers o r out
answers_same o p r out e w = rw e w

-- One thing after another: where the first came to a value, and where it was refused.
pub then_got : {A B : Type 0} (over : ℕ → Bool) (m : Run A) (f : A → Run B) (c d : ℕ) (a : A) → within over m c ≡ (got a, d) → within over (m >>= f) c ≡ within over (f a) d
then_got over m f c d a e = within_bind over m f c ∙ ap (after (λ a d. within over (f a) d)) e

pub then_refused : {A B : Type 0} (over : ℕ → Bool) (m : Run A) (f : A → Run B) (c k d : ℕ) → within over m c ≡ (refused k, d) → within over (m >>= f) c ≡ (refused k, d)
then_refused over m f c k d e = within_bind over m f c ∙ ap (after (λ a d. within over (f a) d)) e

pub bind_assoc : {A B C : Type 0} (m : Run A) (f : A → Run B) (g : B → Run C) → (m >>= f >>= g) ≡ (m >>= λ a. f a >>= g)
unfolding ◌>>=◌
bind_assoc (done a) f g = refl
bind_assoc (stop n) f g = refl
bind_assoc (asks r) f g = ap asks (bind_assoc r f g)

-- What a run comes to is added behind results.
abbrev pub adding : Run (List Result) → List Result → Run (List Result)
adding m fs = m >>= λ gs. add_results fs gs

-- A loop on the way: the whole is what is left of it, from the results that stand at the front.
pub record Going (L : ℕ) (whole : Out (List Result) × ℕ) (rest : List Result → Run (List Result)) (ws : Words) (n cur : ℕ) : Type 0 where
  pub results : List Result
  pub size : length results ≡ n
  pub few : n ≤ limit_results
  pub low : cur ≤ count_most
  pub stand : Slots ws slot_length results
  pub same : whole ≡ within (ltb L) (rest results) cur

-- A step of a loop: whatever results stand at the front, the answer r is that of the step from them.
pub record Stepped (L : ℕ) (step : List Result → Run (List Result)) (n cur : ℕ) (ws : Words) (r : Asked) (out : Words) : Type 0 where
  pub at : (fs : List Result) → length fs ≡ n → Slots ws slot_length fs → Answers (within (ltb L) (step fs) cur) r out

-- What a turn leaves: by the answer r the loop goes on, or the function returns r.
pub record Turned (L : ℕ) (whole : Out (List Result) × ℕ) (rest : List Result → Run (List Result)) (r : Asked) (out : Words) : Type 0 where
  pub on : (h : Results) → r ≡ Ok h → Going L whole rest out h.n h.count
  pub stops : (s : Stopped) → r ≡ Err s → Answers whole (Err s) out

-- A loop begins without results, and ends with those that stand.
pub going_start : (L : ℕ) (whole : Out (List Result) × ℕ) (rest : List Result → Run (List Result)) (ws : Words) (cur : ℕ) → cur ≤ count_most → whole ≡ within (ltb L) (rest []) cur → Going L whole rest ws 0 cur
going_start L whole rest ws cur low e = record { results = []; size = refl; few = omega arith; low = low; stand = slots_none ws slot_length; same = e }

pub going_end : (L : ℕ) (whole : Out (List Result) × ℕ) (rest : List Result → Run (List Result)) (ws : Words) (n cur : ℕ) → ((fs : List Result) → rest fs ≡ done fs) → Going L whole rest ws n cur → Answers whole (Ok (record { n = n; count = cur })) ws
unfolding within
going_end L whole rest ws n cur h g = answers_found whole (record { n = n; count = cur }) g.results ws (g.same ∙ ap (λ r. within (ltb L) r cur) (h g.results)) g.low g.size g.few g.stand

-- What is left may be said otherwise.
pub going_same : (L : ℕ) (whole : Out (List Result) × ℕ) (rest more : List Result → Run (List Result)) (ws : Words) (n cur : ℕ) → ((fs : List Result) → rest fs ≡ more fs) → Going L whole rest ws n cur → Going L whole more ws n cur
going_same L whole rest more ws n cur h g = record { results = g.results; size = g.size; few = g.few; low = g.low; stand = g.stand; same = g.same ∙ ap (λ r. within (ltb L) r cur) (h g.results) }

-- A run at the front of a loop that came to something other than results, at count d.
pub going_through : (L : ℕ) (A : Type 0) (whole : Out (List Result) × ℕ) (m : Run A) (a : A) (rest : A → List Result → Run (List Result)) (ws : Words) (n cur d : ℕ) → d ≤ count_most → within (ltb L) m cur ≡ (got a, d) → Going L whole (λ fs. m >>= λ x. rest x fs) ws n cur → Going L whole (rest a) ws n d
going_through L A whole m a rest ws n cur d low e g = record { results = g.results; size = g.size; few = g.few; low = low; stand = g.stand; same = g.same ∙ then_got (ltb L) m (λ x. rest x g.results) cur d a e }

pub going_stopped : (L : ℕ) (A : Type 0) (whole : Out (List Result) × ℕ) (m : Run A) (s : Stopped) (rest : A → List Result → Run (List Result)) (ws : Words) (n cur : ℕ) → within (ltb L) m cur ≡ (refused (number_of s.refusal), s.count) → Going L whole (λ fs. m >>= λ x. rest x fs) ws n cur → Answers whole (Err s) ws
going_stopped L A whole m s rest ws n cur e g = answers_refused whole s ws (g.same ∙ then_refused (ltb L) m (λ x. rest x g.results) cur (number_of s.refusal) s.count e)

-- A step is a turn: one law for every loop.
pub turn : (L : ℕ) (whole : Out (List Result) × ℕ) (step rest : List Result → Run (List Result)) (ws out : Words) (n cur : ℕ) (r : Asked) → Going L whole (λ fs. step fs >>= rest) ws n cur → Stepped L step n cur ws r out → Turned L whole rest r out
turn L whole step rest ws out n cur r g s = record {
  on = λ h e. let o = w.found h e in record {
    results = o.results;
    size = o.size;
    few = o.few;
    low = o.low;
    stand = o.stand;
    same = g.same ∙ then_got (ltb L) (step g.results) rest cur h.count o.results o.is;
  };
  stops = λ s e. answers_refused whole s out (g.same ∙ then_refused (ltb L) (step g.results) rest cur (number_of s.refusal) s.count (w.refuses s e));
}
  where
    w : Answers (within (ltb L) (step g.results) cur) r out
    w = s.at g.results g.size g.stand

-- The loop over a list, `collect`: its next element, and its end.
pub collect_next : {B : Type 0} (f : B → Run (List Result)) (b : B) (bs : List B) (fs : List Result) → collect f (b ∷ bs) fs ≡ (adding (f b) fs >>= λ hs. collect f bs hs)
unfolding collect
collect_next f b bs fs = sym (bind_assoc (f b) (λ gs. add_results fs gs) (λ hs. collect f bs hs))

pub collect-none : {B : Type 0} (f : B → Run (List Result)) (fs : List Result) → collect f [] fs ≡ done fs
unfolding collect
collect-none f fs = refl
