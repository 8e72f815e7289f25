-- What a sub-search answered is added behind the results of a search, or its refusal is handed on; and that this is a step of the search's loop.
use Rattle.std.specs.Prelude.{ℕ, ◌+◌, ◌≤◌, ◌<◌, ◌≡◌, ltb, Ok, Err}
use Rattle.std.proofs.Math.Path.{refl}
use Rattle.std.proofs.Common.{sym, ◌∙◌, ap, subst, arith}
use mathlib.Core.List.{List, map}
use Rattle.std.proofs.Math.ListN.{length}
use Rattle.rules.specs.Lists.{Words}
use Rattle.rules.specs.Sheet.{at}
use Rattle.rules.specs.Run.{Run, done, ◌>>=◌, within}
use Rattle.rules.specs.Search.{Result, add_results}
use Rattle.trees.specs.Forests.{Single}
use Rattle.refusals.specs.declared.Stopped.{Stopped}
use Rattle.refusals.specs.Numbers.{number_of}
use Rattle.slots.specs.declared.Results.{Results}
use Rattle.slots.specs.Slots.{slot_length, Slot, Slots}
use Rattle.slots.specs.Adding.{results_end, behind}
use Rattle.slots.specs.Gathering.{Row, Gathers, JoinGathers}
use Rattle.slots.specs.Turns.{Asked, Answers, answers_refused, answers_same, then_got, then_refused, bind_assoc, adding, Stepped}
use Rattle.slots.specs.Parts.{Lent, slots_back, slots_front}

-- If a sub-search found results, they stand from a place on.
pub record Sub (ws : Words) (a : ℕ) (asked : Asked) : Type 0 where
  pub few : (h : Results) → asked ≡ Ok h → h.n ≤ 4
  pub low : (h : Results) → asked ≡ Ok h → h.count ≤ 4000000000
  pub row : (h : Results) → asked ≡ Ok h → Row ws a h.n

pub sub_few : (ws : Words) (a : ℕ) (asked : Asked) (h : Results) → Sub ws a asked → asked ≡ Ok h → h.n ≤ 4
sub_few ws a asked h s e = s.few h e

pub sub_low : (ws : Words) (a : ℕ) (asked : Asked) (h : Results) → Sub ws a asked → asked ≡ Ok h → h.count ≤ 4000000000
sub_low ws a asked h s e = s.low h e

pub sub_row : (ws : Words) (a : ℕ) (asked : Asked) (h : Results) → Sub ws a asked → asked ≡ Ok h → Row ws a h.n
sub_row ws a asked h s e = s.row h e

-- The answer r, once what a sub-search answered is added behind n.
pub record Settles (give : Result → Result) (ws us : Words) (n from : ℕ) (asked r : Asked) : Type 0 where
  pub len : length us ≡ length ws
  pub low : (i : ℕ) → i < slot_length → at us i ≡ at ws i
  pub high : (i : ℕ) → results_end ≤ i → at us i ≡ at ws i
  pub found : (h : Results) → asked ≡ Ok h → Gathers give ws us n from h r
  pub refuses : (s : Stopped) → asked ≡ Err s → r ≡ Err s

pub record JoinSettles (ws us : Words) (n e from : ℕ) (asked r : Asked) : Type 0 where
  pub at : (x : Result) → Slot ws e x → Single x.1 → Settles (behind x.1) ws us n from asked r

pub settles_refused : (give : Result → Result) (ws : Words) (n from : ℕ) (asked : Asked) (s : Stopped) → asked ≡ Err s → Settles give ws ws n from asked (Err s)
settles_refused give ws n from asked s e = record {
  len = refl;
  low = λ i l. refl;
  high = λ i l. refl;
  found = λ h p. absurd (no h p);
  refuses = λ t p. sym e ∙ p;
}
  where
    no : (h : Results) → asked ≡ Ok h → ⊥
    no h p = let z : ◌≡◌ {A = ℕ} 0 1 = cc in omega arith

pub settles_found : (give : Result → Result) (ws us : Words) (n from : ℕ) (asked r : Asked) (h : Results) → asked ≡ Ok h → Gathers give ws us n from h r → Settles give ws us n from asked r
settles_found give ws us n from asked r h e g = record {
  len = g.len;
  low = g.low;
  high = g.high;
  found = λ k p. subst (λ (k : Results). Gathers give ws us n from k r) (same k p) g;
  refuses = λ s p. absurd (no s p);
}
  where
    no : (s : Stopped) → asked ≡ Err s → ⊥
    no s p = let z : ◌≡◌ {A = ℕ} 0 1 = cc in omega arith

    same : (k : Results) → asked ≡ Ok k → h ≡ k
    same k p = cc

pub joins_refused : (ws : Words) (n e from : ℕ) (asked : Asked) (s : Stopped) → asked ≡ Err s → JoinSettles ws ws n e from asked (Err s)
joins_refused ws n e from asked s h = record { at = λ x p o. settles_refused (behind x.1) ws n from asked s h }

pub joins_found : (ws us : Words) (n e from : ℕ) (asked r : Asked) (h : Results) → asked ≡ Ok h → JoinGathers ws us n e from h r → JoinSettles ws us n e from asked r
joins_found ws us n e from asked r h p g = record { at = λ x s o. settles_found (behind x.1) ws us n from asked r h p (g.at x s o) }

-- A sub-search, asked in the part from a on, found results in slot 1 of that part.
module _ (L a cur : ℕ) (sub : Run (List Result)) (asked : Asked) (ws ys back : Words) (w : Answers (within (ltb L) sub cur) asked ys) (l : Lent a ws ys back) (room : a + 6410 ≤ length ws) where
  pub sub_answered : Sub back (a + 1282) asked
  sub_answered = record {
    few = λ h e. (w.found h e).few;
    low = λ h e. (w.found h e).low;
    row = λ h e. let g = w.found h e in record { results = g.results; size = g.size; slots = slots_back a 1282 ws ys back g.results l (omega (arith, g.size, g.few)) g.stand };
  }

  -- What it answered, added behind n, is a step.
  module _ (give : Result → Result) (out : Words) (n : ℕ) (r : Asked) (few : n ≤ 4) (behind-all : 6410 ≤ a) (s : Settles give back out n (a + 1282) asked r) where
    pub settled : Stepped L (adding (sub >>= λ rs. done (map give rs))) n cur ws r out
    unfolding ◌>>=◌
    settled = record { at = λ fs e t. by fs e t asked refl }
      where
        stays : (fs : List Result) → length fs ≡ n → Slots ws slot_length fs → Slots back slot_length fs
        stays fs e t = slots_front a slot_length ws ys back fs l (omega arith) (omega arith) t

        runs : (fs : List Result) → adding (sub >>= λ rs. done (map give rs)) fs ≡ (sub >>= λ rs. add_results fs (map give rs))
        runs fs = bind_assoc sub (λ rs. done (map give rs)) (λ gs. add_results fs gs)

        by : (fs : List Result) → length fs ≡ n → Slots ws slot_length fs → (x : Asked) → asked ≡ x → Answers (within (ltb L) (adding (sub >>= λ rs. done (map give rs)) fs) cur) r out
        by fs e t (Ok h) p =
            let g = w.found h p in
            answers_same _ (within (ltb L) (add_results fs (map give g.results)) h.count) r out
            (ap (λ y. within (ltb L) y cur) (runs fs) ∙ then_got (ltb L) sub (λ rs. add_results fs (map give rs)) cur h.count g.results g.is)
            ((s.found h p).at fs g.results e g.size (stays fs e t) (slots_back a 1282 ws ys back g.results l (omega (arith, g.size, g.few)) g.stand) (ltb L))
        by fs e t (Err k) p =
            subst (λ (x : Asked). Answers (within (ltb L) (adding (sub >>= λ rs. done (map give rs)) fs) cur) x out) (sym (s.refuses k p))
            (answers_refused _ k out (ap (λ y. within (ltb L) y cur) (runs fs) ∙ then_refused (ltb L) sub (λ rs. add_results fs (map give rs)) cur (number_of k.refusal) k.count (w.refuses k p)))
