-- Loops that add results behind those that stand, whatever these are: the run from them is what is left of it.
use Rattle.std.specs.Prelude.{ℕ, ◌≤◌, ◌≡◌, refl, List, ltb, length, Ok, Err}
use Rattle.std.proofs.Common.{◌∙◌}
use Rattle.std.proofs.Math.Path.{ap}
use Rattle.rules.specs.Lists.{Words}
use Rattle.rules.specs.Run.{Run, done, stop, ◌>>=◌, within}
use Rattle.rules.specs.Search.{Result}
use Rattle.refusals.specs.declared.Refusal.{Refusal}
use Rattle.refusals.specs.declared.Stopped.{Stopped}
use Rattle.refusals.specs.Numbers.{number_of}
use Rattle.slots.specs.declared.Results.{Results}
use Rattle.slots.specs.Slots.{slot_length, Slots}
use Rattle.slots.specs.Gathering.{Row}
use Rattle.slots.specs.Turns.{Asked, answers_refused, Going, Stepped, turn, going_same, going_end}

-- The run from the n₀ results that stood, read from count c₀, is what is left of it, from the n that stand, at count c.
pub record Stepping (L : ℕ) (step rest : List Result → Run (List Result)) (n₀ c₀ : ℕ) (ws₀ : Words) (n c : ℕ) (ws : Words) : Type 0 where
  pub row : Row ws₀ slot_length n₀
  pub at : (fs : List Result) → length fs ≡ n₀ → Slots ws₀ slot_length fs → Going L (within (ltb L) (step fs) c₀) rest ws n c

module _ (L : ℕ) (step : List Result → Run (List Result)) (n₀ c₀ : ℕ) (ws₀ : Words) where
  -- It starts with those.
  pub stepping_start : (ws : Words) → Row ws₀ slot_length n₀ → n₀ ≤ 4 → c₀ ≤ 4000000000 → ((fs : List Result) → length fs ≡ n₀ → Slots ws₀ slot_length fs → Slots ws slot_length fs) → Stepping L step step n₀ c₀ ws₀ n₀ c₀ ws
  stepping_start ws row few low same = record { row = row; at = λ fs e s. record { results = fs; size = e; few = few; low = low; stand = same fs e s; same = refl } }

  module _ (rest : List Result → Run (List Result)) (n c : ℕ) (ws : Words) (g : Stepping L step rest n₀ c₀ ws₀ n c ws) where
    one : Going L (within (ltb L) (step g.row.results) c₀) rest ws n c
    one = g.at g.row.results g.row.size g.row.slots

    pub stepping_few : n ≤ 4
    stepping_few = one.few

    pub stepping_low : c ≤ 4000000000
    stepping_low = one.low

    pub stepping_row : Row ws slot_length n
    stepping_row = record { results = one.results; size = one.size; slots = one.stand }

    -- What is left may be said otherwise.
    pub stepping_same : (more : List Result → Run (List Result)) → ((fs : List Result) → rest fs ≡ more fs) → Stepping L step more n₀ c₀ ws₀ n c ws
    stepping_same more h = record { row = g.row; at = λ fs e s. going_same L _ rest more ws n c h (g.at fs e s) }

    -- Nothing is left.
    pub stepping_end : ((fs : List Result) → rest fs ≡ done fs) → Stepped L step n₀ c₀ ws₀ (Ok (record { n = n; count = c })) ws
    stepping_end h = record { at = λ fs e s. going_end L _ rest ws n c h (g.at fs e s) }

    -- What is left comes to a refusal.
    pub stepping_stops : (refusal : Refusal) → ((fs : List Result) → rest fs ≡ stop (number_of refusal)) → Stepped L step n₀ c₀ ws₀ (Err (record { refusal = refusal; count = c })) ws
    unfolding within
    stepping_stops refusal h = record { at = λ fs e s. let x = g.at fs e s in answers_refused _ (record { refusal = refusal; count = c }) ws (x.same ∙ ap (λ r. within (ltb L) r c) (h x.results)) }

  -- A step of what is left.
  module _ (turns rest : List Result → Run (List Result)) (n c : ℕ) (ws : Words) (g : Stepping L step (λ fs. turns fs >>= rest) n₀ c₀ ws₀ n c ws) (r : Asked) (out : Words) (s : Stepped L turns n c ws r out) where
    pub stepping_on : (h : Results) → r ≡ Ok h → Stepping L step rest n₀ c₀ ws₀ h.n h.count out
    stepping_on h e = record { row = g.row; at = λ fs p t. (turn L _ turns rest ws out n c r (g.at fs p t) s).on h e }

    pub stepping_refused : (k : Stopped) → r ≡ Err k → Stepped L step n₀ c₀ ws₀ (Err k) out
    stepping_refused k e = record { at = λ fs p t. (turn L _ turns rest ws out n c r (g.at fs p t) s).stops k e }
