-- The four searches in turn.
use Rattle.std.proofs.Common.{ℕ, ◌≡◌, List, refl, subst, arith, rules}
use Rattle.rules.specs.Lists.{Words}
use Rattle.rules.specs.Search.{Finder}
use Rattle.flexing.specs.Rest.{Going, going_next, going_stops, going_over, going_closes}
use Rattle.flexing.proofs.Call.ask_all.Goals as goal

-- From a count to what it is, however the code has it.
counted : (L : ℕ) (a : Finder) (q : Words) (start : ℕ) (ns : List ℕ) (ks : List Words) (i c d : ℕ) → Going L a q start ns ks i c → c ≡ d → Going L a q start ns ks i d
counted L a q start ns ks i c d g e = subst (λ n. Going L a q start ns ks i n) e g

pub returns-in_err-turn : goal.returns-in_err-turn
returns-in_err-turn c = going_stops _ _ _ _ _ _ _ _ c.loop-i.invariant.3 c.loop-i-test.true _ _ refl refl _ _ c.in_err-turn.ensures _ _ _ refl (search rules)

pub loop-i-preserved : goal.loop-i-preserved
loop-i-preserved c = (search rules, search rules, search rules, counted _ _ _ _ _ _ _ _ _ (going_next _ _ _ _ _ _ _ _ c.loop-i.invariant.3 c.loop-i-test.true _ _ refl refl _ _ c.in_ok-turn.ensures _ refl c.requires.flexing.low (omega arith) (omega arith)) (search rules))

pub returns-then-self-count : goal.returns-then-self-count
returns-then-self-count c = going_over _ _ _ _ _ _ _ _ c.loop-i.invariant.3 (omega arith) _ c.if-self-count.true

pub returns-in-Ok : goal.returns-in-Ok
returns-in-Ok c = going_closes _ _ _ _ _ _ _ _ c.loop-i.invariant.3 (omega arith) _ _ _ _ c.if-self-count.false c.in-Ok.ensures refl refl

pub returns-in-Err : goal.returns-in-Err
returns-in-Err c = going_closes _ _ _ _ _ _ _ _ c.loop-i.invariant.3 (omega arith) _ _ _ _ c.if-self-count.false c.in-Err.ensures refl refl
