-- How a sitting's spent count moves: refusals 1 to 13, 22 and 23 leave it, every other end raises it, and it never goes back. Read from a call's contract (`Sits`).
use Rattle.std.specs.Prelude.{ℕ, ◌+◌, ◌≤◌, ◌<◌, max, ◌≡◌, refl, Bool, true, false, not, ◌⊎◌, T, leb, length}
use Rattle.std.proofs.Common.{sym, ◌∙◌, ap, subst, inl, inr, ⊎_elim, arith, leb→le}
use Rattle.std.proofs.Math.Option.{Option}
use Rattle.std.proofs.Math.Dec.{nleb→lt}
use Rattle.rules.specs.Lists.{Words}
use Rattle.rules.specs.Limits.{limit_steps}
use Rattle.rules.specs.Run.{Out, got, refused}
use Rattle.rules.specs.RunLaws.{Between, got_not_refused, same_number}
use Rattle.rules.specs.Calls.{try_find_impl, find_flex}
use Rattle.rules.specs.Refusals.{Leaves_count, Ends}
use Rattle.rules.proofs.Refusals.{impl_ends, flex_ends}
use Rattle.checks.specs.Numbers.{finder}
use Rattle.sitting.specs.Sits.{tally, number_in, Sits}

-- A call in a sitting: its number, spent before and spent after; k is how many searches it makes.
pub record Moves (k number before after : ℕ) : Type 0 where
  -- 1 to 13, 22 and 23 leave it,
  pub leaves : Leaves_count number → after ≡ before
  -- all others, and an answer, raise it;
  pub raised : ¬ Leaves_count number → before < after
  -- it never goes back,
  pub onward : before ≤ after
  -- and ends at most k above the step limit, or above its start where that is higher.
  pub most : after ≤ max 2000 before + k

between? : (lo hi n : ℕ) → Between lo hi n ⊎ (¬ Between lo hi n)
between? lo hi n = go (leb lo n) refl (leb n hi) refl
  where
    go : (a : Bool) → leb lo n ≡ a → (b : Bool) → leb n hi ≡ b → Between lo hi n ⊎ (¬ Between lo hi n)
    go true p true q = inl (record { least = leb→le lo n (subst T (sym p) tt); most = leb→le n hi (subst T (sym q) tt) })
    go true p false q = inr (λ x. let h = nleb→lt n hi (subst (λ b. T (not b)) (sym q) tt) in omega (arith, h, x.most))
    go false p b q = inr (λ x. let h = nleb→lt lo n (subst (λ b. T (not b)) (sym p) tt) in omega (arith, h, x.least))

leaves? : (n : ℕ) → Leaves_count n ⊎ (¬ Leaves_count n)
leaves? n = go (between? 1 13 n) (between? 22 23 n)
  where
    go : Between 1 13 n ⊎ (¬ Between 1 13 n) → Between 22 23 n ⊎ (¬ Between 22 23 n) → Leaves_count n ⊎ (¬ Leaves_count n)
    go (inl b) y = inl (inl b)
    go (inr f) (inl b) = inl (inr b)
    go (inr f) (inr g) = inr (⊎_elim f g)

-- A number that is not 0 is a refusal's.
refused_by : (o : Out Words) (n : ℕ) → n ≡ number_in o → 1 ≤ n → o ≡ refused n
unfolding number_in
refused_by (got ws) n e h = absurd (omega arith)
refused_by (refused m) n e h = ap refused (sym e)

some_number : (n : ℕ) → Leaves_count n → 1 ≤ n
some_number n (inl b) = b.least
some_number n (inr b) = omega (arith, b.least)

number_of_refused : (o : Out Words) (n m : ℕ) → n ≡ number_in o → o ≡ refused m → n ≡ m
unfolding number_in
number_of_refused (got ws) n m e h = absurd (got_not_refused ws m h)
number_of_refused (refused k) n m e h = e ∙ same_number k m h

moves : (Late : ℕ → Type 0) (entry checks : Option ℕ) (k c n after : ℕ) (answer answer' work work' : Words) (o : Out Words × ℕ) → Ends Late entry checks limit_steps k c answer work o → Sits o answer answer' work work' (tally n after) → Moves k n c after
moves Late entry checks k c n after answer answer' work work' o e x = record {
  leaves = stays;
  raised = rises;
  onward = on (leaves? n);
  most = subst (λ i. i ≤ max 2000 c + k) (sym x.spent_is) e.most;
}
  where
    stays : Leaves_count n → after ≡ c
    stays l = x.spent_is ∙ e.leaves n (refused_by o.0 n x.number_is (some_number n l)) l

    rises : ¬ Leaves_count n → c < after
    rises f = subst (λ i. c < i) (sym x.spent_is) (e.reached (λ m p l. f (subst Leaves_count (sym (number_of_refused o.0 n m x.number_is p)) l)))

    on : Leaves_count n ⊎ (¬ Leaves_count n) → c ≤ after
    on (inl l) = omega (arith, stays l)
    on (inr f) = omega (arith, rises f)

-- The impl call makes one search,
pub impl_moves : (s q : Words) (source generics basic before number after : ℕ) (answer answer' work work' : Words) →
    Sits (try_find_impl limit_steps (finder s source generics) basic q (length answer) (length work) before) answer answer' work work' (tally number after) → Moves 1 number before after
impl_moves s q source generics basic before number after answer answer' work work' x = moves _ _ _ 1 before number after answer answer' work work' _ (impl_ends limit_steps (finder s source generics) q answer work before basic) x

-- the flex call four.
pub flex_moves : (s q : Words) (source generics before number after : ℕ) (answer answer' work work' : Words) →
    Sits (find_flex limit_steps (finder s source generics) q (length answer) (length work) before) answer answer' work work' (tally number after) → Moves 4 number before after
flex_moves s q source generics before number after answer answer' work work' x = moves _ _ _ 4 before number after answer answer' work work' _ (flex_ends limit_steps (finder s source generics) q answer work before) x
