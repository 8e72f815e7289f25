-- From where each number comes, and what a whole call leaves behind it: document 01, "Turning a call away".
use Rattle.std.specs.Prelude.{ℕ, ◌+◌, ◌≤◌, ◌<◌, max, ◌≡◌, ◌↔◌, ◌⊎◌, eqb, ltb, length}
use Rattle.std.proofs.Math.Path.{refl}
use Rattle.std.proofs.Common.{sym, ◌∙◌, inl, inr, arith}
use Rattle.std.proofs.Math.Option.{Option, none, some, some-ne-none}
use Rattle.rules.specs.Lists.{Words}
use Rattle.rules.specs.Run.{Out, refused}
use Rattle.rules.specs.RunLaws.{same_number, Between, said}
use Rattle.rules.specs.Search.{Finder}
use Rattle.rules.specs.Check.{Checks, refusal, entry, impl_checks, flex_checks}
use Rattle.rules.specs.Calls.{impl_within, flex_within, unset, free_find_impl, free_find_flex, try_find_impl, find_flex}
use Rattle.rules.specs.CheckNumbers.{refusal_front, refusal-after, entry_numbers, impl_check_numbers, flex_check_numbers}
use Rattle.rules.specs.Limit.{Enters}
use Rattle.rules.proofs.Limit.{demand_3_impl_one}
use Rattle.rules.specs.Outcomes.{Counted, Impl_late, Flex_late, Flex_free_late}
use Rattle.rules.proofs.Outcomes.{impl_free_says, flex_free_says, impl_searched, impl_passed, flex_searched, flex_passed, flex_before}
use Rattle.rules.specs.Refusals.{Ends, entry_ends, check_ends, search_ends, least_flex_late}

-- The whole calls, under any step limit, with any buffers and start count.
module _ (L : ℕ) (a : Finder) (q answer work : Words) (c : ℕ) where
  of_entry : Checks
  of_entry = entry a.sheet q (length answer) (length work) c

  -- place by place: what holds of each end holds of the call
  impl_places : (basic : ℕ) (P : Out Words × ℕ → Type 0) → ((n : ℕ) → refusal of_entry ≡ some n → P (refused n, c)) → ((n : ℕ) → refusal of_entry ≡ none → refusal (impl_checks a basic q) ≡ some n → P (refused n, c)) →
      (refusal of_entry ≡ none → refusal (impl_checks a basic q) ≡ none → P (impl_within (ltb L) a (eqb basic 1) q c)) → P (try_find_impl L a basic q (length answer) (length work) c)
  unfolding try_find_impl of_entry
  impl_places basic P f g h = go (refusal of_entry) refl (refusal (impl_checks a basic q)) refl
    where
      go : (o : Option ℕ) → refusal of_entry ≡ o → (u : Option ℕ) → refusal (impl_checks a basic q) ≡ u → P (try_find_impl L a basic q (length answer) (length work) c)
      go (some n) e u k = rw (refusal_front of_entry (impl_checks a basic q) n e, try_find_impl) (f n e)
      go none e (some n) k = rw (refusal-after of_entry (impl_checks a basic q) e ∙ k, try_find_impl) (g n e k)
      go none e none k = rw (refusal-after of_entry (impl_checks a basic q) e ∙ k, try_find_impl) (h e k)

  flex_places : (P : Out Words × ℕ → Type 0) → ((n : ℕ) → refusal of_entry ≡ some n → P (refused n, c)) → ((n : ℕ) → refusal of_entry ≡ none → refusal (flex_checks a q) ≡ some n → P (refused n, c)) →
      (refusal of_entry ≡ none → refusal (flex_checks a q) ≡ none → P (flex_within (ltb L) a q c)) → P (find_flex L a q (length answer) (length work) c)
  unfolding find_flex of_entry
  flex_places P f g h = go (refusal of_entry) refl (refusal (flex_checks a q)) refl
    where
      go : (o : Option ℕ) → refusal of_entry ≡ o → (u : Option ℕ) → refusal (flex_checks a q) ≡ u → P (find_flex L a q (length answer) (length work) c)
      go (some n) e u k = rw (refusal_front of_entry (flex_checks a q) n e, find_flex) (f n e)
      go none e (some n) k = rw (refusal-after of_entry (flex_checks a q) e ∙ k, find_flex) (g n e k)
      go none e none k = rw (refusal-after of_entry (flex_checks a q) e ∙ k, find_flex) (h e k)

  number_of-entry : (n : ℕ) → refusal of_entry ≡ some n → Between 1 5 n
  unfolding of_entry
  number_of-entry n e = entry_numbers a.sheet q (length answer) (length work) c n e

  -- How the impl call ends: it makes one search.
  pub impl_ends : (basic : ℕ) →
      Ends Impl_late (refusal (entry a.sheet q (length answer) (length work) c)) (refusal (impl_checks a basic q)) L 1 c answer work
      (try_find_impl L a basic q (length answer) (length work) c)
  unfolding of_entry
  impl_ends basic = impl_places basic (λ r. Ends Impl_late (refusal of_entry) (refusal (impl_checks a basic q)) L 1 c answer work r)
      (λ n e. rw e (entry_ends Impl_late (λ m b. b.least) L 1 c answer work _ n (number_of-entry n e)))
      (λ n e k. rw (e, k) (check_ends Impl_late (λ m b. b.least) L 1 c answer work n (impl_check_numbers a basic q n k)))
      (λ e k. rw (e, k) (search_ends Impl_late (λ m b. b.least) L 1 c answer work _ (impl_searched L a c (eqb basic 1) q)))

  -- How the flex call ends: it makes four searches.
  pub flex_ends :
      Ends Flex_late (refusal (entry a.sheet q (length answer) (length work) c)) (refusal (flex_checks a q)) L 4 c answer work
      (find_flex L a q (length answer) (length work) c)
  unfolding of_entry
  flex_ends = flex_places (λ r. Ends Flex_late (refusal of_entry) (refusal (flex_checks a q)) L 4 c answer work r)
      (λ n e. rw e (entry_ends Flex_late least_flex_late L 4 c answer work _ n (number_of-entry n e)))
      (λ n e k. rw (e, k) (check_ends Flex_late least_flex_late L 4 c answer work n (flex_check_numbers a q n k)))
      (λ e k. rw (e, k) (search_ends Flex_late least_flex_late L 4 c answer work _ (flex_searched L a c q)))

  -- 18 by count: an impl call that asks a question and ends above the limit refuses with 18, at 1 above the limit or its start, whichever is higher.
  pub impl_by_count : (basic : ℕ) → let r = try_find_impl L a basic q (length answer) (length work) c in L < r.1 → c < r.1 → r ≡ (refused 18, max L c + 1)
  impl_by_count basic = impl_places basic (λ r. L < r.1 → c < r.1 → r ≡ (refused 18, max L c + 1)) (λ n e l k. absurd (omega arith)) (λ n e f l k. absurd (omega arith)) (λ e f l k. impl_passed L a c (eqb basic 1) q l)

  -- Every other 18 is one of the search without a step limit: an unknown inherent argument.
  pub impl_18 : (basic : ℕ) → Enters a q answer work c → let r = try_find_impl L a basic q (length answer) (length work) c in r.0 ≡ refused 18 → r.1 ≤ L → free_find_impl a basic q ≡ refused 18
  impl_18 basic p e l = sym ((demand_3_impl_one L a q answer work c p basic).answer l) ∙ e

  -- "24 FlexSearchLimit (only with the count above the step limit)": exactly if the flex call asks a question and ends above the limit.
  pub flex_by_count : let r = find_flex L a q (length answer) (length work) c in (r.0 ≡ refused 24) ↔ ((L < r.1) × (c < r.1))
  flex_by_count = flex_places (λ r. (r.0 ≡ refused 24) ↔ ((L < r.1) × (c < r.1)))
      (λ n e. (λ k. absurd (omega (arith, same_number n 24 k, number_of-entry n e)), λ k. absurd (omega arith)))
      (λ n e f. (λ k. absurd (omega (arith, same_number n 24 k, flex_check_numbers a q n f)), λ k. absurd (omega arith)))
      (λ e f. flex_passed L a c q)

  -- 22 and 23 come out exactly if no check refuses and Fork or Drop is unset.
  pub flex_by_unset : (n : ℕ) → let r = find_flex L a q (length answer) (length work) c in
      ((r.0 ≡ refused n) × Between 22 23 n) ↔ (Enters a q answer work c × (refusal (flex_checks a q) ≡ none) × (unset a.sheet ≡ some n))
  unfolding of_entry
  flex_by_unset n = flex_places (λ r. ((r.0 ≡ refused n) × Between 22 23 n) ↔ ((refusal of_entry ≡ none) × (refusal (flex_checks a q) ≡ none) × (unset a.sheet ≡ some n)))
      (λ m e. (λ k. absurd (omega (arith, same_number m n k.0, number_of-entry m e)), λ k. absurd (some-ne-none m (sym e ∙ k.0))))
      (λ m e f. (λ k. absurd (omega (arith, same_number m n k.0, flex_check_numbers a q m f)), λ k. absurd (some-ne-none m (sym f ∙ k.1))))
      (λ e f. (λ k. (e, f, (flex_before L a c q n).0 k), λ k. (flex_before L a c q n).1 k.2))

-- The search without a step limit, with the checks that come between entry and search: 6 to 21 for the impl call,
-- 6 to 17, 21 to 23, 25 and 26 for the flex call. 24 is removed.
pub free_impl_numbers : (a : Finder) (basic : ℕ) (q : Words) (n : ℕ) → free_find_impl a basic q ≡ refused n → Between 6 21 n
unfolding free_find_impl
free_impl_numbers a basic q n e = go (refusal (impl_checks a basic q)) refl e
  where
    go : (o : Option ℕ) → refusal (impl_checks a basic q) ≡ o → free_find_impl a basic q ≡ refused n → Between 6 21 n
    go (some m) f k = omega (arith, impl_check_numbers a basic q m f, same_number m n (rw (f, free_find_impl) at k))
    go none f k = omega (arith, said Impl_late Counted _ (impl_free_says a (eqb basic 1) q) n (rw (f, free_find_impl) at k))

pub free_flex_numbers : (a : Finder) (q : Words) (n : ℕ) → free_find_flex a q ≡ refused n → Between 6 17 n ⊎ Between 21 23 n ⊎ Between 25 26 n
unfolding free_find_flex
free_flex_numbers a q n e = go (refusal (flex_checks a q)) refl e
  where
    sort : Flex_free_late n → Between 6 17 n ⊎ Between 21 23 n ⊎ Between 25 26 n
    sort (inl b) = inr (inl (omega arith))
    sort (inr (inl b)) = inl (omega arith)
    sort (inr (inr (inl b))) = inr (inl (omega arith))
    sort (inr (inr (inr b))) = inr (inr b)

    go : (o : Option ℕ) → refusal (flex_checks a q) ≡ o → free_find_flex a q ≡ refused n → Between 6 17 n ⊎ Between 21 23 n ⊎ Between 25 26 n
    go (some m) f k = inl (omega (arith, flex_check_numbers a q m f, same_number m n (rw (f, free_find_flex) at k)))
    go none f k = sort (said Flex_free_late Counted _ (flex_free_says a q) n (rw (f, free_find_flex) at k))
