-- What a call that passed its checks prepares for its search: the candidate sets of its source, and behind them what imports take.
use Rattle.std.specs.Prelude.{ℕ, ◌-◌, ◌≤◌, ◌<◌, ◌≡◌, [], ◌++◌, take, drop, replicate}
use Rattle.std.proofs.Common.{sym, ◌∙◌, ap, append-nil, le_refl, arith, drop_of_length-le, length-drop, length-take-le, take_at, drop_at}
use Rattle.std.proofs.Math.Path.{subst}
use Rattle.std.proofs.Math.ListN.{length}
use Rattle.std.proofs.lemmas.List.{length-replicate}
use borrow.Rule.Slice.PartMut.{mid_of, post_of, put_mid, same_len_mid, take_put}
use Rattle.rules.specs.Lists.{Words}
use Rattle.rules.specs.Layout.{header_definitions}
use Rattle.rules.specs.Sheet.{many}
use Rattle.rules.specs.CheckLaws.{Checked}
use Rattle.rules.specs.CheckedTables.{Ready}
use Rattle.candidates.specs.Build.{Candidates}
use Rattle.checks.specs.Numbers.{finder}
use Rattle.queries.specs.Takes.{Taken}
use Rattle.steps.specs.Asking.{sets_of, takes_of}
use Rattle.steps.specs.Next.{sets_length}

-- The checks have passed, whatever the question was.
pub record Passed (s : Words) (source generics : ℕ) : Type 0 where
  pub question : Words
  pub ready : Ready (finder s source generics) question
  pub checked : Checked s

module _ (s : Words) (source generics : ℕ) (h : Passed s source generics) where
  pub passed_checked : Checked s
  passed_checked = h.checked

  pub passed_short : length s ≤ 4096
  passed_short = h.ready.short

  pub passed_source : source < many s header_definitions
  passed_source = h.ready.source

-- Sets and words stand.
pub record Prepared (s : Words) (source generics : ℕ) (sets : Words) : Type 0 where
  pub candidates : Candidates s source (sets_of sets)
  pub taken : Taken s generics (takes_of sets)
  pub long : 34948 ≤ length sets

-- The part of the sets.
pub front_size : (xs : Words) → 35080 ≤ length xs → 34948 ≡ length (take 34948 xs)
front_size xs h = sets_length xs (omega arith)

pub front_room : (xs : Words) → 35080 ≤ length xs → 34948 ≤ length (take 34948 xs)
front_room xs h = omega (arith, front_size xs h)

-- The first n words come back as ys,
module _ (n : ℕ) (xs ys : Words) (h : n ≤ length xs) (e : length ys ≡ length (take n xs)) where
  front_is : take n (put_mid 0 n xs ys) ≡ ys
  front_is = take_at ys (post_of 0 n xs) n (e ∙ length-take-le n xs h)

  front_long : length (put_mid 0 n xs ys) ≡ length xs
  front_long = same_len_mid 0 n xs ys e

-- and those behind them as zs.
module _ (n : ℕ) (xs zs : Words) (h : n ≤ length xs) where
  rest-before : take n (put_mid n (length xs - n) xs zs) ≡ take n xs
  rest-before = take_put n (length xs - n) xs zs h

  none : post_of n (length xs - n) xs ≡ []
  none = let few : length (drop n xs) ≤ length xs - n = omega (arith, length-drop n xs) in drop_of_length-le (drop n xs) few

  rest_is : drop n (put_mid n (length xs - n) xs zs) ≡ zs
  rest_is = drop_at (take n xs) (zs ++ post_of n (length xs - n) xs) n (length-take-le n xs h) ∙ ap (λ (l : Words). zs ++ l) none ∙ append-nil zs

  rest_long : length zs ≡ length (mid_of n (length xs - n) xs) → length (put_mid n (length xs - n) xs zs) ≡ length xs
  rest_long e = same_len_mid n (length xs - n) xs zs e

-- The sets are built in the one part, and the words filled into the other.
module _ (s : Words) (source generics : ℕ) (xs ys : Words) (h : 35080 ≤ length xs) (front : length ys ≡ length (take 34948 xs)) where
  abbrev built : Words
  built = put_mid 0 34948 xs ys

  built_long : 35080 ≤ length built
  built_long = omega (arith, front_long 34948 xs ys (omega arith) front)

  pub prepared : (zs : Words) → Candidates s source ys → length zs ≡ length (mid_of 34948 (length built - 34948) built) → Taken s generics zs → Prepared s source generics (put_mid 34948 (length built - 34948) built zs)
  unfolding sets_of takes_of
  prepared zs c rest t =
      let room : 34948 ≤ length built = omega (arith, built_long) in
      record {
        candidates = subst (Candidates s source) (sym (rest-before 34948 built zs room ∙ front_is 34948 xs ys (omega arith) front)) c;
        taken = subst (Taken s generics) (sym (rest_is 34948 built zs room)) t;
        long = omega (arith, room, rest_long 34948 built zs room rest);
      }

-- The array has room for both.
pub new_sets : 35080 ≤ length (replicate {A = ℕ} 35080 0)
new_sets = subst (λ n. 35080 ≤ n) (sym (length-replicate {0} {A = ℕ} 35080 0)) (le_refl 35080)
