-- The number of the first check that refuses, 0 for none; and the laws by which code that tests one after the other proves itself.
use Rattle.std.specs.Prelude.{ℕ, ◌<◌, ◌≤◌, ◌≡◌, Bool, ◌||◌, T, leb, eqb, length, Result, Ok, Err, MatchResult, IsErr, IsErrAnd}
use Rattle.std.proofs.Math.Path.{refl, sym}
use Rattle.std.proofs.Common.{◌∙◌, ap, subst, arith, lit<}
use Rattle.std.proofs.Math.Decide.{dec_le}
use Rattle.std.proofs.Math.Bool.{true, false, not}
use mathlib.Core.List.{[], ◌∷◌, ◌++◌}
use Rattle.std.proofs.Math.Option.{none, some}
use borrow.Author.Tests.{lt-ltb, le-ltb, le-leb, lt-leb}
use Rattle.std.proofs.Math.Dec.{ltb, nltb→le}
use Rattle.rules.specs.Lists.{Words, holds}
use Rattle.rules.specs.Limits.{limit_sheet, limit_question, limit_answer, limit_workspace, limit_count}
use Rattle.rules.specs.Layout.{header_length, header_definitions, header_generics, header_edition, question_length, question_table}
use Rattle.rules.specs.Sheet.{at, many}
use Rattle.rules.specs.Chains.{sheet_keeps, impl_question_keeps, flex_question_keeps}
use Rattle.rules.specs.Values.{is_id, sheet_values, impl_question_values, flex_question_values}
use Rattle.rules.specs.Acyclic.{sheet_acyclic, question_acyclic}
use Rattle.rules.specs.Search.{Finder}
use Rattle.refusals.specs.Numbers.{number_of, verdict_number}
use Rattle.refusals.specs.declared.Refusal.{Refusal}
use Rattle.refusals.specs.declared.Refusal.TheVariants.{SheetLength, QuestionLength, AnswerLength, WorkspaceLength, StartCount, Edition, SheetChains, SheetValues, SheetCycle, Ids, QuestionChains, QuestionValues, QuestionCycle, TypesFull, TooDeep, ResultsFull, TreesFull, SearchLimit, ErrorType, CannotFindImpl, AmbiguousImpl, ForkUnset, DropUnset, FlexSearchLimit, BiFlexible, IncompatibleForkDropInference}
use Rattle.acyclic.specs.Nodes.{Inside}
use Rattle.acyclic.specs.Sheets.{impl_question_inside, flex_question_inside}
use Rattle.rules.specs.CheckLaws.{unrefused}
use Rattle.rules.specs.Check.{Checks, refusal, of_length, entry, of_sheet, of_ids, of_impl_question, of_flex_question, impl_checks, flex_checks}

-- The number of some checks: that of the first condition that holds, 0 for none.
unfoldable pub number : Checks → ℕ
number cs = elim (refusal cs) [ none ↦ 0 | some n ↦ n ]

pub none_left : 0 ≡ number []
unfolding number refusal
none_left = refl

-- What a test comes to: no refusal where it passes.
abbrev pub Required : Bool → Refusal → Result (Unit {0}) Refusal → Type 0
Required passes refusal r = MatchResult r (λ _. passes ≡ true) (λ e. (passes ≡ false) × (e ≡ refusal))

-- What `?` hands on.
pub passed_on : (r : Result (Unit {0}) Refusal) (e : Refusal) (n : ℕ) → IsErr r × IsErrAnd r (λ d. d ≡ e) → number_of e ≡ n → verdict_number r ≡ n
passed_on (Ok u) e n h k = absurd h.1
passed_on (Err d) e n h k = ap number_of h.1 ∙ k

-- Every refusal has a number.
pub numbered : (e : Refusal) → 0 < number_of e
numbered SheetLength = lit< tt
numbered QuestionLength = lit< tt
numbered AnswerLength = lit< tt
numbered WorkspaceLength = lit< tt
numbered StartCount = lit< tt
numbered Edition = lit< tt
numbered SheetChains = lit< tt
numbered SheetValues = lit< tt
numbered SheetCycle = lit< tt
numbered Ids = lit< tt
numbered QuestionChains = lit< tt
numbered QuestionValues = lit< tt
numbered QuestionCycle = lit< tt
numbered TypesFull = lit< tt
numbered TooDeep = lit< tt
numbered ResultsFull = lit< tt
numbered TreesFull = lit< tt
numbered SearchLimit = lit< tt
numbered ErrorType = lit< tt
numbered CannotFindImpl = lit< tt
numbered AmbiguousImpl = lit< tt
numbered ForkUnset = lit< tt
numbered DropUnset = lit< tt
numbered FlexSearchLimit = lit< tt
numbered BiFlexible = lit< tt
numbered IncompatibleForkDropInference = lit< tt

-- A test that passed.
pub holds_so : (b c : Bool) → b ≡ c → b ≡ true → T c
holds_so b c e f = subst T (sym f ∙ e) tt

-- A question whose values are good has its nodes inside.
pub impl_inside : (s : Words) (g : ℕ) (q : Words) (r : Bool) → r ≡ impl_question_values s g q → r ≡ true → Inside q (at q question_table)
impl_inside s g q r e f = impl_question_inside s g q (holds_so r _ e f)

pub flex_inside : (s : Words) (g : ℕ) (q : Words) (r : Bool) → r ≡ flex_question_values s g q → r ≡ true → Inside q (at q question_table)
flex_inside s g q r e f = flex_question_inside s g q (holds_so r _ e f)

-- A check that does not refuse leaves the word to those after it; one that does decides.
pub number_past : (n : ℕ) (b : Bool) (cs : Checks) → b ≡ false → number ((n, b) ∷ cs) ≡ number cs
unfolding number refusal
number_past n b cs e = rw e

pub number_here : (n : ℕ) (b : Bool) (cs : Checks) → b ≡ true → n ≡ number ((n, b) ∷ cs)
unfolding number refusal
number_here n b cs e = rw e

-- The same of a test by the code, which refuses where c holds.
module _ (d : Refusal) (b c : Bool) (q : not b ≡ c) where
  pub refuses : (cs : Checks) (e : Refusal) → (b ≡ false) × (e ≡ d) → number_of e ≡ number ((number_of d, c) ∷ cs)
  refuses cs e h = ap number_of h.1 ∙ number_here (number_of d) c cs (sym q ∙ ap not h.0)

  pub passes : (cs : Checks) (m : ℕ) → b ≡ true → m ≡ number cs → m ≡ number ((number_of d, c) ∷ cs)
  passes cs m h k = k ∙ sym (number_past (number_of d) c cs (sym q ∙ ap not h))

  pub requires : (r : Result (Unit {0}) Refusal) → Required b d r → verdict_number r ≡ number ((number_of d, c) ∷ [])
  requires (Ok u) h = passes [] 0 h none_left
  requires (Err e) h = refuses [] e h

-- Checks one after the other: the first that refuses decides.
abbrev Positive : Checks → Type 0
Positive [] = Unit {0}
Positive (c ∷ cs) = (0 < c.0) × Positive cs

front : (xs ys : Checks) (e : Refusal) → number_of e ≡ number xs → number_of e ≡ number (xs ++ ys)
unfolding number refusal
front [] ys e h = absurd (omega (arith, numbered e, h))
front (x ∷ xs) ys e h = go x.1 h (front xs ys e)
  where
    go : (b : Bool) → number_of e ≡ number ((x.0, b) ∷ xs) → (number_of e ≡ number xs → number_of e ≡ number (xs ++ ys)) → number_of e ≡ number ((x.0, b) ∷ (xs ++ ys))
    go true h ih = h
    go false h ih = ih h

behind : (xs ys : Checks) → Positive xs → 0 ≡ number xs → number (xs ++ ys) ≡ number ys
unfolding number refusal
behind [] ys p e = refl
behind (x ∷ xs) ys p e = go x.1 e (behind xs ys p.1)
  where
    go : (b : Bool) → 0 ≡ number ((x.0, b) ∷ xs) → (0 ≡ number xs → number (xs ++ ys) ≡ number ys) → number ((x.0, b) ∷ (xs ++ ys)) ≡ number ys
    go true e ih = absurd (omega (arith, p.0))
    go false e ih = ih e

not_leb : (a b : ℕ) → not (leb a b) ≡ ltb b a
not_leb a b = go (dec_le a b)
  where
    go : Dec (a ≤ b) → not (leb a b) ≡ ltb b a
    go (yes h) = rw (le-leb a b h, le-ltb b a h) refl
    go (no h) = rw (lt-leb a b (omega arith), lt-ltb b a (omega arith)) refl

-- A test of a length, and 1.
pub not_within : {b c : Bool} → b ≡ not c → not b ≡ c
not_within {c = c} e = ap not e ∙ go c
  where
    go : (b : Bool) → not (not b) ≡ b
    go true = refl
    go false = refl

pub of_length_is : (s : Words) (b : Bool) (r : Result (Unit {0}) Refusal) → b ≡ not (ltb (length s) header_length || ltb limit_sheet (length s)) → Required b SheetLength r → verdict_number r ≡ number (of_length s)
unfolding of_length
of_length_is s b r e h = requires SheetLength b _ (not_within e) r h

-- 1 to 5, after the sheet's length.
module _ (s q : Words) (answer work c : ℕ) where
  abbrev entry_lengths : Checks
  entry_lengths = (2, ltb (length q) question_length || ltb limit_question (length q)) ∷ (3, ltb answer limit_answer) ∷ (4, ltb work limit_workspace) ∷ (5, ltb limit_count c) ∷ []

  pub entry_sheet : (e : Refusal) → number_of e ≡ number (of_length s) → number_of e ≡ number (entry s q answer work c)
  unfolding entry
  entry_sheet e h = front (of_length s) entry_lengths e h

  pub entry_past : (m : ℕ) → 0 ≡ number (of_length s) → m ≡ number entry_lengths → m ≡ number (entry s q answer work c)
  unfolding entry of_length
  entry_past m h k = k ∙ sym (behind (of_length s) entry_lengths (omega arith) h)

-- The limits of 3 to 5.
pub answer_limit : (answer : ℕ) → not (leb 10240 answer) ≡ ltb answer limit_answer
answer_limit answer = not_leb limit_answer answer

pub work_limit : (work : ℕ) → not (leb 662794 work) ≡ ltb work limit_workspace
unfolding limit_workspace
work_limit work = not_leb limit_workspace work

pub count_limit : (c : ℕ) → not (leb c 1000000) ≡ ltb limit_count c
count_limit c = not_leb c limit_count

-- The finder of a call: sheet, source and generics.
abbrev pub finder : Words → ℕ → ℕ → Finder
finder s source generics = record { sheet = s; source = source; generics = generics }

-- 10: source and generics are there, the basic flag is 0 or 1.
module _ (s : Words) (source generics basic : ℕ) where
  ids : Bool
  ids = holds (is_id s header_definitions source ∷ is_id s header_generics generics ∷ leb basic 1 ∷ [])

  ten : ids ≡ false → 10 ≡ number (of_ids (finder s source generics) basic)
  unfolding of_ids ids
  ten e = number_here 10 _ [] (ap not e)

  pub no_source : (d : ℕ) → d ≡ many s header_definitions → ltb source d ≡ false → 10 ≡ number (of_ids (finder s source generics) basic)
  unfolding ids holds is_id
  no_source d e h = ten (rw (sym (ap (ltb source) e) ∙ h))

  module _ (d g : ℕ) (e : d ≡ many s header_definitions) (f : g ≡ many s header_generics) (h : ltb source d ≡ true) where
    pub no_generics : ltb generics g ≡ false → 10 ≡ number (of_ids (finder s source generics) basic)
    unfolding ids holds is_id
    no_generics k = ten (rw (sym (ap (ltb source) e) ∙ h, sym (ap (ltb generics) f) ∙ k))

    pub flag_last : ltb generics g ≡ true → (r : Result (Unit {0}) Refusal) → Required (leb basic 1) Ids r → verdict_number r ≡ number (of_ids (finder s source generics) basic)
    unfolding of_ids holds is_id
    flag_last k r t = requires Ids (leb basic 1) _ (rw (sym (ap (ltb source) e) ∙ h, sym (ap (ltb generics) f) ∙ k) (go (leb basic 1))) r t
      where
        go : (b : Bool) → not b ≡ not (holds (b ∷ []))
        go true = refl
        go false = refl

-- The three tests of a sheet, and of a question.
abbrev pub sheet_tests : Words → Checks
sheet_tests s = (7, not (sheet_keeps s)) ∷ (8, not (sheet_values s)) ∷ (9, not (sheet_acyclic s)) ∷ []

abbrev pub impl_question_tests : Words → ℕ → Words → Checks
impl_question_tests s g q = (11, not (impl_question_keeps q)) ∷ (12, not (impl_question_values s g q)) ∷ (13, not (question_acyclic q)) ∷ []

abbrev pub flex_question_tests : Words → ℕ → Words → Checks
flex_question_tests s g q = (11, not (flex_question_keeps q)) ∷ (12, not (flex_question_values s g q)) ∷ (13, not (question_acyclic q)) ∷ []

-- 6 to 9: the edition, then those of the sheet.
module _ (s : Words) (w : ℕ) (q : w ≡ at s header_edition) where
  pub sheet_edition : (e : Refusal) → (eqb w 1 ≡ false) × (e ≡ Edition) → number_of e ≡ number (of_sheet s)
  unfolding of_sheet
  sheet_edition e h = refuses Edition (eqb w 1) _ (ap (λ x. not (eqb x 1)) q) _ e h

  pub sheet_further : (n : ℕ) → eqb w 1 ≡ true → n ≡ number (sheet_tests s) → n ≡ number (of_sheet s)
  unfolding of_sheet
  sheet_further n h k = passes Edition (eqb w 1) _ (ap (λ x. not (eqb x 1)) q) (sheet_tests s) n h k

-- The checks of a call between entry and search: those of the sheet, of the ids and of the question.
module _ (s : Words) (source generics basic : ℕ) (tail : Checks) where
  abbrev ids_of : Checks
  ids_of = of_ids (finder s source generics) basic

  in_sheet : (e : Refusal) → number_of e ≡ number (of_sheet s) → number_of e ≡ number (of_sheet s ++ ids_of ++ tail)
  in_sheet e h = front (of_sheet s ++ ids_of) tail e (front (of_sheet s) ids_of e h)

  module _ (h : 0 ≡ number (of_sheet s)) where
    past_sheet : number (of_sheet s ++ ids_of) ≡ number ids_of
    unfolding of_sheet
    past_sheet = behind (of_sheet s) ids_of (omega arith) h

    in_ids : (e : Refusal) → number_of e ≡ number ids_of → number_of e ≡ number (of_sheet s ++ ids_of ++ tail)
    in_ids e k = front (of_sheet s ++ ids_of) tail e (k ∙ sym past_sheet)

    in_question : 0 ≡ number ids_of → (m : ℕ) → m ≡ number tail → m ≡ number (of_sheet s ++ ids_of ++ tail)
    unfolding of_sheet of_ids
    in_question k m g = g ∙ sym (behind (of_sheet s ++ ids_of) tail (omega arith) (k ∙ sym past_sheet))

-- Those of the impl call.
module _ (s : Words) (source generics basic : ℕ) (q : Words) where
  pub impl_sheet : (e : Refusal) → number_of e ≡ number (of_sheet s) → number_of e ≡ number (impl_checks (finder s source generics) basic q)
  unfolding impl_checks
  impl_sheet e h = in_sheet s source generics basic _ e h

  pub impl_ids : (e : Refusal) → 0 ≡ number (of_sheet s) → number_of e ≡ number (of_ids (finder s source generics) basic) → number_of e ≡ number (impl_checks (finder s source generics) basic q)
  unfolding impl_checks
  impl_ids e h k = in_ids s source generics basic _ h e k

  pub impl_question : (m : ℕ) → 0 ≡ number (of_sheet s) → 0 ≡ number (of_ids (finder s source generics) basic) → m ≡ number (impl_question_tests s generics q) → m ≡ number (impl_checks (finder s source generics) basic q)
  unfolding impl_checks of_impl_question
  impl_question m h k g = in_question s source generics basic _ h k m g

-- Those of the flex call.
module _ (s : Words) (source generics : ℕ) (q : Words) where
  pub flex_sheet : (e : Refusal) → number_of e ≡ number (of_sheet s) → number_of e ≡ number (flex_checks (finder s source generics) q)
  unfolding flex_checks
  flex_sheet e h = in_sheet s source generics 0 _ e h

  pub flex_ids : (e : Refusal) → 0 ≡ number (of_sheet s) → number_of e ≡ number (of_ids (finder s source generics) 0) → number_of e ≡ number (flex_checks (finder s source generics) q)
  unfolding flex_checks
  flex_ids e h k = in_ids s source generics 0 _ h e k

  pub flex_question : (m : ℕ) → 0 ≡ number (of_sheet s) → 0 ≡ number (of_ids (finder s source generics) 0) → m ≡ number (flex_question_tests s generics q) → m ≡ number (flex_checks (finder s source generics) q)
  unfolding flex_checks of_flex_question
  flex_question m h k g = in_question s source generics 0 _ h k m g

-- A call that entry lets in has a sheet, a question and a workspace of such lengths,
no_number : (cs : Checks) → Positive cs → 0 ≡ number cs → refusal cs ≡ none
unfolding number refusal
no_number [] p e = refl
no_number (c ∷ cs) p e = go c.1 e (no_number cs p.1)
  where
    go : (b : Bool) → 0 ≡ number ((c.0, b) ∷ cs) → (0 ≡ number cs → refusal cs ≡ none) → refusal ((c.0, b) ∷ cs) ≡ none
    go true e ih = absurd (omega (arith, p.0))
    go false e ih = ih e

both_no : (a b : Bool) → T (not (a || b)) → T (not a) × T (not b)
both_no true b t = absurd t
both_no false b t = (tt, t)

module _ (s q : Words) (answer work c : ℕ) (e : 0 ≡ number (entry s q answer work c)) where
  entered : refusal (entry s q answer work c) ≡ none
  unfolding entry of_length
  entered = no_number (entry s q answer work c) (omega arith) e

  of_sheet-length : T (not (ltb (length s) header_length)) × T (not (ltb limit_sheet (length s)))
  unfolding entry of_length
  of_sheet-length = both_no (ltb (length s) header_length) (ltb limit_sheet (length s)) (unrefused (entry s q answer work c) entered 0)

  of_question_length : T (not (ltb (length q) question_length)) × T (not (ltb limit_question (length q)))
  unfolding entry of_length
  of_question_length = both_no (ltb (length q) question_length) (ltb limit_question (length q)) (unrefused (entry s q answer work c) entered 1)

  of_work_length : T (not (ltb work limit_workspace))
  unfolding entry of_length
  of_work_length = unrefused (entry s q answer work c) entered 3

  pub sheet_some : 0 < length s
  sheet_some = omega (arith, nltb→le (length s) header_length of_sheet-length.0)

  pub sheet_within : length s ≤ 4096
  sheet_within = nltb→le limit_sheet (length s) of_sheet-length.1

  pub question-some : 0 < length q
  question-some = omega (arith, nltb→le (length q) question_length of_question_length.0)

  pub question-within : length q ≤ 4096
  question-within = omega (arith, nltb→le limit_question (length q) of_question_length.1)

  pub work_within : 90112 ≤ work
  unfolding limit_workspace
  work_within = omega (arith, nltb→le work limit_workspace of_work_length)

  -- and its number is that of the checks behind entry; one that it turns away has entry's.
  pub past_entry : (cs : Checks) (m : ℕ) → m ≡ number cs → m ≡ number (entry s q answer work c ++ cs)
  unfolding entry of_length
  past_entry cs m f = f ∙ sym (behind (entry s q answer work c) cs (omega arith) e)

pub at_entry : (s q : Words) (answer work c : ℕ) (cs : Checks) (e : Refusal) → number_of e ≡ number (entry s q answer work c) → number_of e ≡ number (entry s q answer work c ++ cs)
at_entry s q answer work c cs e h = front (entry s q answer work c) cs e h

-- The listing's checks: the sheet's length, then those of the sheet.
pub listing-length : (s : Words) (e : Refusal) → number_of e ≡ number (of_length s) → number_of e ≡ number (of_length s ++ of_sheet s)
listing-length s e h = front (of_length s) (of_sheet s) e h

module _ (s : Words) (e : 0 ≡ number (of_length s)) where
  lengths : T (not (ltb (length s) header_length)) × T (not (ltb limit_sheet (length s)))
  unfolding of_length
  lengths = both_no (ltb (length s) header_length) (ltb limit_sheet (length s)) (unrefused (of_length s) (no_number (of_length s) (omega arith) e) 0)

  pub listing-some : 0 < length s
  listing-some = omega (arith, nltb→le (length s) header_length lengths.0)

  pub listing-within : length s ≤ 4096
  listing-within = nltb→le limit_sheet (length s) lengths.1

  pub listing_sheet : (m : ℕ) → m ≡ number (of_sheet s) → m ≡ number (of_length s ++ of_sheet s)
  unfolding of_length
  listing_sheet m f = f ∙ sym (behind (of_length s) (of_sheet s) (omega arith) e)
