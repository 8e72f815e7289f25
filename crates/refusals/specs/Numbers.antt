-- Document 01's number for each refusal, and for what a check or a call comes to: 0 where it is not turned away.
use Rattle.std.specs.Prelude.{ℕ, ◌-◌, ◌≡◌, ◌≢◌, ◌<◌, refl, Option, MatchOption, Result, Ok, Err, List, [], ◌∷◌, get_or}
use Rattle.std.proofs.Common.{◌⊎◌, ◌∙◌, ap, sym, arith}
use Rattle.refusals.specs.declared.Refusal.{Refusal}
use Rattle.refusals.specs.declared.Stopped.{Stopped}
use Rattle.refusals.specs.declared.Refusal.TheVariants.{SheetLength, QuestionLength, AnswerLength, WorkspaceLength, StartCount, Edition, SheetChains, SheetValues, SheetCycle, Ids, QuestionChains, QuestionValues, QuestionCycle, TypesFull, TooDeep, ResultsFull, TreesFull, SearchLimit, ErrorType, CannotFindImpl, AmbiguousImpl, ForkUnset, DropUnset, FlexSearchLimit, BiFlexible, IncompatibleForkDropInference}

abbrev pub number_of : Refusal → ℕ
number_of SheetLength = 1
number_of QuestionLength = 2
number_of AnswerLength = 3
number_of WorkspaceLength = 4
number_of StartCount = 5
number_of Edition = 6
number_of SheetChains = 7
number_of SheetValues = 8
number_of SheetCycle = 9
number_of Ids = 10
number_of QuestionChains = 11
number_of QuestionValues = 12
number_of QuestionCycle = 13
number_of TypesFull = 14
number_of TooDeep = 15
number_of ResultsFull = 16
number_of TreesFull = 17
number_of SearchLimit = 18
number_of ErrorType = 19
number_of CannotFindImpl = 20
number_of AmbiguousImpl = 21
number_of ForkUnset = 22
number_of DropUnset = 23
number_of FlexSearchLimit = 24
number_of BiFlexible = 25
number_of IncompatibleForkDropInference = 26

-- 0 for what is not turned away, else the number of the refusal.
abbrev pub verdict_number : {A : Type 0} → Result A Refusal → ℕ
verdict_number (Ok _) = 0
verdict_number (Err refusal) = number_of refusal

-- The refusal of a number, or none for a number that is 0 or above 26.
abbrev pub Reads : ℕ → Option Refusal → Type 0
Reads n r = MatchOption r ((n ≡ 0) ⊎ (26 < n)) (λ refusal. number_of refusal ≡ n)

-- A run that counts its steps, to its count: its number, 0 where it is not turned away, and its count.
abbrev pub end_number : Result ℕ Stopped → ℕ
end_number (Ok _) = 0
end_number (Err stopped) = number_of stopped.refusal

abbrev pub end_count : Result ℕ Stopped → ℕ
end_count (Ok count) = count
end_count (Err stopped) = stopped.count

-- All of them in order, and that no two have one number.
abbrev pub refusals : List Refusal
refusals = SheetLength ∷ QuestionLength ∷ AnswerLength ∷ WorkspaceLength ∷ StartCount ∷ Edition ∷ SheetChains ∷ SheetValues ∷ SheetCycle ∷ Ids ∷ QuestionChains ∷ QuestionValues ∷ QuestionCycle ∷ TypesFull ∷ TooDeep ∷ ResultsFull ∷ TreesFull ∷ SearchLimit ∷ ErrorType ∷ CannotFindImpl ∷ AmbiguousImpl ∷ ForkUnset ∷ DropUnset ∷ FlexSearchLimit ∷ BiFlexible ∷ IncompatibleForkDropInference ∷ []

pub refusal_at : (r : Refusal) → get_or refusals (number_of r - 1) SheetLength ≡ r
refusal_at SheetLength = refl
refusal_at QuestionLength = refl
refusal_at AnswerLength = refl
refusal_at WorkspaceLength = refl
refusal_at StartCount = refl
refusal_at Edition = refl
refusal_at SheetChains = refl
refusal_at SheetValues = refl
refusal_at SheetCycle = refl
refusal_at Ids = refl
refusal_at QuestionChains = refl
refusal_at QuestionValues = refl
refusal_at QuestionCycle = refl
refusal_at TypesFull = refl
refusal_at TooDeep = refl
refusal_at ResultsFull = refl
refusal_at TreesFull = refl
refusal_at SearchLimit = refl
refusal_at ErrorType = refl
refusal_at CannotFindImpl = refl
refusal_at AmbiguousImpl = refl
refusal_at ForkUnset = refl
refusal_at DropUnset = refl
refusal_at FlexSearchLimit = refl
refusal_at BiFlexible = refl
refusal_at IncompatibleForkDropInference = refl

pub same_refusal : (r t : Refusal) → number_of r ≡ number_of t → r ≡ t
same_refusal r t e = sym (refusal_at r) ∙ ap (λ n. get_or refusals (n - 1) SheetLength) e ∙ refusal_at t

-- No refusal has the number 0.
pub number_some : (r : Refusal) → number_of r ≢ 0
number_some SheetLength e = omega arith
number_some QuestionLength e = omega arith
number_some AnswerLength e = omega arith
number_some WorkspaceLength e = omega arith
number_some StartCount e = omega arith
number_some Edition e = omega arith
number_some SheetChains e = omega arith
number_some SheetValues e = omega arith
number_some SheetCycle e = omega arith
number_some Ids e = omega arith
number_some QuestionChains e = omega arith
number_some QuestionValues e = omega arith
number_some QuestionCycle e = omega arith
number_some TypesFull e = omega arith
number_some TooDeep e = omega arith
number_some ResultsFull e = omega arith
number_some TreesFull e = omega arith
number_some SearchLimit e = omega arith
number_some ErrorType e = omega arith
number_some CannotFindImpl e = omega arith
number_some AmbiguousImpl e = omega arith
number_some ForkUnset e = omega arith
number_some DropUnset e = omega arith
number_some FlexSearchLimit e = omega arith
number_some BiFlexible e = omega arith
number_some IncompatibleForkDropInference e = omega arith
