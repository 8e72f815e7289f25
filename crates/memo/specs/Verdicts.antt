-- A verdict of the code in the words of the rules, and the code that it is kept with.
use Rattle.std.specs.Prelude.{ℕ, Option, Some, None}
use Rattle.rules.specs.Types.{success, failure, indeterminate}
use Rattle.rules.specs.Types as rules
use Rattle.memo.specs.declared.verdict.UnifyResult.{UnifyResult}
use Rattle.memo.specs.declared.verdict.UnifyResult.TheVariants.{Success, Failure, Indeterminate}

-- The verdict that a value of the code is.
unfoldable pub result_of : UnifyResult → rules.UnifyResult
result_of Success = success
result_of Failure = failure
result_of Indeterminate = indeterminate

-- The code that a verdict is kept with.
abbrev pub code_of : UnifyResult → ℕ
code_of Success = 0
code_of Failure = 1
code_of Indeterminate = 2

-- That of what is recalled: 0 where there is none.
abbrev pub kept_code : Option UnifyResult → ℕ
kept_code None = 0
kept_code (Some v) = code_of v
