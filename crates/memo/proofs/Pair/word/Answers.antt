-- `word`: the number of a verdict is its code.
use Rattle.std.proofs.Common.{◌≡◌, ◌+◌, ◌*◌, ◌∙◌, refl}
use Rattle.memo.specs.Memo.{entry_is}
use Rattle.memo.specs.Verdicts.{code_of}
use Rattle.memo.specs.declared.verdict.UnifyResult.{UnifyResult}
use Rattle.memo.specs.declared.verdict.UnifyResult.TheVariants.{Success, Failure, Indeterminate}
use Rattle.memo.specs.contracts.verdict.UnifyResult.{the_type}
use denote.Enum.Declared.{tag_of}
use Rattle.memo.proofs.Pair.word.Goals as goal

number : (v : UnifyResult) → tag_of the_type v ≡ code_of v
number Success = refl
number Failure = refl
number Indeterminate = refl

pub returns : goal.returns
returns c = (λ i. 4 * c.number.ensures i + number c.args.v i) ∙ entry_is c.args.self.x c.args.self.y (code_of c.args.v)
