-- `type_params`: the head, the record, the word.
use Rattle.std.proofs.Common.{rules}
use Rattle.values.specs.Verdict.{params_word}
use Rattle.values.proofs.records.type_params.Goals as goal

pub returns : goal.returns
returns c = search (rules, params_word)
