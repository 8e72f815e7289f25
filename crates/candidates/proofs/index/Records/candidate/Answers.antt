-- `candidate`: the cases of the first test.
use Rattle.std.proofs.Common.{rules, ◌∙◌}
use Rattle.candidates.specs.Find.{tested_yes, tested_no}
use Rattle.candidates.proofs.index.Records.candidate.Goals as goal

pub returns-then-wanted : goal.returns-then-wanted
returns-then-wanted c = search (rules, tested_yes)

pub returns-else-wanted : goal.returns-else-wanted
returns-else-wanted c = c.if-wanted.false ∙ search (rules, tested_no)
