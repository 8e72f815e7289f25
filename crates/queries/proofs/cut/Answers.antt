-- `cut`: four words read, of which the sub-question's are counted.
use Rattle.std.proofs.Common.{rules}
use Rattle.queries.specs.Rows.{cut_read}
use Rattle.queries.proofs.cut.Goals as goal

pub returns : goal.returns
returns c = search (rules, cut_read)
