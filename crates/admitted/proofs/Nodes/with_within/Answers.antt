-- `with_within`: a definition of the sheet, or none.
use Rattle.std.proofs.Common.{rules}
use Rattle.admitted.specs.Modules.{put_in, put_past}
use Rattle.admitted.proofs.Nodes.with_within.Goals as goal

pub returns-then-d-count : goal.returns-then-d-count
returns-then-d-count c = search (rules, put_in)

pub returns-else-d-count : goal.returns-else-d-count
returns-else-d-count c = search (rules, put_past)
