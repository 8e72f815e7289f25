-- `next`: no trait, or its candidates.
use Rattle.std.proofs.Common.{rules}
use Rattle.admitted.specs.Found.{next_error, next_found}
use Rattle.admitted.proofs.next.Goals as goal

pub returns-in_err-t : goal.returns-in_err-t
returns-in_err-t c = search (rules, next_error)

pub returns : goal.returns
returns c = search (rules, next_found)
