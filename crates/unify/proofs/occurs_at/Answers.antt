-- `occurs_at`: the memo behind the marks stays.
use Rattle.std.proofs.Common.{rules}
use Rattle.unify.specs.Trying.{marks_enough, marks_back}
use Rattle.unify.proofs.occurs_at.Goals as goal

pub occurs-requires-clause-ws_in_bounds : goal.occurs-requires-clause-ws_in_bounds
occurs-requires-clause-ws_in_bounds c = search (rules, marks_enough)

pub returns-clause-aside : goal.returns-clause-aside
returns-clause-aside c = search (rules, marks_back)
