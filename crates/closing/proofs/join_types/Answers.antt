-- Types that may be absent, joined where both are there.
use Rattle.std.proofs.Common.{rules}
use Rattle.closing.specs.Flex.{table_good, joins_left, joins_right, joins_x, joins_y, joins_both, fails_failure, fails_other}
use Rattle.closing.proofs.join_types.Goals as goal

pub returns-in_default : goal.returns-in_default
returns-in_default c = search (rules, joins_right)

pub returns-in_default-2 : goal.returns-in_default-2
returns-in_default-2 c = search (rules, joins_left)

pub unify-requires-clause-good : goal.unify-requires-clause-good
unify-requires-clause-good c = search (rules, table_good)

pub unify-requires-clause-a_in_bounds : goal.unify-requires-clause-a_in_bounds
unify-requires-clause-a_in_bounds c = search (rules, joins_x)

pub unify-requires-clause-b_in_bounds : goal.unify-requires-clause-b_in_bounds
unify-requires-clause-b_in_bounds c = search (rules, joins_y)

pub returns-in-Failure : goal.returns-in-Failure
returns-in-Failure c = search (rules, joins_both, fails_failure)

pub returns-in_default-matches : goal.returns-in_default-matches
returns-in_default-matches c = search (rules, joins_both, fails_other, c.in_default-matches.not-Failure)
