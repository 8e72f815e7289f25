-- `occurs_in` and `occurs_among`: the rank falls from a type to the children of its root; of the children passed none has anything of v.
use Rattle.std.proofs.Common.{rules}
use Rattle.walks.specs.Occurs.{scan_hit, scan_more, scan_end, walked_here, walked_marked, walked_found, walked_none}
use Rattle.walks.specs.Steps.{child-in_table, child_lower, among_lower, root_in, root_own}
use Rattle.walks.proofs.+occurs_walk.Goals as goal

pub occurs_among-occurs_in-requires : goal.occurs_among-occurs_in-requires
occurs_among-occurs_in-requires t c = search (rules, child_lower, child-in_table)

pub occurs_among-returns-then-occurs_in : goal.occurs_among-returns-then-occurs_in
occurs_among-returns-then-occurs_in t c = search (rules, scan_hit)

pub occurs_among-loop-i-preserved : goal.occurs_among-loop-i-preserved
occurs_among-loop-i-preserved t c = search (rules, scan_more)

pub occurs_among-returns : goal.occurs_among-returns
occurs_among-returns t c = search (rules, scan_end)

pub occurs_in-returns-then-n-v : goal.occurs_in-returns-then-n-v
occurs_in-returns-then-n-v t c = search (rules, walked_here)

pub occurs_in-returns-then-marked : goal.occurs_in-returns-then-marked
occurs_in-returns-then-marked t c = search (rules, walked_marked)

pub occurs_in-occurs_among-requires : goal.occurs_in-occurs_among-requires
occurs_in-occurs_among-requires t c = search (rules, among_lower, root_in, root_own)

pub occurs_in-returns-then-occurs_among : goal.occurs_in-returns-then-occurs_among
occurs_in-returns-then-occurs_among t c = search (rules, walked_found)

pub occurs_in-returns : goal.occurs_in-returns
occurs_in-returns t c = search (rules, walked_none)
