-- `occurs`: at the start no node is marked.
use Rattle.std.proofs.Common.{rules}
use Rattle.walks.specs.Occurs.{clean_start}
use Rattle.walks.proofs.occurs.Goals as goal

pub occurs_in-requires-clause-clean : goal.occurs_in-requires-clause-clean
occurs_in-requires-clause-clean c = search (rules, clean_start)
