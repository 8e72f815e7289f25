-- The answer written: the caller's types exported, and all words put together.
use Rattle.std.proofs.Common.{rules}
use Rattle.closing.specs.Rows.{nodes_few}
use Rattle.closing.proofs.write_closing.Goals as goal

pub export_nodes-requires-clause-n_in_bounds_2 : goal.export_nodes-requires-clause-n_in_bounds_2
export_nodes-requires-clause-n_in_bounds_2 c = search (rules, nodes_few)
