-- `transfer_types`: steps left are one more than the source has nodes.
use Rattle.std.proofs.Common.{rules}
use Rattle.transfer.specs.Imports.{inside_levels, moves_types}
use Rattle.transfer.proofs.transfer_types.Goals as goal

pub transfer_each-requires-clause-levels : goal.transfer_each-requires-clause-levels
transfer_each-requires-clause-levels g c = search (rules, inside_levels)

pub returns-clause-moves : goal.returns-clause-moves
returns-clause-moves g c = search (rules, moves_types)
