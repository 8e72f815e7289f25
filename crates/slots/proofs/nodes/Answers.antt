-- `nodes`: a packed table has its count first.
use Rattle.std.proofs.Common.{rules}
use Rattle.slots.specs.Copies.{count_few, table_room}
use Rattle.slots.proofs.nodes.Goals as goal

pub returns-clause-few : goal.returns-clause-few
returns-clause-few c = search (rules, count_few)

pub returns-clause-room : goal.returns-clause-room
returns-clause-room c = search (rules, table_room)
