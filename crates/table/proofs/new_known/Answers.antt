-- `new_known`: the node behind the last.
use Rattle.table.specs.Writes.{push_room}
use Rattle.table.proofs.new_known.Goals as goal

pub returns-clause-pushes : goal.returns-clause-pushes
returns-clause-pushes c = push_room _ _ _ _ c.in_ok-n.ensures.number c.in_ok-n.ensures.room c.requires c.write_known.ensures
