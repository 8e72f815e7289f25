-- `walk`: what the queue's end says where it was worked off.
use Rattle.std.specs.Prelude.{not, eqb}
use Rattle.std.proofs.Common.{refl}
use Rattle.reach.specs.Counts.{tells_walked}
use Rattle.reach.proofs.walk.Goals as goal

pub returns : goal.returns
returns g c = tells_walked c.args.sheet.now (not (eqb g.row.GIVEN 0)) c.args.places.now _ _ _ _ _ c.enter_cells.new.queue.end c.run.new.queue.end c.args.args refl c.in_ok-enter_cells.ensures c.in_ok-run.ensures
