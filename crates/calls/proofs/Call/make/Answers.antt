use Rattle.calls.specs.Behind.{words_are}
use Rattle.calls.specs.Whole.{entry_room, call_away, call_comes, part-entered, part_is}
use Rattle.calls.proofs.Call.make.Goals as goal

pub slice_bounds-within-end : goal.slice_bounds-within-end
slice_bounds-within-end c = entry_room _ _ _ _ _ c.in-Ok.ensures _ words_are

pub slice_bounds-within-end-in-Ok : goal.slice_bounds-within-end-in-Ok
slice_bounds-within-end-in-Ok c = part_is _ _ _ _ _ _ c.in-Ok.ensures words_are

pub within-requires : goal.within-requires
within-requires c = part-entered _ _ _ _ _ _ c.in-Ok.ensures words_are

pub returns-in-Ok : goal.returns-in-Ok
returns-in-Ok c = call_comes _ _ _ _ _ _ _ _ c.in-Ok.ensures _ _ _ _ words_are (entry_room _ _ _ _ _ c.in-Ok.ensures _ words_are) c.within.ensures

pub returns-in-Err : goal.returns-in-Err
returns-in-Err c = call_away _ _ _ _ _ _ _ _ _ c.in-Err.ensures
