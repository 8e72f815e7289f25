-- `prepare`: the sets in front, the words behind them.
use Rattle.std.proofs.Common.{rules}
use Rattle.calls.specs.Prepared.{passed_checked, passed_short, passed_source, front_size, front_room, prepared}
use Rattle.calls.proofs.prepare.Goals as goal

pub slice_bounds-build-end-2 : goal.slice_bounds-build-end-2
slice_bounds-build-end-2 c = search (rules, front_size)

pub build-requires : goal.build-requires
build-requires c = (search (rules, passed_checked), search (rules, passed_short), search (rules, passed_source), search (rules, front_room))

pub returns : goal.returns
returns c = search (rules, prepared, c.build.ensures, c.build.auto, c.fill.ensures, c.fill.auto, c.requires)
