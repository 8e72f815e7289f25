-- `fill`: the edges between nodes that reach each other are open.
use Rattle.std.proofs.Common.{rules}
use Rattle.candidates.specs.Build.{kin_bound, rows-after}
use Rattle.candidates.proofs.fill.Goals as goal

pub spread-requires : goal.spread-requires
spread-requires c = (search (rules, rows-after), search (rules, kin_bound))
