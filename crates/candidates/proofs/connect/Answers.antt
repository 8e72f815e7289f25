-- `connect`: every node begins with itself.
use Rattle.std.proofs.Common.{rules}
use Rattle.candidates.specs.Build.{kin_begun, rows_for}
use Rattle.candidates.proofs.connect.Goals as goal

pub spread-requires : goal.spread-requires
spread-requires c = (search (rules, rows_for), search (rules, kin_begun))
