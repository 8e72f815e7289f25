-- `chain_mark`: no chain, one past the plane, or what is noted.
use Rattle.std.proofs.Common.{rules}
use Rattle.values.specs.Folds.{mark-none, mark_past, mark-some}
use Rattle.values.proofs.folds.chain_mark.Goals.{then-h-eq0-via-then-h-eq0, then-h-eq0-via-else-h-eq0+then-h-ge-PLANE}
use Rattle.values.proofs.folds.chain_mark.Goals as goal

pub returns-then-h-eq0 : goal.returns-then-h-eq0
returns-then-h-eq0 c = elim c.then-h-eq0.branch [ then-h-eq0-via-then-h-eq0 w ↦ search (rules, mark-none) | then-h-eq0-via-else-h-eq0+then-h-ge-PLANE w ↦ search (rules, mark_past) ]

pub returns : goal.returns
returns c = search (rules, mark-some)
