-- The first result of a search kept aside.
use Rattle.std.proofs.Common.{rules}
use Rattle.flexing.specs.Kept.{slot_taken}
use Rattle.flexing.proofs.keep.Goals as goal

pub returns : goal.returns
returns c = search (rules, slot_taken)
