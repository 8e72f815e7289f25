-- The trees of a result that may be absent.
use Rattle.std.proofs.Common.{ap, rules}
use Rattle.std.specs.Option.{option_copied}
use Rattle.closing.specs.Flex.{trees_room, trees_some, trees_none}
use Rattle.closing.proofs.trees_of.Goals as goal

pub trees_in-requires : goal.trees_in-requires
trees_in-requires c = search (rules, trees_room)

pub returns-in-Some : goal.returns-in-Some
returns-in-Some c = trees_some _ c.in-Some.slot.now _ (ap option_copied c.in-Some.is) c.requires.filled_if c.trees_in.ensures

pub returns-in-None : goal.returns-in-None
returns-in-None c = search (rules, trees_none)
