-- `prepare_known`: counts, then the index of traits.
use Rattle.std.proofs.Common.{rules}
use Rattle.values.specs.Tables.{traits_room, known_made}
use Rattle.values.proofs.prepare.prepare_known.Goals as goal

pub index-requires : goal.index-requires
index-requires c = search (rules, traits_room)

pub returns : goal.returns
returns c = search (rules, known_made)
