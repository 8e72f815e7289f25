-- `place_of`: one word of the places.
use Rattle.std.proofs.Common.{rules}
use Rattle.refs.specs.Refs.{place_none, place_word}
use Rattle.refs.proofs.place_of.Goals as goal

pub returns-then-r-lt-RECORDS : goal.returns-then-r-lt-RECORDS
returns-then-r-lt-RECORDS c = search (rules, place_none)

pub returns : goal.returns
returns c = search (rules, place_word)
