-- `find`: by the first link.
use Rattle.std.proofs.Common.{rules}
use Rattle.refs.specs.Links.{finds_first}
use Rattle.refs.proofs.find.Goals as goal

pub returns-in-Some : goal.returns-in-Some
returns-in-Some c = search (rules, finds_first)
