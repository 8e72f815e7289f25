-- `children`: by its node or its record.
use Rattle.std.proofs.Common.{rules}
use Rattle.refs.specs.Children.{gathers_below}
use Rattle.refs.proofs.tables.Sides.children.Goals as goal

pub returns : goal.returns
returns c = search (rules, gathers_below)
