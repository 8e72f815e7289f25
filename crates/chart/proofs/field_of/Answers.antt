-- `field_of`: the head, the place of the record, and the word in it.
use Rattle.chart.specs.Fields.{field_found}
use Rattle.std.proofs.Common.{rules}
use Rattle.chart.proofs.field_of.Goals as goal

pub returns : goal.returns
returns c = search (rules, field_found)
