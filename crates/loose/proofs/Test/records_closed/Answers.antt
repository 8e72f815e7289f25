-- `records_closed`: one by one.
use Rattle.std.proofs.Common.{rules}
use Rattle.loose.specs.Loose.{index_low, records_end, records_on}
use Rattle.loose.proofs.Test.records_closed.Goals as goal

pub record_closed-requires : goal.record_closed-requires
record_closed-requires c = search (rules, index_low)

pub loop-i-preserved : goal.loop-i-preserved
loop-i-preserved c = search (rules, records_on)

pub returns : goal.returns
returns c = search (rules, records_end)
