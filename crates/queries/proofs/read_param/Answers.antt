-- `read_param`: the record's trait? and the question in its arguments, where there is one.
use Rattle.std.proofs.Common.{rules}
use Rattle.queries.specs.Gathering.{param_few, param_read}
use Rattle.queries.proofs.read_param.Goals as goal

pub read_query-requires : goal.read_query-requires
read_query-requires c = search (rules, param_few)

pub returns-then-k-n : goal.returns-then-k-n
returns-then-k-n c = search (rules, param_read)
