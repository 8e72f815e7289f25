-- `read_query`: four steps along the chain, as many of which count as it has cells.
use Rattle.std.proofs.Common.{rules}
use Rattle.queries.specs.Reading.{query_read, query_few}
use Rattle.queries.proofs.read_query.Goals as goal

pub returns-clause-result_value : goal.returns-clause-result_value
returns-clause-result_value c = search (rules, query_read)

pub returns-clause-n_bound : goal.returns-clause-n_bound
returns-clause-n_bound c = search (rules, query_few)
