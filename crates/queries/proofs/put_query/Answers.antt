-- `put_query`: four words written, of which the question's are counted.
use Rattle.std.proofs.Common.{rules}
use Rattle.queries.specs.Rows.{args_put}
use Rattle.queries.proofs.put_query.Goals as goal

pub returns : goal.returns
returns c = search (rules, args_put)
