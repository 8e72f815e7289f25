-- `put_params`: the table and the impl parameters of the generics.
use Rattle.std.proofs.Common.{rules}
use Rattle.reach.specs.Params.{params_few, params_short, params-put}
use Rattle.reach.proofs.put_params.Goals as goal

pub put_chain-requires-clause-head_in_bounds : goal.put_chain-requires-clause-head_in_bounds
put_chain-requires-clause-head_in_bounds c = search (rules, params_few)

pub put_chain-requires-clause-first_len_bound : goal.put_chain-requires-clause-first_len_bound
put_chain-requires-clause-first_len_bound c = search (rules, params_short)

pub returns : goal.returns
returns c = search (rules, params-put)
