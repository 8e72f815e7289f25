-- `read_params`: the four read and put together.
use Rattle.std.proofs.Common.{rules}
use Rattle.queries.specs.Gathering.{few_generics, params_read, params-within}
use Rattle.queries.proofs.read_params.Goals as goal

pub read_param-a-requires-clause-few : goal.read_param-a-requires-clause-few
read_param-a-requires-clause-few c = search (rules, few_generics)

pub read_param-b-requires-clause-few : goal.read_param-b-requires-clause-few
read_param-b-requires-clause-few c = search (rules, few_generics)

pub read_param-c-requires-clause-few : goal.read_param-c-requires-clause-few
read_param-c-requires-clause-few c = search (rules, few_generics)

pub read_param-d-requires-clause-few : goal.read_param-d-requires-clause-few
read_param-d-requires-clause-few c = search (rules, few_generics)

pub returns-clause-result_value : goal.returns-clause-result_value
returns-clause-result_value c = search (rules, params_read)

pub returns-clause-within_four : goal.returns-clause-within_four
returns-clause-within_four c = search (rules, params-within)
