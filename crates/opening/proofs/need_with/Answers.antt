-- `need_with`: the impl parameters of the impl's own generics.
use Rattle.std.proofs.Common.{rules}
use Rattle.opening.specs.Needing.{generics_few, generics_neat, need_lent, generics_inside, generics_needs}
use Rattle.opening.proofs.need_with.Goals as goal

pub read_params-qs-requires : goal.read_params-qs-requires
read_params-qs-requires c = search (rules, generics_few)

pub bring_queries-requires-clause-neat : goal.bring_queries-requires-clause-neat
bring_queries-requires-clause-neat c = search (rules, generics_neat)

pub bring_queries-requires-clause-lent : goal.bring_queries-requires-clause-lent
bring_queries-requires-clause-lent c = search (rules, need_lent)

pub bring_queries-requires-clause-queries_in : goal.bring_queries-requires-clause-queries_in
bring_queries-requires-clause-queries_in c = search (rules, generics_inside)

pub returns : goal.returns
returns c = search (rules, generics_needs, c.requires.sound, c.requires.i_bound, c.impl_generics-g.ensures, c.word_of-head.ensures, c.read_params-qs.ensures.result_value, c.bring_queries.ensures)
