-- One result of an impl call: 14 where the last import has no room, else the answer.
use Rattle.std.proofs.Common.{refl, rules}
use Rattle.closing.specs.Impl.{args_inside, args_full, args_ask, args_nodes, args_long, args_answer}
use Rattle.closing.proofs.close_impl.Goals as goal

pub import_result-requires-clause-inside : goal.import_result-requires-clause-inside
import_result-requires-clause-inside c = search (rules, args_inside)

pub returns-in_err-import_result : goal.returns-in_err-import_result
returns-in_err-import_result c = search (rules, args_full)

pub finish_impl-requires-clause-asks : goal.finish_impl-requires-clause-asks
finish_impl-requires-clause-asks c = args_ask _ _ c.requires.asks_2 (search rules) _ _ _ _ c.in_ok-import_result.ensures.imports c.requires.asks.neat refl _ c.requires.asks

pub finish_impl-requires-clause-nodes : goal.finish_impl-requires-clause-nodes
finish_impl-requires-clause-nodes c = search (rules, args_nodes)

pub finish_impl-requires-clause-n_in_bounds : goal.finish_impl-requires-clause-n_in_bounds
finish_impl-requires-clause-n_in_bounds c = search (rules, args_long)

pub returns : goal.returns
returns c = search (rules, args_answer)
