-- `meet_types`: there is no room, the join fails, or it succeeds.
use Rattle.std.proofs.Common.{rules}
use Rattle.std.proofs.lemmas.Result.{err_from_is_err_and}
use Rattle.opening.specs.Meeting.{brought_good, brought_nodes, brought-question, meets_full, meets_told}
use Rattle.opening.proofs.meet_types.Goals as goal

pub joins-requires-clause-good : goal.joins-requires-clause-good
joins-requires-clause-good c = search (rules, brought_good, c.in_ok-bring.ensures.imports, c.requires.brought)

pub joins-requires-clause-nodes : goal.joins-requires-clause-nodes
joins-requires-clause-nodes c = search (rules, brought_nodes, c.in_ok-bring.ensures.imports, c.requires.brought)

pub joins-requires-clause-all_in : goal.joins-requires-clause-all_in
joins-requires-clause-all_in c = search (rules, brought-question, c.in_ok-bring.ensures.imports, c.requires.brought, c.requires.all_in_2)

pub returns : goal.returns
returns c = search (rules, meets_told, c.in_ok-bring.ensures.imports, c.requires.brought, c.joins.ensures)

pub returns-in_err-bring : goal.returns-in_err-bring
returns-in_err-bring c = let p = err_from_is_err_and c.from_residual.result c.from_residual.ensures.1 in rw (p.1, p.2) (search (rules, meets_full, c.in_err-bring.ensures.imports, c.in_err-bring.ensures.full))
