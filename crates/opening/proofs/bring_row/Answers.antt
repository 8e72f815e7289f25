-- `bring_row`: there is no room, or the row becomes sub-questions again.
use Rattle.std.proofs.Common.{rules}
use Rattle.std.proofs.lemmas.Result.{err_from_is_err_and}
use Rattle.opening.specs.Needing.{row_there, needs_full, needs_asks}
use Rattle.opening.proofs.bring_row.Goals as goal

pub bring-requires-clause-all_in : goal.bring-requires-clause-all_in
bring-requires-clause-all_in c = search (rules, row_there)

pub returns : goal.returns
returns c = search (rules, needs_asks, c.requires.rowed, c.in_ok-bring.ensures.imports, c.unrow.ensures)

pub returns-in_err-bring : goal.returns-in_err-bring
returns-in_err-bring c = let p = err_from_is_err_and c.from_residual.result c.from_residual.ensures.1 in rw (p.1, p.2) (search (rules, needs_full, c.requires.rowed, c.in_err-bring.ensures.imports, c.in_err-bring.ensures.full))
