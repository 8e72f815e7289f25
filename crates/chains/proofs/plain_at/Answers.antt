-- `plain_at`: a test and a mark.
use Rattle.std.proofs.Common.{rules, arith, sym}
use Rattle.chains.specs.Walks.{record_in, ok_no, plain_yes}
use Rattle.chains.proofs.plain_at.Goals as goal

pub returns-then-not-keeps : goal.returns-then-not-keeps
returns-then-not-keeps c = sym (ok_no _ _ _ _ _ c.keeps.ensures (search rules))

pub overflow_add-ws : goal.overflow_add-ws
overflow_add-ws c = omega (arith, record_in _ _ _ _ c.keeps.ensures (search rules))

pub offset_bounds-ws-b : goal.offset_bounds-ws-b
offset_bounds-ws-b c = omega (arith, record_in _ _ _ _ c.keeps.ensures (search rules))

pub bounds-ws-b : goal.bounds-ws-b
bounds-ws-b c = omega (arith, record_in _ _ _ _ c.keeps.ensures (search rules))

pub returns : goal.returns
returns c = search (rules, plain_yes)
