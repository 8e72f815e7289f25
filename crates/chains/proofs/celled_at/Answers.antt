-- `celled_at`: a test, a walk and a mark.
use Rattle.std.proofs.Common.{rules, arith, sym}
use Rattle.chains.specs.Walks.{record_in, ok_no}
use Rattle.chains.specs.Planes.{celled_low, celled_yes}
use Rattle.chains.proofs.celled_at.Goals as goal

pub returns-then-not-keeps : goal.returns-then-not-keeps
returns-then-not-keeps c = λ k. sym (ok_no _ _ _ _ _ c.keeps.ensures (search rules))

pub returns-then-not-plain_keep : goal.returns-then-not-plain_keep
returns-then-not-plain_keep c = λ k. celled_low _ _ _ _ c.args.b _ _ _ c.keeps.ensures _ _ _ (search rules) c.field_at-h.ensures (c.plain_keep.ensures k) (search rules)

pub overflow_add-ws : goal.overflow_add-ws
overflow_add-ws c = omega (arith, record_in _ _ _ _ c.keeps.ensures (search rules))

pub offset_bounds-ws-b : goal.offset_bounds-ws-b
offset_bounds-ws-b c = omega (arith, record_in _ _ _ _ c.keeps.ensures (search rules))

pub bounds-ws-b : goal.bounds-ws-b
bounds-ws-b c = omega (arith, record_in _ _ _ _ c.keeps.ensures (search rules))

pub returns : goal.returns
returns c = λ k. celled_yes _ _ _ _ _ _ _ _ c.keeps.ensures _ _ _ (search rules) c.field_at-h.ensures (c.plain_keep.ensures k) c.requires.2 (search rules)
