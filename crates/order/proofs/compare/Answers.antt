-- `compare`: what differs, and whether they may meet.
use Rattle.std.proofs.Common.{rules}
use Rattle.order.specs.Going.{compared_error, compared_ids, compared_kinds}
use Rattle.order.specs.Halts.{compared_met, compared_sides}
use Rattle.order.specs.Words.{id_is}
use Rattle.order.proofs.compare.Goals as goal

pub returns-then-k-l : goal.returns-then-k-l
returns-then-k-l c = search (rules, compared_kinds, compared_error)

pub returns-then-d-id : goal.returns-then-d-id
returns-then-d-id c = search (rules, compared_ids, id_is)

pub returns-then-not-kind_flag : goal.returns-then-not-kind_flag
returns-then-not-kind_flag c = search (rules, compared_met, id_is)

pub returns : goal.returns
returns c = search (rules, compared_sides)
