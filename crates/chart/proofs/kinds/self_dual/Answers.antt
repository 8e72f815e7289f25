-- `self_dual`, kind by kind.
use Rattle.std.proofs.Common.{rules}
use Rattle.chart.specs.Kinds.{of_struct, of_union, of_none, of_kind}
use Rattle.chart.proofs.kinds.self_dual.Goals as goal

pub returns-in_default : goal.returns-in_default
returns-in_default c = search (rules, of_none)

pub returns-in-Struct : goal.returns-in-Struct
returns-in-Struct c = search (rules, of_struct)

pub returns-in-Union : goal.returns-in-Union
returns-in-Union c = search (rules, of_union)

pub returns-in_default-kind : goal.returns-in_default-kind
returns-in_default-kind c = of_kind _ _ _ _ c.in-Some.ensures c.in_default-kind.not-Struct c.in_default-kind.not-Union
