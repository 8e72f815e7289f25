-- `own_module_of`: by the kind.
use Rattle.std.proofs.Common.{rules, refl}
use Rattle.chart.specs.Numbers.{kind_apart}
use Rattle.walks.specs.Modules.{in_opaques, in_structs, in_enums, in_unions, in_none}
use Rattle.walks.proofs.own_module_of.Goals as goal

pub returns-in-Opaque : goal.returns-in-Opaque
returns-in-Opaque c = search (rules, in_opaques)

pub returns-in-Struct : goal.returns-in-Struct
returns-in-Struct c = search (rules, in_structs)

pub returns-in-Enum : goal.returns-in-Enum
returns-in-Enum c = search (rules, in_enums)

pub returns-in-Union : goal.returns-in-Union
returns-in-Union c = search (rules, in_unions)

pub returns-in_default : goal.returns-in_default
returns-in_default c = in_none _ _ _ (kind_apart _ _ _ refl c.in_default.not-Opaque) (kind_apart _ _ _ refl c.in_default.not-Struct) (kind_apart _ _ _ refl c.in_default.not-Enum) (kind_apart _ _ _ refl c.in_default.not-Union)
