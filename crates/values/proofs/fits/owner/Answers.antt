-- `owner`, kind by kind, as the rule's table has it.
use Rattle.std.proofs.Common.{ap, sym, arith}
use Rattle.values.specs.NodeLaws.{owners, owner}
use Rattle.values.specs.Known.{owner_none}
use Rattle.chart.specs.Numbers.{number_of}
use Rattle.values.proofs.fits.owner.Goals as goal

pub returns-in-Opaque : goal.returns-in-Opaque
unfolding owners
returns-in-Opaque c = (ap (λ k. owner (number_of k)) (sym c.in-Opaque.is), omega arith)

pub returns-in-Struct : goal.returns-in-Struct
unfolding owners
returns-in-Struct c = (ap (λ k. owner (number_of k)) (sym c.in-Struct.is), omega arith)

pub returns-in-Enum : goal.returns-in-Enum
unfolding owners
returns-in-Enum c = (ap (λ k. owner (number_of k)) (sym c.in-Enum.is), omega arith)

pub returns-in-Union : goal.returns-in-Union
unfolding owners
returns-in-Union c = (ap (λ k. owner (number_of k)) (sym c.in-Union.is), omega arith)

pub returns-in-Closure : goal.returns-in-Closure
unfolding owners
returns-in-Closure c = (ap (λ k. owner (number_of k)) (sym c.in-Closure.is), omega arith)

pub returns-in_default : goal.returns-in_default
returns-in_default c = owner_none _ c.in_default.not-Opaque c.in_default.not-Struct c.in_default.not-Enum c.in_default.not-Union c.in_default.not-Closure
