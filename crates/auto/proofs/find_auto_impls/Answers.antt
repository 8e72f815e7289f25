-- `find_auto_impls`: none, Fork, Drop, or another trait.
use Rattle.std.proofs.Common.{rules}
use Rattle.auto.specs.Built.{autos_none, autos_fork, autos_drop, autos_other}
use Rattle.auto.proofs.find_auto_impls.Goals as goal

pub returns-then-tr-eq0 : goal.returns-then-tr-eq0
returns-then-tr-eq0 c = search (rules, autos_none)

pub returns-then-tr-word : goal.returns-then-tr-word
returns-then-tr-word c = search (rules, autos_fork)

pub returns-then-tr-word-2 : goal.returns-then-tr-word-2
returns-then-tr-word-2 c = search (rules, autos_drop)

pub returns-else-tr-word-2 : goal.returns-else-tr-word-2
returns-else-tr-word-2 c = search (rules, autos_other)
