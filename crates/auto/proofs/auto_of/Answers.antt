-- `auto_of`: the cases of the kind.
use Rattle.std.proofs.Common.{rules}
use Rattle.auto.specs.Built.{auto_default, auto_inverted, auto_fn, auto_closure, auto_other}
use Rattle.auto.proofs.auto_of.Goals as goal

pub returns-in-12 : goal.returns-in-12
returns-in-12 c = search (rules, auto_default)

pub returns-in-7 : goal.returns-in-7
returns-in-7 c = search (rules, auto_fn)

pub returns-in-8 : goal.returns-in-8
returns-in-8 c = search (rules, auto_closure)

pub returns-in_default : goal.returns-in_default
returns-in_default c = search (rules, auto_inverted, auto_other)

pub returns-in_default-2 : goal.returns-in_default-2
returns-in_default-2 c = search (rules, auto_inverted, auto_other)

pub returns-in_default-3 : goal.returns-in_default-3
returns-in_default-3 c = search (rules, auto_inverted, auto_other)
