-- `find`: along links.
use Rattle.std.proofs.Common.{rules}
use Rattle.order.specs.Words.{found_root, leads_up}
use Rattle.order.proofs.classes.Classes.find.Goals as goal

pub returns-then-x-lt-TYPES : goal.returns-then-x-lt-TYPES
returns-then-x-lt-TYPES c = (search rules, search (rules, found_root))

pub loop-preserved : goal.loop-preserved
loop-preserved c = search (rules, leads_up)
