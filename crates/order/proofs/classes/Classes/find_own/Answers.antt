-- `find_own`: its own root, or its parameter's.
use Rattle.std.proofs.Common.{rules}
use Rattle.order.specs.Words.{roots_low, roots_known}
use Rattle.order.specs.Halts.{roots_parameter}
use Rattle.order.proofs.classes.Classes.find_own.Goals as goal

pub returns-then-t-lt-RECORDS : goal.returns-then-t-lt-RECORDS
returns-then-t-lt-RECORDS c = (search rules, search (rules, roots_low))

pub returns-then-t-lt-TYPES : goal.returns-then-t-lt-TYPES
returns-then-t-lt-TYPES c = (search rules, search (rules, roots_known))

pub returns : goal.returns
returns c = search (rules, roots_parameter)
