-- `root`: by its first link.
use Rattle.order.specs.Halts.{roots_first}
use Rattle.order.proofs.classes.Classes.root.Goals as goal

pub returns-in-Some : goal.returns-in-Some
returns-in-Some c = roots_first _ _ _ _ _ _ c.in-Some.ensures c.find.ensures
