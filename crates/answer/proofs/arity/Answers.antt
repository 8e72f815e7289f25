-- `arity`: a node has room for eight children.
use Rattle.std.proofs.Common.{rules}
use Rattle.answer.specs.Nodes.{child_count_few}
use Rattle.answer.proofs.arity.Goals as goal

pub returns-clause-few : goal.returns-clause-few
returns-clause-few c = search (rules, child_count_few)
