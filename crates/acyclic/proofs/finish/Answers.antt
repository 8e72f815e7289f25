-- `finish`: a store past the end changes nothing.
use Rattle.std.proofs.Common.{rules}
use Rattle.acyclic.specs.Walk.{finish_past}
use Rattle.acyclic.proofs.finish.Goals as goal

pub returns-else-node-ws : goal.returns-else-node-ws
returns-else-node-ws c = search (rules, finish_past)
