-- `node_mark`: the words of the node, and the length of its children's chain.
use Rattle.std.proofs.Common.{rules}
use Rattle.values.specs.Value.{node-marked}
use Rattle.values.proofs.fits.Noted.node_mark.Goals as goal

pub returns : goal.returns
returns c = search (rules, node-marked)
