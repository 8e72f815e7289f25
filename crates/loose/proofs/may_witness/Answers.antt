-- `may_witness`: a root that is unknown.
use Rattle.std.proofs.Common.{rules}
use Rattle.loose.specs.Loose.{witness_node}
use Rattle.loose.proofs.may_witness.Goals as goal

pub returns-then-kind_of-eq0 : goal.returns-then-kind_of-eq0
returns-then-kind_of-eq0 c = search (rules, witness_node)
