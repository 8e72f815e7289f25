-- `bind`: the cases of a binding.
use Rattle.std.proofs.Common.{rules}
use Rattle.candidates.specs.Sets.{bind_past, bind_shut, bind_kept, bind_entered}
use Rattle.candidates.proofs.sets.bind.Goals as goal
use Rattle.candidates.proofs.sets.bind.Goals.{else-i-lt-NODES-via-then-i-lt-NODES+then-open+else-may_enter, else-i-lt-NODES-via-then-i-lt-NODES+else-open, else-i-lt-NODES-via-else-i-lt-NODES}

pub returns-then-may_enter : goal.returns-then-may_enter
returns-then-may_enter c = search (rules, bind_entered)

pub returns-else-i-lt-NODES : goal.returns-else-i-lt-NODES
returns-else-i-lt-NODES c =
    elim c.else-i-lt-NODES.branch [
      | else-i-lt-NODES-via-then-i-lt-NODES+then-open+else-may_enter w ↦ search (rules, bind_kept)
      | else-i-lt-NODES-via-then-i-lt-NODES+else-open w ↦ search (rules, bind_shut)
      | else-i-lt-NODES-via-else-i-lt-NODES w ↦ search (rules, bind_past)
    ]
