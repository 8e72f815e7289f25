-- 22 and 23, and then the searches.
use Rattle.std.proofs.Common.{rules}
use Rattle.flexing.specs.Rest.{fork_unset, drop-unset, both-set}
use Rattle.flexing.proofs.ask_flex.Goals as goal

pub returns-then-word-eq0 : goal.returns-then-word-eq0
returns-then-word-eq0 c = search (rules, fork_unset)

pub returns-then-word-eq0-2 : goal.returns-then-word-eq0-2
returns-then-word-eq0-2 c = search (rules, drop-unset)

pub returns : goal.returns
returns c = search (rules, both-set)
