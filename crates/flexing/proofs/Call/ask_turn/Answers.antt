-- One of the four questions, with its first result.
use Rattle.std.proofs.Common.{rules}
use Rattle.flexing.specs.Kept.{turned}
use Rattle.flexing.proofs.Call.ask_turn.Goals as goal

pub returns : goal.returns
returns c = search (rules, turned)
