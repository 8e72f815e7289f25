use Rattle.calls.specs.Behind.{words_are}
use Rattle.calls.proofs.vine_workspace_words.Goals as goal

pub returns : goal.returns
returns c = words_are
