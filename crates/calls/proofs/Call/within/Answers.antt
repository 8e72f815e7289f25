use Rattle.std.proofs.Common.{◌∙◌, ap}
use Rattle.words.specs.Buffers.{cleared}
use Rattle.calls.specs.Behind.{words_are}
use Rattle.calls.proofs.Call.within.Goals as goal

pub returns : goal.returns
returns c = record { ends = c.checked-outcome.ensures; last = _; long = c.checked-outcome.auto.ws; clear = c.clear.ensures ∙ ap (λ n. cleared n c.checked-outcome.new.ws) words_are }
