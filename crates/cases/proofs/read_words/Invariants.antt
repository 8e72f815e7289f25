-- `read_words`: the words so far, in turn, and what is behind them as it was.
use Rattle.std.proofs.Common.{◌≡◌, take, drop}
use Rattle.cases.specs.Word.{TakesWords}
use Rattle.cases.proofs.read_words.Given as goal

abbrev pub invariant-loop-i : goal.invariant-loop-i
invariant-loop-i g l =
    TakesWords (g.R.Read.remaining l.initial.source) (g.R.Read.remaining l.source) (take l.i l.buf)
    × (drop l.i l.buf ≡ drop l.i l.initial.buf)
