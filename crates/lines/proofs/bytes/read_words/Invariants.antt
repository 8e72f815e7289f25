-- `read_words`: so many words are read.
use Rattle.lines.specs.Bytes.{Reading}
use Rattle.lines.proofs.bytes.read_words.Given as goal

abbrev pub invariant-loop-k : goal.invariant-loop-k
invariant-loop-k l = Reading l.bytes l.out l.k
