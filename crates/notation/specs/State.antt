-- Where a reader stands.
use Rattle.std.specs.Prelude.{ℕ, Option, Some, None}
use Rattle.notation.specs.declared.read.State.{State}
use Rattle.notation.specs.declared.read.State.TheVariants.{Between, Word, Comment}

-- The word that it is in, with its value so far.
abbrev pub word_of : State → Option ℕ
word_of Between = None
word_of (Word n) = Some n
word_of Comment = None

-- The word that ends between two states: none while a word goes on.
abbrev pub ended_by : State → State → Option ℕ
ended_by s Between = word_of s
ended_by s (Word n) = None
ended_by s Comment = word_of s
