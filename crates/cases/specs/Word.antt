-- A word as a reader gives it.
use Rattle.std.specs.Prelude.{ℕ, ◌≡◌, ◌≢◌, List, [], ◌∷◌, Option, length}
use Rattle.std.specs.Int.{from_le_bytes, w32}
use Rattle.std.specs.Io.KnownBytes.{Consumes}

-- What is left to read goes from one list of bytes to another by the four bytes of a word, the lowest first.
pub record TakesWord (before after : Option (List ℕ)) (word : ℕ) : Type 0 where
  pub bytes : List ℕ
  pub four : length bytes ≡ 4
  pub word_of_bytes : word ≡ from_le_bytes w32 bytes
  pub taken : Consumes before after bytes

-- Words in turn; of a 0 this says nothing, since it stands for a word that the source ends before, too.
abbrev pub TakesWords : Option (List ℕ) → Option (List ℕ) → List ℕ → Type 0
TakesWords before after [] = before ≡ after
TakesWords before after (word ∷ words) = (middle : Option (List ℕ)) × (word ≢ 0 → TakesWord before middle word) × TakesWords middle after words
