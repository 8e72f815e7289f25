-- The listing program of document 01: from the bytes of a sheet to the text that it prints.
use Rattle.std.specs.Prelude.{ℕ, zero, suc, ◌+◌, ◌*◌, ◌/◌, ◌%◌, List, [], ◌∷◌, ◌++◌, map}
use Rattle.std.proofs.Math.Option.{Option, none, some}
use Rattle.rules.specs.Lists.{Words, concat_map, range}
use Rattle.rules.specs.Layout.{header_definitions}
use Rattle.rules.specs.Sheet.{many}
use Rattle.rules.specs.Candidates.{general_candidates}
use Rattle.rules.specs.Run.{Out, got, refused}
use Rattle.rules.specs.Check.{refusal, of_length, of_sheet}

-- Little-endian words; none where the bytes are no whole words.
unfoldable pub words_of_bytes : List ℕ → Option Words
words_of_bytes [] = some []
words_of_bytes (a ∷ []) = none
words_of_bytes (a ∷ (b ∷ [])) = none
words_of_bytes (a ∷ (b ∷ (c ∷ []))) = none
words_of_bytes (a ∷ (b ∷ (c ∷ (d ∷ bs)))) =
    elim (words_of_bytes bs) [ none ↦ none | some ws ↦ some ((a + 256 * (b + 256 * (c + 256 * d))) ∷ ws) ]

-- A line for each definition: its id, and the impls that its general set admits, rising. A refused sheet has a number instead.
unfoldable pub listing : Words → Out (List (ℕ × Words))
listing s =
    elim (refusal (of_length s ++ of_sheet s)) [
      | some n ↦ refused n
      | none ↦ got (map (λ d. (d, general_candidates s d)) (range 0 (many s header_definitions)))
    ]

-- A number's decimal digits, at most k of them, as bytes.
unfoldable pub decimal_in : ℕ → ℕ → Words
decimal_in zero n = []
decimal_in (suc k) n = elim (n / 10) [ zero ↦ (48 + n % 10) ∷ [] | suc m ↦ decimal_in k (suc m) ++ ((48 + n % 10) ∷ []) ]

-- A number's decimal digits.
unfoldable pub decimal : ℕ → Words
decimal n = decimal_in (suc n) n

-- A line: id, colon (58), then a space (32) and an id for each impl, and a line feed (10).
unfoldable pub line_text : ℕ × Words → Words
line_text l = decimal l.0 ++ (58 ∷ []) ++ concat_map (λ i. 32 ∷ decimal i) l.1 ++ (10 ∷ [])

-- What is printed: the lines, or the number alone.
unfoldable pub listing_text : Out (List (ℕ × Words)) → Words
listing_text (got ls) = concat_map line_text ls
listing_text (refused n) = decimal n ++ (10 ∷ [])

-- What the program prints for its input: bytes that are no whole words print 1.
unfoldable pub list_bytes : List ℕ → Words
list_bytes bs = elim (words_of_bytes bs) [ none ↦ listing_text (refused 1) | some s ↦ listing_text (listing s) ]
