-- 9 and 13: "a type reaches itself", for every node of every table. A node of height h has a longest way down of h steps; where no type reaches itself, none is as long as the table.
use Rattle.std.specs.Prelude.{ℕ, zero, suc, ◌+◌, max, Bool, ◌&&◌, List, [], ◌∷◌, map, ltb, length, get_or, replicate}
use Rattle.rules.specs.Lists.{Words, all}
use Rattle.rules.specs.Layout.{header_generics, header_impls, generics_table_word, impl_table_word, question_table}
use Rattle.rules.specs.Sheet.{at, records}
use Rattle.rules.specs.Types.{Ty, TypeState, unknown, known, Types}
use Rattle.rules.specs.Transfer.{table}

-- The children of a type.
unfoldable pub children : TypeState → List Ty
children unknown = []
children (known i k d cs) = cs

-- One more than the tallest of some types, 0 if there are none, where the heights of all nodes are given.
unfoldable pub above : Words → List Ty → ℕ
above hs [] = 0
above hs (c ∷ cs) = max (suc (get_or hs c.1 0)) (above hs cs)

-- The height of each node, counted up to k.
unfoldable pub heights : ℕ → Types → Words
heights zero ts = replicate (length ts) 0
heights (suc k) ts = let hs = heights k ts in map (λ nd. above hs (children nd.state)) ts

-- No type of the table reaches itself.
unfoldable pub acyclic : Types → Bool
acyclic ts = all (λ h. ltb h (length ts)) (heights (length ts) ts)

-- 9: the tables of the generics and of the impls.
unfoldable pub sheet_acyclic : Words → Bool
sheet_acyclic s =
    all (λ p. acyclic (table s (at s (p + generics_table_word)))) (records s header_generics)
    && all (λ p. acyclic (table s (at s (p + impl_table_word)))) (records s header_impls)

-- 13: the table of the question.
unfoldable pub question_acyclic : Words → Bool
question_acyclic q = acyclic (table q (at q question_table))
