-- A witness for each number: a call that gets it; and for each of document 01's wrong turns a call that tells the right turn from the wrong one. One table and one statement.
use Rattle.std.specs.Prelude.{ℕ, zero, suc, true, false, List, [], ◌∷◌, ◌++◌, map, replicate}
use Rattle.rules.specs.Lists.{Words}
use Rattle.rules.specs.Limits.{limit_answer, limit_workspace, limit_steps}
use Rattle.rules.specs.Layout.{header_edition, header_fork, kind_fn, kind_closure, kind_default, kind_error}
use Rattle.rules.specs.Types.{TypeState, unknown, known}
use Rattle.rules.specs.Run.{got, refused}
use Rattle.rules.specs.Calls.{try_find_impl}
use Rattle.rules.specs.Charts.{Impl, sheet_of, no_builtins, impl_question, flex_question, node, param, tuple, struct}
use Rattle.rules.specs.Pinned.{pin, Q, put, flex_pin, flex_of, End, ask_impl, ask_flex, Case}

-- Of an end, the number (0 for an answer) and the count after.
unfoldable pub number_of : End → ℕ × ℕ
number_of e = elim e.0 [ got ws ↦ (0, e.1) | refused n ↦ (n, e.1) ]

-- Traits without arguments: an impl of trait t that needs others.
unfoldable pub fact : ℕ → Words → Impl
fact t needs = record { trait = t; params = 0; types = []; args = []; needs = map (λ u. (u, [])) needs }

-- A sheet of n such traits.
unfoldable pub facts : ℕ → List Impl → Words
facts n impls = sheet_of (replicate n (0, 0)) [] [] impls no_builtins

-- The question whether trait t holds.
unfoldable pub holds? : ℕ → Words
holds? t = impl_question t [] []

-- An impl of trait t for a type, the node 0 of a table.
unfoldable pub impl_for : ℕ → List TypeState → Impl
impl_for t types = record { trait = t; params = 0; types = types; args = node 0 ∷ []; needs = [] }

-- Fork is trait 0 and Drop is trait 1; structs 0, 1 and 2 are not self-dual.
unfoldable pub flex_sheet : List Impl → Words
flex_sheet impls = sheet_of ((1, 0) ∷ (1, 0) ∷ []) (0 ∷ 0 ∷ 0 ∷ []) [] impls (0 ∷ 1 ∷ 2 ∷ 0 ∷ 0 ∷ [])

-- 14: each level pushes eight unknowns and nine nodes, and asks again for an unknown.
unfoldable pub wide : Words
wide =
    sheet_of ((1, 0) ∷ []) [] []
    (record {
      trait = 0;
      params = 8;
      types = tuple (node 1 ∷ node 2 ∷ node 3 ∷ node 4 ∷ node 5 ∷ node 6 ∷ node 7 ∷ node 8 ∷ []) ∷ (replicate 8 (tuple []) ++ (param 0 ∷ []));
      args = node 0 ∷ [];
      needs = (0, node 9 ∷ []) ∷ [];
    } ∷ [])
    no_builtins

-- 17: each of four levels needs the next four times, so a tree of 1 + 4 + 16 + 64 + 256 nodes would answer.
unfoldable pub bushy : Words
bushy = facts 5 (fact 0 (1 ∷ 1 ∷ 1 ∷ 1 ∷ []) ∷ fact 1 (2 ∷ 2 ∷ 2 ∷ 2 ∷ []) ∷ fact 2 (3 ∷ 3 ∷ 3 ∷ 3 ∷ []) ∷ fact 3 (4 ∷ 4 ∷ 4 ∷ 4 ∷ []) ∷ fact 4 [] ∷ [])

-- The pinned case beside them: an impl for S[A] (struct 1) that needs A, one for Leaf (struct 0).
unfoldable pub nested : Words
nested =
    sheet_of ((1, 0) ∷ []) (0 ∷ 0 ∷ []) []
    (impl_for 0 (struct 0 [] ∷ [])
    ∷ record { trait = 0; params = 1; types = struct 1 (node 1 ∷ []) ∷ param 0 ∷ []; args = node 0 ∷ []; needs = (0, node 1 ∷ []) ∷ [] }
    ∷ [])
    no_builtins

-- k S round Leaf, from node n on.
unfoldable pub s_round : ℕ → ℕ → List TypeState
s_round n zero = struct 0 [] ∷ []
s_round n (suc k) = struct 1 (node (suc n) ∷ []) ∷ s_round (suc n) k

-- Definition 1 has 2 as an implicit member, 2 has 0 and 0 has 1, all visible in 2 alone; definition 0 binds a named impl publicly, of a trait of definition 3. `first` heads the members of definition 0.
unfoldable pub ring : ℕ → Words
ring first =
    1 ∷ 16 ∷ 48 ∷ 44 ∷ 52 ∷ 0 ∷ 58 ∷ 0 ∷ 0 ∷ 0 ∷ 0 ∷ 0 ∷ 0 ∷ 0 ∷ 0 ∷ 0 ∷
    -- 16, 23, 30, 37: definitions
    23 ∷ 0 ∷ 0 ∷ 0 ∷ 61 ∷ 0 ∷ first ∷
    30 ∷ 0 ∷ 0 ∷ 0 ∷ 0 ∷ 0 ∷ 75 ∷
    37 ∷ 0 ∷ 0 ∷ 0 ∷ 0 ∷ 0 ∷ 79 ∷
    0 ∷ 0 ∷ 0 ∷ 1 ∷ 0 ∷ 0 ∷ 0 ∷
    -- 44: trait, 48: generics, 52: impl (named), 58: struct, 61: binding
    0 ∷ 3 ∷ 1 ∷ 0 ∷
    0 ∷ 0 ∷ 0 ∷ 0 ∷
    0 ∷ 0 ∷ 8 ∷ 1 ∷ 64 ∷ 69 ∷
    0 ∷ 0 ∷ 0 ∷
    0 ∷ 0 ∷ 0 ∷
    -- 64: type node, 69: argument
    0 ∷ 4 ∷ 0 ∷ 0 ∷ 0 ∷
    0 ∷ 0 ∷
    -- 71, 75, 79: the members, definitions 1, 2 and 0
    0 ∷ 3 ∷ 0 ∷ 1 ∷
    0 ∷ 3 ∷ 0 ∷ 2 ∷
    0 ∷ 3 ∷ 0 ∷ 0 ∷ []

-- Trait 2 needs Fork (trait 0) of a closure of an unknown type, then trait 1, with an inherent argument, of that type. The closure gives its own fork, and leaves the type unknown; an impl of Fork for the closure of Error makes it Error.
unfoldable pub own_first : Words
own_first =
    sheet_of ((1, 0) ∷ (1, 1) ∷ (0, 0) ∷ []) [] (1 ∷ [])
    (record { trait = 2; params = 1; types = known false kind_closure 0 (node 1 ∷ []) ∷ param 0 ∷ []; args = []; needs = (0, node 0 ∷ []) ∷ (1, node 1 ∷ []) ∷ [] }
    ∷ impl_for 0 (known false kind_closure 0 (node 1 ∷ []) ∷ known false kind_error 0 [] ∷ [])
    ∷ [])
    (0 ∷ 1 ∷ 0 ∷ 0 ∷ 0 ∷ [])

-- An impl of trait 0 for A, B and A, whatever they are.
unfoldable pub any_three : Words
any_three =
    sheet_of ((3, 0) ∷ []) [] []
    (record { trait = 0; params = 2; types = param 0 ∷ param 1 ∷ []; args = node 0 ∷ node 1 ∷ node 0 ∷ []; needs = [] } ∷ [])
    no_builtins

-- A whole impl call on Pin with other lengths or counts.
unfoldable pub entered : Words → Words → ℕ → ℕ → ℕ → End
entered s q answer work c = try_find_impl limit_steps (record { sheet = s; source = 1; generics = 0 }) 0 q answer work c

-- A call, with the number (0 for an answer) and the count that it must come to.
pub record Witness : Type 0 where
  pub call : End
  pub number : ℕ
  pub count : ℕ

-- The table.
unfoldable pub witnesses : List Witness
unfolding pin Q put flex_pin flex_of ask_impl ask_flex entered fact facts holds? impl_for flex_sheet wide bushy nested s_round ring own_first any_three
witnesses =
    -- 1 to 5: the entry. A sheet of 15 words and one of 4,097; a question of 2 words and one of 1,025; an answer buffer of 10,239; a workspace one word short; a count of 1,000,001.
    record { call = entered (replicate 15 0) Q limit_answer limit_workspace 0; number = 1; count = 0 }
    ∷ record { call = entered (replicate 4097 0) Q limit_answer limit_workspace 0; number = 1; count = 0 }
    ∷ record { call = entered pin (replicate 2 0) limit_answer limit_workspace 0; number = 2; count = 0 }
    ∷ record { call = entered pin (replicate 1025 0) limit_answer limit_workspace 0; number = 2; count = 0 }
    ∷ record { call = entered pin Q 10239 limit_workspace 0; number = 3; count = 0 }
    ∷ record { call = entered pin Q limit_answer 662793 0; number = 4; count = 0 }
    ∷ record { call = entered pin Q limit_answer limit_workspace 1000001; number = 5; count = 1000001 }
    -- and a count at the most is searched with
    ∷ record { call = entered pin Q limit_answer limit_workspace 1000000; number = 18; count = 1000001 }
    -- 6: edition 2. 7: the next of definition 0 lies in its own record. 8: an inherent count above the arity. 9: a struct in itself.
    ∷ record { call = ask_impl (put header_edition 2 pin) 1 Q 7; number = 6; count = 7 }
    ∷ record { call = ask_impl (put 16 22 pin) 1 Q 7; number = 7; count = 7 }
    ∷ record { call = ask_impl (put 40 2 pin) 1 Q 7; number = 8; count = 7 }
    ∷ record { call = ask_impl (put 65 66 pin) 1 Q 7; number = 9; count = 7 }
    -- 7 covers all chains before 8 covers all values: the last chain is broken, and the first record has a bad value.
    ∷ record { call = ask_impl (put 17 9 (put 66 67 pin)) 1 Q 7; number = 7; count = 7 }
    -- 10: no definition 3
    ∷ record { call = ask_impl pin 3 Q 7; number = 10; count = 7 }
    -- 11: a head below 3. 12: a kind past the last. 13: a struct in itself.
    ∷ record { call = ask_impl pin 1 (put 0 2 Q) 7; number = 11; count = 7 }
    ∷ record { call = ask_impl pin 1 (put 4 14 Q) 7; number = 12; count = 7 }
    ∷ record { call = ask_impl pin 1 (put 7 8 Q) 7; number = 13; count = 7 }
    -- 14 to 17
    ∷ record { call = ask_impl wide 0 (impl_question 0 (unknown ∷ []) (node 0 ∷ [])) 0; number = 14; count = 16 }
    ∷ record { call = ask_impl (facts 1 (fact 0 (0 ∷ []) ∷ [])) 0 (holds? 0) 0; number = 15; count = 17 }
    ∷ record { call = ask_impl (facts 1 (fact 0 [] ∷ fact 0 [] ∷ fact 0 [] ∷ fact 0 [] ∷ fact 0 [] ∷ [])) 0 (holds? 0) 0; number = 16; count = 1 }
    ∷ record { call = ask_impl bushy 0 (holds? 0) 0; number = 17; count = 341 }
    -- 18: the count; an unknown inherent argument, whatever the count. 19: an Error inherent argument.
    ∷ record { call = ask_impl pin 1 Q 2000; number = 18; count = 2001 }
    ∷ record { call = ask_impl (put 40 1 pin) 0 (put 4 0 Q) 5; number = 18; count = 6 }
    ∷ record { call = ask_impl (put 40 1 pin) 0 (put 4 kind_error Q) 5; number = 19; count = 6 }
    -- 20: none. 21: two.
    ∷ record { call = ask_impl pin 0 Q 0; number = 20; count = 1 }
    ∷ record { call = ask_impl (facts 1 (fact 0 [] ∷ fact 0 [] ∷ [])) 0 (holds? 0) 0; number = 21; count = 1 }
    -- 22: Fork unset. 23: Drop unset. 24: the fourth question passes the limit.
    ∷ record { call = ask_flex pin 0 (flex_of kind_fn) 9; number = 22; count = 9 }
    ∷ record { call = ask_flex (put header_fork 1 pin) 0 (flex_of kind_fn) 9; number = 23; count = 9 }
    ∷ record { call = ask_flex (flex_pin 0) 0 (flex_of kind_fn) 1997; number = 24; count = 2001 }
    -- 25: Fork for a struct and for its inverse. 26: Fork of S[?] needs S[X], Drop of it S[Y].
    ∷ record { call = ask_flex (flex_sheet (impl_for 0 (struct 0 [] ∷ []) ∷ impl_for 0 (known true 4 0 [] ∷ []) ∷ [])) 0 (flex_question (struct 0 [] ∷ []) (node 0)) 0; number = 25; count = 4 }
    ∷ record { call = ask_flex (flex_sheet (impl_for 0 (struct 0 (node 1 ∷ []) ∷ struct 1 [] ∷ []) ∷ impl_for 1 (struct 0 (node 1 ∷ []) ∷ struct 2 [] ∷ []) ∷ [])) 0 (flex_question (struct 0 (node 1 ∷ []) ∷ unknown ∷ []) (node 0)) 0; number = 26; count = 4 }
    -- The pinned case: 15 S round Leaf is found at 16 steps, 16 S is refused 15 at count 17.
    ∷ record { call = ask_impl nested 0 (impl_question 0 (s_round 0 15) (node 0 ∷ [])) 0; number = 0; count = 16 }
    ∷ record { call = ask_impl nested 0 (impl_question 0 (s_round 0 16) (node 0 ∷ [])) 0; number = 15; count = 17 }
    -- Wrong turn: two Default nodes met inverted. Upright they meet, inverted they do not.
    ∷ record { call = ask_impl (put 62 kind_default pin) 1 (put 4 kind_default Q) 0; number = 0; count = 1 }
    ∷ record { call = ask_impl (put 62 kind_default pin) 1 (put 5 1 (put 4 kind_default Q)) 0; number = 20; count = 1 }
    -- Wrong turn: the count reset between the four flex questions. With 1,996 spent there is room for all four, with 1,997 there is not.
    ∷ record { call = ask_flex (flex_pin 0) 0 (flex_of kind_fn) 1996; number = 0; count = 2000 }
    -- Wrong turn: result by result instead of list by list. Trait 0 needs 1, then 2. Trait 1 holds, and holds if 3 does, which needs itself (15); trait 2 holds five times over (16).
    ∷ record { call = ask_impl (facts 4 (fact 0 (1 ∷ 2 ∷ []) ∷ fact 1 [] ∷ fact 1 (3 ∷ []) ∷ fact 3 (3 ∷ []) ∷ fact 2 [] ∷ fact 2 [] ∷ fact 2 [] ∷ fact 2 [] ∷ fact 2 [] ∷ [])) 0 (holds? 0) 0; number = 15; count = 17 }
    -- Built-ins come before candidates: the unknown argument (18) is met first, and not the Error (19).
    ∷ record { call = ask_impl own_first 0 (holds? 2) 0; number = 18; count = 3 }
    -- Wrong turn: vis applied inside a component. The ring is one, and its edges' vis is not applied; without the edge from 0 to 1 it is none, and the way from 1 by 2 to 0 is shut.
    ∷ record { call = ask_impl (ring 71) 1 Q 0; number = 0; count = 1 }
    ∷ record { call = ask_impl (ring 0) 1 Q 0; number = 20; count = 1 }
    ∷ []

-- Which root wins is seen in the answer. Two unknowns, asked for as 0, 1 and the inverse of 1, become inverses of each other in a join of two classes of two: on a tie the first goes under the second, so node 0 is the odd one.
unfoldable pub tied : Case
unfolding ask_impl any_three
tied = record {
  call = ask_impl any_three 0 (impl_question 0 (unknown ∷ unknown ∷ []) (node 0 ∷ node 1 ∷ (true, 1) ∷ [])) 0;
  comes_to = (got (6 ∷ 0 ∷ 10 ∷ 17 ∷ 0 ∷ 0 ∷ 0 ∷ 2 ∷ 0 ∷ 0 ∷ 0 ∷ 0 ∷ 0 ∷ 0 ∷ 0 ∷ 1 ∷ 0 ∷ []), 1);
}
