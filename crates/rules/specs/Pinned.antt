-- Document 01, "Pinned sheet and questions": the cases marked ◆, as one table and one statement, through the whole calls.
use Rattle.std.specs.Prelude.{ℕ, ◌≡◌, refl, List, [], ◌∷◌, ◌++◌, set}
use Rattle.rules.specs.Rules.{rules}
use Rattle.rules.specs.Lists.{Words}
use Rattle.rules.specs.Layout.{header_fork, header_drop, header_duplicate, header_erase, kind_unknown, kind_fn}
use Rattle.rules.specs.Limits.{limit_answer, limit_workspace, limit_steps}
use Rattle.rules.specs.Run.{Out, got, refused}
use Rattle.rules.specs.Calls.{try_find_impl, find_flex}
use Rattle.rules.specs.Listing.{listing}

-- Sheet Pin, 68 words.
unfoldable pub pin : Words
pin =
    1 ∷ 16 ∷ 44 ∷ 37 ∷ 48 ∷ 0 ∷ 41 ∷ 0 ∷ 0 ∷ 0 ∷ 0 ∷ 0 ∷ 0 ∷ 0 ∷ 0 ∷ 0 ∷
    23 ∷ 0 ∷ 0 ∷ 1 ∷ 0 ∷ 54 ∷ 0 ∷
    30 ∷ 1 ∷ 0 ∷ 0 ∷ 58 ∷ 0 ∷ 0 ∷
    0 ∷ 1 ∷ 0 ∷ 0 ∷ 0 ∷ 0 ∷ 0 ∷
    0 ∷ 0 ∷ 1 ∷ 0 ∷
    0 ∷ 1 ∷ 0 ∷
    0 ∷ 0 ∷ 0 ∷ 0 ∷
    0 ∷ 0 ∷ 0 ∷ 1 ∷ 61 ∷ 66 ∷
    0 ∷ 0 ∷ 0 ∷ 1 ∷
    0 ∷ 0 ∷ 0 ∷
    0 ∷ 4 ∷ 0 ∷ 0 ∷ 0 ∷
    0 ∷ 0 ∷ []

-- Question Q.
unfoldable pub Q : Words
Q = 3 ∷ 1 ∷ 8 ∷ 0 ∷ 4 ∷ 0 ∷ 0 ∷ 0 ∷ 0 ∷ 0 ∷ []

-- The places in Pin that the cases change: the bindings of definition 1,
abbrev pin_bindings : ℕ
pin_bindings = 27

-- the inherent count of its trait,
abbrev pin_inherent : ℕ
pin_inherent = 40

-- and the vis of its binding.
abbrev pin_vis : ℕ
pin_vis = 59

-- Word i of a slice changed to v.
unfoldable pub put : ℕ → ℕ → Words → Words
put i v s = set s i v

-- The flex cases' sheet, which document 01 does not write out: Pin with no impl bound, and a second trait, Drop, behind it, of definition 0, arity 1 and the same inherent count; Fork is trait 0; duplicate and erase are impl 0.
unfoldable pub flex_pin : ℕ → Words
unfolding pin put
flex_pin inherent =
    put header_fork 1 (put header_drop 2 (put header_duplicate 1 (put header_erase 1 (put pin_bindings 0 (put 37 68 (put pin_inherent inherent pin))))))
    ++ (0 ∷ 0 ∷ 1 ∷ inherent ∷ [])

-- A flex question of one node of a kind, upright.
unfoldable pub flex_of : ℕ → Words
flex_of k = 3 ∷ 0 ∷ 0 ∷ 0 ∷ k ∷ 0 ∷ 0 ∷ 0 ∷ []

-- What a pinned call comes to: an answer or a refusal, and the count after.
abbrev pub End : Type 0
End = Out Words × ℕ

-- The impl call, not basic, under generics 0, with the smallest buffers.
unfoldable pub ask_impl : Words → ℕ → Words → ℕ → End
ask_impl s source q c = try_find_impl limit_steps (record { sheet = s; source = source; generics = 0 }) 0 q limit_answer limit_workspace c

-- The flex call, in the same way.
unfoldable pub ask_flex : Words → ℕ → Words → ℕ → End
ask_flex s source q c = find_flex limit_steps (record { sheet = s; source = source; generics = 0 }) q limit_answer limit_workspace c

-- The answer of the first case.
unfoldable pub found : Out Words
found = got (6 ∷ 0 ∷ 10 ∷ 16 ∷ 0 ∷ 0 ∷ 0 ∷ 2 ∷ 0 ∷ 0 ∷ 0 ∷ 4 ∷ 0 ∷ 0 ∷ 0 ∷ 0 ∷ [])

-- A call, and what it must come to.
pub record Case : Type 0 where
  pub call : End
  pub comes_to : End

-- The cases marked ◆, in document 01's order.
unfoldable pub pinned : List Case
unfolding pin Q put flex_pin flex_of ask_impl ask_flex found
pinned =
    -- Q from 1, count 0
    record { call = ask_impl pin 1 Q 0; comes_to = (found, 1) }
    -- Q from 0: impl 0 is unnamed
    ∷ record { call = ask_impl pin 0 Q 0; comes_to = (refused 20, 1) }
    -- Inherent count 1, Q from 0; its binding's vis 2 instead
    ∷ record { call = ask_impl (put pin_inherent 1 pin) 0 Q 0; comes_to = (found, 1) }
    ∷ record { call = ask_impl (put pin_vis 2 (put pin_inherent 1 pin)) 0 Q 0; comes_to = (refused 20, 1) }
    -- Inherent count 1, unknown argument
    ∷ record { call = ask_impl (put pin_inherent 1 pin) 0 (put 4 kind_unknown Q) 0; comes_to = (refused 18, 1) }
    -- Q from 1 at 1,999 and at 2,000
    ∷ record { call = ask_impl pin 1 Q 1999; comes_to = (found, 2000) }
    ∷ record { call = ask_impl pin 1 Q 2000; comes_to = (refused 18, 2001) }
    -- Flex on an upright Fn, Fork, Drop, duplicate and erase set, no impl bound: both trees
    ∷ record { call = ask_flex (flex_pin 0) 0 (flex_of kind_fn) 0; comes_to = (got (6 ∷ 10 ∷ 14 ∷ 20 ∷ 0 ∷ 0 ∷ 0 ∷ 2 ∷ 0 ∷ 0 ∷ 0 ∷ 2 ∷ 0 ∷ 0 ∷ 0 ∷ 7 ∷ 0 ∷ 0 ∷ 0 ∷ 0 ∷ []), 4) }
    -- Flex on an unknown, both inherent counts 1: neither tree
    ∷ record { call = ask_flex (flex_pin 1) 0 (flex_of kind_unknown) 0; comes_to = (got (0 ∷ 0 ∷ 6 ∷ 12 ∷ 0 ∷ 0 ∷ 0 ∷ 0 ∷ 0 ∷ 0 ∷ 0 ∷ 0 ∷ []), 4) }
    ∷ []

-- The listing of Pin, and the text that is printed: `0:`, `1: 0`, `2:`.
pub pin-listing : listing pin ≡ got ((0, []) ∷ (1, 0 ∷ []) ∷ (2, []) ∷ [])
unfolding rules pin
pin-listing = refl
