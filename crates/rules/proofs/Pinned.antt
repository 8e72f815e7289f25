-- Document 01, "Pinned sheet and questions": the cases marked ◆, as one table and one statement, through the whole calls.
use Rattle.std.specs.Prelude.{◌≡◌, refl, map}
use Rattle.rules.specs.Rules.{rules}
use Rattle.rules.specs.Pinned.{pin, Q, put, flex_pin, flex_of, ask_impl, ask_flex, found, pinned}

-- Each call comes to what document 01 says.
pub pinned_hold : map (λ c. c.call) pinned ≡ map (λ c. c.comes_to) pinned
unfolding rules pin Q put flex_pin flex_of ask_impl ask_flex found pinned
pinned_hold = refl
