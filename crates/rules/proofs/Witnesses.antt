-- A witness for each number: a call that gets it; and for each of document 01's wrong turns a call that tells the right turn from the wrong one. One table and one statement.
use Rattle.std.specs.Prelude.{◌≡◌, refl, map}
use Rattle.rules.specs.Rules.{rules}
use Rattle.rules.specs.Charts.{rows, pack_needs, pack_impls, sheet_of, no_builtins, impl_question, flex_question}
use Rattle.rules.specs.Pinned.{pin, Q, put, flex_pin, flex_of, ask_impl, ask_flex, found}
use Rattle.rules.specs.Witnesses.{number_of, fact, facts, holds?, impl_for, flex_sheet, wide, bushy, nested, s_round, ring, own_first, any_three, entered, witnesses, tied}

-- It comes to that.
pub tied-holds : tied.call ≡ tied.comes_to
unfolding rules rows pack_needs pack_impls sheet_of no_builtins impl_question any_three ask_impl tied
tied-holds = refl

-- Each call comes to its number and count.
pub witnesses_hold : map (λ w. number_of w.call) witnesses ≡ map (λ w. (w.number, w.count)) witnesses
unfolding rules rows pack_needs pack_impls sheet_of no_builtins impl_question flex_question number_of fact facts holds? impl_for flex_sheet wide bushy nested s_round ring own_first any_three entered pin Q put flex_pin flex_of ask_impl ask_flex found witnesses
witnesses_hold = refl
