use Rattle.std.proofs.Common.{arith, ap, ◌∙◌, length}
use Rattle.std.specs.Str.{chars}
use Rattle.std.specs.Str.Iter.{chars_rest}
use Rattle.std.proofs.lemmas.List.{nil_from_length}
use Rattle.std.proofs.lemmas.Str.{IsUtf8-past_char, chars_past_char, chars-nil}
use Rattle.notation.proofs.types.FrontWrite.write_str.Goals as goal

pub loop-c-preserved : goal.loop-c-preserved
loop-c-preserved g c =
    let held = c.loop-c.invariant in
    let parts = c.in-Some.ensures.steps.0 in
    let step = ap length (chars_past_char _ _ c.in-Some.c held.0 parts) in
    (IsUtf8-past_char _ _ c.in-Some.c held.0 parts, omega (arith, step))

pub returns : goal.returns
returns g c =
    let none = ap length (ap chars (nil_from_length (chars_rest c.loop-c.c-iterator) c.in-None.ensures.steps.0.0) ∙ chars-nil) in
    λ _. omega (arith, none)
