-- `write_str`: each char has taken a place.
use Rattle.std.proofs.Common.{◌≡◌, ◌+◌, length, IsUtf8}
use Rattle.std.specs.Str.{chars}
use Rattle.std.specs.Str.Iter.{chars_rest}
use Rattle.notation.proofs.types.FrontWrite.write_str.Given as goal

abbrev pub invariant-loop-c : goal.invariant-loop-c
invariant-loop-c g l =
    IsUtf8 (chars_rest l.c-iterator)
    × (l.self.room + length (chars l.s) ≡ l.initial.self.room + length (chars (chars_rest l.c-iterator)))
