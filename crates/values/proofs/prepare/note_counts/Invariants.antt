-- `note_counts`: so many header words are counted.
use Rattle.std.proofs.Common.{◌≡◌, length}
use Rattle.values.specs.Tables.{Counted}
use Rattle.values.proofs.prepare.note_counts.Given as goal

abbrev pub invariant-loop-h : goal.invariant-loop-h
invariant-loop-h l = (length l.ws ≡ length l.initial.ws) × Counted l.s l.h l.ws
