-- `walk_tables`: the tables of the records that are left decide.
use Rattle.std.proofs.Common.{◌≡◌, length}
use Rattle.acyclic.specs.Sheets.{Along}
use Rattle.acyclic.proofs.walk_tables.Given as goal

abbrev pub invariant-loop-place : goal.invariant-loop-place
invariant-loop-place l = (length l.ws ≡ length l.initial.ws) × Along l.s l.k l.head l.place-iterator
