-- The fuel of the type table, which only serves termination, is never used up: on a well-formed, acyclic table every walk and every join comes to the same with any more of it.
-- Types of a checked sheet or question start with such tables (CheckedTables), and `unify`, `import` and fresh unknowns leave such tables (UnifyKeeps, TransferKeeps, FreshKeeps).
use Rattle.std.specs.Prelude.{ℕ, suc, ◌+◌, ◌<◌, ◌≡◌, false, List, length, get_or}
use Rattle.std.proofs.Math.Option.{Option}
use Rattle.rules.specs.Lists.{Words}
use Rattle.rules.specs.Types.{Ty, Types, occurs_in, occurs, self_inverse_in, self_inverse, unify_in, unify}
use Rattle.rules.specs.Transfer.{Transfer, transfer_each, transfer_in, transfer_types}
use Rattle.rules.specs.Search.{get_mod_in, get_mod}
use Rattle.rules.specs.Solutions.{WellFormed}
use Rattle.rules.specs.Readings.{Acyclic}
use Rattle.rules.specs.WalksEnd.{occurs_enough, self_inverse_enough, transfer_types_enough, get_mod_enough}
use Rattle.rules.specs.UnifyEnds.{unify_enough}

-- With m more of it, for types of the table.
pub record NeverUsedUp (s : Words) (ts : Types) : Type 0 where
  pub in_occurs : (v : ℕ) (t : Ty) → t.1 < length ts → (m : ℕ) → occurs_in (m + suc (length ts)) ts v t ≡ occurs ts v t
  pub in_self_inverse : (t : Ty) → t.1 < length ts → (m : ℕ) → self_inverse_in (m + suc (length ts)) s ts t ≡ self_inverse s ts t
  pub in_unify : (a b : Ty) → a.1 < length ts → b.1 < length ts → (m : ℕ) → unify_in (m + suc (length ts)) s ts a b ≡ unify s ts a b
  pub in_transfer : (ps : Option (List Ty)) (us : List Ty) → ((j : ℕ) → j < length us → (get_or us j (false, 0)).1 < length ts) → (w : Transfer) (m : ℕ) → transfer_each (transfer_in (m + suc (length ts)) ts ps) us w ≡ transfer_types ts ps us w
  pub in_get_mod : (t : Ty) → t.1 < length ts → (m : ℕ) → get_mod_in (m + suc (length ts)) s ts t ≡ get_mod s ts t

-- All verdicts, inverted types and Error too.
pub never_used_up : (s : Words) (ts : Types) → WellFormed ts → Acyclic ts → NeverUsedUp s ts
never_used_up s ts formed e = record {
  in_occurs = occurs_enough ts formed e;
  in_self_inverse = self_inverse_enough ts formed e s;
  in_unify = unify_enough s ts formed e;
  in_transfer = transfer_types_enough ts formed e;
  in_get_mod = get_mod_enough s ts formed;
}
