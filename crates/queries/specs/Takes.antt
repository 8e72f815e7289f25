-- How many nodes the import of a candidate's signature, or of an impl parameter of generics, adds to a table: whatever the table is.
use Rattle.std.specs.Prelude.{ℕ, ◌+◌, ◌≤◌, ◌<◌, [], length, get_or}
use Rattle.std.proofs.Math.Option.{none}
use Rattle.rules.specs.Lists.{Words}
use Rattle.rules.specs.Layout.{header_impls}
use Rattle.rules.specs.Sheet.{at, many}
use Rattle.rules.specs.Types.{Types, ImplType}
use Rattle.rules.specs.Transfer.{import_impl_type}
use Rattle.rules.specs.Search.{impl_params}
use Rattle.rules.specs.SearchKeeps.{signed}

-- The signature of impl i takes at most n nodes, its type parameters with it.
pub record SignatureTakes (s : Words) (i n : ℕ) : Type 0 where
  pub most : (ts : Types) → length (signed s ts i).1 ≤ length ts + n

-- Impl parameter p of generics g takes at most n nodes.
pub record ParamTakes (s : Words) (g : ℕ) (p : ImplType) (n : ℕ) : Type 0 where
  pub most : (ts : Types) → length (import_impl_type (impl_params s g).0 none p ts).1 ≤ length ts + n

-- What the signatures of all impls and the impl parameters of generics g take: a word for each of 128 impls, and for each of 4 parameters.
pub record Taken (s : Words) (g : ℕ) (ts : Words) : Type 0 where
  pub signatures : (i : ℕ) → i < many s header_impls → SignatureTakes s i (at ts i)
  pub params : (k : ℕ) → k < length (impl_params s g).1 → ParamTakes s g (get_or (impl_params s g).1 k (0, [])) (at ts (128 + k))
