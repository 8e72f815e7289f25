-- Imports from the sheet's tables: the places of a chain are a source of records.
use Rattle.std.specs.Prelude.{ℕ, ◌+◌, ◌≤◌, ◌≡◌, Bool, List, length, take}
use Rattle.std.proofs.Common.{sym, ap, subst, arith, length-take-le}
use Rattle.std.proofs.Math.Option.{Option}
use Rattle.rules.specs.Lists.{Words}
use Rattle.rules.specs.Limits.{limit_nodes}
use Rattle.rules.specs.Sheet.{chain}
use Rattle.rules.specs.Types.{Ty, Types}
use Rattle.rules.specs.Solutions.{AllIn}
use Rattle.rules.specs.Transfer.{import_types, table}
use Rattle.rules.specs.CheckedTables.{table_length_lem}
use Rattle.rules.specs.Neat.{Neat}
use Rattle.table.specs.Packing.{types_of}
use Rattle.transfer.specs.Source.{indexed}
use Rattle.transfer.specs.Imports.{types_in, Inside, Imports}
use Rattle.transfer.specs.Callers.{inside_from, places-chain, places-table}
use Rattle.chart.specs.Index.{Indexed}

-- Slices lent for an import: room for the places of a chain of s, and for a mapping or marks of a table.
pub record Lent (s : Words) (h : ℕ) (places map : Words) : Type 0 where
  pub places_long : length (chain s h) ≤ length places
  pub map_long : length (chain s h) ≤ length map
  pub marks_long : limit_nodes ≤ length map

pub chain_room : (s places map : Words) (h : ℕ) → Lent s h places map → 0 + length (chain s h) ≤ length places
chain_room s places map h l = omega (arith, l.places_long)

pub marks_room : (s : Words) (h : ℕ) (places map ms : Words) → Lent s h places map → length ms ≡ length map → 256 ≤ length ms
marks_room s h places map ms l e = omega (arith, l.marks_long)

-- us has the places of the chain from a head first, n of them.
module _ (s : Words) (h : ℕ) (ws us : Words) (n : ℕ) (x : Indexed s h ws us 0 n) (ms : Words) (long : length us ≡ length ws) (room : Lent s h ws ms) where
  pub places_few : n ≤ length us
  places_few = omega (arith, x.count, room.places_long)

  pub places-length : n ≡ length (take n us)
  places-length = sym (length-take-le n us places_few)

  first : take n us ≡ chain s h
  first = places-chain s h us 0 n x.count x.place (omega (arith, places_few))

  there : indexed s (take n us) ≡ table s h
  there = places-table s h (take n us) first

  pub source_neat : Neat (table s h) → Neat (indexed s (take n us))
  source_neat k = subst Neat (sym there) k

  pub source_room : length (indexed s (take n us)) ≤ length ms
  source_room = omega (arith, ap (λ (ts : Types). length ts) there, table_length_lem s h, room.map_long)

  pub source_inside : (m : ℕ) (ts : Words) → AllIn (length (table s h)) (types_in m ts) → Inside (indexed s (take n us)) (take m ts)
  source_inside m ts a = inside_from (indexed s (take n us)) m ts (subst (λ (x : Types). AllIn (length x) (types_in m ts)) (sym there) a)

  pub source_imports : (ps : Option (List Ty)) (ds es ts vs : Words) (m : ℕ) (r : Bool) → Imports (import_types (indexed s (take n us)) ps (types_in m ts) (types_of ds)) es ts vs m r → Imports (import_types (table s h) ps (types_in m ts) (types_of ds)) es ts vs m r
  source_imports ps ds es ts vs m r i = subst (λ (x : Types). Imports (import_types x ps (types_in m ts) (types_of ds)) es ts vs m r) there i
