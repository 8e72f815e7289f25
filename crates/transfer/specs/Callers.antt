-- For the callers of `import` and `export`: what they have to show, and what they may rely on afterwards.
use Rattle.std.specs.Prelude.{ℕ, suc, ◌+◌, ◌≤◌, ◌<◌, ◌≡◌, refl, Bool, true, false, List, [], ◌∷◌, map, length, get_or, take, drop}
use Rattle.std.proofs.Common.{sym, ◌∙◌, ap, subst, arith, length-take, length-drop, ext_get_or, get_or-take, get_or-drop}
use Rattle.std.proofs.Math.Option.{Option}
use Rattle.rules.specs.Lists.{Words}
use Rattle.rules.specs.Sheet.{at, chain}
use Rattle.rules.specs.Types.{Ty, Types}
use Rattle.rules.specs.Solutions.{AllIn}
use Rattle.rules.specs.RootRank.{child_in}
use Rattle.rules.specs.Transfer.{import_types, export_types, type_of_word, table}
use Rattle.rules.specs.TransferCount.{export_most}
use Rattle.rules.specs.Neat.{Neat, Brought, Low, types_brought, types_exported}
use Rattle.table.specs.Packing.{types_of}
use Rattle.table.specs.Nodes.{types_few}
use Rattle.transfer.specs.Source.{indexed, table-indexed}
use Rattle.transfer.specs.Records.{mapped-length}
use Rattle.transfer.specs.Leaves.{type_at}
use Rattle.transfer.specs.Imports.{types_in, Inside, Imports}

-- Types that are nodes, by the rules' notion and by words.
pub inside_from : (src : Types) (n : ℕ) (ts : Words) → AllIn (length src) (types_in n ts) → Inside src (take n ts)
unfolding types_in
inside_from src n ts a = record { each = λ j l. subst (λ (t : Ty). t.1 < length src) (type_at (take n ts) j) (child_in (length src) (map type_of_word (take n ts)) j a (omega (arith, mapped-length type_of_word (take n ts)))) }

-- The n words of a buffer from b on that are the places of a chain, as a source of records.
pub places-chain : (s : Words) (h : ℕ) (us : Words) (b n : ℕ) → n ≡ length (chain s h) → ((i : ℕ) → i < n → at us (b + i) ≡ at (chain s h) i) → b + n ≤ length us → take n (drop b us) ≡ chain s h
places-chain s h us b n e f l = ext_get_or 0 (take n (drop b us)) (chain s h) (omega (arith, size)) (λ i k. get_or-take n (drop b us) i 0 (omega (arith, size)) ∙ get_or-drop b us i 0 ∙ f i (omega (arith, size)))
  where
    size : length (take n (drop b us)) ≡ n
    size = omega (arith, length-take n (drop b us), length-drop b us)

pub places-table : (s : Words) (h : ℕ) (places : Words) → places ≡ chain s h → indexed s places ≡ table s h
places-table s h places e = ap (indexed s) e ∙ table-indexed s h

all_in : (N : ℕ) (xs : List Ty) → ((j : ℕ) → j < length xs → (get_or xs j (false, 0)).1 < N) → AllIn N xs
all_in N [] h = tt
all_in N (x ∷ xs) h = (h 0 (omega arith), all_in N xs (λ j l. h (suc j) (omega arith)))

pub inside_all : (src : Types) (n : ℕ) (ts : Words) → Inside src (take n ts) → AllIn (length src) (types_in n ts)
unfolding types_in
inside_all src n ts h = all_in (length src) (map type_of_word (take n ts)) (λ j l. subst (λ (t : Ty). t.1 < length src) (sym (type_at (take n ts) j)) (h.each j (omega (arith, mapped-length type_of_word (take n ts)))))

-- What was imported is a neat table still, and the types are nodes of it.
pub imports_brought : (src : Types) (ps : Option (List Ty)) (dst : Types) (us ts vs : Words) (n : ℕ) (r : Bool) → Neat src → Neat dst → Low ps dst → Inside src (take n ts) → r ≡ true → Imports (import_types src ps (types_in n ts) dst) us ts vs n r → Brought dst (types_in n vs) (types_of us)
imports_brought src ps dst us ts vs n r g k l h e i = subst (λ (o : List Ty × Types). Brought dst o.0 o.1) (i.comes.is e) (types_brought src g ps dst k l (types_in n ts) (inside_all src n ts h))

pub exports_brought : (src : Types) (us ts vs : Words) (n : ℕ) (r : Bool) → Neat src → Inside src (take n ts) → r ≡ true → Imports (export_types src (types_in n ts)) us ts vs n r → Brought [] (types_in n vs) (types_of us)
exports_brought src us ts vs n r g h e i = subst (λ (o : List Ty × Types). Brought [] o.0 o.1) (i.comes.is e) (types_exported src g (types_in n ts) (inside_all src n ts h))

-- A packed table is never too large to export.
pub export_fits : (ws us ts vs : Words) (n : ℕ) (r : Bool) → Neat (types_of ws) → Inside (types_of ws) (take n ts) → Imports (export_types (types_of ws) (types_in n ts)) us ts vs n r → r ≡ true
export_fits ws us ts vs n true g h i = refl
export_fits ws us ts vs n false g h i = absurd (omega (arith, i.comes.full refl, export_most (types_of ws) g.proper.formed (types_in n ts) (inside_all (types_of ws) n ts h), types_few ws))
