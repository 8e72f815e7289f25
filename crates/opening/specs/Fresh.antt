-- Fresh unknowns for the type parameters of a candidate, and the types that stand for these.
use Rattle.std.specs.Prelude.{ℕ, suc, ◌+◌, ◌-◌, ◌≤◌, ◌<◌, ◌≡◌, Bool, true, false, ◌≢◌, [], ◌∷◌, ◌++◌, length, replicate}
use Rattle.std.proofs.Common.{sym, ◌∙◌, ap, true≢false, append_assoc, append-nil, add-one, arith, length-append}
use Rattle.rules.specs.Lists.{Words}
use Rattle.rules.specs.Limits.{limit_nodes}
use Rattle.rules.specs.Types.{Types, unknown, new_node}
use Rattle.rules.specs.Transfer.{new_nodes}
use Rattle.rules.specs.Neat.{fresh-length}
use Rattle.rules.specs.Search.{with_fresh}
use Rattle.table.specs.Packing.{types_of, Packed, Pushes}
use Rattle.table.specs.Nodes.{types_few}

-- n unknowns are pushed, or there is no room for them.
pub record Freshens (ws us : Words) (n : ℕ) (ok : Bool) : Type 0 where
  pub packed : Packed us
  pub room : ok ≡ true → types_of us ≡ with_fresh (types_of ws) n
  pub full : ok ≡ false → limit_nodes < length (with_fresh (types_of ws) n)

fresh-one : (ts : Types) (n : ℕ) → with_fresh (ts ++ (new_node (length ts) unknown ∷ [])) n ≡ with_fresh ts (suc n)
unfolding with_fresh new_nodes
fresh-one ts n =
    ap (λ k. (ts ++ (new_node (length ts) unknown ∷ [])) ++ new_nodes k (replicate n unknown)) (length-append ts (new_node (length ts) unknown ∷ []) ∙ add-one (length ts))
    ∙ append_assoc ts (new_node (length ts) unknown ∷ []) (new_nodes (suc (length ts)) (replicate n unknown))

fresh-zero : (ts : Types) → with_fresh ts 0 ≡ ts
unfolding with_fresh new_nodes
fresh-zero ts = append-nil ts

-- On the way: what is left to push makes the same table.
pub record Freshening (ws us : Words) (n i : ℕ) : Type 0 where
  pub packed : Packed us
  pub same : with_fresh (types_of us) (n - i) ≡ with_fresh (types_of ws) n

pub fresh-none : (ws : Words) (n : ℕ) → Packed ws → Freshening ws ws n 0
fresh-none ws n p = record { packed = p; same = ap (with_fresh (types_of ws)) (let z : n - 0 ≡ n = omega arith in z) }

pub fresh_more : (ws us vs : Words) (n i r : ℕ) → Freshening ws us n i → i < n → Pushes us vs unknown r → r ≢ 256 → Freshening ws vs n (i + 1)
fresh_more ws us vs n i r f h p e = record {
  packed = p.packed;
  same =
      ap (λ (ts : Types). with_fresh ts (n - (i + 1))) (p.room (omega (arith, p.number, types_few us)) ∙ ap (λ k. types_of us ++ (new_node k unknown ∷ [])) p.number)
      ∙ fresh-one (types_of us) (n - (i + 1))
      ∙ ap (with_fresh (types_of us)) (let z : suc (n - (i + 1)) ≡ n - i = omega arith in z)
      ∙ f.same;
}

pub fresh_full : (ws us vs : Words) (n i r : ℕ) → Freshening ws us n i → i < n → Pushes us vs unknown r → r ≡ 256 → Freshens ws vs n false
fresh_full ws us vs n i r f h p e = record {
  packed = p.packed;
  room = λ q. absurd (true≢false (sym q));
  full = λ q. omega (arith, p.number, fresh-length (types_of us) (n - i), ap (λ (ts : Types). length ts) f.same);
}

pub fresh_done : (ws us : Words) (n i : ℕ) → Freshening ws us n i → n ≤ i → Freshens ws us n true
fresh_done ws us n i f h = record {
  packed = f.packed;
  room = λ q. sym (fresh-zero (types_of us)) ∙ ap (with_fresh (types_of us)) (let z : 0 ≡ n - i = omega arith in z) ∙ f.same;
  full = λ q. absurd (true≢false q);
}
