-- Fresh unknowns for type parameters, behind a table: it stays well formed, and can be read as terms still.
use Rattle.std.specs.Prelude.{ℕ, zero, suc, ◌<◌, ◌≡◌, refl, [], ◌∷◌, ◌++◌, length, replicate}
use Rattle.std.proofs.Common.{sym, ◌∙◌, ap, subst, not-suc-le-zero, add-zero, add-suc, length-append}
use Rattle.std.proofs.Math.Option.{none, some, none-ne-some}
use Rattle.rules.specs.Types.{Ty, TypeState, unknown, TypeNode, Types, new_node}
use Rattle.rules.specs.Transfer.{new_nodes, param_for}
use Rattle.rules.specs.Solutions.{WellFormed, Readable}
use Rattle.rules.specs.RootRank.{rank}
use Rattle.rules.specs.Readings.{Ranked, Acyclic, readable_ranked, ranked_readable}
use Rattle.rules.specs.TransferKeeps.{begin, push, filled-formed, filled_readable}

-- A table in order: well formed, and it can be read as terms (Readings: it is acyclic).
pub record Proper (ts : Types) : Type 0 where
  pub formed : WellFormed ts
  pub kept : Readable ts

module _ (dst : Types) where
  no_ranks : Ranked [] (λ n. 0)
  no_ranks = record { falls = λ n h. absurd (not-suc-le-zero h) }

  no_params : (st : TypeState) (u : Ty) → param_for none st ≡ some u → u.1 < length dst
  unfolding param_for
  no_params st u e = absurd (none-ne-some u e)

  -- One fresh unknown keeps a table in order,
  pub one-fresh : Proper dst → Proper (dst ++ (new_node (length dst) unknown ∷ []))
  one-fresh d =
      let p = push [] (λ n h. absurd (not-suc-le-zero h)) (λ n. 0) no_ranks (λ n h. absurd (not-suc-le-zero h)) none dst no_params ([], dst) (λ n. 0) 0 (begin [] (λ n h. absurd (not-suc-le-zero h)) (λ n. 0) no_ranks (λ n h. absurd (not-suc-le-zero h)) none dst no_params) in
      record {
        formed = filled-formed [] (λ n h. absurd (not-suc-le-zero h)) (λ n. 0) no_ranks (λ n h. absurd (not-suc-le-zero h)) none dst no_params d.formed d.kept _ _ p.inv;
        kept = filled_readable [] (λ n h. absurd (not-suc-le-zero h)) (λ n. 0) no_ranks (λ n h. absurd (not-suc-le-zero h)) none dst no_params d.formed d.kept _ _ p.inv;
      }

snoc_append : (xs : Types) (y : TypeNode) (zs : Types) → (xs ++ (y ∷ [])) ++ zs ≡ xs ++ (y ∷ zs)
snoc_append [] y zs = refl
snoc_append (x ∷ xs) y zs = ap (λ (l : Types). x ∷ l) (snoc_append xs y zs)

-- and so do n of them.
pub fresh_proper : (n : ℕ) (ts : Types) → Proper ts → Proper (ts ++ new_nodes (length ts) (replicate n unknown))
unfolding new_nodes
fresh_proper zero ts d = subst Proper (sym (end ts)) d
  where
    end : (l : Types) → l ++ [] ≡ l
    end [] = refl
    end (x ∷ l) = ap (λ (k : Types). x ∷ k) (end l)
fresh_proper (suc n) ts d =
    let us : Types = ts ++ (new_node (length ts) unknown ∷ []) in
    let len : length us ≡ suc (length ts) = length-append ts (new_node (length ts) unknown ∷ []) ∙ add-suc (length ts) 0 ∙ ap suc (add-zero (length ts)) in
    subst Proper (ap (λ k. us ++ new_nodes k (replicate n unknown)) len ∙ snoc_append ts (new_node (length ts) unknown) (new_nodes (suc (length ts)) (replicate n unknown))) (fresh_proper n us (one-fresh ts d))

-- The same, of acyclic tables.
pub fresh-acyclic : (n : ℕ) (ts : Types) → WellFormed ts → Acyclic ts → WellFormed (ts ++ new_nodes (length ts) (replicate n unknown)) × Acyclic (ts ++ new_nodes (length ts) (replicate n unknown))
fresh-acyclic n ts formed e = let p = fresh_proper n ts (record { formed = formed; kept = ranked_readable ts formed (rank ts) e }) in (p.formed, readable_ranked _ p.formed p.kept)
