-- A table in words that every step keeps: packed and neat. What the functions of `table`, `unify` and `transfer` leave is sound again.
use Prim.Native.Nat.{ℕ, zero, suc, ◌/◌, ◌≤◌, ◌<◌}
use Rattle.std.specs.Prelude.{◌≡◌, Bool, eqb, length, get_or, take}
use Rattle.std.proofs.Math.Path.{refl, subst}
use Rattle.std.proofs.Common.{sym, ◌∙◌, ap, ⊎_elim, not-suc-le-zero, le_of_suc-le-suc, arith}
use Rattle.std.proofs.Math.Bool.{true, false}
use mathlib.Core.List.{List, [], ◌∷◌, ◌++◌, map}
use Rattle.std.proofs.Math.Option.{none-ne-some, some-injective}
use Rattle.rules.specs.Lists.{Words}
use Rattle.rules.specs.Layout.{kind_param}
use Rattle.rules.specs.Sheet.{at}
use Rattle.rules.specs.Types.{Ty, unknown, known, new_node, invert_if, unify, unify_impl_type}
use Rattle.rules.specs.Solutions.{AllIn}
use Rattle.rules.specs.Pigeonholes.{lt_or}
use Rattle.rules.specs.Readings.{ranked_readable, readable_ranked}
use Rattle.rules.specs.Transfer.{type_of_word, param_for}
use Rattle.rules.specs.Slim.{SlimKnown, Slim}
use Rattle.rules.specs.Neat.{Neat, Low, low_none, unify_neat, unify_query_neat}
use Rattle.table.specs.Packing.{types_of, Packed, Pushes, Becomes, TypeWords, Good}
use Rattle.table.specs.Nodes.{types_few}
use Rattle.memo.specs.declared.verdict.UnifyResult.{UnifyResult}
use Rattle.unify.specs.Results.{Unifies}
use Rattle.unify.specs.Lists.{Nodes}
use Rattle.transfer.specs.Moving.{params_of}
use Rattle.transfer.specs.Imports.{Inside}
use Rattle.type_cases.specs.Pushed.{pushed_neat}

pub record Sound (ws : Words) : Type 0 where
  pub packed : Packed ws
  pub neat : Neat (types_of ws)

pub sound_good : (ws : Words) → Sound ws → Good ws
sound_good ws g = record { packed = g.packed; formed = g.neat.proper.formed; acyclic = readable_ranked (types_of ws) g.neat.proper.formed g.neat.proper.kept }

-- The table without nodes.
neat_empty : Neat []
unfolding Slim
neat_empty = record { proper = record { formed = λ n h. absurd (not-suc-le-zero h); kept = ranked_readable [] (λ n h. absurd (not-suc-le-zero h)) (λ n. 0) (record { falls = λ n h. absurd (not-suc-le-zero h) }) }; slim = tt; upright = λ n h. absurd (not-suc-le-zero h) }

pub sound_empty : (us : Words) → Becomes us [] → Sound us
sound_empty us b = record { packed = b.packed; neat = subst Neat (sym b.is) neat_empty }

-- Type words that are nodes of a table of n: each below 2 * n.
pub record Below (n : ℕ) (xs : Words) : Type 0 where
  pub each : (j : ℕ) → j < length xs → at xs j / 2 < n

-- What a test of them says.
pub record Tested (n : ℕ) (xs : Words) (r : Bool) : Type 0 where
  pub holds : r ≡ true → Below n xs

below_all : (n : ℕ) (xs : Words) → Below n xs → AllIn n (map type_of_word xs)
unfolding type_of_word
below_all n [] b = tt
below_all n (x ∷ xs) b = (b.each 0 (omega arith), below_all n xs (record { each = λ j l. b.each (suc j) (omega arith) }))

-- c is the count of a table.
module _ (ws xs : Words) (c : ℕ) (e : c ≡ length (types_of ws)) (b : Below c xs) where
  there : AllIn (length (types_of ws)) (map type_of_word xs)
  there = subst (λ n. AllIn n (map type_of_word xs)) e (below_all c xs b)

  pub below_nodes : Nodes (types_of ws) xs
  below_nodes = record { there = there }

  pub below_inside : Inside (types_of ws) xs
  unfolding type_of_word
  below_inside = record { each = λ j l. subst (λ n. at xs j / 2 < n) e (b.each j l) }

  pub below_words : TypeWords xs
  below_words = record { small = λ j. ⊎_elim (λ l. omega (arith, b.each j l, types_few ws)) (λ l. omega (arith, past xs j l)) (lt_or j (length xs)) }
    where
      past : (xs : Words) (j : ℕ) → length xs ≤ j → at xs j ≡ 0
      past [] j l = refl
      past (x ∷ xs) zero l = absurd (not-suc-le-zero l)
      past (x ∷ xs) (suc j) l = past xs j (le_of_suc-le-suc l)

-- Pushes.
module _ (ws us : Words) (r : ℕ) (g : Sound ws) where
  pub sound_unknown : Pushes ws us unknown r → Sound us
  sound_unknown p = record {
    packed = p.packed;
    neat = ⊎_elim
        (λ l. subst Neat (sym (p.room l ∙ ap (λ k. types_of ws ++ (new_node k unknown ∷ [])) p.number)) (pushed_neat (types_of ws) unknown g.neat tt tt))
        (λ l. subst (λ (xs : Words). Neat (types_of xs)) (sym (p.full l)) g.neat) (lt_or r 256);
  }

  pub sound_known : (cs : Words) (c k d : ℕ) (i : Bool) → c ≡ length (types_of ws) → Below c cs → length cs ≤ 8 → (k < 16) × (k ≡ 8 → d < 4096) × (0 < length cs → d < 4096) → Pushes ws us (known i k d (map type_of_word cs)) r → Sound us
  sound_known cs c k d i e b few low p = record {
    packed = p.packed;
    neat = ⊎_elim
        (λ l. subst Neat (sym (p.room l ∙ ap (λ k'. types_of ws ++ (new_node k' (known i k d (map type_of_word cs)) ∷ [])) p.number)) (pushed_neat (types_of ws) (known i k d (map type_of_word cs)) g.neat (there ws cs c e b) (subst (SlimKnown k d) (sym (mapped cs)) (record { few = few; low = low.0; closure = low.1; small = low.2 }))))
        (λ l. subst (λ (xs : Words). Neat (types_of xs)) (sym (p.full l)) g.neat) (lt_or r 256);
  }
    where
      mapped : (xs : Words) → length (map type_of_word xs) ≡ length xs
      mapped [] = refl
      mapped (x ∷ xs) = ap suc (mapped xs)

-- Joins.
pub sound_unify : (s ws us : Words) (a b c : ℕ) (v : UnifyResult) → Sound ws → c ≡ length (types_of ws) → a / 2 < c → b / 2 < c → Unifies us v (unify s (types_of ws) (type_of_word a) (type_of_word b)) → Sound us
unfolding type_of_word
sound_unify s ws us a b c v g e ha hb u = record { packed = u.good.packed; neat = subst Neat (sym (ap (λ o. o.1) u.is)) (unify_neat s (types_of ws) (type_of_word a) (type_of_word b) g.neat (omega arith) (omega arith)).neat }

pub sound_impl_types : (s ws us xs ys : Words) (a b c : ℕ) (v : UnifyResult) → Sound ws → c ≡ length (types_of ws) → Below c xs → Below c ys → Unifies us v (unify_impl_type s (types_of ws) (a, map type_of_word xs) (b, map type_of_word ys)) → Sound us
sound_impl_types s ws us xs ys a b c v g e hx hy u = record { packed = u.good.packed; neat = subst Neat (sym (ap (λ o. o.1) u.is)) (unify_query_neat s (types_of ws) (a, map type_of_word xs) (b, map type_of_word ys) g.neat (there ws xs c e hx) (there ws ys c e hy)).neat }

-- Moves: ws is the table that types are moved from.
module _ (ws : Words) (g : Sound ws) where
  pub sound_source : Neat (types_of ws)
  sound_source = g.neat

  pub source_room : (ms : Words) → 256 ≤ length ms → length (types_of ws) ≤ length ms
  source_room ms h = omega (arith, types_few ws)

-- What stands for a Param is a node: c is the count of the table ds that is filled.
module _ (ds ps : Words) (c : ℕ) (e : c ≡ length (types_of ds)) (p : Below c ps) where
  low_some : 0 < c → Low (params_of true ps) (types_of ds)
  unfolding params_of param_for invert_if
  low_some h unknown u q = absurd (none-ne-some u q)
  low_some h (known i k d cs) u q = go (eqb k kind_param) refl
    where
      one : (xs : List Ty) (d : ℕ) → AllIn c xs → (get_or xs d (false, 0)).1 < c
      one [] d a = h
      one (x ∷ xs) zero a = a.0
      one (x ∷ xs) (suc d) a = one xs d a.1

      go : (b : Bool) → eqb k kind_param ≡ b → u.1 < length (types_of ds)
      go true z = subst (λ n. u.1 < n) e (subst (λ (t : Ty). t.1 < c) (some-injective _ _ (rw (z, param_for) at q)) (one (map type_of_word ps) d (below_all c ps p)))
      go false z = absurd (none-ne-some u (rw (z, param_for) at q))

  pub low : (b : Bool) → (b ≡ true → 0 < c) → Low (params_of b ps) (types_of ds)
  unfolding params_of
  low true h = low_some (h refl)
  low false h = low_none (types_of ds)

-- The same of two rows and a table.
pub record BothTested (ws xs ys : Words) (r : Bool) : Type 0 where
  pub left : r ≡ true → Below (length (types_of ws)) xs
  pub right : r ≡ true → Below (length (types_of ws)) ys

-- Parameters are nodes of table ds, and it has a node for a Param that has none.
pub record Fitting (b : Bool) (ps ds : Words) (r : Bool) : Type 0 where
  pub below : r ≡ true → Below (length (types_of ds)) ps
  pub room : r ≡ true → b ≡ true → 0 < length (types_of ds)

-- The first m of some types are nodes of table ws.
pub record Loaded (ws : Words) (m : ℕ) (ts : Words) (r : Bool) : Type 0 where
  pub below : r ≡ true → Below (length (types_of ws)) (take m ts)
