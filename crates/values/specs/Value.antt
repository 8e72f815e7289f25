-- What is noted of a place by itself: what a cell, a node, a binding, a member or an impl parameter there asks for.
use Rattle.std.specs.Prelude.{ℕ, ◌+◌, ◌/◌, ◌≤◌, ◌<◌, ◌≡◌, refl, Bool, true, false, not, ◌||◌, [], ◌∷◌, ◌≢◌, eqb, ltb, leb, ◌^◌, Option, Some, None, SomeIff}
use Rattle.std.specs.Option.{unwrap_or}
use Rattle.std.proofs.Common.{sym, ◌∙◌, arith, ne_eqb, lt-ltb, le-ltb}
use Rattle.std.proofs.Math.Path.{ap}
use Rattle.rules.specs.Lists.{Words, bit, holds}
use Rattle.rules.specs.Limits.{limit_sheet}
use Rattle.rules.specs.Layout.{node_kind, node_inverted, node_id, node_children, impl_param_trait, impl_param_args, cell_type, kind_param, kind_count}
use Rattle.rules.specs.Sheet.{at, kind_row, row_least, row_most}
use Rattle.values.specs.Folds.{chain_mark, mark-same}
use Rattle.values.specs.NodeLaws.{word_most, cell_need, id_fits, core, param_need, node_need, args_core}

-- Of a node: whether it is out of range by itself, where the plane from b has the lengths of chains.
unfoldable pub node_mark : Words → Words → Words → ℕ → ℕ → ℕ
node_mark s w ws b p = bit (not (core s (at w (p + node_kind)) (at w (p + node_inverted)) (at w (p + node_id)) (chain_mark ws b (at w (p + node_children)))))

-- Of an impl parameter: whether its trait? or the number of its arguments is out of range.
unfoldable pub param_mark : Words → Words → ℕ → ℕ → ℕ
param_mark s ws b p = bit (not (args_core s (at s (p + impl_param_trait)) (chain_mark ws b (at s (p + impl_param_args)))))

-- Of a record that heads a chain, in word `off`: what the plane from b has of that chain.
unfoldable pub inner_mark : Words → Words → ℕ → ℕ → ℕ → ℕ
inner_mark w ws b off p = chain_mark ws b (at w (p + off))

-- All three are the same in a workspace that agrees below the plane's end.
module _ (ws us : Words) (b to : ℕ) (l : b + limit_sheet ≤ to) (same : (j : ℕ) → j < to → at us j ≡ at ws j) where
  pub node-same : (s w : Words) (p : ℕ) → node_mark s w us b p ≡ node_mark s w ws b p
  unfolding node_mark
  node-same s w p = ap (λ n. bit (not (core s (at w (p + node_kind)) (at w (p + node_inverted)) (at w (p + node_id)) n))) (mark-same ws us b to (at w (p + node_children)) l same)

  pub param-same : (s : Words) (p : ℕ) → param_mark s us b p ≡ param_mark s ws b p
  unfolding param_mark
  param-same s p = ap (λ n. bit (not (args_core s (at s (p + impl_param_trait)) n))) (mark-same ws us b to (at s (p + impl_param_args)) l same)

  pub inner_same : (w : Words) (off p : ℕ) → inner_mark w us b off p ≡ inner_mark w ws b off p
  unfolding inner_mark
  inner_same w off p = mark-same ws us b to (at w (p + off)) l same

-- The parts of a node's mark and need, as they are read.
pub node-marked : (s w ws : Words) (b p k inv id c n r : ℕ) (y : Bool) → k ≡ at w (p + node_kind) → inv ≡ at w (p + node_inverted) → id ≡ at w (p + node_id) → c ≡ at w (p + node_children) →
    n ≡ chain_mark ws b c → y ≡ core s k inv id n → r ≡ bit (not y) → r ≡ node_mark s w ws b p
unfolding node_mark
node-marked s w ws b p k inv id c n r y a d e f g h j = j ∙ λ t. bit (not ((h ∙ λ u. core s (a u) (d u) (e u) ((g ∙ ap (chain_mark ws b) f) u)) t))

-- Those of an impl parameter's mark.
pub param-marked : (s ws : Words) (b p t c n r : ℕ) (y : Bool) → t ≡ at s (p + impl_param_trait) → c ≡ at s (p + impl_param_args) → n ≡ chain_mark ws b c → y ≡ args_core s t n → r ≡ bit (not y) → r ≡ param_mark s ws b p
unfolding param_mark
param-marked s ws b p t c n r y a d e f g = g ∙ λ i. bit (not ((f ∙ λ u. args_core s (a u) ((e ∙ ap (chain_mark ws b) d) u)) i))

-- The head of a record's inner chain.
pub inner_found : (w ws : Words) (b off p h r : ℕ) → h ≡ at w (p + off) → r ≡ chain_mark ws b h → r ≡ inner_mark w ws b off p
unfolding inner_mark
inner_found w ws b off p h r e f = f ∙ ap (chain_mark ws b) e

-- Of another kind than Param.
pub need_none : (w : Words) (p k : ℕ) → k ≡ at w (p + node_kind) → k ≢ kind_param → 0 ≡ node_need w p
unfolding node_need param_need
need_none w p k e n = rw (ne_eqb (at w (p + node_kind)) kind_param (λ q. n (e ∙ q)), param_need) refl

-- Of a Param: one more than its id, which may be the largest word.
pub need_some : (w : Words) (p k id r : ℕ) (o : Option ℕ) → k ≡ at w (p + node_kind) → id ≡ at w (p + node_id) → k ≡ kind_param → SomeIff o (id + 1 < 2 ^ 32) (id + 1) → r ≡ unwrap_or o 0 → r ≡ node_need w p
unfolding node_need param_need
need_some w p k id r o e f g h q = q ∙ go id (at w (p + node_id)) o f h ∙ ap (λ x. param_need x (at w (p + node_id))) (sym g ∙ e)
  where
    go : (i j : ℕ) (o : Option ℕ) → i ≡ j → SomeIff o (i + 1 < 2 ^ 32) (i + 1) → unwrap_or o 0 ≡ param_need kind_param j
    go i j None e h = rw (le-ltb j word_most (omega arith), param_need) refl
    go i j (Some x) e h = rw (lt-ltb j word_most (omega arith), param_need) (omega arith)

-- Of a cell: its type word.
pub cell_found : (w : Words) (p t : ℕ) → t ≡ at w (p + cell_type) → t / 2 + 1 ≡ cell_need w p
unfolding cell_need
cell_found w p t e = omega (arith, ap (λ x. x / 2) e)

-- The six tests of a node.
pub core-found : (s : Words) (k inv id n l m : ℕ) (up fits r : Bool) → up ≡ (ltb 0 k || eqb inv 0) → fits ≡ id_fits s k id → l ≡ kind_row k row_least → m ≡ kind_row k row_most →
    r ≡ holds (ltb k kind_count ∷ leb inv 1 ∷ up ∷ fits ∷ leb l n ∷ leb n m ∷ []) → r ≡ core s k inv id n
unfolding core
core-found s k inv id n l m up fits r a b c d e = e ∙ λ t. holds (ltb k kind_count ∷ leb inv 1 ∷ a t ∷ b t ∷ leb (c t) n ∷ leb n (d t) ∷ [])

-- A node whose kind is past all kinds, or whose id is out of range.
pub core_past : (s : Words) (k inv id n : ℕ) → kind_count ≤ k → false ≡ core s k inv id n
unfolding core holds
core_past s k inv id n h = rw (le-ltb k kind_count h, core, holds)

pub core_unfit : (s : Words) (k inv id n : ℕ) (fits : Bool) → fits ≡ id_fits s k id → fits ≡ false → false ≡ core s k inv id n
unfolding core holds
core_unfit s k inv id n fits e f = go (ltb k kind_count) (leb inv 1) (ltb 0 k || eqb inv 0) (leb (kind_row k row_least) n) (leb n (kind_row k row_most)) ∙ ap (λ (x : Bool). holds (ltb k kind_count ∷ leb inv 1 ∷ (ltb 0 k || eqb inv 0) ∷ x ∷ leb (kind_row k row_least) n ∷ leb n (kind_row k row_most) ∷ [])) (sym f ∙ e)
  where
    go : (a b c d g : Bool) → false ≡ holds (a ∷ b ∷ c ∷ false ∷ d ∷ g ∷ [])
    go true true true d g = refl
    go true true false d g = refl
    go true false c d g = refl
    go false b c d g = refl
