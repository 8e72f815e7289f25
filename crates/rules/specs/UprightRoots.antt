-- Every root is the upright type of its class. Joins, imports and fresh unknowns keep it, and it holds of the table of a slice.
use Rattle.std.specs.Prelude.{ℕ, suc, ◌+◌, ◌-◌, ◌≤◌, ◌<◌, ◌≡◌, refl, Bool, true, List, [], ◌∷◌, ◌++◌, map, ◌≢◌, ◌⊎◌, set, replicate}
use Rattle.std.proofs.Common.{sym, ◌∙◌, subst, inl, inr, arith, length-append, get_or-set_same, get_or-append-add}
use Rattle.std.proofs.Math.Path.{ap}
use Rattle.std.proofs.Math.Bool.{false}
use Rattle.std.proofs.Math.Option.{Option}
use Rattle.std.proofs.Math.Decide.{ℕ_discrete}
use Rattle.std.proofs.Math.ListN.{length, length-set, get_or-append}
use Rattle.std.proofs.Math.Seq.{get_or-set_other}
use Rattle.rules.specs.Lists.{Words}
use Rattle.rules.specs.Sheet.{chain}
use Rattle.rules.specs.Types.{Ty, TypeState, unknown, known, TypeNode, Types, new_node, node_at, xor, invert_if, larger, relabel, hang, join, unify, ImplType, unify_impl_type}
use Rattle.rules.specs.Transfer.{Transfer, import_types, node_state, new_nodes, table}
use Rattle.rules.specs.Search.{with_fresh}
use Rattle.rules.specs.Solutions.{rep, AllIn, WellFormed, eqb_true, eqb_false}
use Rattle.rules.specs.Joining.{map_at, map-length}
use Rattle.rules.specs.Pigeonholes.{lt_or}
use Rattle.rules.specs.TransferKeeps.{snoc_at, snoc_off, set_at, set_off}
use Rattle.rules.specs.Yields.{Every, every_at}
use Rattle.rules.specs.Carried.{unify_carries, impl_type_carries, transfer_carries}

-- Every root is upright in its class.
abbrev pub RootsUpright : Types → Type 0
RootsUpright ts = (n : ℕ) → n < length ts → rep ts n ≡ n → (node_at ts n).up.0 ≡ false

pub relabel_in : (lo : ℕ) (t : Ty) (nd : TypeNode) → nd.up.1 ≡ lo → (relabel lo t nd).up ≡ invert_if nd.up.0 t
unfolding relabel
relabel_in lo t nd e = rw (eqb_true nd.up.1 lo e, relabel)

pub relabel_out : (lo : ℕ) (t : Ty) (nd : TypeNode) → nd.up.1 ≢ lo → relabel lo t nd ≡ nd
unfolding relabel
relabel_out lo t nd e = rw (eqb_false nd.up.1 lo e, relabel)

-- The nodes of a table in which root lo was hung under root hi.
module _ (ts : Types) (lo hi : Ty) where
  abbrev pub turn : Bool
  turn = xor hi.0 lo.0

  pub hung_length : length (hang ts lo hi) ≡ length ts
  unfolding hang
  hung_length = length-set (map (relabel lo.1 (turn, hi.1)) ts) hi.1 _ ∙ map-length (relabel lo.1 (turn, hi.1)) ts

  pub hung_top : hi.1 < length ts → (node_at (hang ts lo hi) hi.1).up ≡ (false, hi.1)
  unfolding hang node_at
  hung_top h = ap (λ (nd : TypeNode). nd.up) (get_or-set_same (map (relabel lo.1 (turn, hi.1)) ts) hi.1 _ _ (rw (map-length (relabel lo.1 (turn, hi.1)) ts) h))

  pub hung_off : (n : ℕ) → n < length ts → n ≢ hi.1 → node_at (hang ts lo hi) n ≡ relabel lo.1 (turn, hi.1) (node_at ts n)
  unfolding hang node_at
  hung_off n h d = get_or-set_other (map (relabel lo.1 (turn, hi.1)) ts) hi.1 n _ _ d ∙ map_at _ ts n _ h

  -- A root stays upright.
  pub hang-upright : (n : ℕ) → n < length ts → (rep ts n ≡ n → (node_at ts n).up.0 ≡ false) → rep (hang ts lo hi) n ≡ n → (node_at (hang ts lo hi) n).up.0 ≡ false
  unfolding rep invert_if
  hang-upright n h up e = go (ℕ_discrete n hi.1) (ℕ_discrete (rep ts n) lo.1)
    where
      go : Dec (n ≡ hi.1) → Dec (rep ts n ≡ lo.1) → (node_at (hang ts lo hi) n).up.0 ≡ false
      go (yes q) r = ap (λ m. (node_at (hang ts lo hi) m).up.0) q ∙ ap (λ (u : Ty). u.0) (hung_top (subst (λ m. m < length ts) q h))
      go (no q) (yes r) = absurd (q (sym e ∙ ap (λ (nd : TypeNode). nd.up.1) (hung_off n h q) ∙ ap (λ (u : Ty). u.1) (relabel_in lo.1 (turn, hi.1) (node_at ts n) r)))
      go (no q) (no r) =
          let same = hung_off n h q ∙ relabel_out lo.1 (turn, hi.1) (node_at ts n) r in
          ap (λ (nd : TypeNode). nd.up.0) same ∙ up (sym (ap (λ (nd : TypeNode). nd.up.1) same) ∙ e)

  -- So do all.
  hang_roots : RootsUpright ts → RootsUpright (hang ts lo hi)
  hang_roots up n h e = let l : n < length ts = subst (λ m. n < m) hung_length h in hang-upright n l (up n l) e

-- A join keeps roots upright,
pub join-upright : (ts : Types) (a b : Ty) → RootsUpright ts → RootsUpright (join ts a b)
unfolding join
join-upright ts a b up = go (larger ts a b) refl
  where
    go : (c : Bool) → larger ts a b ≡ c → RootsUpright (join ts a b)
    go true e = rw (e, join) (hang_roots ts b a up)
    go false e = rw (e, join) (hang_roots ts a b up)

-- and so does `unify`, whatever it comes to,
pub unify-upright : (s : Words) (ts : Types) (a b : Ty) → RootsUpright ts → RootsUpright (unify s ts a b).1
unify-upright = unify_carries RootsUpright join-upright

-- and that of impl types;
pub impl_type_upright : (s : Words) (ts : Types) (a b : ImplType) → RootsUpright ts → RootsUpright (unify_impl_type s ts a b).1
impl_type_upright = impl_type_carries RootsUpright join-upright

-- a push,
pub snoc_upright : (ts : Types) (st : TypeState) → RootsUpright ts → RootsUpright (ts ++ (new_node (length ts) st ∷ []))
unfolding rep new_node
snoc_upright ts st up n h e = go (lt_or n (length ts))
  where
    go : (n < length ts) ⊎ (length ts ≤ n) → (node_at (ts ++ (new_node (length ts) st ∷ [])) n).up.0 ≡ false
    go (inl l) = let same = snoc_off ts (new_node (length ts) st) n l in ap (λ (nd : TypeNode). nd.up.0) same ∙ up n l (sym (ap (λ (nd : TypeNode). nd.up.1) same) ∙ e)
    go (inr l) =
        let q : n ≡ length ts = omega (arith, length-append ts (new_node (length ts) st ∷ [])) in
        ap (λ m. (node_at (ts ++ (new_node (length ts) st ∷ [])) m).up.0) q ∙ ap (λ (nd : TypeNode). nd.up.0) (snoc_at ts (new_node (length ts) st))

-- a filling,
set-upright : (ts : Types) (m : ℕ) (st : TypeState) → RootsUpright ts → RootsUpright (set ts m (new_node m st))
unfolding rep new_node
set-upright ts m st up n h' e = go (ℕ_discrete n m)
  where
    h : n < length ts
    h = subst (λ k. n < k) (length-set ts m (new_node m st)) h'

    go : Dec (n ≡ m) → (node_at (set ts m (new_node m st)) n).up.0 ≡ false
    go (yes q) = ap (λ k. (node_at (set ts m (new_node m st)) k).up.0) q ∙ ap (λ (nd : TypeNode). nd.up.0) (set_at ts m (new_node m st) (subst (λ k. k < length ts) q h))
    go (no q) = let same = set_off ts m n (new_node m st) q in ap (λ (nd : TypeNode). nd.up.0) same ∙ up n h (sym (ap (λ (nd : TypeNode). nd.up.1) same) ∙ e)

-- an import,
pub import_upright : (src : Types) → WellFormed src → (ps : Option (List Ty)) (xs : List Ty) (dst : Types) → AllIn (length src) xs → RootsUpright dst → RootsUpright (import_types src ps xs dst).1
unfolding import_types
import_upright src formed ps xs dst a up = transfer_carries src formed ps (λ (m : Transfer). RootsUpright m.1) (λ m r l e v. snoc_upright m.1 unknown v) (λ m n r i kd d cs qs e l v. set-upright m.1 n (known i kd d qs) v) xs ([], dst) a up

new_upright : (i : ℕ) (sts : List TypeState) → Every (λ (nd : TypeNode). nd.up.0 ≡ false) (new_nodes i sts)
unfolding new_nodes new_node
new_upright i [] = tt
new_upright i (st ∷ sts) = (refl, new_upright (suc i) sts)

-- and fresh unknowns.
pub fresh-upright : (ts : Types) (n : ℕ) → RootsUpright ts → RootsUpright (with_fresh ts n)
unfolding with_fresh node_at rep new_node
fresh-upright ts n up m h e = go (lt_or m (length ts))
  where
    zs : Types
    zs = new_nodes (length ts) (replicate n unknown)

    go : (m < length ts) ⊎ (length ts ≤ m) → (node_at (ts ++ zs) m).up.0 ≡ false
    go (inl l) = let same = get_or-append ts zs (new_node 0 unknown) m l in ap (λ (nd : TypeNode). nd.up.0) same ∙ up m l (sym (ap (λ (nd : TypeNode). nd.up.1) same) ∙ e)
    go (inr l) =
        let q : m ≡ length ts + (m - length ts) = omega arith in
        ap (λ k. (node_at (ts ++ zs) k).up.0) q ∙ ap (λ (nd : TypeNode). nd.up.0) (get_or-append-add ts zs (m - length ts) (new_node 0 unknown))
        ∙ every_at (λ (nd : TypeNode). nd.up.0 ≡ false) zs (m - length ts) (new_node 0 unknown) (new_upright (length ts) (replicate n unknown)) refl

-- They are in the table of a slice.
pub table-upright : (w : Words) (h : ℕ) → RootsUpright (table w h)
unfolding table node_at new_node
table-upright w h n l e = every_at (λ (nd : TypeNode). nd.up.0 ≡ false) (table w h) n (new_node 0 unknown) (new_upright 0 (map (node_state w) (chain w h))) refl
