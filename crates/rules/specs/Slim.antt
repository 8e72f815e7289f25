-- No type has over 8 children, its kind is one of 16, and where it has children or is a closure its id is below a sheet's words: 8 and 12 say so of the tables of a sheet and a question,
-- and joining, transfer and fresh unknowns keep it.
use Rattle.std.specs.Prelude.{ℕ, zero, suc, ◌+◌, ◌*◌, ◌≤◌, ◌<◌, ◌≡◌, refl, Bool, true, false, List, [], ◌∷◌, ◌++◌, map, T, eqb, leb, ltb, length, replicate}
use Rattle.std.proofs.Common.{sym, subst, le_trans, not-suc-le-zero, arith, leb→le, ltb→lt, eqb→eq}
use Rattle.std.proofs.Math.Option.{Option, none, some}
use Rattle.rules.specs.Lists.{Words, all}
use Rattle.rules.specs.Limits.{limit_sheet}
use Rattle.rules.specs.Layout.{header_opaques, header_structs, header_enums, header_unions, header_closures, node_kind, node_id, kind_unknown, kind_param, kind_closure, kind_count}
use Rattle.rules.specs.Sheet.{at, chain, many, kinds, kind_row, row_most, row_length}
use Rattle.rules.specs.Types.{Ty, TypeState, unknown, known, TypeNode, Types, new_node, node_at, find, kind, xor, invert_state, state_at, larger, relabel, or_else, hang, join}
use Rattle.rules.specs.Transfer.{Transfer, param_for, transfer_types, import_types, node_state, new_nodes, table}
use Rattle.rules.specs.Values.{id_bound, node_fits, node_ok, table_ok}
use Rattle.rules.specs.Robinson.{AllIn, WellFormed}
use Rattle.rules.specs.CheckedSheet.{part}
use Rattle.rules.specs.Yields.{Every, every_append, every_set, every_at, every_map, every_all, every_weaken}
use Rattle.rules.specs.Carried.{transfer_carries}

-- The most children that the kind table gives any kind.
abbrev pub most_children : ℕ
most_children = 8

-- Kinds are below this.
abbrev pub most_kinds : ℕ
most_kinds = 16

-- A type has at most so many; its kind is small; and so is the id of a closure or of a type with children: it is that of a record of a sheet, or 0.
pub record SlimKnown (k d n : ℕ) : Type 0 where
  pub few : n ≤ most_children
  pub low : k < most_kinds
  pub closure : k ≡ kind_closure → d < limit_sheet
  pub small : 0 < n → d < limit_sheet

abbrev pub SlimState : TypeState → Type 0
SlimState unknown = Unit {0}
SlimState (known i k d cs) = SlimKnown k d (length cs)

abbrev SlimNode : TypeNode → Type 0
SlimNode nd = SlimState nd.state

-- So it is with every type of a table,
unfoldable pub Slim : Types → Type 0
Slim ts = Every SlimNode ts

-- and with each that is looked up.
pub slim_at : (ts : Types) → Slim ts → (n : ℕ) → SlimState (state_at ts n)
unfolding Slim state_at node_at new_node
slim_at ts h n = every_at SlimNode ts n (new_node 0 unknown) h tt

slim_invert : (b : Bool) (st : TypeState) → SlimState st → SlimState (invert_state b st)
unfolding invert_state
slim_invert b unknown h = tt
slim_invert b (known i k d cs) h = h

-- So it is with what a type is.
pub slim_kind : (ts : Types) (t : Ty) → Slim ts → SlimState (kind ts t)
unfolding kind
slim_kind ts t h = slim_invert (find ts t).0 (state_at ts (find ts t).1) (slim_at ts h (find ts t).1)

slim_or : (st st' : TypeState) → SlimState st → SlimState st' → SlimState (or_else st st')
unfolding or_else
slim_or unknown st' h k = k
slim_or (known i kd d cs) st' h k = h

slim_relabel : (lo : ℕ) (t : Ty) (nd : TypeNode) → SlimNode nd → SlimNode (relabel lo t nd)
unfolding relabel
slim_relabel lo t nd h = go (eqb nd.up.1 lo) refl
  where
    go : (b : Bool) → eqb nd.up.1 lo ≡ b → SlimNode (relabel lo t nd)
    go true e = rw (e, relabel) h
    go false e = rw (e, relabel) h

slim_hang : (ts : Types) (lo hi : Ty) → Slim ts → Slim (hang ts lo hi)
unfolding Slim hang
slim_hang ts lo hi h =
    every_set SlimNode (map (relabel lo.1 (xor hi.0 lo.0, hi.1)) ts) hi.1 _
    (every_map SlimNode SlimNode (relabel lo.1 (xor hi.0 lo.0, hi.1)) (slim_relabel lo.1 (xor hi.0 lo.0, hi.1)) ts h)
    (slim_or (state_at ts hi.1) (invert_state (xor hi.0 lo.0) (state_at ts lo.1)) (slim_at ts h hi.1) (slim_invert (xor hi.0 lo.0) (state_at ts lo.1) (slim_at ts h lo.1)))

-- A join keeps it.
pub slim_join : (ts : Types) (a b : Ty) → Slim ts → Slim (join ts a b)
unfolding join
slim_join ts a b h = go (larger ts a b) refl
  where
    go : (c : Bool) → larger ts a b ≡ c → Slim (join ts a b)
    go true e = rw (e, join) (slim_hang ts b a h)
    go false e = rw (e, join) (slim_hang ts a b h)

slim_transfer : (src : Types) → WellFormed src → Slim src → (ps : Option (List Ty)) (ts : List Ty) (m : Transfer) → AllIn (length src) ts → Slim m.1 → Slim (transfer_types src ps ts m).1.1
unfolding Slim new_node
slim_transfer src formed slim ps = transfer_carries src formed ps (λ (m : Transfer). Slim m.1)
    (λ m r l e h. every_append SlimNode m.1 (new_node (length m.1) unknown ∷ []) h (tt, tt))
    (λ m n r i kd d cs qs e l h. every_set SlimNode m.1 n (new_node n (known i kd d qs)) h (subst (SlimKnown kd d) (sym l) (subst SlimState e (slim_at src slim r))))

-- An import keeps it.
pub slim_import : (src : Types) → WellFormed src → Slim src → (ps : Option (List Ty)) (ts : List Ty) (dst : Types) → AllIn (length src) ts → Slim dst → Slim (import_types src ps ts dst).1
unfolding import_types
slim_import src formed slim ps ts dst a h = slim_transfer src formed slim ps ts ([], dst) a h

-- Tables of new nodes, by what their states are.
every_new : (P : TypeState → Type 0) (i : ℕ) (sts : List TypeState) → Every P sts → Every (λ (nd : TypeNode). P nd.state) (new_nodes i sts)
unfolding new_nodes new_node
every_new P i [] h = tt
every_new P i (st ∷ sts) h = (h.0, every_new P (suc i) sts h.1)

slim_unknowns : (n : ℕ) → Every SlimState (replicate n unknown)
slim_unknowns zero = tt
slim_unknowns (suc n) = (tt, slim_unknowns n)

-- Fresh unknowns behind a table keep it.
pub slim_fresh : (ts : Types) (n : ℕ) → Slim ts → Slim (ts ++ new_nodes (length ts) (replicate n unknown))
unfolding Slim
slim_fresh ts n h = every_append SlimNode ts (new_nodes (length ts) (replicate n unknown)) h (every_new SlimState (length ts) (replicate n unknown) (slim_unknowns n))

-- What 8 or 12 says of each node of a table.
pub every_table : (P : TypeState → Type 0) (s w : Words) (params h : ℕ) → ((n p : ℕ) → T (node_ok s w params n p) → P (node_state w p)) → T (table_ok s w params h) → Every (λ (nd : TypeNode). P nd.state) (table w h)
unfolding table_ok table
every_table P s w params h f t = every_new P 0 (map (node_state w) (chain w h)) (every_map (λ p. T (node_ok s w params (length (chain w h)) p)) P (node_state w) (f (length (chain w h))) (chain w h) (every_all (node_ok s w params (length (chain w h))) (chain w h) t))

-- The kind table: no entry is over 8.
kinds-most : (i : ℕ) → at kinds i ≤ most_children
unfolding kinds all
kinds-most i = every_at (λ k. k ≤ most_children) kinds i 0 (every_weaken (λ k. T (leb k most_children)) (λ k. k ≤ most_children) (λ k. leb→le k most_children) kinds (every_all (λ k. leb k most_children) kinds tt)) (omega arith)

-- An id of a type with children, kind by kind.
id_small : (s : Words) → ((h : ℕ) → many s h ≤ limit_sheet) → (params d n k : ℕ) → T (ltb k kind_count) → T (ltb d (id_bound s params d k)) → n ≤ kind_row k row_most → 0 < n → d < limit_sheet
unfolding id_bound kinds
id_small s few params d n k l t m h = go k l (ltb→lt d (id_bound s params d k) t) m
  where
    go : (k : ℕ) → T (ltb k kind_count) → d < id_bound s params d k → n ≤ kind_row k row_most → d < limit_sheet
    go zero l t m = absurd (omega arith)
    go (suc zero) l t m = absurd (omega arith)
    go (suc (suc zero)) l t m = omega arith
    go (suc (suc (suc zero))) l t m = le_trans t (few header_opaques)
    go (suc (suc (suc (suc zero)))) l t m = le_trans t (few header_structs)
    go (suc (suc (suc (suc (suc zero))))) l t m = le_trans t (few header_enums)
    go (suc (suc (suc (suc (suc (suc zero)))))) l t m = le_trans t (few header_unions)
    go (suc (suc (suc (suc (suc (suc (suc zero))))))) l t m = absurd (omega arith)
    go (suc (suc (suc (suc (suc (suc (suc (suc zero)))))))) l t m = le_trans t (few header_closures)
    go (suc (suc (suc (suc (suc (suc (suc (suc (suc zero))))))))) l t m = omega arith
    go (suc (suc (suc (suc (suc (suc (suc (suc (suc (suc zero)))))))))) l t m = absurd (omega arith)
    go (suc (suc (suc (suc (suc (suc (suc (suc (suc (suc (suc zero))))))))))) l t m = absurd (omega arith)
    go (suc (suc (suc (suc (suc (suc (suc (suc (suc (suc (suc (suc zero)))))))))))) l t m = absurd (omega arith)
    go (suc (suc (suc (suc (suc (suc (suc (suc (suc (suc (suc (suc (suc zero))))))))))))) l t m = absurd (omega arith)
    go (suc (suc (suc (suc (suc (suc (suc (suc (suc (suc (suc (suc (suc (suc k)))))))))))))) l t m = absurd (not-suc-le-zero t)

slim_node : (s w : Words) → ((h : ℕ) → many s h ≤ limit_sheet) → (params n p : ℕ) → T (node_ok s w params n p) → SlimState (node_state w p)
unfolding node_ok node_fits node_state id_bound
slim_node s w few params n p t = go (eqb (at w (p + node_kind)) kind_unknown) refl
  where
    go : (b : Bool) → eqb (at w (p + node_kind)) kind_unknown ≡ b → SlimState (node_state w p)
    go true e = rw (e, node_state) tt
    go false e =
        rw (e, node_state) (record {
          few = le_trans (leb→le _ _ (part _ t 5)) (kinds-most (row_length * at w (p + node_kind) + row_most));
          low = le_trans (ltb→lt (at w (p + node_kind)) kind_count (part _ t 0)) (omega arith);
          closure = λ c. le_trans (ltb→lt (at w (p + node_id)) (many s header_closures) (subst (λ k. T (ltb (at w (p + node_id)) (id_bound s params (at w (p + node_id)) k))) c (part _ t 3))) (few header_closures);
          small = id_small s few params (at w (p + node_id)) _ (at w (p + node_kind)) (part _ t 0) (part _ t 3) (leb→le _ _ (part _ t 5));
        })

-- A table that passed 8 or 12.
pub slim_table : (s w : Words) → ((h : ℕ) → many s h ≤ limit_sheet) → (params h : ℕ) → T (table_ok s w params h) → Slim (table w h)
unfolding Slim
slim_table s w few params h t = every_table SlimState s w params h (slim_node s w few params) t

-- 8 and 12: a Param is below the count of type parameters.
abbrev pub ParamBelow : ℕ → TypeState → Type 0
ParamBelow n unknown = Unit {0}
ParamBelow n (known i k d cs) = k ≡ kind_param → d < n

param-node : (s w : Words) (params n p : ℕ) → T (node_ok s w params n p) → ParamBelow params (node_state w p)
unfolding node_ok node_fits node_state id_bound
param-node s w params n p t = go (eqb (at w (p + node_kind)) kind_unknown) refl
  where
    go : (b : Bool) → eqb (at w (p + node_kind)) kind_unknown ≡ b → ParamBelow params (node_state w p)
    go true e = rw (e, node_state) tt
    go false e = rw (e, node_state) (λ q. ltb→lt (at w (p + node_id)) params (subst (λ k. T (ltb (at w (p + node_id)) (id_bound s params (at w (p + node_id)) k))) q (part _ t 3)))

-- So is each that is looked up.
pub param_below : (s w : Words) (params h : ℕ) → T (table_ok s w params h) → (n : ℕ) → ParamBelow params (state_at (table w h) n)
unfolding state_at node_at new_node
param_below s w params h t n = every_at (λ (nd : TypeNode). ParamBelow params nd.state) (table w h) n (new_node 0 unknown) (every_table (ParamBelow params) s w params h (param-node s w params) t) tt

-- Without type parameters there is none, and nothing for one to stand for.
pub no_params : (s w : Words) (h : ℕ) → T (table_ok s w 0 h) → (ps : Option (List Ty)) (n : ℕ) → param_for ps (state_at (table w h) n) ≡ none
unfolding param_for
no_params s w h t none n = refl
no_params s w h t (some ps) n = go (state_at (table w h) n) (param_below s w 0 h t n)
  where
    go : (st : TypeState) → ParamBelow 0 st → param_for (some ps) st ≡ none
    go unknown b = refl
    go (known i k d cs) b = test (eqb k kind_param) refl
      where
        test : (c : Bool) → eqb k kind_param ≡ c → param_for (some ps) (known i k d cs) ≡ none
        test true e = absurd (not-suc-le-zero {n = d} (b (eqb→eq k kind_param (subst T (sym e) tt))))
        test false e = rw (e, param_for)
