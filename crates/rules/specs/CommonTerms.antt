-- Candidates and impl parameters of the caller's generics on the way to their join with the question: what a join that succeeds is, how an import goes on, Params without children, and how many nodes are taken.
use Rattle.std.specs.Prelude.{ℕ, zero, suc, ◌+◌, ◌≤◌, ◌<◌, ◌≡◌, refl, Bool, true, false, ◌||◌, List, [], ◌∷◌, ◌++◌, T, eqb, leb, length, set, replicate}
use Rattle.std.proofs.Common.{sym, ◌∙◌, ap, subst, ⊎_elim, not-suc-le-zero, le_refl, le_trans, lt_irrefl, arith, eqb→eq, leb→le, length-append, length-set}
use Rattle.std.proofs.Math.Option.{Option, none, some, none-ne-some}
use Rattle.std.proofs.Math.Decide.{ℕ_discrete}
use Rattle.std.proofs.Math.ListN.{get_or-append}
use Rattle.rules.specs.Lists.{Words}
use Rattle.rules.specs.Limits.{limit_type_params}
use Rattle.rules.specs.Layout.{header_impls, node_kind, node_children, kind_unknown, kind_param}
use Rattle.rules.specs.Sheet.{at, many, field, kinds, kind_row, row_most, type_params, generics_table, impl_generics}
use Rattle.rules.specs.Types.{Ty, TypeState, unknown, known, TypeNode, Types, new_node, node_at, state_at, invert_if, find, success, unify_types, unify, ImplType, unify_impl_type}
use Rattle.rules.specs.Transfer.{Transfer, mapped, param_for, transfer_each, transfer_in, import_impl_type, cell_types, node_state, new_nodes}
use Rattle.rules.specs.Values.{node_fits, node_ok, generics_ok}
use Rattle.rules.specs.Search.{Finder, impl_signature, impl_params, fresh_params, with_fresh}
use Rattle.rules.specs.Solutions.{rep, AllIn, WellFormed, Readable}
use Rattle.rules.specs.MostGeneral.{Won, AfterAll, each_right, unify_in_right}
use Rattle.rules.specs.AcyclicLaws.{lt_or}
use Rattle.rules.specs.TransferKeeps.{snoc_at, snoc_off, set_at, set_off}
use Rattle.rules.specs.CheckedSheet.{part}
use Rattle.rules.specs.CheckedTables.{Ready}
use Rattle.rules.specs.Yields.{every_at}
use Rattle.rules.specs.Carried.{pushed}
use Rattle.rules.specs.Slim.{every_table}
use Rattle.rules.specs.TransferCount.{mapped_other, import_most}
use Rattle.rules.specs.Neat.{fresh-length, impl_generics_in, signature_neat, signature_in, impl_params_neat}
use Rattle.rules.specs.SearchKeeps.{fresh_count, signed}

-- A success of `unify_impl_type`: its solutions are those of the table before at which the arguments agree.
pub impl_type_right : (s : Words) (ts : Types) (a b : ImplType) → WellFormed ts → AllIn (length ts) a.1 → AllIn (length ts) b.1 → Readable ts → (unify_impl_type s ts a b).0 ≡ success → AfterAll ts a.1 b.1 (unify_impl_type s ts a b).1 × Readable (unify_impl_type s ts a b).1
unfolding unify_impl_type unify_types unify
impl_type_right s ts a b formed ax ay k won = go (eqb a.0 0 || eqb b.0 0) refl (eqb a.0 b.0) refl (eqb (length a.1) (length b.1)) refl (subst Won (sym won) tt)
  where
    go : (o : Bool) → (eqb a.0 0 || eqb b.0 0) ≡ o → (p : Bool) → eqb a.0 b.0 ≡ p → (q : Bool) → eqb (length a.1) (length b.1) ≡ q → Won (unify_impl_type s ts a b).0 → AfterAll ts a.1 b.1 (unify_impl_type s ts a b).1 × Readable (unify_impl_type s ts a b).1
    go true e p e' q e'' w = absurd (rw (e, unify_impl_type) at w)
    go false e false e' q e'' w = absurd (rw (e, e', unify_impl_type) at w)
    go false e true e' false e'' w = absurd (rw (e, e', unify_impl_type, e'', unify_types) at w)
    go false e true e' true e'' w = rw (e, e', unify_impl_type) (rw (e'', unify_types) (each_right (unify s) (λ us. unify_in_right (suc (length us)) s us) ts a.1 b.1 formed ax ay (eqb→eq (length a.1) (length b.1) (subst T (sym e'') tt)) k (rw (e, e', unify_impl_type, e'', unify_types) at w)))

-- A transfer goes on from m to m': nodes stay as they are and roots where they went, and new nodes are their own roots.
pub record Frame (m m' : Transfer) : Type 0 where
  pub long : length m.1 ≤ length m'.1
  pub nodes : (n : ℕ) → n < length m.1 → node_at m'.1 n ≡ node_at m.1 n
  pub flat : (n : ℕ) → length m.1 ≤ n → n < length m'.1 → rep m'.1 n ≡ n
  pub went : (r : ℕ) (u : Ty) → mapped m.0 r ≡ some u → mapped m'.0 r ≡ some u

frame_refl : (m : Transfer) → Frame m m
frame_refl m = record { long = le_refl _; nodes = λ n h. refl; flat = λ n l h. absurd (omega arith); went = λ r u e. e }

frame_trans : (m m' m'' : Transfer) → Frame m m' → Frame m' m'' → Frame m m''
unfolding rep
frame_trans m m' m'' p q = record {
  long = le_trans p.long q.long;
  nodes = λ n h. q.nodes n (le_trans h p.long) ∙ p.nodes n h;
  flat = λ n l h. ⊎_elim (λ b. ap (λ (x : TypeNode). x.up.1) (q.nodes n b) ∙ p.flat n l b) (λ b. q.flat n b h) (lt_or n (length m'.1));
  went = λ r u e. q.went r u (p.went r u e);
}

-- A root not yet mapped is pushed,
frame_push : (m : Transfer) (r : ℕ) → mapped m.0 r ≡ none → Frame m (pushed m r)
unfolding rep new_node
frame_push m r e = record { long = omega (arith, len); nodes = λ n h. snoc_off m.1 (new_node (length m.1) unknown) n h; flat = flat'; went = λ x u q. went' x u q (ℕ_discrete r x) }
  where
    len : length (m.1 ++ (new_node (length m.1) unknown ∷ [])) ≡ length m.1 + 1
    len = length-append m.1 (new_node (length m.1) unknown ∷ [])

    flat' : (n : ℕ) → length m.1 ≤ n → n < length (m.1 ++ (new_node (length m.1) unknown ∷ [])) → rep (m.1 ++ (new_node (length m.1) unknown ∷ [])) n ≡ n
    flat' n l h =
        let q : n ≡ length m.1 = omega (arith, len) in
        subst (λ x. rep (m.1 ++ (new_node (length m.1) unknown ∷ [])) x ≡ x) (sym q) (ap (λ (nd : TypeNode). nd.up.1) (snoc_at m.1 (new_node (length m.1) unknown)))

    went' : (x : ℕ) (u : Ty) → mapped m.0 x ≡ some u → Dec (r ≡ x) → mapped ((r, (false, length m.1)) ∷ m.0) x ≡ some u
    went' x u q (yes z) = absurd (none-ne-some u (sym e ∙ ap (mapped m.0) z ∙ q))
    went' x u q (no z) = mapped_other m.0 r (false, length m.1) x z ∙ q

-- and filled.
frame_fill : (m q : Transfer) (st : TypeState) → length m.1 < length q.1 → Frame m q → Frame m (q.0, set q.1 (length m.1) (new_node (length m.1) st))
unfolding rep new_node
frame_fill m q st b f = record {
  long = omega (arith, len);
  nodes = λ n h. set_off q.1 (length m.1) n (new_node (length m.1) st) (λ e. lt_irrefl n (omega arith)) ∙ f.nodes n h;
  flat = λ n l h. flat' n l (omega (arith, len)) (ℕ_discrete n (length m.1));
  went = f.went;
}
  where
    len : length (set q.1 (length m.1) (new_node (length m.1) st)) ≡ length q.1
    len = length-set q.1 (length m.1) (new_node (length m.1) st)

    flat' : (n : ℕ) → length m.1 ≤ n → n < length q.1 → Dec (n ≡ length m.1) → rep (set q.1 (length m.1) (new_node (length m.1) st)) n ≡ n
    flat' n l h (yes e) = subst (λ x. rep (set q.1 (length m.1) (new_node (length m.1) st)) x ≡ x) (sym e) (ap (λ (x : TypeNode). x.up.1) (set_at q.1 (length m.1) (new_node (length m.1) st) b))
    flat' n l h (no d) = ap (λ (x : TypeNode). x.up.1) (set_off q.1 (length m.1) n (new_node (length m.1) st) d) ∙ f.flat n l h

-- What the nodes are, then.
pub frame_state : (m q : Transfer) (n : ℕ) → n < length m.1 → Frame m q → state_at q.1 n ≡ state_at m.1 n
unfolding state_at
frame_state m q n h f = ap (λ (x : TypeNode). x.state) (f.nodes n h)

pub snoc_state : (xs : Types) (st : TypeState) → state_at (xs ++ (new_node (length xs) st ∷ [])) (length xs) ≡ st
unfolding state_at new_node
snoc_state xs st = ap (λ (x : TypeNode). x.state) (snoc_at xs (new_node (length xs) st))

pub set_state : (xs : Types) (n : ℕ) (st : TypeState) → n < length xs → state_at (set xs n (new_node n st)) n ≡ st
unfolding state_at new_node
set_state xs n st h = ap (λ (x : TypeNode). x.state) (set_at xs n (new_node n st) h)

-- Every transfer goes on so.
pub each_frame : (f : Ty → Transfer → Ty × Transfer) → ((t : Ty) (m : Transfer) → Frame m (f t m).1) → (cs : List Ty) (m : Transfer) → Frame m (transfer_each f cs m).1
unfolding transfer_each
each_frame f fr [] m = frame_refl m
each_frame f fr (c ∷ cs) m = frame_trans m (f c m).1 _ (fr c m) (each_frame f fr cs (f c m).1)

-- A node that was pushed is there.
pub past_push : (m q : Transfer) (r : ℕ) → Frame (pushed m r) q → length m.1 < length q.1
past_push m q r f = omega (arith, f.long, length-append m.1 (new_node (length m.1) unknown ∷ []))

-- `transfer_type`, to any depth.
pub in_frame : (src : Types) (ps : Option (List Ty)) (k : ℕ) (t : Ty) (m : Transfer) → Frame m (transfer_in k src ps t m).1
unfolding transfer_in find invert_if rep
in_frame src ps zero t m = frame_refl m
in_frame src ps (suc k) t m = go (mapped m.0 (rep src t.1)) refl (param_for ps (state_at src (rep src t.1))) refl (state_at src (rep src t.1)) refl (in_frame src ps k)
  where
    go : (o : Option Ty) → mapped m.0 (rep src t.1) ≡ o → (u : Option Ty) → param_for ps (state_at src (rep src t.1)) ≡ u → (st : TypeState) → state_at src (rep src t.1) ≡ st → ((t : Ty) (m : Transfer) → Frame m (transfer_in k src ps t m).1) → Frame m (transfer_in (suc k) src ps t m).1
    go (some u) e w f st q ih = rw (e, transfer_in) (frame_refl m)
    go none e (some u) f st q ih = rw (e, f, transfer_in) (frame_refl m)
    go none e none f unknown q ih = rw (e, f, q, transfer_in) (frame_push m (rep src t.1) e)
    go none e none f (known i kd d cs) q ih =
        rw (e, f, q, transfer_in)
        (let w = transfer_each (λ c w. transfer_in k src ps c w) cs (pushed m (rep src t.1)) in
        let g = each_frame (λ c w. transfer_in k src ps c w) ih cs (pushed m (rep src t.1)) in
        frame_fill m w.1 (known i kd d w.0) (past_push m w.1 (rep src t.1) g) (frame_trans m (pushed m (rep src t.1)) w.1 (frame_push m (rep src t.1) e) g))

-- Nodes stay where fresh unknowns come behind them.
pub fresh_first : (ts : Types) (n k : ℕ) → k < length ts → node_at (with_fresh ts n) k ≡ node_at ts k
unfolding with_fresh node_at
fresh_first ts n k h = get_or-append ts (new_nodes (length ts) (replicate n unknown)) (new_node 0 unknown) k h

-- A Param without children.
abbrev pub Bare : TypeState → Type 0
Bare unknown = Unit {0}
Bare (known i k d cs) = k ≡ kind_param → cs ≡ []

-- 8: a Param has no children,
bare_node : (s w : Words) (params n p : ℕ) → T (node_ok s w params n p) → Bare (node_state w p)
unfolding node_ok node_fits node_state kinds
bare_node s w params n p t = go (eqb (at w (p + node_kind)) kind_unknown) refl
  where
    none_left : (cs : List Ty) → T (leb (length cs) 0) → cs ≡ []
    none_left [] h = refl
    none_left (c ∷ cs) h = absurd (not-suc-le-zero {n = length cs} (leb→le _ 0 h))

    go : (b : Bool) → eqb (at w (p + node_kind)) kind_unknown ≡ b → Bare (node_state w p)
    go true e = rw (e, node_state) tt
    go false e = rw (e, node_state) (λ k. none_left (cell_types w (at w (p + node_children))) (subst (λ x. T (leb (length (cell_types w (at w (p + node_children)))) (kind_row x row_most))) k (part _ t 5)))

-- so none has in the table of the caller's impl parameters.
pub params_bare : (a : Finder) (w₀ : Words) → Ready a w₀ → (n : ℕ) → Bare (state_at (impl_params a.sheet a.generics).0 n)
unfolding impl_params generics_ok generics_table field state_at node_at new_node
params_bare a w₀ ready n = every_at (λ (x : TypeNode). Bare x.state) (impl_params a.sheet a.generics).0 n (new_node 0 unknown) (every_table Bare a.sheet a.sheet _ (generics_table a.sheet a.generics) (bare_node a.sheet a.sheet _) (part _ (ready.values.generics a.generics ready.generics) 1)) tt

-- A candidate takes at most as many nodes as it has type parameters and its signature's table has nodes,
pub signed-most : (a : Finder) (w₀ : Words) → Ready a w₀ → (ts : Types) (i : ℕ) → i < many a.sheet header_impls → length (signed a.sheet ts i).1 ≤ length ts + fresh_count a.sheet i + length (impl_signature a.sheet i).0
unfolding import_impl_type
signed-most a w₀ ready ts i h = omega (arith, import_most (impl_signature a.sheet i).0 (signature_neat a w₀ ready i h).proper.formed (some (fresh_params ts (fresh_count a.sheet i))) (impl_signature a.sheet i).1.1 (with_fresh ts (fresh_count a.sheet i)) (signature_in a w₀ ready i h), fresh-length ts (fresh_count a.sheet i))

-- and it has at most 8 type parameters.
pub fresh-most : (a : Finder) (w₀ : Words) → Ready a w₀ → (i : ℕ) → i < many a.sheet header_impls → fresh_count a.sheet i ≤ limit_type_params
unfolding generics_ok type_params field
fresh-most a w₀ ready i h = leb→le _ limit_type_params (part _ (ready.values.generics (impl_generics a.sheet i) (impl_generics_in a w₀ ready i h)) 0)

-- An impl parameter of the caller's generics takes at most as many nodes as their table has.
pub param-most : (a : Finder) (w₀ : Words) → Ready a w₀ → (ts : Types) (p : ImplType) → AllIn (length (impl_params a.sheet a.generics).0) p.1 → length (import_impl_type (impl_params a.sheet a.generics).0 none p ts).1 ≤ length ts + length (impl_params a.sheet a.generics).0
unfolding import_impl_type
param-most a w₀ ready ts p into = import_most (impl_params a.sheet a.generics).0 (impl_params_neat a w₀ ready a.generics ready.generics).proper.formed none p.1 ts into
