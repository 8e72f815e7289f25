-- What an import leaves, node by node: every node of its source that came stands at a new node of its own, over what its children came to, and the nodes before are as they were. And so does a candidate's signature, brought into the question's table.
use Prim.Native.Nat.{ℕ, zero, suc, ◌≤◌, ◌<◌}
use Rattle.std.specs.Prelude.{◌≡◌, Bool, true, false, ◌⊎◌, get_or, set}
use Rattle.std.proofs.Math.Path.{refl, ap, ap₂, subst}
use Rattle.std.proofs.Common.{sym, ◌∙◌, inr, not-suc-le-zero, le_trans, lt_irrefl, arith, length-append, length-set}
use mathlib.Core.List.{List, [], ◌∷◌, map}
use Rattle.std.proofs.Math.Option.{Option, none, some, none-ne-some}
use Rattle.std.proofs.Math.Logic.{inl, ⊎_elim}
use Rattle.std.proofs.Math.Dec.{T}
use Rattle.std.proofs.Math.ListN.{length}
use Rattle.rules.specs.Layout.{header_impls}
use Rattle.rules.specs.Lists.{Words}
use Rattle.rules.specs.Sheet.{many, impl_table}
use Rattle.rules.specs.Types.{Ty, TypeState, unknown, known, TypeNode, Types, new_node, node_at, invert_if, find, state_at}
use Rattle.rules.specs.Transfer.{Transfer, mapped, param_for, transfer_each, transfer_in, transfer_types, import_types, import_impl_type}
use Rattle.rules.specs.Search.{Finder, impl_signature, fresh_params, with_fresh}
use Rattle.rules.specs.Solutions.{rep, AllIn, ChildrenIn, WellFormed}
use Rattle.rules.specs.AcyclicLaws.{lt_or, past_end}
use Rattle.rules.specs.RootRank.{rank, child_in}
use Rattle.rules.specs.Readings.{Ranked, readable_ranked, readable_most}
use Rattle.rules.specs.TransferKeeps.{snoc_at, set_at, set_off}
use Rattle.rules.specs.CheckedTables.{table-flat, Ready}
use Rattle.rules.specs.Carried.{pushed}
use Rattle.rules.specs.TransferCount.{mapped_here, push_cases}
use Rattle.rules.specs.Neat.{Neat, signature_neat, signature_in}
use Rattle.rules.specs.SearchKeeps.{fresh_count, signed}
use Rattle.rules.specs.CommonTerms.{Frame, each_frame, past_push, in_frame}
use Rattle.rules.specs.CommonSides.{xor-none}
use Rattle.rules.specs.ErrorsApart.{import_once}

-- The type that a type of the source is, where φ says what its nodes are,
abbrev pub carried : (ℕ → Ty) → Ty → Ty
carried φ c = invert_if c.0 (φ c.1)

-- and a state over such types.
unfoldable pub carried_state : (ℕ → Ty) → TypeState → TypeState
carried_state φ unknown = unknown
carried_state φ (known i k d cs) = known i k d (map (carried φ) cs)

-- The nodes of some types are all here.
abbrev pub AllHere : (ℕ → Bool) → List Ty → Type 0
AllHere h [] = Unit {0}
AllHere h (c ∷ cs) = T (h c.1) × AllHere h cs

-- The types xs of src came into dst, with ps for its parameters: res has what they are there, and the table that is left.
pub record Placed (src : Types) (ps : Option (List Ty)) (dst : Types) (xs : List Ty) (res : List Ty × Types) : Type 0 where
  -- What a node of the source is there, and whether it came or a parameter stands for it.
  pub at : ℕ → Ty
  pub here : ℕ → Bool
  pub inside : (r : ℕ) → T (here r) → r < length src
  pub param : (r : ℕ) (u : Ty) → T (here r) → param_for ps (state_at src r) ≡ some u → at r ≡ u
  -- One for which none stands is at a new node, as it was, over its children, which are here as well.
  pub upright : (r : ℕ) → T (here r) → param_for ps (state_at src r) ≡ none → (at r).0 ≡ false
  pub new : (r : ℕ) → T (here r) → param_for ps (state_at src r) ≡ none → (length dst ≤ (at r).1) × ((at r).1 < length res.1)
  pub node : (r : ℕ) → T (here r) → param_for ps (state_at src r) ≡ none → node_at res.1 (at r).1 ≡ new_node (at r).1 (carried_state at (state_at src r))
  pub below : (r : ℕ) → T (here r) → param_for ps (state_at src r) ≡ none → (i : Bool) (k d : ℕ) (cs : List Ty) → state_at src r ≡ known i k d cs → AllHere here cs
  -- No two are at one.
  pub one : (r r' : ℕ) → T (here r) → T (here r') → param_for ps (state_at src r) ≡ none → param_for ps (state_at src r') ≡ none → (at r).1 ≡ (at r').1 → r ≡ r'
  -- The nodes of dst are as they were.
  pub long : length dst ≤ length res.1
  pub old : (n : ℕ) → n < length dst → node_at res.1 n ≡ node_at dst n
  -- All of xs came.
  pub came : res.0 ≡ map (carried at) xs
  pub all : AllHere here xs

-- The type in an option, and whether there is one.
unfoldable type_in : Option Ty → Ty
type_in none = (false, 0)
type_in (some u) = u

unfoldable is_in : Option Ty → Bool
is_in none = false
is_in (some u) = true

-- Nothing stands for an unknown.
no_param : (ps : Option (List Ty)) → param_for ps unknown ≡ none
unfolding param_for
no_param none = refl
no_param (some ps) = refl

-- All children of a state are here.
abbrev Below : (ℕ → Bool) → TypeState → Type 0
Below h unknown = Unit {0}
Below h (known i k d cs) = AllHere h cs

-- What is here by h is here by h', and φ' says of it what φ says: so it is with types, and with a state over them.
module _ (h h' : ℕ → Bool) (φ φ' : ℕ → Ty) (same : (r : ℕ) → T (h r) → T (h' r) × (φ' r ≡ φ r)) where
  types_on : (cs : List Ty) → AllHere h cs → AllHere h' cs × (map (carried φ') cs ≡ map (carried φ) cs)
  types_on [] a = (tt, refl)
  types_on (c ∷ cs) a =
      let x = same c.1 a.0 in
      let y = types_on cs a.1 in
      ((x.0, y.0), ap₂ ◌∷◌ (ap (invert_if c.0) x.1) y.1)

  state_on : (st : TypeState) → Below h st → Below h' st × (carried_state φ' st ≡ carried_state φ st)
  unfolding carried_state
  state_on unknown b = (tt, refl)
  state_on (known i k d cs) b = let x = types_on cs b in (x.0, ap (known i k d) x.1)

-- A source whose nodes are their own roots, ranked by δ.
module _ (src : Types) (formed : WellFormed src) (own : (n : ℕ) → n < length src → (node_at src n).up ≡ (false, n)) (δ : ℕ → ℕ) (ranked : Ranked src δ) (ps : Option (List Ty)) where
  -- What a node of the source is, by a mapping: what stands for it as a Param, or where it went.
  unfoldable stands : List (ℕ × Ty) → ℕ → Option Ty
  stands ms r = elim (param_for ps (state_at src r)) [ some u ↦ some u | none ↦ mapped ms r ]

  abbrev type_of : List (ℕ × Ty) → ℕ → Ty
  type_of ms r = type_in (stands ms r)

  abbrev is_here : List (ℕ × Ty) → ℕ → Bool
  is_here ms r = is_in (stands ms r)

  as_param : (ms : List (ℕ × Ty)) (r : ℕ) (u : Ty) → param_for ps (state_at src r) ≡ some u → stands ms r ≡ some u
  unfolding stands
  as_param ms r u p = rw (p, stands)

  as_mapped : (ms : List (ℕ × Ty)) (r : ℕ) → param_for ps (state_at src r) ≡ none → stands ms r ≡ mapped ms r
  unfolding stands
  as_mapped ms r p = rw (p, stands)

  -- It is here,
  is_there : (ms : List (ℕ × Ty)) (r : ℕ) (u : Ty) → stands ms r ≡ some u → T (is_here ms r) × (type_of ms r ≡ u)
  unfolding is_in type_in
  is_there ms r u e = (subst (λ o. T (is_in o)) (sym e) tt, ap type_in e)

  -- and what is here is something.
  what_stands : (ms : List (ℕ × Ty)) (r : ℕ) → T (is_here ms r) → stands ms r ≡ some (type_of ms r)
  unfolding is_in type_in
  what_stands ms r = go (stands ms r)
    where
      go : (o : Option Ty) → T (is_in o) → o ≡ some (type_in o)
      go none h = absurd h
      go (some u) h = refl

  -- It stays so as a transfer goes on.
  stands_on : (m m' : Transfer) → Frame m m' → (r : ℕ) → T (is_here m.0 r) → T (is_here m'.0 r) × (type_of m'.0 r ≡ type_of m.0 r)
  stands_on m m' f r h = is_there m'.0 r (type_of m.0 r) (go (param_for ps (state_at src r)) refl)
    where
      go : (o : Option Ty) → param_for ps (state_at src r) ≡ o → stands m'.0 r ≡ some (type_of m.0 r)
      go (some u) p = as_param m'.0 r u p ∙ sym (as_param m.0 r u p) ∙ what_stands m.0 r h
      go none p = as_mapped m'.0 r p ∙ f.went r (type_of m.0 r) (sym (as_mapped m.0 r p) ∙ what_stands m.0 r h)

  -- Root r went to a node that was pushed between m and m', and is filled by then.
  record Came (m m' : Transfer) (r : ℕ) (u : Ty) : Type 0 where
    low : length m.1 ≤ u.1
    high : u.1 < length m'.1
    node : node_at m'.1 u.1 ≡ new_node u.1 (carried_state (type_of m'.0) (state_at src r))
    below : Below (is_here m'.0) (state_at src r)

  abbrev Comes : Transfer → Transfer → Type 0
  Comes m m' = (r : ℕ) (u : Ty) → mapped m'.0 r ≡ some u → (mapped m.0 r ≡ some u) ⊎ Came m m' r u

  comes_trans : (m m' m'' : Transfer) → Frame m m' → Frame m' m'' → Comes m m' → Comes m' m'' → Comes m m''
  comes_trans m m' m'' f g p q r u e = ⊎_elim (λ z. ⊎_elim inl (λ c. inr (later c)) (p r u z)) (λ c. inr (record { low = le_trans f.long c.low; high = c.high; node = c.node; below = c.below })) (q r u e)
    where
      later : Came m m' r u → Came m m'' r u
      later c =
          let s = state_on (is_here m'.0) (is_here m''.0) (type_of m'.0) (type_of m''.0) (stands_on m' m'' g) (state_at src r) c.below in
          record { low = c.low; high = le_trans c.high g.long; node = g.nodes u.1 c.high ∙ c.node ∙ ap (new_node u.1) (sym s.1); below = s.0 }

  -- Only nodes of the source for which no parameter stands went somewhere, each to an upright type.
  abbrev Sound : Transfer → Type 0
  Sound m = (r : ℕ) (u : Ty) → mapped m.0 r ≡ some u → (r < length src) × (param_for ps (state_at src r) ≡ none) × (u.0 ≡ false)

  sound_push : (m : Transfer) (r : ℕ) → r < length src → param_for ps (state_at src r) ≡ none → Sound m → Sound (pushed m r)
  sound_push m r h p v x u e = ⊎_elim (v x u) (λ z. (subst (λ k. k < length src) z.0 h, subst (λ k. param_for ps (state_at src k) ≡ none) z.0 p, z.2)) (push_cases m r x u e)

  -- A type that was moved, and a list of them.
  record Moved (m : Transfer) (t : Ty) (res : Ty × Transfer) : Type 0 where
    sound : Sound res.1
    comes : Comes m res.1
    there : T (is_here res.1.0 t.1)
    is : res.0 ≡ carried (type_of res.1.0) t

  record AllMoved (m : Transfer) (cs : List Ty) (res : List Ty × Transfer) : Type 0 where
    sound : Sound res.1
    comes : Comes m res.1
    there : AllHere (is_here res.1.0) cs
    are : res.0 ≡ map (carried (type_of res.1.0)) cs

  -- A type that stands for u by then.
  moved_to : (m : Transfer) (t u : Ty) (res : Ty × Transfer) → Sound res.1 → Comes m res.1 → stands res.1.0 t.1 ≡ some u → res.0 ≡ invert_if t.0 u → Moved m t res
  moved_to m t u res v c e q = let w = is_there res.1.0 t.1 u e in record { sound = v; comes = c; there = w.0; is = q ∙ ap (invert_if t.0) (sym w.1) }

  -- A way to move types of rank below k that is right.
  abbrev Moves : ℕ → (Ty → Transfer → Ty × Transfer) → Type 0
  Moves k way = (t : Ty) → t.1 < length src → δ t.1 < k → (m : Transfer) → Sound m → Moved m t (way t m)

  all_moved : (k : ℕ) (way : Ty → Transfer → Ty × Transfer) → ((t : Ty) (m : Transfer) → Frame m (way t m).1) → Moves k way → (cs : List Ty) → ((j : ℕ) → j < length cs → ((get_or cs j (false, 0)).1 < length src) × (δ (get_or cs j (false, 0)).1 < k)) → (m : Transfer) → Sound m → AllMoved m cs (transfer_each way cs m)
  unfolding transfer_each
  all_moved k way fr moves [] in_src m v = record { sound = v; comes = λ r u e. inl e; there = tt; are = refl }
  all_moved k way fr moves (c ∷ cs) in_src m v =
      let m₁ = (way c m).1 in
      let m₂ = (transfer_each way cs m₁).1 in
      let a = moves c (in_src 0 (omega arith)).0 (in_src 0 (omega arith)).1 m v in
      let b = all_moved k way fr moves cs (λ j l. in_src (suc j) (omega arith)) m₁ a.sound in
      let g = each_frame way fr cs m₁ in
      let s = stands_on m₁ m₂ g c.1 a.there in
      record {
        sound = b.sound;
        comes = comes_trans m m₁ m₂ (fr c m) g a.comes b.comes;
        there = (s.0, b.there);
        are = ap₂ ◌∷◌ (a.is ∙ ap (invert_if c.0) (sym s.1)) b.are;
      }

  -- A type of the source is its own root.
  self : (t : Ty) → t.1 < length src → find src t ≡ t
  unfolding find invert_if
  self t h = ap (invert_if t.0) (own t.1 h) ∙ ap (λ b. (b, t.1)) (xor-none t.0)

  root : (n : ℕ) → n < length src → rep src n ≡ n
  unfolding rep
  root n h = ap (λ (t : Ty). t.1) (own n h)

  -- A type whose root went to node n.
  side_of : (t : Ty) (n : ℕ) → (t.0, n) ≡ invert_if t.0 (false, n)
  unfolding invert_if
  side_of t n = ap (λ b. (b, n)) (sym (xor-none t.0))

  -- `transfer_type` with enough levels is right.
  in_moves : (k : ℕ) → Moves k (transfer_in k src ps)
  unfolding transfer_in carried_state
  in_moves zero t ht hk m v = absurd (not-suc-le-zero hk)
  in_moves (suc k) t ht hk m v = go (mapped m.0 t.1) refl (param_for ps (state_at src t.1)) refl (state_at src t.1) refl (in_moves k)
    where
      n : ℕ
      n = length m.1

      same : find src t ≡ t
      same = self t ht

      longer : length (pushed m t.1).1 ≡ suc n
      longer = omega (arith, length-append m.1 (new_node (length m.1) unknown ∷ []))

      -- Node n of a transfer that went on from the push is what the root's state is, carried.
      come : (m' : Transfer) (st : TypeState) → state_at src t.1 ≡ st → n < length m'.1 → node_at m'.1 n ≡ new_node n (carried_state (type_of m'.0) st) → Below (is_here m'.0) st → (x : ℕ) (u : Ty) → (t.1 ≡ x) × (u.1 ≡ n) × (u.0 ≡ false) → Came m m' x u
      come m' st q b nd w x u z =
          let sx : state_at src x ≡ st = ap (state_at src) (sym z.0) ∙ q in
          record {
            low = omega (arith, z.1);
            high = omega (arith, z.1);
            node = subst (λ y. node_at m'.1 y ≡ new_node y (carried_state (type_of m'.0) (state_at src x))) (sym z.1) (nd ∙ ap (λ y. new_node n (carried_state (type_of m'.0) y)) (sym sx));
            below = subst (Below (is_here m'.0)) (sym sx) w;
          }

      kids : (i : Bool) (kd d : ℕ) (cs : List Ty) → state_at src t.1 ≡ known i kd d cs → (j : ℕ) → j < length cs → ((get_or cs j (false, 0)).1 < length src) × (δ (get_or cs j (false, 0)).1 < k)
      kids i kd d cs q j b =
          let q' = ap (state_at src) (root t.1 ht) ∙ q in
          (child_in (length src) cs j (subst (ChildrenIn (length src)) q' (formed t.1 ht).2) b, omega (arith, ranked.falls t.1 ht i kd d cs q' j b))

      filled : param_for ps (state_at src t.1) ≡ none → (i : Bool) (kd d : ℕ) (cs : List Ty) → state_at src t.1 ≡ known i kd d cs → (res : List Ty × Transfer) → Frame (pushed m t.1) res.1 → AllMoved (pushed m t.1) cs res → Moved m t ((t.0, n), (res.1.0, set res.1.1 n (new_node n (known i kd d res.0))))
      filled p i kd d cs q res f a =
          moved_to m t (false, n) ((t.0, n), (res.1.0, us)) a.sound (λ x u z. ⊎_elim (λ y. ⊎_elim inl (λ w. inr (come (res.1.0, us) (known i kd d cs) q (omega (arith, inside, len)) at_new a.there x u w)) (push_cases m t.1 x u y)) (λ c. inr (behind x u c)) (a.comes x u z))
          (as_mapped res.1.0 t.1 p ∙ f.went t.1 (false, n) (mapped_here m.0 t.1 (false, n))) (side_of t n)
        where
          us : Types
          us = set res.1.1 n (new_node n (known i kd d res.0))

          len : length us ≡ length res.1.1
          len = length-set res.1.1 n (new_node n (known i kd d res.0))

          inside : n < length res.1.1
          inside = past_push m res.1 t.1 f

          at_new : node_at us n ≡ new_node n (known i kd d (map (carried (type_of res.1.0)) cs))
          at_new = set_at res.1.1 n (new_node n (known i kd d res.0)) inside ∙ ap (λ ys. new_node n (known i kd d ys)) a.are

          behind : (x : ℕ) (u : Ty) → Came (pushed m t.1) res.1 x u → Came m (res.1.0, us) x u
          behind x u c = record {
            low = omega (arith, c.low, longer);
            high = omega (arith, c.high, len);
            node = set_off res.1.1 n u.1 (new_node n (known i kd d res.0)) (λ e. lt_irrefl n (omega (arith, c.low, longer, e))) ∙ c.node;
            below = c.below;
          }

      go : (o : Option Ty) → mapped m.0 t.1 ≡ o → (u : Option Ty) → param_for ps (state_at src t.1) ≡ u → (st : TypeState) → state_at src t.1 ≡ st → Moves k (transfer_in k src ps) → Moved m t (transfer_in (suc k) src ps t m)
      go (some u) e w p st q ih = rw (same, e, same, transfer_in) (moved_to m t u _ v (λ x y z. inl z) (as_mapped m.0 t.1 (v t.1 u e).1 ∙ e) refl)
      go none e (some u) p st q ih = rw (same, e, same, p, same, transfer_in) (moved_to m t u _ v (λ x y z. inl z) (as_param m.0 t.1 u p) refl)
      go none e none p unknown q ih =
          rw (same, e, same, p, same, q, same, transfer_in)
          (moved_to m t (false, n) ((t.0, n), pushed m t.1) (sound_push m t.1 ht p v) (λ x u z. ⊎_elim inl (λ y. inr (come (pushed m t.1) unknown q (omega (arith, longer)) (snoc_at m.1 (new_node n unknown)) tt x u y)) (push_cases m t.1 x u z))
          (as_mapped (pushed m t.1).0 t.1 p ∙ mapped_here m.0 t.1 (false, n)) (side_of t n))
      go none e none p (known i kd d cs) q ih =
          rw (same, e, same, p, same, q, same, transfer_in)
          (filled p i kd d cs q (transfer_each (λ c w. transfer_in k src ps c w) cs (pushed m t.1)) (each_frame (λ c w. transfer_in k src ps c w) (in_frame src ps k) cs (pushed m t.1))
          (all_moved k (λ c w. transfer_in k src ps c w) (in_frame src ps k) ih cs (kids i kd d cs q) (pushed m t.1) (sound_push m t.1 ht p v)))

  -- What a parameter stands for is a node of the source.
  param_in : (r : ℕ) (u : Ty) → param_for ps (state_at src r) ≡ some u → r < length src
  unfolding state_at node_at new_node
  param_in r u e = ⊎_elim (λ l. l) (λ l. absurd (none-ne-some u (sym (no_param ps) ∙ ap (λ (x : TypeNode). param_for ps x.state) (sym (past_end src r (new_node 0 unknown) l)) ∙ e))) (lt_or r (length src))

  -- The import of types.
  placed_by : ((n : ℕ) → δ n < suc (length src)) → (dst : Types) (xs : List Ty) → AllIn (length src) xs → Placed src ps dst xs (import_types src ps xs dst)
  unfolding import_types transfer_types mapped
  placed_by most dst xs inside = record {
    at = type_of ms;
    here = is_here ms;
    inside = λ r h. in_source r h (param_for ps (state_at src r)) refl;
    param = λ r u h p. (is_there ms r u (as_param ms r u p)).1;
    upright = λ r h p. (a.sound r (type_of ms r) (went r h p)).2;
    new = λ r h p. ((came r h p).low, (came r h p).high);
    node = λ r h p. (came r h p).node;
    below = λ r h p i k d cs q. subst (Below (is_here ms)) q (came r h p).below;
    one = λ r r' h h' p p' e. import_once src ps formed xs dst inside r r' (type_of ms r) (type_of ms r') (went r h p) (went r' h' p') e;
    long = fr.long;
    old = fr.nodes;
    came = a.are;
    all = a.there;
  }
    where
      way : Ty → Transfer → Ty × Transfer
      way = transfer_in (suc (length src)) src ps

      m : Transfer
      m = (transfer_each way xs ([], dst)).1

      ms : List (ℕ × Ty)
      ms = m.0

      fr : Frame ([], dst) m
      fr = each_frame way (in_frame src ps (suc (length src))) xs ([], dst)

      a : AllMoved ([], dst) xs (transfer_each way xs ([], dst))
      a = all_moved (suc (length src)) way (in_frame src ps (suc (length src))) (in_moves (suc (length src))) xs (λ j l. (child_in (length src) xs j inside l, most (get_or xs j (false, 0)).1)) ([], dst) (λ r u e. absurd (none-ne-some u e))

      went : (r : ℕ) → T (is_here ms r) → param_for ps (state_at src r) ≡ none → mapped ms r ≡ some (type_of ms r)
      went r h p = sym (as_mapped ms r p) ∙ what_stands ms r h

      came : (r : ℕ) → T (is_here ms r) → param_for ps (state_at src r) ≡ none → Came ([], dst) m r (type_of ms r)
      came r h p = ⊎_elim (λ z. absurd (none-ne-some (type_of ms r) z)) (λ c. c) (a.comes r (type_of ms r) (went r h p))

      in_source : (r : ℕ) → T (is_here ms r) → (o : Option Ty) → param_for ps (state_at src r) ≡ o → r < length src
      in_source r h (some u) p = param_in r u p
      in_source r h none p = (a.sound r (type_of ms r) (went r h p)).0

-- An import from a neat table of types that are their own roots, node by node.
pub placed : (src : Types) → Neat src → ((n : ℕ) → n < length src → rep src n ≡ n) → (ps : Option (List Ty)) (dst : Types) (xs : List Ty) → AllIn (length src) xs → Placed src ps dst xs (import_types src ps xs dst)
unfolding rep
placed src tidy flat ps = placed_by src tidy.proper.formed (λ n h. ap₂ (λ (b : Bool) (k : ℕ). (b, k)) (tidy.upright n h (flat n h)) (flat n h)) (rank src) (readable_ranked src tidy.proper.formed tidy.proper.kept) ps (λ n. omega (arith, readable_most src tidy.proper.formed tidy.proper.kept n))

-- Candidate i's signature, brought into the question's table ts with fresh unknowns for its parameters.
pub candidate_placed : (a : Finder) (w₀ : Words) → Ready a w₀ → (ts : Types) (i : ℕ) → i < many a.sheet header_impls → Placed (impl_signature a.sheet i).0 (some (fresh_params ts (fresh_count a.sheet i))) (with_fresh ts (fresh_count a.sheet i)) (impl_signature a.sheet i).1.1 ((signed a.sheet ts i).0.1, (signed a.sheet ts i).1)
unfolding import_impl_type impl_signature
candidate_placed a w₀ ready ts i h = placed (impl_signature a.sheet i).0 (signature_neat a w₀ ready i h) (table-flat a.sheet (impl_table a.sheet i)) (some (fresh_params ts (fresh_count a.sheet i))) (with_fresh ts (fresh_count a.sheet i)) (impl_signature a.sheet i).1.1 (signature_in a w₀ ready i h)
