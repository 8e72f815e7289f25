-- A table that passed 9 or 13 has a rank, computed from it, that falls from a node to its children: no type reaches itself.
use Rattle.std.specs.Prelude.{ℕ, zero, suc, ◌≤◌, ◌<◌, max, ◌≡◌, refl, Bool, true, false, List, [], ◌∷◌, map, T, get_or}
use Rattle.std.proofs.Common.{sym, ◌∙◌, ap, ap₂, le_trans, le_of_suc-le-suc, not-suc-le-zero, lt_irrefl, arith}
use Rattle.std.proofs.Math.Path.{subst}
use Rattle.std.proofs.Math.Nat.{le-max_left, le-max_right}
use Rattle.std.proofs.Math.Logic.{⊎_elim}
use Rattle.std.proofs.Math.Dec.{ltb, ltb→lt}
use Rattle.std.proofs.Math.ListN.{length}
use Rattle.std.proofs.lemmas.List.{length-replicate}
use Rattle.rules.specs.Lists.{Words, all}
use Rattle.rules.specs.Types.{Ty, TypeState, unknown, known, TypeNode, Types, new_node, node_at, state_at}
use Rattle.rules.specs.Acyclic.{children, above, heights, acyclic}
pub use Rattle.rules.specs.Pigeonholes.{lt_or}

-- The children of a node; child j of it.
unfoldable pub children_at : Types → ℕ → List Ty
children_at ts n = children (state_at ts n)

unfoldable pub child : Types → ℕ → ℕ → ℕ
child ts n j = (get_or (children_at ts n) j (false, 0)).1

-- The rank of a node: its height, the length of the longest way down from it.
unfoldable pub flat_rank : Types → ℕ → ℕ
flat_rank ts n = get_or (heights (length ts) ts) n 0

map_get : {A : Type 0} (f : A → ℕ) (l : List A) (n : ℕ) (a : A) → f a ≡ 0 → get_or (map f l) n 0 ≡ f (get_or l n a)
map_get f [] n a e = sym e
map_get f (x ∷ l) zero a e = refl
map_get f (x ∷ l) (suc n) a e = map_get f l n a e

-- Lists: what is done to each leaves as many; what holds of all holds of the one at n; past the end stands the default.
pub map-length : {A B : Type 0} (f : A → B) (l : List A) → length (map f l) ≡ length l
map-length f [] = refl
map-length f (x ∷ l) = ap suc (map-length f l)

pub all_at : {A : Type 0} (f : A → Bool) (l : List A) (n : ℕ) (a : A) → T (all f l) → n < length l → T (f (get_or l n a))
unfolding all
all_at f [] n a t h = absurd (not-suc-le-zero h)
all_at f (x ∷ l) n a t h = go (f x) refl n t h (λ m u k. all_at f l m a u k)
  where
    go : (b : Bool) → f x ≡ b → (m : ℕ) → T (all f (x ∷ l)) → m < suc (length l) → ((i : ℕ) → T (all f l) → i < length l → T (f (get_or l i a))) → T (f (get_or (x ∷ l) m a))
    go true e zero u k ih = subst T (sym e) tt
    go true e (suc m) u k ih = ih m (rw (e, all) at u) (le_of_suc-le-suc k)
    go false e m u k ih = absurd (rw (e, all) at u)

-- Heights: one for each node; one more count asks the children.
pub heights-length : (k : ℕ) (ts : Types) → length (heights k ts) ≡ length ts
unfolding heights
heights-length zero ts = length-replicate (length ts) 0
heights-length (suc k) ts = map-length _ ts

pub height_step : (k : ℕ) (ts : Types) (n : ℕ) → get_or (heights (suc k) ts) n 0 ≡ above (heights k ts) (children_at ts n)
unfolding heights children_at state_at node_at new_node children above
height_step k ts n = map_get (λ nd. above (heights k ts) (children nd.state)) ts n (new_node 0 unknown) refl

pub above-child : (hs : Words) (cs : List Ty) (j : ℕ) → j < length cs → get_or hs (get_or cs j (false, 0)).1 0 < above hs cs
unfolding above
above-child hs [] j h = absurd (not-suc-le-zero h)
above-child hs (c ∷ cs) zero h = le-max_left (suc (get_or hs c.1 0)) (above hs cs)
above-child hs (c ∷ cs) (suc j) h = le_trans (above-child hs cs j (le_of_suc-le-suc h)) (le-max_right (suc (get_or hs c.1 0)) (above hs cs))

above_same : (hs us : Words) (k : ℕ) → ((n : ℕ) → get_or hs n 0 < k → get_or us n 0 ≡ get_or hs n 0) → (cs : List Ty) → above hs cs < suc k → above us cs ≡ above hs cs
unfolding above
above_same hs us k same [] h = refl
above_same hs us k same (c ∷ cs) h =
    ap₂ max (ap suc (same c.1 (omega (arith, le-max_left (suc (get_or hs c.1 0)) (above hs cs)))))
    (above_same hs us k same cs (omega (arith, le-max_right (suc (get_or hs c.1 0)) (above hs cs))))

-- A height under the bound of the count is the height.
height_stays : (k : ℕ) (ts : Types) (n : ℕ) → get_or (heights k ts) n 0 < k → get_or (heights (suc k) ts) n 0 ≡ get_or (heights k ts) n 0
height_stays zero ts n h = absurd (not-suc-le-zero h)
height_stays (suc k) ts n h =
    height_step (suc k) ts n
    ∙ above_same (heights k ts) (heights (suc k) ts) k (height_stays k ts) (children_at ts n) (subst (λ m. m < suc k) (height_step k ts n) h)
    ∙ sym (height_step k ts n)

pub past_end : {A : Type 0} (l : List A) (n : ℕ) (a : A) → length l ≤ n → get_or l n a ≡ a
past_end [] n a h = refl
past_end (x ∷ l) zero a h = absurd (not-suc-le-zero h)
past_end (x ∷ l) (suc n) a h = past_end l n a (le_of_suc-le-suc h)

-- What is no node has no children.
pub no_children : (ts : Types) (n : ℕ) → length ts ≤ n → children_at ts n ≡ []
unfolding children_at state_at node_at new_node children
no_children ts n h = ap (λ (nd : TypeNode). children nd.state) (past_end ts n (new_node 0 unknown) h)

module _ (ts : Types) (e : T (acyclic ts)) where
  -- Ranks are less than the count of nodes.
  pub flat_rank_below : (n : ℕ) → n < length ts → flat_rank ts n < length ts
  unfolding flat_rank acyclic
  flat_rank_below n h = ltb→lt _ (length ts) (all_at (λ k. ltb k (length ts)) (heights (length ts) ts) n 0 e (subst (λ m. n < m) (sym (heights-length (length ts) ts)) h))

  -- The rank falls from a node to its children,
  pub flat_rank_falls : (n j : ℕ) → j < length (children_at ts n) → flat_rank ts (child ts n j) < flat_rank ts n
  unfolding flat_rank child
  flat_rank_falls n j l = ⊎_elim inside outside (lt_or n (length ts))
    where
      inside : n < length ts → flat_rank ts (child ts n j) < flat_rank ts n
      inside h = subst (λ m. flat_rank ts (child ts n j) < m) (sym (height_step (length ts) ts n) ∙ height_stays (length ts) ts n (flat_rank_below n h)) (above-child (heights (length ts) ts) (children_at ts n) j l)

      outside : length ts ≤ n → flat_rank ts (child ts n j) < flat_rank ts n
      outside h = absurd (not-suc-le-zero (subst (λ (cs : List Ty). j < length cs) (no_children ts n h) l))

  pub flat_rank-most : (n : ℕ) → flat_rank ts n ≤ length ts
  unfolding flat_rank
  flat_rank-most n = ⊎_elim (λ h. omega (arith, flat_rank_below n h)) (λ h. omega (arith, past_end (heights (length ts) ts) n 0 (subst (λ m. m ≤ n) (sym (heights-length (length ts) ts)) h))) (lt_or n (length ts))

-- Ways down a table from node x, of one or more steps, each from a node to one of its children: what node x reaches.
pub data Down (ts : Types) (x : ℕ) : ℕ → Type 0 where
  one : (j : ℕ) → j < length (children_at ts x) → Down ts x (child ts x j)
  on : {y : ℕ} → Down ts x y → (j : ℕ) → j < length (children_at ts y) → Down ts x (child ts y j)

down_falls : (ts : Types) → T (acyclic ts) → (x y : ℕ) → Down ts x y → flat_rank ts y < flat_rank ts x
down_falls ts e x y (one j l) = flat_rank_falls ts e x j l
down_falls ts e x y (on {y = z} d j l) = le_trans (flat_rank_falls ts e z j l) (omega (arith, down_falls ts e x z d))

-- No type reaches itself.
pub none_returns : (ts : Types) → T (acyclic ts) → (n : ℕ) → Down ts n n → ⊥
none_returns ts e n d = lt_irrefl (flat_rank ts n) (down_falls ts e n n d)

module _ (ts : Types) (e : T (acyclic ts)) where
  -- the same where a node's state is known.
  pub child_low : (n : ℕ) (i : Bool) (kd d : ℕ) (cs : List Ty) → state_at ts n ≡ known i kd d cs → (j : ℕ) → j < length cs → flat_rank ts (get_or cs j (false, 0)).1 < flat_rank ts n
  unfolding child children_at children
  child_low n i kd d cs q = subst (λ (st : TypeState). (j : ℕ) → j < length (children st) → flat_rank ts (get_or (children st) j (false, 0)).1 < flat_rank ts n) q (flat_rank_falls ts e n)
