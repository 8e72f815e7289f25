-- Moving types from an acyclic table into an acyclic one leaves an acyclic one: `import` and `export` keep tables in order.
use Prim.Native.Nat.{ℕ, zero, suc, ◌+◌, ◌≤◌, ◌<◌}
use Rattle.std.specs.Prelude.{◌≡◌, Bool, ◌≢◌, ◌⊎◌, eqb, get_or, set}
use Rattle.std.proofs.Math.Path.{refl, ap, subst}
use Rattle.std.proofs.Common.{sym, ◌∙◌, true≢false, inl, inr, ⊎_elim, le_of_suc-le-suc, not-suc-le-zero, le_trans, eq-or-lt_of_le, arith, lt→ltb, length-set, get_or-set_same, get_or-set_other}
use Rattle.std.proofs.Math.Bool.{true, false}
use mathlib.Core.List.{List, [], ◌∷◌, ◌++◌}
use Rattle.std.proofs.Math.Option.{Option, none, some, none-ne-some, some-injective}
use Rattle.std.proofs.Math.Nat.{le_refl, lt_irrefl}
use Rattle.std.proofs.Math.Decide.{ℕ_discrete}
use Rattle.std.proofs.Math.Dec.{T, ltb, ltb→lt}
use Rattle.std.proofs.Math.ListN.{length, length-append, get_or-append}
use Rattle.std.proofs.lemmas.List.{get_or_at}
use Rattle.rules.specs.Types.{Ty, TypeState, unknown, known, TypeNode, Types, new_node, node_at, state_at, xor, invert_if, find}
use Rattle.rules.specs.Transfer.{Transfer, mapped, param_for, transfer_each, transfer_in, transfer_types, import_types}
use Rattle.rules.specs.Solutions.{rep, AllIn, ChildrenIn, WellFormed, Readable, eqb_true, eqb_false}
use Rattle.rules.specs.AcyclicLaws.{lt_or}
use Rattle.rules.specs.RootRank.{rank, child_in}
use Rattle.rules.specs.Readings.{Ranked, Acyclic, readable_ranked, readable_most, rank_root, ranked_readable}

-- One place of a function changed.
unfoldable pub put : (ℕ → ℕ) → ℕ → ℕ → ℕ → ℕ
put f n v k = elim (eqb k n) [ true ↦ v | false ↦ f k ]

pub put_at : (f : ℕ → ℕ) (n v : ℕ) → put f n v n ≡ v
unfolding put
put_at f n v = rw (eqb_true n n refl, put)

pub put_off : (f : ℕ → ℕ) (n v k : ℕ) → k ≢ n → put f n v k ≡ f k
unfolding put
put_off f n v k h = rw (eqb_false k n h, put)

pub snoc_at : (xs : Types) (x : TypeNode) → node_at (xs ++ (x ∷ [])) (length xs) ≡ x
unfolding node_at
snoc_at xs x = get_or_at xs x [] (new_node 0 unknown) (length xs) refl

pub snoc_off : (xs : Types) (x : TypeNode) (n : ℕ) → n < length xs → node_at (xs ++ (x ∷ [])) n ≡ node_at xs n
unfolding node_at
snoc_off xs x n h = get_or-append xs (x ∷ []) (new_node 0 unknown) n h

pub set_at : (xs : Types) (n : ℕ) (x : TypeNode) → n < length xs → node_at (set xs n x) n ≡ x
unfolding node_at
set_at xs n x h = get_or-set_same xs n x (new_node 0 unknown) h

pub set_off : (xs : Types) (n k : ℕ) (x : TypeNode) → k ≢ n → node_at (set xs n x) k ≡ node_at xs k
unfolding node_at
set_off xs n k x h = get_or-set_other xs n k x (new_node 0 unknown) h

abbrev kidsOf : TypeState → List Ty
kidsOf unknown = []
kidsOf (known i kd d cs) = cs

isKnown : TypeState → Bool
isKnown unknown = false
isKnown (known i kd d cs) = true

unknown≢ : (i : Bool) (kd d : ℕ) (cs : List Ty) → unknown ≡ known i kd d cs → ⊥
unfolding isKnown
unknown≢ i kd d cs e = true≢false (sym (ap isKnown e))

-- ρ ranks the source; the nodes of dst stand there before.
module _ (src : Types) (gs : WellFormed src) (ρ : ℕ → ℕ) (ranked : Ranked src ρ) (even : (n : ℕ) → n < length src → ρ n ≡ ρ (rep src n)) (ps : Option (List Ty)) (dst : Types) (low : (st : TypeState) (u : Ty) → param_for ps st ≡ some u → u.1 < length dst) where
  -- Where a type went: to an old node, or to a new one that stands for root r (ξ: which root of the source each new node stands for).
  pub record At (ξ : ℕ → ℕ) (len r : ℕ) (t : Ty) : Type 0 where
    pub in' : t.1 < len
    pub by : (t.1 < length dst) ⊎ ((length dst ≤ t.1) × (ξ t.1 ≡ r))

  -- A child: old, or new and of lower rank than b.
  pub record Low (ξ : ℕ → ℕ) (len b : ℕ) (t : Ty) : Type 0 where
    pub in' : t.1 < len
    pub by : (t.1 < length dst) ⊎ ((length dst ≤ t.1) × (ρ (ξ t.1) < b))

  -- What holds all along: old nodes are as they were; what went somewhere is there; new nodes are their own roots, and their children are of lower rank.
  pub record Inv (m : Transfer) (ξ : ℕ → ℕ) : Type 0 where
    pub long : length dst ≤ length m.1
    pub old : (n : ℕ) → n < length dst → node_at m.1 n ≡ node_at dst n
    pub went : (x : ℕ) (u : Ty) → mapped m.0 x ≡ some u → At ξ (length m.1) x u
    pub flat : (n : ℕ) → length dst ≤ n → n < length m.1 → rep m.1 n ≡ n
    pub children : (n : ℕ) → length dst ≤ n → n < length m.1 → (i : Bool) (kd d : ℕ) (cs : List Ty) → state_at m.1 n ≡ known i kd d cs → (j : ℕ) → j < length cs → Low ξ (length m.1) (ρ (ξ n)) (get_or cs j (false, 0))

  -- It holds still, of no fewer nodes.
  pub record More (m : Transfer) (ξ : ℕ → ℕ) (m' : Transfer) (ξ' : ℕ → ℕ) : Type 0 where
    pub inv : Inv m' ξ'
    pub with_first : length m.1 ≤ length m'.1
    pub agree : (n : ℕ) → n < length m.1 → ξ' n ≡ ξ n

  at_up : (ξ ξ' : ℕ → ℕ) (len len' r : ℕ) (t : Ty) → len ≤ len' → ((n : ℕ) → n < len → ξ' n ≡ ξ n) → At ξ len r t → At ξ' len' r t
  at_up ξ ξ' len len' r t h e a = record { in' = le_trans a.in' h; by = ⊎_elim inl (λ p. inr (p.0, e t.1 a.in' ∙ p.1)) a.by }

  low_up : (ξ ξ' : ℕ → ℕ) (len len' b : ℕ) (t : Ty) → len ≤ len' → ((n : ℕ) → n < len → ξ' n ≡ ξ n) → Low ξ len b t → Low ξ' len' b t
  low_up ξ ξ' len len' b t h e a = record { in' = le_trans a.in' h; by = ⊎_elim inl (λ p. inr (p.0, subst (λ k. ρ k < b) (sym (e t.1 a.in')) p.1)) a.by }

  more_refl : (m : Transfer) (ξ : ℕ → ℕ) → Inv m ξ → More m ξ m ξ
  more_refl m ξ i = record { inv = i; with_first = le_refl _; agree = λ n h. refl }

  more_trans : (m m' m'' : Transfer) (ξ ξ' ξ'' : ℕ → ℕ) → More m ξ m' ξ' → More m' ξ' m'' ξ'' → More m ξ m'' ξ''
  more_trans m m' m'' ξ ξ' ξ'' p q = record { inv = q.inv; with_first = le_trans p.with_first q.with_first; agree = λ n h. q.agree n (le_trans h p.with_first) ∙ p.agree n h }

  -- A new node for root r, unknown as yet.
  abbrev pushed : Transfer → ℕ → Transfer
  pushed m r = ((r, (false, length m.1)) ∷ m.0, m.1 ++ (new_node (length m.1) unknown ∷ []))

  pub push : (m : Transfer) (ξ : ℕ → ℕ) (r : ℕ) → Inv m ξ → More m ξ (pushed m r) (put ξ (length m.1) r)
  unfolding mapped rep state_at new_node
  push m ξ r v = record { inv = record { long = omega (arith, v.long, len); old = old'; went = went'; flat = flat'; children = kids' }; with_first = omega (arith, len); agree = same }
    where
      len : length (m.1 ++ (new_node (length m.1) unknown ∷ [])) ≡ length m.1 + 1
      len = length-append m.1 (new_node (length m.1) unknown ∷ [])

      same : (k : ℕ) → k < length m.1 → put ξ (length m.1) r k ≡ ξ k
      same k h = put_off ξ (length m.1) r k (λ e. lt_irrefl k (subst (λ x. k < x) (sym e) h))

      old' : (k : ℕ) → k < length dst → node_at (m.1 ++ (new_node (length m.1) unknown ∷ [])) k ≡ node_at dst k
      old' k h = snoc_off m.1 (new_node (length m.1) unknown) k (le_trans h v.long) ∙ v.old k h

      went' : (x : ℕ) (u : Ty) → mapped ((r, (false, length m.1)) ∷ m.0) x ≡ some u → At (put ξ (length m.1) r) (length (m.1 ++ (new_node (length m.1) unknown ∷ []))) x u
      went' x u e = go (ℕ_discrete r x)
        where
          go : Dec (r ≡ x) → At (put ξ (length m.1) r) (length (m.1 ++ (new_node (length m.1) unknown ∷ []))) x u
          go (yes q) =
              let w : (false, length m.1) ≡ u = some-injective _ _ (rw (eqb_true r x q, mapped) at e) in
              subst (At (put ξ (length m.1) r) (length (m.1 ++ (new_node (length m.1) unknown ∷ []))) x) w (record { in' = omega (arith, len); by = inr (v.long, put_at ξ (length m.1) r ∙ q) })
          go (no d) = at_up ξ (put ξ (length m.1) r) (length m.1) _ x u (omega (arith, len)) same (v.went x u (rw (eqb_false r x d, mapped) at e))

      flat' : (k : ℕ) → length dst ≤ k → k < length (m.1 ++ (new_node (length m.1) unknown ∷ [])) → rep (m.1 ++ (new_node (length m.1) unknown ∷ [])) k ≡ k
      flat' k l h = ⊎_elim
          (λ q. subst (λ x. rep (m.1 ++ (new_node (length m.1) unknown ∷ [])) x ≡ x) (sym q) (ap (λ (nd : TypeNode). nd.up.1) (snoc_at m.1 (new_node (length m.1) unknown))))
          (λ q. ap (λ (nd : TypeNode). nd.up.1) (snoc_off m.1 (new_node (length m.1) unknown) k q) ∙ v.flat k l q)
          (eq-or-lt_of_le (let z : k ≤ length m.1 = omega (arith, len) in z))

      kids' : (k : ℕ) → length dst ≤ k → k < length (m.1 ++ (new_node (length m.1) unknown ∷ [])) → (i : Bool) (kd d : ℕ) (cs : List Ty) → state_at (m.1 ++ (new_node (length m.1) unknown ∷ [])) k ≡ known i kd d cs → (j : ℕ) → j < length cs → Low (put ξ (length m.1) r) (length (m.1 ++ (new_node (length m.1) unknown ∷ []))) (ρ (put ξ (length m.1) r k)) (get_or cs j (false, 0))
      kids' k l h i kd d cs e j b = ⊎_elim
          (λ q. absurd (unknown≢ i kd d cs (sym (ap (λ (nd : TypeNode). nd.state) (ap (node_at (m.1 ++ (new_node (length m.1) unknown ∷ []))) q ∙ snoc_at m.1 (new_node (length m.1) unknown))) ∙ e)))
          (λ q. subst (λ x. Low (put ξ (length m.1) r) (length (m.1 ++ (new_node (length m.1) unknown ∷ []))) (ρ x) (get_or cs j (false, 0))) (sym (same k q))
          (low_up ξ (put ξ (length m.1) r) (length m.1) _ (ρ (ξ k)) _ (omega (arith, len)) same (v.children k l q i kd d cs (sym (ap (λ (nd : TypeNode). nd.state) (snoc_off m.1 (new_node (length m.1) unknown) k q)) ∙ e) j b)))
          (eq-or-lt_of_le (let z : k ≤ length m.1 = omega (arith, len) in z))

  -- The new node n, once its children have gone.
  fill : (m : Transfer) (ξ : ℕ → ℕ) (n : ℕ) → length dst ≤ n → n < length m.1 → (i : Bool) (kd d : ℕ) (qs : List Ty) → ((j : ℕ) → j < length qs → Low ξ (length m.1) (ρ (ξ n)) (get_or qs j (false, 0))) → Inv m ξ → Inv (m.0, set m.1 n (new_node n (known i kd d qs))) ξ
  unfolding rep state_at new_node
  fill m ξ n l h i kd d qs lows v = record {
    long = subst (λ x. length dst ≤ x) (sym len) v.long;
    old = λ k b. set_off m.1 n k nd (λ e. lt_irrefl k (omega arith)) ∙ v.old k b;
    went = λ x u e. subst (λ y. At ξ y x u) (sym len) (v.went x u e);
    flat = λ k a b. flat' k a (subst (λ y. k < y) len b) (ℕ_discrete k n);
    children = λ k a b i' kd' d' cs e j c. subst (λ y. Low ξ y (ρ (ξ k)) (get_or cs j (false, 0))) (sym len) (kids' k a (subst (λ y. k < y) len b) i' kd' d' cs e j c (ℕ_discrete k n));
  }
    where
      nd : TypeNode
      nd = new_node n (known i kd d qs)

      len : length (set m.1 n (new_node n (known i kd d qs))) ≡ length m.1
      len = length-set m.1 n (new_node n (known i kd d qs))

      flat' : (k : ℕ) → length dst ≤ k → k < length m.1 → Dec (k ≡ n) → rep (set m.1 n (new_node n (known i kd d qs))) k ≡ k
      flat' k a b (yes e) = subst (λ x. rep (set m.1 n (new_node n (known i kd d qs))) x ≡ x) (sym e) (ap (λ (x : TypeNode). x.up.1) (set_at m.1 n (new_node n (known i kd d qs)) h))
      flat' k a b (no q) = ap (λ (x : TypeNode). x.up.1) (set_off m.1 n k (new_node n (known i kd d qs)) q) ∙ v.flat k a b

      kids' : (k : ℕ) → length dst ≤ k → k < length m.1 → (i' : Bool) (kd' d' : ℕ) (cs : List Ty) → state_at (set m.1 n (new_node n (known i kd d qs))) k ≡ known i' kd' d' cs → (j : ℕ) → j < length cs → Dec (k ≡ n) → Low ξ (length m.1) (ρ (ξ k)) (get_or cs j (false, 0))
      kids' k a b i' kd' d' cs e j c (yes q) =
          let same : qs ≡ cs = ap kidsOf (sym (ap (λ (x : TypeNode). x.state) (ap (node_at (set m.1 n (new_node n (known i kd d qs)))) q ∙ set_at m.1 n (new_node n (known i kd d qs)) h)) ∙ e) in
          subst (λ (x : List Ty). Low ξ (length m.1) (ρ (ξ k)) (get_or x j (false, 0))) same (subst (λ x. Low ξ (length m.1) (ρ (ξ x)) (get_or qs j (false, 0))) (sym q) (lows j (subst (λ (x : List Ty). j < length x) (sym same) c)))
      kids' k a b i' kd' d' cs e j c (no q) = v.children k a b i' kd' d' cs (sym (ap (λ (x : TypeNode). x.state) (set_off m.1 n k (new_node n (known i kd d qs)) q)) ∙ e) j c

  -- A type that has gone over, and a list of them.
  pub record Arrives (m : Transfer) (ξ : ℕ → ℕ) (r : ℕ) (res : Ty × Transfer) : Type 0 where
    pub by : ℕ → ℕ
    pub grown : More m ξ res.1 by
    pub at : At by (length res.1.1) r res.0

  pub record ArriveAll (m : Transfer) (ξ : ℕ → ℕ) (cs : List Ty) (res : List Ty × Transfer) : Type 0 where
    pub by : ℕ → ℕ
    pub grown : More m ξ res.1 by
    pub len : length res.0 ≡ length cs
    pub ats : (j : ℕ) → j < length cs → At by (length res.1.1) (rep src (get_or cs j (false, 0)).1) (get_or res.0 j (false, 0))

  abbrev Right : ℕ → (Ty → Transfer → Ty × Transfer) → Type 0
  Right k f = (t : Ty) → t.1 < length src → ρ t.1 < k → (m : Transfer) (ξ : ℕ → ℕ) → Inv m ξ → Arrives m ξ (rep src t.1) (f t m)

  all_arrive : (k : ℕ) (f : Ty → Transfer → Ty × Transfer) → Right k f → (cs : List Ty) → ((j : ℕ) → j < length cs → ((get_or cs j (false, 0)).1 < length src) × (ρ (get_or cs j (false, 0)).1 < k)) → (m : Transfer) (ξ : ℕ → ℕ) → Inv m ξ → ArriveAll m ξ cs (transfer_each f cs m)
  unfolding transfer_each
  all_arrive k f right [] h m ξ v = record { by = ξ; grown = more_refl m ξ v; len = refl; ats = λ j l. absurd (not-suc-le-zero l) }
  all_arrive k f right (c ∷ cs) h m ξ v =
      let a = right c (h 0 (omega arith)).0 (h 0 (omega arith)).1 m ξ v in
      let b = all_arrive k f right cs (λ j l. h (suc j) (omega arith)) (f c m).1 a.by a.grown.inv in
      record {
        by = b.by;
        grown = more_trans m _ _ ξ a.by b.by a.grown b.grown;
        len = ap suc b.len;
        ats = each _ _ a b;
      }
    where
      each : (res : Ty × Transfer) (rest : List Ty × Transfer) (a : Arrives m ξ (rep src c.1) res) (b : ArriveAll res.1 a.by cs rest) → (j : ℕ) → j < suc (length cs) → At b.by (length rest.1.1) (rep src (get_or (c ∷ cs) j (false, 0)).1) (get_or (res.0 ∷ rest.0) j (false, 0))
      each res rest a b zero l = at_up a.by b.by _ _ _ _ b.grown.with_first b.grown.agree a.at
      each res rest a b (suc j) l = b.ats j (le_of_suc-le-suc l)

  move_right : (k : ℕ) → Right k (transfer_in k src ps)
  unfolding transfer_in find invert_if rep
  move_right zero t ht hk m ξ v = absurd (not-suc-le-zero hk)
  move_right (suc k) t ht hk m ξ v = go (mapped m.0 (rep src t.1)) refl (param_for ps (state_at src (rep src t.1))) refl (state_at src (rep src t.1)) refl (move_right k)
    where
      n : ℕ
      n = length m.1

      p : More m ξ (pushed m (rep src t.1)) (put ξ (length m.1) (rep src t.1))
      p = push m ξ (rep src t.1) v

      long₁ : length (m.1 ++ (new_node (length m.1) unknown ∷ [])) ≡ length m.1 + 1
      long₁ = length-append m.1 (new_node (length m.1) unknown ∷ [])

      filled : (i : Bool) (kd d : ℕ) (cs : List Ty) → state_at src (rep src t.1) ≡ known i kd d cs → Right k (transfer_in k src ps) → (res : List Ty × Transfer) → ArriveAll (pushed m (rep src t.1)) (put ξ (length m.1) (rep src t.1)) cs res → Arrives m ξ (rep src t.1) ((xor t.0 (node_at src t.1).up.0, length m.1), (res.1.0, set res.1.1 (length m.1) (new_node (length m.1) (known i kd d res.0))))
      filled i kd d cs q ih res a = record {
        by = a.by;
        grown = record { inv = fill res.1 a.by (length m.1) v.long inside i kd d res.0 lows a.grown.inv; with_first = omega (arith, inside, len); agree = λ j h. a.grown.agree j (omega (arith, long₁)) ∙ p.agree j h };
        at = record { in' = omega (arith, inside, len); by = inr (v.long, mine) };
      }
        where
          inside : length m.1 < length res.1.1
          inside = omega (arith, long₁, a.grown.with_first)

          len : length (set res.1.1 (length m.1) (new_node (length m.1) (known i kd d res.0))) ≡ length res.1.1
          len = length-set res.1.1 (length m.1) (new_node (length m.1) (known i kd d res.0))

          mine : a.by (length m.1) ≡ rep src t.1
          mine = a.grown.agree (length m.1) (omega (arith, long₁)) ∙ put_at ξ (length m.1) (rep src t.1)

          lows : (j : ℕ) → j < length res.0 → Low a.by (length res.1.1) (ρ (a.by (length m.1))) (get_or res.0 j (false, 0))
          lows j l =
              let b : j < length cs = subst (λ x. j < x) a.len l in
              let c = a.ats j b in
              let f = ranked.falls t.1 ht i kd d cs q j b in
              let e = even (get_or cs j (false, 0)).1 (child_in (length src) cs j (subst (ChildrenIn (length src)) q (gs t.1 ht).2) b) in
              record { in' = c.in'; by = ⊎_elim inl (λ w. inr (w.0, omega (arith, ap ρ w.1, e, f, even t.1 ht, ap ρ mine))) c.by }

      go : (o : Option Ty) → mapped m.0 (rep src t.1) ≡ o → (u : Option Ty) → param_for ps (state_at src (rep src t.1)) ≡ u → (st : TypeState) → state_at src (rep src t.1) ≡ st → Right k (transfer_in k src ps) → Arrives m ξ (rep src t.1) (transfer_in (suc k) src ps t m)
      go (some u) e w f st q ih = let a = v.went (rep src t.1) u e in rw (e, transfer_in) (record { by = ξ; grown = more_refl m ξ v; at = record { in' = a.in'; by = a.by } })
      go none e (some u) f st q ih = let a = low (state_at src (rep src t.1)) u f in rw (e, f, transfer_in) (record { by = ξ; grown = more_refl m ξ v; at = record { in' = le_trans a v.long; by = inl a } })
      go none e none f unknown q ih = rw (e, f, q, transfer_in) (record { by = put ξ (length m.1) (rep src t.1); grown = p; at = record { in' = omega (arith, long₁); by = inr (v.long, put_at ξ (length m.1) (rep src t.1)) } })
      go none e none f (known i kd d cs) q ih = rw (e, f, q, transfer_in) (filled i kd d cs q ih _ (all_arrive k (λ c w. transfer_in k src ps c w) ih cs (λ j b. (child_in (length src) cs j (subst (ChildrenIn (length src)) q (gs t.1 ht).2) b, omega (arith, ranked.falls t.1 ht i kd d cs q j b))) (pushed m (rep src t.1)) (put ξ (length m.1) (rep src t.1)) p.inv))

  -- It holds before anything has gone.
  pub begin : Inv ([], dst) (λ n. 0)
  unfolding mapped
  begin = record {
    long = le_refl _;
    old = λ n h. refl;
    went = λ x u e. absurd (none-ne-some u e);
    flat = λ n l h. absurd (omega arith);
    children = λ n l h. absurd (omega arith);
  }

  -- What a filled table is: as well formed as dst was, and as acyclic.
  module _ (gd : WellFormed dst) (kd : Readable dst) (m : Transfer) (ξ : ℕ → ℕ) (v : Inv m ξ) where
    rep_old : (n : ℕ) → n < length dst → rep m.1 n ≡ rep dst n
    unfolding rep
    rep_old n h = ap (λ (x : TypeNode). x.up.1) (v.old n h)

    state_old : (n : ℕ) → n < length dst → state_at m.1 n ≡ state_at dst n
    unfolding state_at
    state_old n h = ap (λ (x : TypeNode). x.state) (v.old n h)

    root_state : (n : ℕ) → n < length dst → state_at m.1 (rep m.1 n) ≡ state_at dst (rep dst n)
    root_state n h = ap (state_at m.1) (rep_old n h) ∙ state_old (rep dst n) (gd n h).0

    new_kids : (n : ℕ) → length dst ≤ n → n < length m.1 → (st : TypeState) → state_at m.1 n ≡ st → ChildrenIn (length m.1) st
    new_kids n l h unknown e = tt
    new_kids n l h (known i k d cs) e = all_in cs (λ j b. (v.children n l h i k d cs e j b).in')
      where
        all_in : (xs : List Ty) → ((j : ℕ) → j < length xs → (get_or xs j (false, 0)).1 < length m.1) → AllIn (length m.1) xs
        all_in [] f = tt
        all_in (x ∷ xs) f = (f 0 (omega arith), all_in xs (λ j b. f (suc j) (omega arith)))

    kids_up : (st : TypeState) → ChildrenIn (length dst) st → ChildrenIn (length m.1) st
    kids_up unknown a = tt
    kids_up (known i k d cs) a = go cs a
      where
        go : (xs : List Ty) → AllIn (length dst) xs → AllIn (length m.1) xs
        go [] b = tt
        go (x ∷ xs) b = (le_trans b.0 v.long, go xs b.1)

    pub filled-formed : WellFormed m.1
    filled-formed n h = ⊎_elim inside outside (lt_or n (length dst))
      where
        inside : n < length dst → (rep m.1 n < length m.1) × (rep m.1 (rep m.1 n) ≡ rep m.1 n) × ChildrenIn (length m.1) (state_at m.1 (rep m.1 n))
        inside l =
            let g = gd n l in
            (subst (λ x. x < length m.1) (sym (rep_old n l)) (le_trans g.0 v.long), ap (rep m.1) (rep_old n l) ∙ rep_old (rep dst n) g.0 ∙ g.1 ∙ sym (rep_old n l), subst (ChildrenIn (length m.1)) (sym (root_state n l)) (kids_up (state_at dst (rep dst n)) g.2))

        outside : length dst ≤ n → (rep m.1 n < length m.1) × (rep m.1 (rep m.1 n) ≡ rep m.1 n) × ChildrenIn (length m.1) (state_at m.1 (rep m.1 n))
        outside l =
            let e = v.flat n l h in
            (subst (λ x. x < length m.1) (sym e) h, ap (rep m.1) e, subst (λ x. ChildrenIn (length m.1) (state_at m.1 x)) (sym e) (new_kids n l h (state_at m.1 n) refl))

    -- Old nodes keep their rank, new ones stand above them.
    unfoldable rankNow : ℕ → ℕ
    rankNow n = elim (ltb n (length dst)) [ true ↦ rank dst n | false ↦ suc (length dst) + ρ (ξ n) ]

    now_old : (n : ℕ) → n < length dst → rankNow n ≡ rank dst n
    unfolding rankNow
    now_old n h = go (ltb n (length dst)) refl
      where
        go : (b : Bool) → ltb n (length dst) ≡ b → rankNow n ≡ rank dst n
        go true e = rw (e, rankNow)
        go false e = absurd (subst T e (lt→ltb n (length dst) h))

    now_new : (n : ℕ) → length dst ≤ n → rankNow n ≡ suc (length dst) + ρ (ξ n)
    unfolding rankNow
    now_new n h = go (ltb n (length dst)) refl
      where
        go : (b : Bool) → ltb n (length dst) ≡ b → rankNow n ≡ suc (length dst) + ρ (ξ n)
        go true e = absurd (omega (arith, ltb→lt n (length dst) (subst T (sym e) tt)))
        go false e = rw (e, rankNow)

    pub filled_readable : Readable m.1
    filled_readable = ranked_readable m.1 filled-formed rankNow (record { falls = falls' })
      where
        falls' : (n : ℕ) → n < length m.1 → (i : Bool) (k d : ℕ) (cs : List Ty) → state_at m.1 (rep m.1 n) ≡ known i k d cs → (j : ℕ) → j < length cs → rankNow (get_or cs j (false, 0)).1 < rankNow n
        falls' n h i k d cs e j b = ⊎_elim inside outside (lt_or n (length dst))
          where
            inside : n < length dst → rankNow (get_or cs j (false, 0)).1 < rankNow n
            inside l =
                let q = sym (root_state n l) ∙ e in
                let c = child_in (length dst) cs j (subst (ChildrenIn (length dst)) q (gd n l).2) b in
                omega (arith, now_old n l, now_old (get_or cs j (false, 0)).1 c, (readable_ranked dst gd kd).falls n l i k d cs q j b)

            outside : length dst ≤ n → rankNow (get_or cs j (false, 0)).1 < rankNow n
            outside l =
                let w = v.children n l h i k d cs (sym (ap (state_at m.1) (v.flat n l h)) ∙ e) j b in
                ⊎_elim
                (λ c. omega (arith, now_old (get_or cs j (false, 0)).1 c, now_new n l, readable_most dst gd kd (get_or cs j (false, 0)).1))
                (λ c. omega (arith, now_new (get_or cs j (false, 0)).1 c.0, now_new n l, c.1))
                w.by

-- `import` of types into a table: its nodes stay, what came stands behind them, and it is well formed and can be read as terms still.
pub record Imported (src : Types) (dst : Types) (ts : List Ty) (res : List Ty × Types) : Type 0 where
  pub with_first : length dst ≤ length res.1
  pub old : (n : ℕ) → n < length dst → node_at res.1 n ≡ node_at dst n
  pub formed : WellFormed res.1
  pub kept : Readable res.1
  pub len : length res.0 ≡ length ts
  pub inside : (j : ℕ) → j < length ts → (get_or res.0 j (false, 0)).1 < length res.1

-- Where both tables are so, the import leaves one that is.
pub imports : (src : Types) → WellFormed src → Readable src → (ps : Option (List Ty)) (dst : Types) → WellFormed dst → Readable dst → ((st : TypeState) (u : Ty) → param_for ps st ≡ some u → u.1 < length dst) → (ts : List Ty) → ((j : ℕ) → j < length ts → (get_or ts j (false, 0)).1 < length src) → Imported src dst ts (import_types src ps ts dst)
unfolding import_types transfer_types
imports src gs ks ps dst gd kd low ts h = record {
  with_first = a.grown.inv.long;
  old = a.grown.inv.old;
  formed = filled-formed src gs (rank src) ranked even ps dst low gd kd _ a.by a.grown.inv;
  kept = filled_readable src gs (rank src) ranked even ps dst low gd kd _ a.by a.grown.inv;
  len = a.len;
  inside = λ j l. (a.ats j l).in';
}
  where
    ranked : Ranked src (rank src)
    ranked = readable_ranked src gs ks

    even : (n : ℕ) → n < length src → rank src n ≡ rank src (rep src n)
    even = rank_root src gs

    a : ArriveAll src gs (rank src) ranked even ps dst low ([], dst) (λ n. 0) ts (transfer_each (transfer_in (suc (length src)) src ps) ts ([], dst))
    a = all_arrive src gs (rank src) ranked even ps dst low (suc (length src)) (transfer_in (suc (length src)) src ps) (move_right src gs (rank src) ranked even ps dst low (suc (length src))) ts (λ j l. (h j l, omega (arith, readable_most src gs ks (get_or ts j (false, 0)).1))) ([], dst) (λ n. 0) (begin src gs (rank src) ranked even ps dst low)

-- The same from and into acyclic tables: an import leaves the table acyclic.
pub imports_acyclic : (src : Types) → WellFormed src → Acyclic src → (ps : Option (List Ty)) (dst : Types) → WellFormed dst → Acyclic dst → ((st : TypeState) (u : Ty) → param_for ps st ≡ some u → u.1 < length dst) → (ts : List Ty) → ((j : ℕ) → j < length ts → (get_or ts j (false, 0)).1 < length src) → WellFormed (import_types src ps ts dst).1 × Acyclic (import_types src ps ts dst).1
imports_acyclic src gs es ps dst gd ed low ts h = let i = imports src gs (ranked_readable src gs (rank src) es) ps dst gd (ranked_readable dst gd (rank dst) ed) low ts h in (i.formed, readable_ranked _ i.formed i.kept)
