-- Labels of a table and of the source of an import extend to the table that the import leaves: what came has the label of what it came from.
use Prim.Native.Nat.{ℕ, zero, suc, ◌≤◌, ◌<◌}
use Rattle.std.specs.Prelude.{◌≡◌, Bool, false, ◌⊎◌, get_or}
use Rattle.std.proofs.Math.Path.{refl, ap, ap₂}
use Rattle.std.proofs.Common.{sym, ◌∙◌, subst, inl, inr, ⊎_elim, not-suc-le-zero, le_trans, eq-or-lt_of_le, lt_irrefl, arith, length-append, length-set}
use mathlib.Core.List.{List, [], ◌∷◌}
use Rattle.std.proofs.Math.Option.{Option, none, some, none-ne-some, some-injective}
use Rattle.std.proofs.Math.Nat.{le_refl}
use Rattle.std.proofs.Math.Decide.{ℕ_discrete}
use Rattle.std.proofs.Math.ListN.{length, set}
use Rattle.rules.specs.Types.{Ty, TypeState, unknown, known, TypeNode, Types, new_node, node_at, xor, invert_if, find, state_at}
use Rattle.rules.specs.Transfer.{Transfer, mapped, param_for, transfer_each, transfer_in, transfer_types}
use Rattle.rules.specs.Solutions.{rep, AllIn, ChildrenIn, WellFormed, known≢}
use Rattle.rules.specs.AcyclicLaws.{lt_or}
use Rattle.rules.specs.RootRank.{rank, child_in}
use Rattle.rules.specs.Readings.{Ranked, readable_ranked, readable_most}
use Rattle.rules.specs.TransferKeeps.{put, put_at, put_off, snoc_off, set_off}
use Rattle.rules.specs.Carried.{pushed}
use Rattle.rules.specs.TransferCount.{mapped_other, mapped_here}
use Rattle.rules.specs.Neat.{Neat, in_more}
use Rattle.rules.specs.CommonTerms.{Frame, frame_state, snoc_state, set_state, each_frame, in_frame}
use Rattle.rules.specs.Labels.{labels, Labels, Unheld}

-- f labels the nodes of dst and g those of src, as an import with ps takes them: what stands for a Param has its label, and the children of two known types of one label are alike, be both of the table, both of the source, or one of either.
pub record LabelsMeet (src : Types) (ps : Option (List Ty)) (dst : Types) (g f : ℕ → ℕ) : Type 0 where
  pub nodes : Labels f dst
  pub param : (r : ℕ) (u : Ty) → r < length src → param_for ps (state_at src r) ≡ some u → (u.1 < length dst) × (g r ≡ f u.1)
  pub source : (a b : ℕ) → a < length src → b < length src → param_for ps (state_at src a) ≡ none → param_for ps (state_at src b) ≡ none → g a ≡ g b → (i j : Bool) (k d k' d' : ℕ) (cs ds : List Ty) → state_at src a ≡ known i k d cs → state_at src b ≡ known j k' d' ds → labels g cs ≡ labels g ds
  pub both : (a b : ℕ) → a < length src → b < length dst → param_for ps (state_at src a) ≡ none → rep dst b ≡ b → g a ≡ f b → (i j : Bool) (k d k' d' : ℕ) (cs ds : List Ty) → state_at src a ≡ known i k d cs → state_at dst b ≡ known j k' d' ds → labels g cs ≡ labels f ds

-- Labels of the table that an import leaves: those of its first nodes are as before, what came has those of its source, as the roots that went there have, and a label that nothing known had, but for Params, nothing known has.
pub record LabelsCome (src : Types) (ps : Option (List Ty)) (dst : Types) (g f : ℕ → ℕ) (xs : List Ty) (res : List Ty × Transfer) : Type 0 where
  pub by : ℕ → ℕ
  pub old : (n : ℕ) → n < length dst → by n ≡ f n
  pub nodes : Labels by res.1.1
  pub came : labels by res.0 ≡ labels g xs
  pub went : (r : ℕ) (u : Ty) → mapped res.1.0 r ≡ some u → (u.1 < length res.1.1) × (by u.1 ≡ g r)
  pub unheld : (l : ℕ) → Unheld f dst l → ((r : ℕ) → r < length src → param_for ps (state_at src r) ≡ none → g r ≡ l → state_at src r ≡ unknown) → Unheld by res.1.1 l

-- Labels that agree on the nodes of a table agree on its types.
pub labels-same : (h f : ℕ → ℕ) (N : ℕ) → ((n : ℕ) → n < N → h n ≡ f n) → (cs : List Ty) → AllIn N cs → labels h cs ≡ labels f cs
unfolding labels
labels-same h f N e [] a = refl
labels-same h f N e (c ∷ cs) a = ap₂ ◌∷◌ (e c.1 a.0) (labels-same h f N e cs a.1)

-- A source whose nodes are their own roots, ranked by δ; the nodes of dst stand there before.
module _ (src : Types) (formed : WellFormed src) (flat : (n : ℕ) → n < length src → rep src n ≡ n) (δ : ℕ → ℕ) (ranked : Ranked src δ) (ps : Option (List Ty)) (dst : Types) (g f : ℕ → ℕ) (meet : LabelsMeet src ps dst g f) where
  -- A new node's state by that of the root that it stands for: unknown as yet, or over children of the same labels.
  abbrev Filled : ℕ → (ℕ → ℕ) → TypeState → TypeState → Type 0
  Filled N h unknown st = Unit {0}
  Filled N h (known i k d cs) unknown = ⊥
  Filled N h (known i k d cs) (known i' k' d' cs') = AllIn N cs × (labels h cs ≡ labels g cs')

  filled_on : (N N' : ℕ) (h h' : ℕ → ℕ) → N ≤ N' → ((n : ℕ) → n < N → h' n ≡ h n) → (st st' : TypeState) → Filled N h st st' → Filled N' h' st st'
  filled_on N N' h h' l e unknown st' w = tt
  filled_on N N' h h' l e (known i k d cs) unknown w = absurd w
  filled_on N N' h h' l e (known i k d cs) (known i' k' d' cs') w = (in_more N N' l cs w.0, labels-same h' h N e cs w.0 ∙ w.1)

  -- Node n stands for a root of the source for which no parameter stands, and has its label.
  record Stands (ts : Types) (h : ℕ → ℕ) (n : ℕ) : Type 0 where
    root : ℕ
    inside : root < length src
    plain : param_for ps (state_at src root) ≡ none
    label : h n ≡ g root
    filled : Filled (length ts) h (state_at ts n) (state_at src root)

  stands_on : (ts us : Types) (h h' : ℕ → ℕ) (n : ℕ) → length ts ≤ length us → ((k : ℕ) → k < length ts → h' k ≡ h k) → n < length ts → state_at us n ≡ state_at ts n → Stands ts h n → Stands us h' n
  stands_on ts us h h' n l e b q w = record {
    root = w.root;
    inside = w.inside;
    plain = w.plain;
    label = e n b ∙ w.label;
    filled = subst (λ st. Filled (length us) h' st (state_at src w.root)) (sym q) (filled_on (length ts) (length us) h h' l e (state_at ts n) (state_at src w.root) w.filled);
  }

  -- What holds all along: old nodes are labelled by f, roots went to nodes of their labels, and each new node stands for one.
  record Labelled (m : Transfer) (h : ℕ → ℕ) : Type 0 where
    long : length dst ≤ length m.1
    old : (n : ℕ) → n < length dst → h n ≡ f n
    went : (r : ℕ) (u : Ty) → mapped m.0 r ≡ some u → (u.1 < length m.1) × (h u.1 ≡ g r)
    new : (n : ℕ) → length dst ≤ n → n < length m.1 → Stands m.1 h n

  -- It holds still, of no fewer nodes.
  record More (m : Transfer) (h : ℕ → ℕ) (m' : Transfer) (h' : ℕ → ℕ) : Type 0 where
    holds : Labelled m' h'
    grown : length m.1 ≤ length m'.1
    agree : (n : ℕ) → n < length m.1 → h' n ≡ h n

  more_refl : (m : Transfer) (h : ℕ → ℕ) → Labelled m h → More m h m h
  more_refl m h v = record { holds = v; grown = le_refl _; agree = λ n b. refl }

  more_trans : (m m' m'' : Transfer) (h h' h'' : ℕ → ℕ) → More m h m' h' → More m' h' m'' h'' → More m h m'' h''
  more_trans m m' m'' h h' h'' p q = record { holds = q.holds; grown = le_trans p.grown q.grown; agree = λ n b. q.agree n (le_trans b p.grown) ∙ p.agree n b }

  -- A root is pushed: the new node gets its label.
  push : (m : Transfer) (h : ℕ → ℕ) (r : ℕ) → r < length src → param_for ps (state_at src r) ≡ none → Labelled m h → More m h (pushed m r) (put h (length m.1) (g r))
  unfolding state_at
  push m h r hr p v = record { holds = record { long = omega (arith, v.long, len); old = λ n b. same n (le_trans b v.long) ∙ v.old n b; went = λ x u e. went' x u e (ℕ_discrete r x); new = new' }; grown = omega (arith, len); agree = same }
    where
      us : Types
      us = (pushed m r).1

      h' : ℕ → ℕ
      h' = put h (length m.1) (g r)

      len : length us ≡ suc (length m.1)
      len = omega (arith, length-append m.1 (new_node (length m.1) unknown ∷ []))

      same : (n : ℕ) → n < length m.1 → h' n ≡ h n
      same n b = put_off h (length m.1) (g r) n (λ e. lt_irrefl n (omega (arith, e)))

      went' : (x : ℕ) (u : Ty) → mapped (pushed m r).0 x ≡ some u → Dec (r ≡ x) → (u.1 < length us) × (h' u.1 ≡ g x)
      went' x u e (yes q) =
          let w : (false, length m.1) ≡ u = some-injective _ _ (sym (mapped_here m.0 r (false, length m.1)) ∙ ap (mapped ((r, (false, length m.1)) ∷ m.0)) q ∙ e) in
          subst (λ (t : Ty). (t.1 < length us) × (h' t.1 ≡ g x)) w (omega (arith, len), put_at h (length m.1) (g r) ∙ ap g q)
      went' x u e (no q) = let w = v.went x u (sym (mapped_other m.0 r (false, length m.1) x q) ∙ e) in (omega (arith, len, w.0), same u.1 w.0 ∙ w.1)

      here : Stands us h' (length m.1)
      here = record { root = r; inside = hr; plain = p; label = put_at h (length m.1) (g r); filled = subst (λ st. Filled (length us) h' st (state_at src r)) (sym (snoc_state m.1 unknown)) tt }

      new' : (n : ℕ) → length dst ≤ n → n < length us → Stands us h' n
      new' n l b = ⊎_elim
          (λ q. subst (Stands us h') (sym q) here)
          (λ q. stands_on m.1 us h h' n (omega (arith, len)) same q (ap (λ (x : TypeNode). x.state) (snoc_off m.1 (new_node (length m.1) unknown) n q)) (v.new n l q))
          (eq-or-lt_of_le (let z : n ≤ length m.1 = omega (arith, len) in z))

  -- A new node is filled with children of the labels of its root's.
  fill : (m : Transfer) (h : ℕ → ℕ) (n r : ℕ) → n < length m.1 → r < length src → param_for ps (state_at src r) ≡ none → h n ≡ g r → (i : Bool) (kd d : ℕ) (cs qs : List Ty) → state_at src r ≡ known i kd d cs → AllIn (length m.1) qs → labels h qs ≡ labels g cs → Labelled m h → Labelled (m.0, set m.1 n (new_node n (known i kd d qs))) h
  unfolding state_at
  fill m h n r b hr p e i kd d cs qs q inside same v = record { long = omega (arith, len, v.long); old = v.old; went = λ x u z. (omega (arith, len, (v.went x u z).0), (v.went x u z).1); new = λ k l c. new' k l (omega (arith, len)) (ℕ_discrete k n) }
    where
      us : Types
      us = set m.1 n (new_node n (known i kd d qs))

      len : length us ≡ length m.1
      len = length-set m.1 n (new_node n (known i kd d qs))

      here : Stands us h n
      here = record {
        root = r;
        inside = hr;
        plain = p;
        label = e;
        filled = subst (λ st. Filled (length us) h st (state_at src r)) (sym (set_state m.1 n (known i kd d qs) b)) (subst (Filled (length us) h (known i kd d qs)) (sym q) (subst (λ N. AllIn N qs) (sym len) inside, same));
      }

      new' : (k : ℕ) → length dst ≤ k → k < length m.1 → Dec (k ≡ n) → Stands us h k
      new' k l c (yes z) = subst (Stands us h) (sym z) here
      new' k l c (no z) = stands_on m.1 us h h k (omega (arith, len)) (λ x y. refl) c (ap (λ (x : TypeNode). x.state) (set_off m.1 n k (new_node n (known i kd d qs)) z)) (v.new k l c)

  -- A type that came, and a list of them.
  record Came (m : Transfer) (h : ℕ → ℕ) (t : Ty) (res : Ty × Transfer) : Type 0 where
    by : ℕ → ℕ
    more : More m h res.1 by
    inside : res.0.1 < length res.1.1
    label : by res.0.1 ≡ g t.1

  record AllCame (m : Transfer) (h : ℕ → ℕ) (cs : List Ty) (res : List Ty × Transfer) : Type 0 where
    by : ℕ → ℕ
    more : More m h res.1 by
    inside : AllIn (length res.1.1) res.0
    label : labels by res.0 ≡ labels g cs

  -- A way to move types of rank below k that is right.
  abbrev Moves : ℕ → (Ty → Transfer → Ty × Transfer) → Type 0
  Moves k way = (t : Ty) → t.1 < length src → δ t.1 < k → (m : Transfer) (h : ℕ → ℕ) → Labelled m h → Came m h t (way t m)

  all_come : (k : ℕ) (way : Ty → Transfer → Ty × Transfer) → Moves k way → (cs : List Ty) → ((j : ℕ) → j < length cs → ((get_or cs j (false, 0)).1 < length src) × (δ (get_or cs j (false, 0)).1 < k)) → (m : Transfer) (h : ℕ → ℕ) → Labelled m h → AllCame m h cs (transfer_each way cs m)
  unfolding transfer_each labels
  all_come k way moves [] in_src m h v = record { by = h; more = more_refl m h v; inside = tt; label = refl }
  all_come k way moves (c ∷ cs) in_src m h v =
      let a = moves c (in_src 0 (omega arith)).0 (in_src 0 (omega arith)).1 m h v in
      let b = all_come k way moves cs (λ j l. in_src (suc j) (omega arith)) (way c m).1 a.by a.more.holds in
      record {
        by = b.by;
        more = more_trans m _ _ h a.by b.by a.more b.more;
        inside = (le_trans a.inside b.more.grown, b.inside);
        label = ap₂ ◌∷◌ (b.more.agree _ a.inside ∙ a.label) b.label;
      }

  -- `transfer_type` with enough levels is right.
  in_comes : (k : ℕ) → Moves k (transfer_in k src ps)
  unfolding transfer_in find invert_if rep
  in_comes zero t ht hk m h v = absurd (not-suc-le-zero hk)
  in_comes (suc k) t ht hk m h v = go (mapped m.0 (rep src t.1)) refl (param_for ps (state_at src (rep src t.1))) refl (state_at src (rep src t.1)) refl (in_comes k)
    where
      hr : rep src t.1 < length src
      hr = (formed t.1 ht).0

      own : rep src t.1 ≡ t.1
      own = flat t.1 ht

      long₁ : length (pushed m (rep src t.1)).1 ≡ suc (length m.1)
      long₁ = omega (arith, length-append m.1 (new_node (length m.1) unknown ∷ []))

      filled : param_for ps (state_at src (rep src t.1)) ≡ none → (i : Bool) (kd d : ℕ) (cs : List Ty) → state_at src (rep src t.1) ≡ known i kd d cs → More m h (pushed m (rep src t.1)) (put h (length m.1) (g (rep src t.1))) → (res : List Ty × Transfer) → AllCame (pushed m (rep src t.1)) (put h (length m.1) (g (rep src t.1))) cs res →
          Came m h t ((xor t.0 (node_at src t.1).up.0, length m.1), (res.1.0, set res.1.1 (length m.1) (new_node (length m.1) (known i kd d res.0))))
      filled p i kd d cs q w res a = record {
        by = a.by;
        more = record { holds = fill res.1 a.by (length m.1) (rep src t.1) inside hr p mine i kd d cs res.0 q a.inside a.label a.more.holds; grown = omega (arith, inside, len); agree = λ n b. a.more.agree n (omega (arith, long₁)) ∙ w.agree n b };
        inside = omega (arith, inside, len);
        label = mine ∙ ap g own;
      }
        where
          inside : length m.1 < length res.1.1
          inside = omega (arith, long₁, a.more.grown)

          len : length (set res.1.1 (length m.1) (new_node (length m.1) (known i kd d res.0))) ≡ length res.1.1
          len = length-set res.1.1 (length m.1) (new_node (length m.1) (known i kd d res.0))

          mine : a.by (length m.1) ≡ g (rep src t.1)
          mine = a.more.agree (length m.1) (omega (arith, long₁)) ∙ put_at h (length m.1) (g (rep src t.1))

      go : (o : Option Ty) → mapped m.0 (rep src t.1) ≡ o → (u : Option Ty) → param_for ps (state_at src (rep src t.1)) ≡ u → (st : TypeState) → state_at src (rep src t.1) ≡ st → Moves k (transfer_in k src ps) → Came m h t (transfer_in (suc k) src ps t m)
      go (some u) e w p st q ih = let a = v.went (rep src t.1) u e in rw (e, transfer_in) (record { by = h; more = more_refl m h v; inside = a.0; label = a.1 ∙ ap g own })
      go none e (some u) p st q ih = let a = meet.param (rep src t.1) u hr p in rw (e, p, transfer_in) (record { by = h; more = more_refl m h v; inside = le_trans a.0 v.long; label = v.old u.1 a.0 ∙ sym a.1 ∙ ap g own })
      go none e none p unknown q ih = rw (e, p, q, transfer_in) (record { by = put h (length m.1) (g (rep src t.1)); more = push m h (rep src t.1) hr p v; inside = omega (arith, long₁); label = put_at h (length m.1) (g (rep src t.1)) ∙ ap g own })
      go none e none p (known i kd d cs) q ih =
          let w = push m h (rep src t.1) hr p v in
          rw (e, p, q, transfer_in)
          (filled p i kd d cs q w _ (all_come k (λ c w. transfer_in k src ps c w) ih cs (λ j b. (child_in (length src) cs j (subst (ChildrenIn (length src)) q (formed t.1 ht).2) b, omega (arith, ranked.falls t.1 ht i kd d cs q j b))) (pushed m (rep src t.1)) (put h (length m.1) (g (rep src t.1))) w.holds))

  -- It holds before anything has come.
  begin : Labelled ([], dst) f
  unfolding mapped
  begin = record { long = le_refl _; old = λ n b. refl; went = λ r u e. absurd (none-ne-some u e); new = λ n l b. absurd (omega arith) }

  -- The table that is left.
  module _ (gd : WellFormed dst) (m : Transfer) (fr : Frame ([], dst) m) (h : ℕ → ℕ) (v : Labelled m h) where
    rep_old : (n : ℕ) → n < length dst → rep m.1 n ≡ rep dst n
    unfolding rep
    rep_old n b = ap (λ (x : TypeNode). x.up.1) (fr.nodes n b)

    -- A known root of it: one of dst, or a new node for a known one of the source.
    record Old (n : ℕ) (cs : List Ty) : Type 0 where
      inside : n < length dst
      own : rep dst n ≡ n
      side : Bool
      kind : ℕ
      id : ℕ
      is : state_at dst n ≡ known side kind id cs
      same : labels h cs ≡ labels f cs

    record New (n : ℕ) (cs : List Ty) : Type 0 where
      root : ℕ
      inside : root < length src
      plain : param_for ps (state_at src root) ≡ none
      label : h n ≡ g root
      side : Bool
      kind : ℕ
      id : ℕ
      kids : List Ty
      is : state_at src root ≡ known side kind id kids
      same : labels h cs ≡ labels g kids

    known_root : (n : ℕ) → n < length m.1 → rep m.1 n ≡ n → (i : Bool) (k d : ℕ) (cs : List Ty) → state_at m.1 n ≡ known i k d cs → Old n cs ⊎ New n cs
    known_root n b r i k d cs q = ⊎_elim (λ l. inl (first l)) (λ l. inr (go (v.new n l b) (state_at src (v.new n l b).root) refl)) (lt_or n (length dst))
      where
        first : n < length dst → Old n cs
        first l =
            let own = sym (rep_old n l) ∙ r in
            let is = sym (frame_state ([], dst) m n l fr) ∙ q in
            record { inside = l; own = own; side = i; kind = k; id = d; is = is; same = labels-same h f (length dst) v.old cs (subst (ChildrenIn (length dst)) (ap (state_at dst) own ∙ is) (gd n l).2) }

        go : (w : Stands m.1 h n) (st : TypeState) → state_at src w.root ≡ st → New n cs
        go w unknown e = absurd (subst (Filled (length m.1) h (known i k d cs)) e (subst (λ x. Filled (length m.1) h x (state_at src w.root)) q w.filled))
        go w (known i' k' d' cs') e = record { root = w.root; inside = w.inside; plain = w.plain; label = w.label; side = i'; kind = k'; id = d'; kids = cs'; is = e; same = (subst (Filled (length m.1) h (known i k d cs)) e (subst (λ x. Filled (length m.1) h x (state_at src w.root)) q w.filled)).1 }

    both_alike : (a b : ℕ) (cs ds : List Ty) → h a ≡ h b → Old a cs ⊎ New a cs → Old b ds ⊎ New b ds → labels h cs ≡ labels h ds
    both_alike a b cs ds e (inl x) (inl y) = x.same ∙ meet.nodes.closed a b x.inside y.inside x.own y.own (sym (v.old a x.inside) ∙ e ∙ v.old b y.inside) _ _ _ _ _ _ cs ds x.is y.is ∙ sym y.same
    both_alike a b cs ds e (inl x) (inr y) = x.same ∙ sym (meet.both y.root a y.inside x.inside y.plain x.own (sym y.label ∙ sym e ∙ v.old a x.inside) _ _ _ _ _ _ y.kids cs y.is x.is) ∙ sym y.same
    both_alike a b cs ds e (inr x) (inl y) = x.same ∙ meet.both x.root b x.inside y.inside x.plain y.own (sym x.label ∙ e ∙ v.old b y.inside) _ _ _ _ _ _ x.kids ds x.is y.is ∙ sym y.same
    both_alike a b cs ds e (inr x) (inr y) = x.same ∙ meet.source x.root y.root x.inside y.inside x.plain y.plain (sym x.label ∙ e ∙ y.label) _ _ _ _ _ _ x.kids y.kids x.is y.is ∙ sym y.same

    left-labels : Labels h m.1
    left-labels = record {
      up = λ n b. ⊎_elim (λ l. v.old n l ∙ meet.nodes.up n l ∙ sym (v.old (rep dst n) (gd n l).0) ∙ ap h (sym (rep_old n l))) (λ l. ap h (sym (fr.flat n l b))) (lt_or n (length dst));
      closed = λ a b ha hb ra rb e i j k d k' d' cs ds p q. both_alike a b cs ds e (known_root a ha ra i k d cs p) (known_root b hb rb j k' d' ds q);
    }

    left_unheld : (l : ℕ) → Unheld f dst l → ((r : ℕ) → r < length src → param_for ps (state_at src r) ≡ none → g r ≡ l → state_at src r ≡ unknown) → Unheld h m.1 l
    left_unheld l u free = record { at = λ n b r e. go n b r e (state_at m.1 n) refl }
      where
        not_known : (n : ℕ) (cs : List Ty) → h n ≡ l → Old n cs ⊎ New n cs → ⊥
        not_known n cs e (inl x) = known≢ (sym x.is ∙ u.at n x.inside x.own (sym (v.old n x.inside) ∙ e))
        not_known n cs e (inr x) = known≢ (sym x.is ∙ free x.root x.inside x.plain (sym x.label ∙ e))

        go : (n : ℕ) → n < length m.1 → rep m.1 n ≡ n → h n ≡ l → (st : TypeState) → state_at m.1 n ≡ st → st ≡ unknown
        go n b r e unknown q = refl
        go n b r e (known i k d cs) q = absurd (not_known n cs e (known_root n b r i k d cs q))

-- An import from a neat table of types that are their own roots: labels of both tables extend to the one that it leaves.
pub labels-come : (src : Types) → Neat src → ((n : ℕ) → n < length src → rep src n ≡ n) → (ps : Option (List Ty)) (dst : Types) → WellFormed dst → (g f : ℕ → ℕ) → LabelsMeet src ps dst g f → (xs : List Ty) → AllIn (length src) xs → LabelsCome src ps dst g f xs (transfer_types src ps xs ([], dst))
unfolding transfer_types
labels-come src tidy flat ps dst gd g f meet xs inside = record {
  by = a.by;
  old = a.more.agree;
  nodes = left-labels src formed flat (rank src) ranked ps dst g f meet gd _ frame a.by a.more.holds;
  came = a.label;
  went = a.more.holds.went;
  unheld = left_unheld src formed flat (rank src) ranked ps dst g f meet gd _ frame a.by a.more.holds;
}
  where
    formed : WellFormed src
    formed = tidy.proper.formed

    ranked : Ranked src (rank src)
    ranked = readable_ranked src tidy.proper.formed tidy.proper.kept

    way : Ty → Transfer → Ty × Transfer
    way = transfer_in (suc (length src)) src ps

    frame : Frame ([], dst) (transfer_each way xs ([], dst)).1
    frame = each_frame way (in_frame src ps (suc (length src))) xs ([], dst)

    a : AllCame src formed flat (rank src) ranked ps dst g f meet ([], dst) f xs (transfer_each way xs ([], dst))
    a = all_come src formed flat (rank src) ranked ps dst g f meet (suc (length src)) way (in_comes src formed flat (rank src) ranked ps dst g f meet (suc (length src))) xs (λ j l. (child_in (length src) xs j inside l, omega (arith, readable_most src formed tidy.proper.kept (get_or xs j (false, 0)).1))) ([], dst) f (begin src formed flat (rank src) ranked ps dst g f meet)
