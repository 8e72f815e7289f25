-- What a candidate's signature, or an impl parameter of the caller's generics, and the question have in common where they unify, as terms with sides: a reading of what an import brought is one of what it came from.
use Prim.Native.Nat.{ℕ, zero, suc, ◌+◌, ◌≤◌, ◌<◌}
use Rattle.std.specs.Prelude.{◌≡◌, Bool, ◌≢◌, ◌⊎◌, T, get_or, set}
use Rattle.std.proofs.Math.Path.{refl, sym, ap, ap₂, subst}
use Rattle.std.proofs.Common.{◌∙◌, not-suc-le-zero, le_refl, le_trans, lt_irrefl, arith, eqb→eq, length-append}
use Rattle.std.proofs.Math.Bool.{true, false}
use mathlib.Core.List.{List, [], ◌∷◌}
use Rattle.std.proofs.Math.Option.{Option, none, some, none-ne-some, some-injective}
use Rattle.std.proofs.Math.Logic.{inl, inr, ⊎_elim}
use Rattle.std.proofs.Math.Decide.{ℕ_discrete}
use Rattle.std.proofs.Math.Dec.{eqb}
use Rattle.std.proofs.Math.ListN.{length, length-set}
use Rattle.rules.specs.Lists.{Words}
use Rattle.rules.specs.Layout.{header_impls, kind_error, kind_param}
use Rattle.rules.specs.Sheet.{many, generics_table, impl_table}
use Rattle.rules.specs.Types.{Ty, TypeState, unknown, known, TypeNode, Types, new_node, node_at, xor, invert_if, find, state_at, success, Unified, ImplType, unify_impl_type}
use Rattle.rules.specs.Transfer.{Transfer, mapped, param_for, transfer_each, transfer_in, transfer_types, import_types, import_impl_type}
use Rattle.rules.specs.Search.{Finder, impl_signature, impl_params, fresh_params, with_fresh}
use Rattle.rules.specs.Solutions.{rep, AllIn, ChildrenIn, WellFormed}
use Rattle.rules.specs.RootRank.{rank, child_in}
use Rattle.rules.specs.Readings.{Ranked, readable_ranked, readable_most}
use Rattle.rules.specs.TransferKeeps.{set_off}
use Rattle.rules.specs.CheckedTables.{table-flat, Ready}
use Rattle.rules.specs.Carried.{pushed}
use Rattle.rules.specs.TransferCount.{mapped_other, mapped_here}
use Rattle.rules.specs.Neat.{Neat, Brought, Joined, in_more, low_none, query_brought, unify_query_neat, fresh-length, signature_neat, signature_in, impl_params_neat}
use Rattle.rules.specs.SearchKeeps.{fresh_count, met, signature_brought}
use Rattle.rules.specs.CommonTerms.{Frame, frame_state, snoc_state, set_state, each_frame, past_push, in_frame, fresh_first, Bare, params_bare}
use Rattle.rules.specs.CommonSides.{xor-none}
use Rattle.rules.specs.ErrorsApart.{IsError, Apart, impl_type_apart, import_came, import_once}
use Rattle.rules.specs.SignedTerms.{Signed, svar, snil, scons, inverse, turned, SignedSol, value, values, made, label, SignedFits, SignedSolves, SignedSuits, SignedReads, SignedCommon, turned-made, value_invert, value-find, label-plain, label_same}
use Rattle.rules.specs.SignedJoins.{impl_type_signed, shape, signed_reading, read_up, read_root, has-signed}

-- τ reads a source as an import with ps takes it: a Param is what stands for it, if anything does,
record SignedFollows (s : Words) (μ : ℕ → ℕ) (src : Types) (ps : Option (List Ty)) (σ τ : SignedSol) : Type 0 where
  param : (r : ℕ) (u : Ty) → r < length src → param_for ps (state_at src r) ≡ some u → value s σ u ≡ τ r
  -- and any other known type is over what its children are.
  plain : (r : ℕ) (i : Bool) (k d : ℕ) (cs : List Ty) → r < length src → param_for ps (state_at src r) ≡ none → state_at src r ≡ known i k d cs → τ r ≡ made s i k (label μ k d r) (values s τ cs)

-- Where parameters are given, a Param is what was given for it.
unfoldable pub signed_given : Words → List Ty → SignedSol → SignedSol
signed_given s ps σ d = value s σ (get_or ps d (false, 0))

given_follows : (s : Words) (μ : ℕ → ℕ) (src : Types) (ps : List Ty) (σ τ : SignedSol) → SignedReads s μ src (signed_given s ps σ) τ → SignedFollows s μ src (some ps) σ τ
unfolding param_for signed_given
given_follows s μ src ps σ τ reads = record { param = λ r u h e. param_reads r u (state_at src r) (reads r h) e; plain = λ r i k d cs h e q. plain_reads r i k d cs (eqb k kind_param) refl (subst (SignedSuits s μ (signed_given s ps σ) τ r) q (reads r h)) (sym (ap (param_for (some ps)) q) ∙ e) }
  where
    param_reads : (r : ℕ) (u : Ty) (st : TypeState) → SignedSuits s μ (signed_given s ps σ) τ r st → param_for (some ps) st ≡ some u → value s σ u ≡ τ r
    param_reads r u unknown w q = absurd (none-ne-some u q)
    param_reads r u (known i k d cs) w q = at_kind (eqb k kind_param) refl
      where
        at_kind : (b : Bool) → eqb k kind_param ≡ b → value s σ u ≡ τ r
        at_kind true z = ap (value s σ) (sym (some-injective _ _ (rw (z, param_for) at q))) ∙ value_invert s σ i (get_or ps d (false, 0)) ∙ sym (rw (z, SignedSuits) at w)
        at_kind false z = absurd (none-ne-some u (rw (z, param_for) at q))

    plain_reads : (r : ℕ) (i : Bool) (k d : ℕ) (cs : List Ty) (b : Bool) → eqb k kind_param ≡ b → SignedSuits s μ (signed_given s ps σ) τ r (known i k d cs) → param_for (some ps) (known i k d cs) ≡ none → τ r ≡ made s i k (label μ k d r) (values s τ cs)
    plain_reads r i k d cs true z w e = absurd (none-ne-some _ (sym (rw (z, param_for) at e)))
    plain_reads r i k d cs false z w e = rw (z, SignedSuits) at w

-- Where none are given, a Param is a type of its own, without children.
unfoldable signed_itself : Words → SignedSol
signed_itself s d = made s false kind_param d snil

-- A Param is no Error.
param≢error : kind_param ≢ kind_error
param≢error q = absurd (omega (arith, q))

none_follows : (s : Words) (μ : ℕ → ℕ) (src : Types) → ((n : ℕ) → Bare (state_at src n)) → (σ τ : SignedSol) → SignedReads s μ src (signed_itself s) τ → SignedFollows s μ src none σ τ
unfolding param_for values signed_itself
none_follows s μ src bare σ τ reads = record { param = λ r u h e. absurd (none-ne-some u e); plain = λ r i k d cs h e q. go r i k d cs (subst Bare q (bare r)) (eqb k kind_param) refl (subst (SignedSuits s μ (signed_itself s) τ r) q (reads r h)) }
  where
    go : (r : ℕ) (i : Bool) (k d : ℕ) (cs : List Ty) → (k ≡ kind_param → cs ≡ []) → (b : Bool) → eqb k kind_param ≡ b → SignedSuits s μ (signed_itself s) τ r (known i k d cs) → τ r ≡ made s i k (label μ k d r) (values s τ cs)
    go r i k d cs f true z w =
        let e = eqb→eq k kind_param (subst T (sym z) tt) in
        (rw (z, SignedSuits) at w) ∙ turned-made s i false kind_param d snil ∙ ap (λ b. made s b kind_param d snil) (xor-none i) ∙ ap₂ (λ (x : ℕ) (ys : List Ty). made s i x d (values s τ ys)) (sym e) (sym (f e)) ∙ ap (λ l. made s i k l (values s τ cs)) (sym (label-plain μ k d r (λ q. param≢error (sym e ∙ q))))
    go r i k d cs f false z w = rw (z, SignedSuits) at w

-- A source whose nodes are their own roots, ranked by δ, read by τ as its import takes it; σ solves the table that the transfer leaves, of which the nodes from lo on are new, and M is its mapping, which keeps names.
module _ (s : Words) (ν μ : ℕ → ℕ) (src : Types) (formed : WellFormed src) (flat : (n : ℕ) → n < length src → rep src n ≡ n) (δ : ℕ → ℕ) (ranked : Ranked src δ) (ps : Option (List Ty)) (lo : ℕ) (M : List (ℕ × Ty)) (σ τ : SignedSol) (ups : (n : ℕ) → n < length src → τ n ≡ value s τ (node_at src n).up) (follows : SignedFollows s μ src ps σ τ) (left : (r : ℕ) (u : Ty) → r < length src → state_at src r ≡ unknown → mapped M r ≡ some u → value s σ u ≡ τ r) (namesake : (r : ℕ) (u : Ty) → mapped M r ≡ some u → μ r ≡ ν u.1) where
  -- The new nodes of m fit σ, and what went somewhere by then is in M.
  record Ends (m : Transfer) : Type 0 where
    fits : (n : ℕ) → lo ≤ n → n < length m.1 → SignedFits s ν σ n (state_at m.1 n)
    kept : (r : ℕ) (u : Ty) → mapped m.0 r ≡ some u → mapped M r ≡ some u

  -- It held before.
  ends_before : (m m' : Transfer) → Frame m m' → Ends m' → Ends m
  ends_before m m' f e = record {
    fits = λ n l h. subst (SignedFits s ν σ n) (frame_state m m' n h f) (e.fits n l (le_trans h f.long));
    kept = λ r u q. e.kept r u (f.went r u q);
  }

  -- Before a node was filled, too: it was unknown.
  ends_unfilled : (m : Transfer) (n : ℕ) (st : TypeState) → state_at m.1 n ≡ unknown → Ends (m.0, set m.1 n (new_node n st)) → Ends m
  unfolding state_at
  ends_unfilled m n st q e = record { fits = λ k l h. go k l h (ℕ_discrete k n); kept = e.kept }
    where
      go : (k : ℕ) → lo ≤ k → k < length m.1 → Dec (k ≡ n) → SignedFits s ν σ k (state_at m.1 k)
      go k l h (yes z) = subst (SignedFits s ν σ k) (sym (ap (state_at m.1) z ∙ q)) tt
      go k l h (no z) = subst (SignedFits s ν σ k) (ap (λ (x : TypeNode). x.state) (set_off m.1 n k (new_node n st) z)) (e.fits k l (omega (arith, length-set m.1 n (new_node n st))))

  -- Roots of rank below b went to what they read as: those above are still being moved.
  abbrev Agrees : ℕ → Transfer → Type 0
  Agrees b m = (r : ℕ) (u : Ty) → δ r < b → mapped m.0 r ≡ some u → value s σ u ≡ τ r

  -- So did all that went somewhere between m and m'.
  abbrev Grows : Transfer → Transfer → Type 0
  Grows m m' = (r : ℕ) (u : Ty) → mapped m'.0 r ≡ some u → (mapped m.0 r ≡ some u) ⊎ (value s σ u ≡ τ r)

  agrees_on : (b : ℕ) (m m' : Transfer) → Grows m m' → Agrees b m → Agrees b m'
  agrees_on b m m' g a r u h e = ⊎_elim (a r u h) (λ q. q) (g r u e)

  -- A type that was moved, and a list of them.
  record Moved (t : Ty) (m : Transfer) (res : Ty × Transfer) : Type 0 where
    is : value s σ res.0 ≡ value s τ t
    grows : Grows m res.1

  record AllMoved (cs : List Ty) (m : Transfer) (res : List Ty × Transfer) : Type 0 where
    are : values s σ res.0 ≡ values s τ cs
    grows : Grows m res.1

  -- A way to move types of rank below k that is right.
  abbrev Moves : ℕ → (Ty → Transfer → Ty × Transfer) → Type 0
  Moves k f = (b : ℕ) (t : Ty) → t.1 < length src → δ t.1 < k → δ t.1 < b → (m : Transfer) → lo ≤ length m.1 → Agrees b m → Ends (f t m).1 → Moved t m (f t m)

  all_moved : (k : ℕ) (f : Ty → Transfer → Ty × Transfer) → ((t : Ty) (m : Transfer) → Frame m (f t m).1) → Moves k f → (b : ℕ) → b ≤ k → (cs : List Ty) → ((j : ℕ) → j < length cs → ((get_or cs j (false, 0)).1 < length src) × (δ (get_or cs j (false, 0)).1 < b)) → (m : Transfer) → lo ≤ length m.1 → Agrees b m → Ends (transfer_each f cs m).1 → AllMoved cs m (transfer_each f cs m)
  unfolding transfer_each values
  all_moved k f fr moves b bk [] h m l a e = record { are = refl; grows = λ r u q. inl q }
  all_moved k f fr moves b bk (c ∷ cs) h m l a e =
      let c₀ = h 0 (omega arith) in
      let x = moves b c c₀.0 (le_trans c₀.1 bk) c₀.1 m l a (ends_before (f c m).1 _ (each_frame f fr cs (f c m).1) e) in
      let y = all_moved k f fr moves b bk cs (λ j q. h (suc j) (omega arith)) (f c m).1 (le_trans l (fr c m).long) (agrees_on b m (f c m).1 x.grows a) e in
      record { are = ap₂ scons x.is y.are; grows = λ r u q. ⊎_elim (x.grows r u) inr (y.grows r u q) }

  -- A root was pushed: what is mapped now was before, or is that one.
  grows_push : (m : Transfer) (r : ℕ) → σ (length m.1) ≡ τ r → Grows m (pushed m r)
  unfolding value turned
  grows_push m r w x u e = go (ℕ_discrete r x)
    where
      go : Dec (r ≡ x) → (mapped m.0 x ≡ some u) ⊎ (value s σ u ≡ τ x)
      go (yes q) = inr (ap (value s σ) (sym (some-injective _ _ (sym (mapped_here m.0 r (false, length m.1)) ∙ ap (mapped ((r, (false, length m.1)) ∷ m.0)) q ∙ e))) ∙ w ∙ ap τ q)
      go (no q) = inl (sym (mapped_other m.0 r (false, length m.1) x q) ∙ e)

  -- The pushed root is not of rank below b.
  agrees_push : (m : Transfer) (r b c : ℕ) → b ≤ c → b ≤ δ r → Agrees c m → Agrees b (pushed m r)
  agrees_push m r b c l h a x u d e = a x u (omega arith) (sym (mapped_other m.0 r (false, length m.1) x (λ q. lt_irrefl b (omega (arith, ap δ q)))) ∙ e)

  -- What a type's root went to, inverted as the type is of it.
  root_moved : (t u : Ty) → t.1 < length src → value s σ u ≡ τ (rep src t.1) → value s σ (invert_if (find src t).0 u) ≡ value s τ t
  unfolding value find invert_if rep
  root_moved t u h e = value_invert s σ (find src t).0 u ∙ ap (turned s (find src t).0) e ∙ sym (value-find s src τ t (ups t.1 h))

  new_moved : (t : Ty) (n : ℕ) → t.1 < length src → σ n ≡ τ (rep src t.1) → value s σ ((find src t).0, n) ≡ value s τ t
  unfolding value find invert_if rep
  new_moved t n h e = ap (turned s (find src t).0) e ∙ sym (value-find s src τ t (ups t.1 h))

  -- `transfer_type` with enough levels is right.
  in_moves : (k : ℕ) → Moves k (transfer_in k src ps)
  unfolding transfer_in find invert_if rep value turned
  in_moves zero b t ht hk hb m l a e = absurd (not-suc-le-zero hk)
  in_moves (suc k) b t ht hk hb m l a en = go (mapped m.0 (rep src t.1)) refl (param_for ps (state_at src (rep src t.1))) refl (state_at src (rep src t.1)) refl en (in_moves k)
    where
      hr : rep src t.1 < length src
      hr = (formed t.1 ht).0

      own : rep src t.1 ≡ t.1
      own = flat t.1 ht

      filled : (i : Bool) (kd d : ℕ) (cs : List Ty) → τ (rep src t.1) ≡ made s i kd (label μ kd d (rep src t.1)) (values s τ cs) → (res : List Ty × Transfer) → AllMoved cs (pushed m (rep src t.1)) res → Frame (pushed m (rep src t.1)) res.1 → Ends (res.1.0, set res.1.1 (length m.1) (new_node (length m.1) (known i kd d res.0))) →
          Moved t m ((xor t.0 (node_at src t.1).up.0, length m.1), (res.1.0, set res.1.1 (length m.1) (new_node (length m.1) (known i kd d res.0))))
      filled i kd d cs q res w f e = record { is = new_moved t (length m.1) ht at_new; grows = λ x u z. ⊎_elim (grows_push m (rep src t.1) at_new x u) inr (w.grows x u z) }
        where
          inside : length m.1 < length res.1.1
          inside = past_push m res.1 (rep src t.1) f

          name : label μ kd d (rep src t.1) ≡ label ν kd d (length m.1)
          name = label_same μ ν kd d (rep src t.1) (length m.1) (namesake (rep src t.1) (false, length m.1) (e.kept (rep src t.1) (false, length m.1) (f.went (rep src t.1) (false, length m.1) (mapped_here m.0 (rep src t.1) (false, length m.1)))))

          at_new : σ (length m.1) ≡ τ (rep src t.1)
          at_new = subst (SignedFits s ν σ (length m.1)) (set_state res.1.1 (length m.1) (known i kd d res.0) inside) (e.fits (length m.1) l (omega (arith, inside, length-set res.1.1 (length m.1) (new_node (length m.1) (known i kd d res.0))))) ∙ ap₂ (made s i kd) (sym name) w.are ∙ sym q

      go : (o : Option Ty) → mapped m.0 (rep src t.1) ≡ o → (u : Option Ty) → param_for ps (state_at src (rep src t.1)) ≡ u → (st : TypeState) → state_at src (rep src t.1) ≡ st → Ends (transfer_in (suc k) src ps t m).1 → Moves k (transfer_in k src ps) → Moved t m (transfer_in (suc k) src ps t m)
      go (some u) e w f st q z ih = rw (e, transfer_in) (record { is = root_moved t u ht (a (rep src t.1) u (subst (λ x. δ x < b) (sym own) hb) e); grows = λ x v y. inl y })
      go none e (some u) f st q z ih = rw (e, f, transfer_in) (record { is = root_moved t u ht (follows.param (rep src t.1) u hr f); grows = λ x v y. inl y })
      go none e none f unknown q z ih =
          let w : σ (length m.1) ≡ τ (rep src t.1) = went ((rw (e, f, q, transfer_in) at z).kept (rep src t.1) (false, length m.1) (mapped_here m.0 (rep src t.1) (false, length m.1))) in
          rw (e, f, q, transfer_in) (record { is = new_moved t (length m.1) ht w; grows = grows_push m (rep src t.1) w })
        where
          went : mapped M (rep src t.1) ≡ some (false, length m.1) → σ (length m.1) ≡ τ (rep src t.1)
          went y = left (rep src t.1) (false, length m.1) hr q y
      go none e none f (known i kd d cs) q z ih = rw (e, f, q, transfer_in) (filled i kd d cs (follows.plain (rep src t.1) i kd d cs hr f q) w moved fr done)
        where
          w : List Ty × Transfer
          w = transfer_each (λ c w. transfer_in k src ps c w) cs (pushed m (rep src t.1))

          fr : Frame (pushed m (rep src t.1)) w.1
          fr = each_frame (λ c w. transfer_in k src ps c w) (in_frame src ps k) cs (pushed m (rep src t.1))

          done : Ends (w.1.0, set w.1.1 (length m.1) (new_node (length m.1) (known i kd d w.0)))
          done = rw (e, f, q, transfer_in) at z

          still : state_at w.1.1 (length m.1) ≡ unknown
          still = frame_state (pushed m (rep src t.1)) w.1 (length m.1) (omega (arith, length-append m.1 (new_node (length m.1) unknown ∷ []))) fr ∙ snoc_state m.1 unknown

          moved : AllMoved cs (pushed m (rep src t.1)) w
          moved = all_moved k (λ c w. transfer_in k src ps c w) (in_frame src ps k) ih (δ t.1) (omega arith) cs
              (λ j y. (child_in (length src) cs j (subst (ChildrenIn (length src)) q (formed t.1 ht).2) y, ranked.falls t.1 ht i kd d cs q j y))
              (pushed m (rep src t.1)) (omega (arith, length-append m.1 (new_node (length m.1) unknown ∷ [])))
              (agrees_push m (rep src t.1) (δ t.1) b (omega arith) (omega (arith, ap δ own)) a)
              (ends_unfilled w.1 (length m.1) (known i kd d w.0) still done)

-- An import read as terms with sides: where σ solves the table that it leaves, what came is what the source reads as, with π for its Params and what σ says of its unknowns.
module _ (s : Words) (src : Types) (tidy : Neat src) (flat : (n : ℕ) → n < length src → rep src n ≡ n) (ps : Option (List Ty)) (dst : Types) (xs : List Ty) (inside : AllIn (length src) xs) (ν : ℕ → ℕ) (beyond : ℕ) (σ π : SignedSol) where
  abbrev come : List Ty × Transfer
  come = transfer_types src ps xs ([], dst)

  abbrev formed : WellFormed src
  formed = tidy.proper.formed

  abbrev ranked : Ranked src (rank src)
  ranked = readable_ranked src tidy.proper.formed tidy.proper.kept

  -- What came has the name of what it came to, anything else one beyond all others.
  unfoldable named_in : ℕ → ℕ
  named_in r = elim (mapped come.1.0 r) [ some u ↦ ν u.1 | none ↦ beyond + r ]

  named_some : (r : ℕ) (u : Ty) → mapped come.1.0 r ≡ some u → named_in r ≡ ν u.1
  unfolding named_in
  named_some r u e = rw (e, named_in)

  named_none : (r : ℕ) → mapped come.1.0 r ≡ none → named_in r ≡ beyond + r
  unfolding named_in
  named_none r e = rw (e, named_in)

  -- An unknown that came is what it came to,
  unfoldable arrived : SignedSol
  arrived r = elim (mapped come.1.0 r) [ some u ↦ value s σ u | none ↦ svar r false ]

  -- a Param what it is given,
  unfoldable put : ℕ → Bool → ℕ → ℕ → Signed → Signed
  put r i k d t = elim (eqb k kind_param) [ true ↦ turned s i (π d) | false ↦ made s i k (label named_in k d r) t ]

  -- and all else follows.
  unfoldable source : SignedSol
  source = signed_reading s src arrived put formed tidy.upright (rank src) ranked

  source_up : (n : ℕ) → n < length src → source n ≡ value s source (node_at src n).up
  unfolding source
  source_up = read_up s src arrived put formed tidy.upright (rank src) ranked

  source_root : (n : ℕ) → n < length src → source n ≡ shape s src arrived put source n (state_at src n)
  unfolding source
  source_root n h = subst (λ r. source r ≡ shape s src arrived put source r (state_at src r)) (flat n h) (read_root s src arrived put formed tidy.upright (rank src) ranked n h)

  source_reads : SignedReads s named_in src π source
  unfolding shape put
  source_reads n h = go (state_at src n) (source_root n h)
    where
      go : (st : TypeState) → source n ≡ shape s src arrived put source n st → SignedSuits s named_in π source n st
      go unknown e = tt
      go (known i k d cs) e = by (eqb k kind_param) refl
        where
          by : (b : Bool) → eqb k kind_param ≡ b → SignedSuits s named_in π source n (known i k d cs)
          by true q = rw (q, SignedSuits) (e ∙ rw (q, put))
          by false q = rw (q, SignedSuits) (e ∙ rw (q, put))

  source-left : (r : ℕ) (u : Ty) → r < length src → state_at src r ≡ unknown → mapped come.1.0 r ≡ some u → value s σ u ≡ source r
  unfolding shape arrived
  source-left r u h q e = sym (source_root r h ∙ ap (shape s src arrived put source r) q ∙ rw (e, arrived))

  -- and one that did not stays free.
  source_free : (r : ℕ) → r < length src → state_at src r ≡ unknown → mapped come.1.0 r ≡ none → source r ≡ svar r false
  unfolding shape arrived
  source_free r h q e = source_root r h ∙ ap (shape s src arrived put source r) q ∙ rw (e, arrived)

  import_frame : Frame ([], dst) come.1
  unfolding transfer_types
  import_frame = each_frame (transfer_in (suc (length src)) src ps) (in_frame src ps (suc (length src))) xs ([], dst)

  -- The nodes that were there stay,
  import_first : (n : ℕ) → n < length dst → node_at (import_types src ps xs dst).1 n ≡ node_at dst n
  unfolding import_types
  import_first n h = import_frame.nodes n h

  -- and what came reads as its source does.
  import_reads : SignedFollows s named_in src ps σ source → SignedSolves s ν (import_types src ps xs dst).1 σ → values s σ (import_types src ps xs dst).0 ≡ values s source xs
  unfolding import_types transfer_types mapped
  import_reads follows sv =
      (all_moved s ν named_in src formed flat (rank src) ranked ps (length dst) come.1.0 σ source source_up follows source-left named_some (suc (length src)) (transfer_in (suc (length src)) src ps) (in_frame src ps (suc (length src)))
      (in_moves s ν named_in src formed flat (rank src) ranked ps (length dst) come.1.0 σ source source_up follows source-left named_some (suc (length src))) (suc (length src)) (le_refl _) xs
      (λ j l. (child_in (length src) xs j inside l, omega (arith, readable_most src formed tidy.proper.kept (get_or xs j (false, 0)).1))) ([], dst) (le_refl _) (λ r u h e. absurd (none-ne-some u e))
      (record { fits = λ n l h. subst (λ k. SignedFits s ν σ k (state_at come.1.1 k)) (import_frame.flat n l h) (sv n h).1; kept = λ r u e. e })).are

-- What solves a table solves one whose nodes stand first in it.
signed_first : (s : Words) (ν : ℕ → ℕ) (ts us : Types) (σ : SignedSol) → WellFormed ts → length ts ≤ length us → ((n : ℕ) → n < length ts → node_at us n ≡ node_at ts n) → SignedSolves s ν us σ → SignedSolves s ν ts σ
unfolding rep state_at
signed_first s ν ts us σ formed l same sv n h =
    let r : rep us n ≡ rep ts n = ap (λ (x : TypeNode). x.up.1) (same n h) in
    let st : state_at us (rep us n) ≡ state_at ts (rep ts n) = ap (state_at us) r ∙ ap (λ (x : TypeNode). x.state) (same (rep ts n) (formed n h).0) in
    let w = sv n (le_trans h l) in
    (w.0 ∙ ap (λ (x : TypeNode). value s σ x.up) (same n h), subst (λ (k : ℕ). SignedFits s ν σ k (state_at ts (rep ts n))) r (subst (SignedFits s ν σ (rep us n)) st w.1))

-- The same in a solution of the table us that their join leaves: what is unknown there is not its own inverse, Params are as π says of that solution, and an unknown of the source is what it went to, or stays free.
pub record SignedJoined (s : Words) (ts src : Types) (xs ys : List Ty) (us : Types) (π : SignedSol → SignedSol) (went : ℕ → Option Ty) : Type 0 where
  pub common : SignedCommon s ts src xs ys
  pub free : (n : ℕ) → n < length us → state_at us (rep us n) ≡ unknown → inverse s (common.σ n) ≢ common.σ n
  pub given : (d : ℕ) → common.π d ≡ π common.σ d
  pub came : (r : ℕ) (u : Ty) → r < length src → state_at src r ≡ unknown → went r ≡ some u → common.τ r ≡ value s common.σ u
  pub left : (r : ℕ) → r < length src → state_at src r ≡ unknown → went r ≡ none → common.τ r ≡ svar r false

-- Where an import behind table ts unifies with a question of it, there are terms with sides that both are.
module _ (s : Words) (ts : Types) (q : ImplType) (neat : Neat ts) (inside : AllIn (length ts) q.1) (src : Types) (tidy : Neat src) (flat : (n : ℕ) → n < length src → rep src n ≡ n) (ps : Option (List Ty)) (dst : Types) (more : length ts ≤ length dst) (first : (n : ℕ) → n < length ts → node_at dst n ≡ node_at ts n) (p : ImplType) (into : AllIn (length src) p.1) where
  abbrev come_in : ImplType × Types
  come_in = import_impl_type src ps p dst

  -- The import goes on from dst.
  come_frame : Frame ([], dst) (transfer_types src ps p.1 ([], dst)).1
  unfolding transfer_types
  come_frame = each_frame (transfer_in (suc (length src)) src ps) (in_frame src ps (suc (length src))) p.1 ([], dst)

  -- A root that is Error is so behind the import,
  old_root : (n : ℕ) → n < length ts → rep ts n ≡ n → rep come_in.1 n ≡ n
  unfolding import_impl_type import_types rep
  old_root n h r = ap (λ (x : TypeNode). x.up.1) (come_frame.nodes n (le_trans h more) ∙ first n h) ∙ r

  old_error : (n : ℕ) → n < length ts → IsError (state_at ts n) → IsError (state_at come_in.1 n)
  unfolding import_impl_type import_types state_at
  old_error n h e = subst IsError (sym (ap (λ (x : TypeNode). x.state) (come_frame.nodes n (le_trans h more) ∙ first n h))) e

  -- and an Error that came is at a new root of its own.
  abbrev went_to : ℕ → Option Ty
  went_to = mapped (transfer_types src ps p.1 ([], dst)).1.0

  new_low : (r : ℕ) (u : Ty) → went_to r ≡ some u → length ts ≤ u.1
  new_low r u e = le_trans more (import_came src ps p.1 dst r u e).0

  new_in : (r : ℕ) (u : Ty) → went_to r ≡ some u → u.1 < length come_in.1
  unfolding import_impl_type import_types
  new_in r u e = (import_came src ps p.1 dst r u e).1

  new_root : (r : ℕ) (u : Ty) → went_to r ≡ some u → rep come_in.1 u.1 ≡ u.1
  unfolding import_impl_type import_types
  new_root r u e = come_frame.flat u.1 (import_came src ps p.1 dst r u e).0 (import_came src ps p.1 dst r u e).1

  new_error : (r : ℕ) (u : Ty) → went_to r ≡ some u → IsError (state_at src r) → IsError (state_at come_in.1 u.1)
  unfolding import_impl_type import_types
  new_error r u e = (import_came src ps p.1 dst r u e).2

  import_signed : Brought dst come_in.0.1 come_in.1 → (π : SignedSol → SignedSol) → ((μ : ℕ → ℕ) (σ τ : SignedSol) → SignedReads s μ src (π σ) τ → SignedFollows s μ src ps σ τ) → (unify_impl_type s come_in.1 come_in.0 q).0 ≡ success → SignedJoined s ts src p.1 q.1 (unify_impl_type s come_in.1 come_in.0 q).1 π went_to
  unfolding import_impl_type
  import_signed b π follow won = record {
    common = both;
    free = h.2;
    given = λ d. refl;
    came = λ k u l e g. sym (source-left s src tidy flat ps dst p.1 into ν beyond σ (π σ) k u l e g);
    left = source_free s src tidy flat ps dst p.1 into ν beyond σ (π σ);
  }
    where
      w : ImplType × Types
      w = come_in

      m : Unified
      m = unify_impl_type s come_in.1 come_in.0 q

      long : length ts ≤ length w.1
      long = le_trans more b.grown

      asked : AllIn (length w.1) q.1
      asked = in_more (length ts) (length w.1) long q.1 inside

      j : Joined w.1 m.1
      j = unify_query_neat s w.1 w.0 q b.neat b.inside asked

      -- A node's name is its root in the table that the join leaves.
      ν : ℕ → ℕ
      ν = rep m.1

      beyond : ℕ
      beyond = length m.1

      h : (θ : SignedSol) × SignedSolves s ν m.1 θ × ((n : ℕ) → n < length m.1 → state_at m.1 (rep m.1 n) ≡ unknown → inverse s (θ n) ≢ θ n)
      h = has-signed s ν m.1 j.neat.proper.formed j.neat.proper.kept j.neat.upright

      σ : SignedSol
      σ = h.0

      r : SignedSolves s ν w.1 σ × (values s σ w.0.1 ≡ values s σ q.1)
      r = impl_type_signed s ν w.1 w.0 q b.neat.proper.formed b.inside asked b.neat.proper.kept b.neat.upright won (λ x y hx hy e. e) σ h.1

      μ : ℕ → ℕ
      μ = named_in s src tidy flat ps dst p.1 into ν beyond σ (π σ)

      τ : SignedSol
      τ = source s src tidy flat ps dst p.1 into ν beyond σ (π σ)

      reads : SignedReads s μ src (π σ) τ
      reads = source_reads s src tidy flat ps dst p.1 into ν beyond σ (π σ)

      parts : Apart w.1 m.1
      parts = impl_type_apart s w.1 w.0 q b.neat.proper.formed b.inside asked b.neat.proper.kept won

      distinct : (x y : ℕ) → x < length w.1 → y < length w.1 → rep w.1 x ≡ x → rep w.1 y ≡ y → IsError (state_at w.1 x) → IsError (state_at w.1 y) → ν x ≡ ν y → x ≡ y
      distinct x y hx hy rx ry ex ey e = sym rx ∙ parts.apart x y hx hy (subst (λ n. IsError (state_at w.1 n)) (sym rx) ex) (subst (λ n. IsError (state_at w.1 n)) (sym ry) ey) e ∙ ry

      below : (n : ℕ) → n < length w.1 → ν n < beyond
      below n l = (j.neat.proper.formed n (subst (λ N. n < N) (sym j.len) l)).0

      here : (n : ℕ) (u : Ty) → went_to n ≡ some u → μ n ≡ ν u.1
      here = named_some s src tidy flat ps dst p.1 into ν beyond σ (π σ)

      away : (n : ℕ) → went_to n ≡ none → μ n ≡ beyond + n
      away = named_none s src tidy flat ps dst p.1 into ν beyond σ (π σ)

      of_source : (x y : ℕ) → IsError (state_at src x) → IsError (state_at src y) → μ x ≡ μ y → (u : Option Ty) → went_to x ≡ u → (v : Option Ty) → went_to y ≡ v → x ≡ y
      of_source x y ex ey e (some u) eu (some v) ev =
          import_once src ps tidy.proper.formed p.1 dst into x y u v eu ev
          (distinct u.1 v.1 (new_in x u eu) (new_in y v ev) (new_root x u eu) (new_root y v ev) (new_error x u eu ex) (new_error y v ev ey) (sym (here x u eu) ∙ e ∙ here y v ev))
      of_source x y ex ey e (some u) eu none ev = absurd (lt_irrefl beyond (omega (arith, below u.1 (new_in x u eu), here x u eu, e, away y ev)))
      of_source x y ex ey e none eu (some v) ev = absurd (lt_irrefl beyond (omega (arith, below v.1 (new_in y v ev), here y v ev, e, away x eu)))
      of_source x y ex ey e none eu none ev = omega (arith, away x eu, e, away y ev)

      of_both : (x y : ℕ) → y < length ts → rep ts y ≡ y → IsError (state_at src x) → IsError (state_at ts y) → μ x ≡ ν y → (u : Option Ty) → went_to x ≡ u → ⊥
      of_both x y hy ry ex ey e (some u) eu =
          let same : u.1 ≡ y = distinct u.1 y (new_in x u eu) (le_trans hy long) (new_root x u eu) (old_root y hy ry) (new_error x u eu ex) (old_error y hy ey) (sym (here x u eu) ∙ e) in
          lt_irrefl y (omega (arith, new_low x u eu, same))
      of_both x y hy ry ex ey e none eu = lt_irrefl beyond (omega (arith, below y (le_trans hy long), e, away x eu))

      both : SignedCommon s ts src p.1 q.1
      both = record {
        σ = σ;
        name = ν;
        solves = signed_first s ν ts w.1 σ neat.proper.formed long (λ k l. import_first s src tidy flat ps dst p.1 into ν beyond σ (π σ) k (le_trans l more) ∙ first k l) r.0;
        π = π σ;
        τ = τ;
        called = μ;
        reads = reads;
        same = sym (import_reads s src tidy flat ps dst p.1 into ν beyond σ (π σ) (follow μ σ τ reads) r.0) ∙ r.1;
        apart = λ x y hx hy rx ry ex ey e. distinct x y (le_trans hx long) (le_trans hy long) (old_root x hx rx) (old_root y hy ry) (old_error x hx ex) (old_error y hy ey) e;
        apart-source = λ x y hx hy ex ey e. of_source x y ex ey e (went_to x) refl (went_to y) refl;
        apart-both = λ x y hx hy ry ex ey e. of_both x y hy ry ex ey e (went_to x) refl;
      }

-- Where a candidate's signature unifies with the question, there are terms with sides that both are: the question in a solution of its table, the signature by the fresh unknowns for its parameters.
pub candidate_joined : (a : Finder) (w₀ : Words) → Ready a w₀ → (ts : Types) (q : ImplType) → Neat ts → AllIn (length ts) q.1 → (i : ℕ) → i < many a.sheet header_impls → (met a.sheet ts q i).0 ≡ success → SignedJoined a.sheet ts (impl_signature a.sheet i).0 (impl_signature a.sheet i).1.1 q.1 (met a.sheet ts q i).1 (signed_given a.sheet (fresh_params ts (fresh_count a.sheet i))) (mapped (transfer_types (impl_signature a.sheet i).0 (some (fresh_params ts (fresh_count a.sheet i))) (impl_signature a.sheet i).1.1 ([], with_fresh ts (fresh_count a.sheet i))).1.0)
unfolding impl_signature
candidate_joined a w₀ ready ts q neat inside i h won =
    let n = fresh_count a.sheet i in
    import_signed a.sheet ts q neat inside (impl_signature a.sheet i).0 (signature_neat a w₀ ready i h) (table-flat a.sheet (impl_table a.sheet i)) (some (fresh_params ts n)) (with_fresh ts n) (omega (arith, fresh-length ts n)) (fresh_first ts n)
    (impl_signature a.sheet i).1 (signature_in a w₀ ready i h) (signature_brought a w₀ ready ts q neat inside i h) (signed_given a.sheet (fresh_params ts n)) (λ μ. given_follows a.sheet μ (impl_signature a.sheet i).0 (fresh_params ts n)) won

-- So are there where an impl parameter of the caller's generics unifies with the question: its Params are types of their own.
pub param-signed : (a : Finder) (w₀ : Words) → Ready a w₀ → (ts : Types) (q : ImplType) → Neat ts → AllIn (length ts) q.1 → (p : ImplType) → AllIn (length (impl_params a.sheet a.generics).0) p.1 → (unify_impl_type a.sheet (import_impl_type (impl_params a.sheet a.generics).0 none p ts).1 (import_impl_type (impl_params a.sheet a.generics).0 none p ts).0 q).0 ≡ success → SignedCommon a.sheet ts (impl_params a.sheet a.generics).0 p.1 q.1
unfolding impl_params
param-signed a w₀ ready ts q neat inside p into won =
    let src = (impl_params a.sheet a.generics).0 in
    let tidy = impl_params_neat a w₀ ready a.generics ready.generics in
    (import_signed a.sheet ts q neat inside src tidy (table-flat a.sheet (generics_table a.sheet a.generics)) none ts (le_refl _) (λ k l. refl)
    p into (query_brought src tidy none ts neat (low_none ts) p into) (λ σ. signed_itself a.sheet) (λ μ. none_follows a.sheet μ src (params_bare a w₀ ready)) won).common
