-- What solves the table that a join that succeeds leaves, in terms with sides, solves the table before it, and gives what met one term; and a table that is read has such a solution.
use Prim.Native.Nat.{ℕ, zero, suc, ◌≤◌, ◌<◌}
use Rattle.std.specs.Prelude.{◌≡◌, Bool, not, ◌&&◌, ◌||◌, ◌≢◌, get_or}
use Rattle.std.proofs.Math.Path.{refl, sym, ap, ap₂, subst}
use Rattle.std.proofs.Common.{◌∙◌, true≢false, not-suc-le-zero, le_refl, lt_irrefl, eqb→eq}
use Rattle.std.proofs.Math.Bool.{true, false}
use mathlib.Core.List.{List, [], ◌∷◌, map}
use Rattle.std.proofs.Math.Option.{Option, none, some}
use native.Mathlib.Omega.{arith}
use Rattle.std.proofs.Math.Decide.{ℕ_discrete}
use Rattle.std.proofs.Math.Dec.{T, eqb}
use Rattle.std.proofs.Math.ListN.{length}
use Rattle.rules.specs.Lists.{Words, all}
use Rattle.rules.specs.Layout.{kind_closure, kind_error}
use Rattle.rules.specs.Sheet.{kind_flag, row_own_inverse, row_may_meet}
use Rattle.rules.specs.Types.{Ty, TypeState, unknown, known, Types, node_at, xor, invert_if, invert_state, find, state_at, kind, self_inverse_in, self_inverse, success, from_bool, larger, or_else, hang, join, Unified, occurs_in, unify_each, unify_types, unify_children, unify_known, bind_unknown, unify_states, unify_roots, unify_in, unify, ImplType, unify_impl_type}
use Rattle.rules.specs.Solutions.{term_size, Sol, terms, rep, Fits, Solves, AllIn, ChildrenIn, WellFormed, eqb_true, eqb_false, Readable}
use Rattle.rules.specs.Joining.{hang_state, hang_top, After, agree, alike, join_mates, Mates}
use Rattle.rules.specs.MostGeneral.{Won, Right, AfterAll, both_won, flip_in, each_right, known_right, join_won, states_right, unify_in_right}
use Rattle.rules.specs.RootRank.{rank, child_in}
use Rattle.rules.specs.Readings.{Ranked, readable_ranked}
use Rattle.rules.specs.OwnInverse.{opened}
use Rattle.rules.specs.Carried.{known_carries, unify_in_carries}
use Rattle.rules.specs.UprightRoots.{RootsUpright, hung_length, join-upright, unify-upright}
use Rattle.rules.specs.CommonTerms.{impl_type_right}
use Rattle.rules.specs.CommonSides.{xor_comm, xor_twice, same-side, up_stays, up_turns, known_met}
use Rattle.rules.specs.ErrorsApart.{Still, known_plain, known_still}
use Rattle.rules.specs.SignedTerms.{Signed, svar, scon, snil, scons, inverse, turned, SignedSol, value, values, made, label, SignedFits, SignedSolves, inverse_own, made_own, turned_twice, turned-back, inverse-turned, turned_own, turned-made, turned-values, values_same, value-find, made-met, label-plain, label_same, label_flag, Named}

-- Below a bound, if there is one.
abbrev Under : Option ℕ → ℕ → Type 0
Under none n = Unit {0}
Under (some b) n = n < b

under_less : (o : Option ℕ) (m n : ℕ) → m ≤ n → Under o n → Under o m
under_less none m n l u = tt
under_less (some b) m n l u = omega arith

-- θ solves a table at the nodes whose terms, in the solution σ without sides, are below a bound.
abbrev SolvesOn : Words → (ℕ → ℕ) → Sol → Option ℕ → Types → SignedSol → Type 0
SolvesOn s ν σ o ts θ = (n : ℕ) → n < length ts → Under o (term_size (σ n)) → (θ n ≡ value s θ (node_at ts n).up) × SignedFits s ν θ (rep ts n) (state_at ts (rep ts n))

-- The states of two roots, to be joined as types inverted as a and b say: where both are known they are of one kind and id, no Errors, of one side if it is not its own inverse, and of one list of children, inverted as they met.
abbrev Agreed : Words → SignedSol → Bool → Bool → TypeState → TypeState → Type 0
Agreed s θ a b unknown v = Unit {0}
Agreed s θ a b (known i k d xs) unknown = Unit {0}
Agreed s θ a b (known i k d xs) (known j k' d' ys) = (k ≡ k') × (d ≡ d') × (kind_flag s row_own_inverse k d ≡ false → xor i a ≡ xor j b) × (values s θ xs ≡ turned s (xor (xor i a) (xor j b)) (values s θ ys)) × (k ≢ kind_error)

agreed_flip : (s : Words) (θ : SignedSol) (a b : Bool) (u v : TypeState) → Agreed s θ a b u v → Agreed s θ b a v u
agreed_flip s θ a b unknown unknown f = tt
agreed_flip s θ a b unknown (known j k' d' ys) f = tt
agreed_flip s θ a b (known i k d xs) unknown f = tt
agreed_flip s θ a b (known i k d xs) (known j k' d' ys) f = (
  sym f.0,
  sym f.1,
  λ o. sym (f.2 (ap₂ (kind_flag s row_own_inverse) f.0 f.1 ∙ o)),
  sym (turned-back s (xor (xor i a) (xor j b)) (values s θ ys)) ∙ ap (turned s (xor (xor i a) (xor j b))) (sym f.3) ∙ ap (λ x. turned s x (values s θ xs)) (xor_comm (xor i a) (xor j b)),
  λ q. f.4 (f.0 ∙ q),
)

agreed_right : (s : Words) (θ : SignedSol) (a b : Bool) (u : TypeState) → Agreed s θ a b u unknown
agreed_right s θ a b unknown = tt
agreed_right s θ a b (known i k d xs) = tt

-- Root lo was hung under root hi: what solves the table that is left solves the one before, if what is known of them agrees.
module _ (s : Words) (ν : ℕ → ℕ) (ts : Types) (lo hi : Ty) (hlo : lo.1 < length ts) (hhi : hi.1 < length ts) (rlo : rep ts lo.1 ≡ lo.1) (rhi : rep ts hi.1 ≡ hi.1) (ne : lo.1 ≢ hi.1) (formed : WellFormed ts) (upright : RootsUpright ts) (named : ν lo.1 ≡ ν hi.1) (σ : Sol) (o : Option ℕ) (under : Under o (term_size (σ lo.1))) (θ : SignedSol) (sv : SolvesOn s ν σ o (hang ts lo hi) θ) where
  on : (n : ℕ) → n < length ts → n < length (hang ts lo hi)
  on n h = subst (λ m. n < m) (sym (hung_length ts lo hi)) h

  -- The lower root is the upper one, turned.
  up_low : (node_at (hang ts lo hi) lo.1).up ≡ (xor hi.0 lo.0, hi.1)
  up_low = up_turns ts lo hi hlo hhi rlo rhi ne formed lo.1 hlo rlo ∙ ap (λ z. (xor z (xor hi.0 lo.0), hi.1)) (upright lo.1 hlo rlo)

  low : θ lo.1 ≡ turned s (xor hi.0 lo.0) (θ hi.1)
  unfolding value
  low = (sv lo.1 (on lo.1 hlo) under).0 ∙ ap (value s θ) up_low

  hang-value : value s θ lo ≡ value s θ hi
  unfolding value
  hang-value = ap (turned s lo.0) low ∙ turned_twice s lo.0 (xor hi.0 lo.0) (θ hi.1) ∙ ap (λ z. turned s z (θ hi.1)) (ap (xor lo.0) (xor_comm hi.0 lo.0) ∙ xor_twice lo.0 hi.0)

  back_up : (n : ℕ) → n < length ts → Under o (term_size (σ n)) → θ n ≡ value s θ (node_at ts n).up
  unfolding value rep
  back_up n h u = go (ℕ_discrete (rep ts n) lo.1)
    where
      go : Dec (rep ts n ≡ lo.1) → θ n ≡ value s θ (node_at ts n).up
      go (yes q) =
          (sv n (on n h) u).0 ∙ ap (value s θ) (up_turns ts lo hi hlo hhi rlo rhi ne formed n h q) ∙ sym (turned_twice s (node_at ts n).up.0 (xor hi.0 lo.0) (θ hi.1))
          ∙ ap (turned s (node_at ts n).up.0) (sym low) ∙ ap (λ m. turned s (node_at ts n).up.0 (θ m)) (sym q)
      go (no q) = (sv n (on n h) u).0 ∙ ap (value s θ) (up_stays ts lo hi hlo hhi rlo rhi ne formed n h (upright n h) q)

  top_hi : (r : ℕ) (u v : TypeState) → SignedFits s ν θ r (or_else u v) → SignedFits s ν θ r u
  unfolding or_else
  top_hi r unknown v a = tt
  top_hi r (known i k d cs) v a = a

  back_fit : (n : ℕ) → n < length ts → Under o (term_size (σ n)) → rep ts n ≢ lo.1 → SignedFits s ν θ (rep ts n) (state_at ts (rep ts n))
  unfolding rep
  back_fit n h u q = go (ℕ_discrete (rep ts n) hi.1)
    where
      same : rep (hang ts lo hi) n ≡ rep ts n
      same = ap (λ (t : Ty). t.1) (up_stays ts lo hi hlo hhi rlo rhi ne formed n h (upright n h) q)

      fit : SignedFits s ν θ (rep ts n) (state_at (hang ts lo hi) (rep ts n))
      fit = subst (λ r. SignedFits s ν θ r (state_at (hang ts lo hi) r)) same (sv n (on n h) u).1

      go : Dec (rep ts n ≡ hi.1) → SignedFits s ν θ (rep ts n) (state_at ts (rep ts n))
      go (yes z) = subst (SignedFits s ν θ (rep ts n)) (ap (state_at ts) (sym z)) (top_hi (rep ts n) (state_at ts hi.1) _ (subst (SignedFits s ν θ (rep ts n)) (ap (state_at (hang ts lo hi)) z ∙ hang_top ts lo hi hlo hhi rlo rhi ne) fit))
      go (no z) = subst (SignedFits s ν θ (rep ts n)) (hang_state ts lo hi hlo hhi rlo rhi ne (rep ts n) (formed n h).0 z) fit

  low_fit : Agreed s θ lo.0 hi.0 (state_at ts lo.1) (state_at ts hi.1) → SignedFits s ν θ lo.1 (state_at ts lo.1)
  unfolding rep or_else invert_state
  low_fit f = go (state_at ts lo.1) (state_at ts hi.1) f (subst (SignedFits s ν θ hi.1) (hang_top ts lo hi hlo hhi rlo rhi ne) (subst (λ r. SignedFits s ν θ r (state_at (hang ts lo hi) r)) (ap (λ (t : Ty). t.1) up_low) (sv lo.1 (on lo.1 hlo) under).1))
    where
      go : (u v : TypeState) → Agreed s θ lo.0 hi.0 u v → SignedFits s ν θ hi.1 (or_else v (invert_state (xor hi.0 lo.0) u)) → SignedFits s ν θ lo.1 u
      go unknown v a e = tt
      go (known i k d xs) unknown a e =
          low ∙ ap (turned s (xor hi.0 lo.0)) e ∙ turned-made s (xor hi.0 lo.0) (xor (xor hi.0 lo.0) i) k (label ν k d hi.1) (values s θ xs)
          ∙ ap₂ (λ (z : Bool) (l : ℕ). made s z k l (values s θ xs)) (xor_twice (xor hi.0 lo.0) i) (label_same ν ν k d hi.1 lo.1 (sym named))
      go (known i k d xs) (known j k' d' ys) a e =
          let plain : label ν k' d' hi.1 ≡ d' = label-plain ν k' d' hi.1 (λ q. a.4 (a.0 ∙ q)) in
          low ∙ ap (turned s (xor hi.0 lo.0)) e ∙ turned-made s (xor hi.0 lo.0) j k' (label ν k' d' hi.1) (values s θ ys) ∙ ap₂ (λ (x y : ℕ). made s (xor (xor hi.0 lo.0) j) x y (values s θ ys)) (sym a.0) (plain ∙ sym a.1)
          ∙ sym (made-met s lo.0 hi.0 i j k d (values s θ xs) (values s θ ys) a.2 a.3) ∙ ap (λ l. made s i k l (values s θ xs)) (sym (label-plain ν k d lo.1 a.4))

  hang-back : Agreed s θ lo.0 hi.0 (state_at ts lo.1) (state_at ts hi.1) → SolvesOn s ν σ o ts θ
  hang-back f n h u = (back_up n h u, go (ℕ_discrete (rep ts n) lo.1))
    where
      go : Dec (rep ts n ≡ lo.1) → SignedFits s ν θ (rep ts n) (state_at ts (rep ts n))
      go (yes q) = subst (λ r. SignedFits s ν θ r (state_at ts r)) (sym q) (low_fit f)
      go (no q) = back_fit n h u q

  -- At the nodes below them it does in any case.
  hang_below : Solves ts σ → SolvesOn s ν σ (some (term_size (σ lo.1))) ts θ
  hang_below so n h u =
      let v = under_less o (term_size (σ n)) (term_size (σ lo.1)) (omega arith) under in
      (back_up n h v, back_fit n h v (λ q. lt_irrefl (term_size (σ n)) (omega (arith, ap term_size ((so n h).0 ∙ ap σ q)))))

-- Two roots that were joined.
module _ (s : Words) (ν : ℕ → ℕ) (ts : Types) (x y : Ty) (hx : x.1 < length ts) (hy : y.1 < length ts) (rx : rep ts x.1 ≡ x.1) (ry : rep ts y.1 ≡ y.1) (ne : x.1 ≢ y.1) (formed : WellFormed ts) (upright : RootsUpright ts) (named : ν x.1 ≡ ν y.1) (σ : Sol) (alike-sizes : term_size (σ x.1) ≡ term_size (σ y.1)) (o : Option ℕ) (under : Under o (term_size (σ x.1))) (θ : SignedSol) where
  join-back : SolvesOn s ν σ o (join ts x y) θ → Agreed s θ x.0 y.0 (state_at ts x.1) (state_at ts y.1) → SolvesOn s ν σ o ts θ × (value s θ x ≡ value s θ y)
  unfolding join
  join-back sv f = go (larger ts x y) refl sv
    where
      go : (c : Bool) → larger ts x y ≡ c → SolvesOn s ν σ o (join ts x y) θ → SolvesOn s ν σ o ts θ × (value s θ x ≡ value s θ y)
      go true e v =
          let w : SolvesOn s ν σ o (hang ts y x) θ = rw (e, join) at v in
          let u = subst (Under o) alike-sizes under in
          (hang-back s ν ts y x hy hx ry rx (λ q. ne (sym q)) formed upright (sym named) σ o u θ w (agreed_flip s θ x.0 y.0 (state_at ts x.1) (state_at ts y.1) f), sym (hang-value s ν ts y x hy hx ry rx (λ q. ne (sym q)) formed upright (sym named) σ o u θ w))
      go false e v =
          let w : SolvesOn s ν σ o (hang ts x y) θ = rw (e, join) at v in
          (hang-back s ν ts x y hx hy rx ry ne formed upright named σ o under θ w f, hang-value s ν ts x y hx hy rx ry ne formed upright named σ o under θ w)

  join_below : SolvesOn s ν σ o (join ts x y) θ → Solves ts σ → SolvesOn s ν σ (some (term_size (σ x.1))) ts θ
  unfolding join
  join_below sv so = go (larger ts x y) refl sv
    where
      go : (c : Bool) → larger ts x y ≡ c → SolvesOn s ν σ o (join ts x y) θ → SolvesOn s ν σ (some (term_size (σ x.1))) ts θ
      go true e v = subst (λ z. SolvesOn s ν σ (some z) ts θ) (sym alike-sizes) (hang_below s ν ts y x hy hx ry rx (λ q. ne (sym q)) formed upright (sym named) σ o (subst (Under o) alike-sizes under) θ (rw (e, join) at v) so)
      go false e v = hang_below s ν ts x y hx hy rx ry ne formed upright named σ o under θ (rw (e, join) at v) so

-- A type that `self_inverse` finds to be its own inverse has a term that is.
module _ (s : Words) (ν : ℕ → ℕ) (ts : Types) (formed : WellFormed ts) (σ : Sol) (so : Solves ts σ) (o : Option ℕ) (θ : SignedSol) (sv : SolvesOn s ν σ o ts θ) where
  not_own : (k : ℕ) (t : Ty) → state_at ts (rep ts t.1) ≡ unknown → self_inverse_in (suc k) s ts t ≡ false
  unfolding self_inverse_in kind find invert_if rep invert_state
  not_own k t q = rw (q, self_inverse_in, kind)

  own_values : (f : Ty → Bool) (cs : List Ty) → AllIn (length ts) cs → Under o (term_size (terms σ cs)) → ((c : Ty) → c.1 < length ts → Under o (term_size (σ c.1)) → f c ≡ true → inverse s (θ c.1) ≡ θ c.1) → all f cs ≡ true → inverse s (values s θ cs) ≡ values s θ cs
  unfolding all values value inverse terms term_size
  own_values f [] a u h e = refl
  own_values f (c ∷ cs) a u h e = go (f c) refl e (own_values f cs a.1 (under_less o (term_size (terms σ cs)) (term_size (terms σ (c ∷ cs))) (omega arith) u) h)
    where
      go : (b : Bool) → f c ≡ b → all f (c ∷ cs) ≡ true → (all f cs ≡ true → inverse s (values s θ cs) ≡ values s θ cs) → inverse s (values s θ (c ∷ cs)) ≡ values s θ (c ∷ cs)
      go true q z ih = ap₂ scons (inverse-turned s c.0 (θ c.1) ∙ ap (turned s c.0) (h c a.0 (under_less o (term_size (σ c.1)) (term_size (terms σ (c ∷ cs))) (omega arith) u) q)) (ih (rw (q, all) at z))
      go false q z ih = absurd (true≢false (sym (rw (q, all) at z)))

  own_value : (k : ℕ) (t : Ty) → t.1 < length ts → Under o (term_size (σ t.1)) → self_inverse_in k s ts t ≡ true → inverse s (θ t.1) ≡ θ t.1
  unfolding self_inverse_in value term_size rep
  own_value zero t h u e = absurd (true≢false (sym e))
  own_value (suc k) t h u e = go (state_at ts (rep ts t.1)) refl (own_value k)
    where
      go : (st : TypeState) → state_at ts (rep ts t.1) ≡ st → ((c : Ty) → c.1 < length ts → Under o (term_size (σ c.1)) → self_inverse_in k s ts c ≡ true → inverse s (θ c.1) ≡ θ c.1) → inverse s (θ t.1) ≡ θ t.1
      go unknown q ih = absurd (true≢false (sym e ∙ not_own k t q))
      go (known i kd d cs) q ih = flagged (kind_flag s row_own_inverse kd d) refl
        where
          size : term_size (σ t.1) ≡ suc (term_size (terms σ cs))
          size = ap term_size ((so t.1 h).0 ∙ subst (Fits σ (rep ts t.1)) q (so t.1 h).1)

          flagged : (b : Bool) → kind_flag s row_own_inverse kd d ≡ b → inverse s (θ t.1) ≡ θ t.1
          flagged false z = absurd (true≢false (sym e ∙ opened s ts formed k t q false z))
          flagged true z =
              let v = values s θ cs in
              let up = (sv t.1 h u).0 in
              let b = (node_at ts t.1).up.0 in
              let inner : inverse s v ≡ v = own_values (λ c. self_inverse_in k s ts c) cs (subst (ChildrenIn (length ts)) q (formed t.1 h).2) (under_less o (term_size (terms σ cs)) (term_size (σ t.1)) (omega (arith, size)) u) ih (sym (opened s ts formed k t q true z) ∙ e) in
              let l = label ν kd d (rep ts t.1) in
              let own : kind_flag s row_own_inverse kd l ≡ true = label_flag s row_own_inverse ν kd d (rep ts t.1) ∙ z in
              let root : θ (rep ts t.1) ≡ scon false kd l v = subst (SignedFits s ν θ (rep ts t.1)) q (sv t.1 h u).1 ∙ made_own s i kd l v own ∙ ap (scon false kd l) (turned_own s i v inner) in
              let same : inverse s (θ (rep ts t.1)) ≡ θ (rep ts t.1) = ap (inverse s) root ∙ inverse_own s false kd l v own ∙ ap (scon false kd l) inner ∙ sym root in
              let flat : θ t.1 ≡ θ (rep ts t.1) = up ∙ turned_own s b (θ (rep ts t.1)) same in
              ap (inverse s) flat ∙ same ∙ sym flat

-- A success of unification, layer by layer: what solves the table that is left, in which nodes of one class have one name, as far as the types that met reach, solves the table before as far, and gives them one term.
module _ (s : Words) (ν : ℕ → ℕ) where
  abbrev Told : Types → Ty → Ty → Types → Type 0
  Told ts a b us = Named ν us → (σ : Sol) → Solves us σ → (o : Option ℕ) → Under o (term_size (σ a.1)) → (θ : SignedSol) → SolvesOn s ν σ o us θ → SolvesOn s ν σ o ts θ × (value s θ a ≡ value s θ b)

  abbrev ToldAll : Types → List Ty → List Ty → Types → Type 0
  ToldAll ts xs ys us = Named ν us → (σ : Sol) → Solves us σ → (o : Option ℕ) → Under o (term_size (terms σ xs)) → (θ : SignedSol) → SolvesOn s ν σ o us θ → SolvesOn s ν σ o ts θ × (values s θ xs ≡ values s θ ys)

  abbrev Tells : (Types → Ty → Ty → Unified) → Type 0
  Tells f = (ts : Types) (a b : Ty) → WellFormed ts → a.1 < length ts → b.1 < length ts → Readable ts → RootsUpright ts → Won (f ts a b).0 → Told ts a b (f ts a b).1

  -- Nodes had one name before, too.
  named_before : (ts us : Types) → length us ≡ length ts → ((a b : ℕ) → a < length ts → b < length ts → rep ts a ≡ rep ts b → rep us a ≡ rep us b) → Named ν us → Named ν ts
  named_before ts us l same nm a b ha hb q = nm a b (subst (λ N. a < N) (sym l) ha) (subst (λ N. b < N) (sym l) hb) (same a b ha hb q)

  -- So had two that were joined.
  named_met : (ts us : Types) (a b : ℕ) → a < length ts → b < length ts → After ts a b us → Named ν us → ν a ≡ ν b
  named_met ts us a b ha hb r nm = nm a b (subst (λ N. a < N) (sym r.len) ha) (subst (λ N. b < N) (sym r.len) hb) r.meet

  bind_tell : (ts : Types) (x y : Ty) → WellFormed ts → x.1 < length ts → y.1 < length ts → rep ts x.1 ≡ x.1 → rep ts y.1 ≡ y.1 → x.1 ≢ y.1 → RootsUpright ts → ((θ : SignedSol) → Agreed s θ x.0 y.0 (state_at ts x.1) (state_at ts y.1)) → Won (bind_unknown ts x y).0 → ν x.1 ≡ ν y.1 → (σ : Sol) → term_size (σ x.1) ≡ term_size (σ y.1) → (o : Option ℕ) → Under o (term_size (σ x.1)) → (θ : SignedSol) → SolvesOn s ν σ o (bind_unknown ts x y).1 θ → SolvesOn s ν σ o ts θ × (value s θ x ≡ value s θ y)
  unfolding bind_unknown
  bind_tell ts x y formed hx hy rx ry ne up agreed w nm σ e o u θ sv = go (occurs_in (suc (length ts)) ts x.1 y || occurs_in (suc (length ts)) ts y.1 x) refl w sv
    where
      go : (b : Bool) → (occurs_in (suc (length ts)) ts x.1 y || occurs_in (suc (length ts)) ts y.1 x) ≡ b → Won (bind_unknown ts x y).0 → SolvesOn s ν σ o (bind_unknown ts x y).1 θ → SolvesOn s ν σ o ts θ × (value s θ x ≡ value s θ y)
      go true q v z = absurd (rw (q, bind_unknown) at v)
      go false q v z = join-back s ν ts x y hx hy rx ry ne formed up nm σ e o u θ (rw (q, bind_unknown) at z) (agreed θ)

  module _ (f : Types → Ty → Ty → Unified) (right : Right f) (keeps : (ts : Types) (a b : Ty) → RootsUpright ts → RootsUpright (f ts a b).1) (tells : Tells f) where
    each_tell : (ts : Types) (xs ys : List Ty) → WellFormed ts → AllIn (length ts) xs → AllIn (length ts) ys → length xs ≡ length ys → Readable ts → RootsUpright ts → Won (unify_each f ts xs ys).0 → ToldAll ts xs ys (unify_each f ts xs ys).1
    unfolding unify_each values terms term_size
    each_tell ts [] [] formed ax ay l fr up w = λ nm σ so o u θ sv. (sv, refl)
    each_tell ts [] (y ∷ ys) formed ax ay l fr up w = absurd (omega arith)
    each_tell ts (x ∷ xs) [] formed ax ay l fr up w = absurd (omega arith)
    each_tell ts (x ∷ xs) (y ∷ ys) formed ax ay l fr up w = λ nm σ so o u θ sv.
        let m = f ts x y in
        let won = both_won m.0 (unify_each f m.1 xs ys).0 w in
        let p = right ts x y formed ax.0 ay.0 fr won.0 in
        let len : length ts ≡ length m.1 = sym p.0.len in
        let bx = subst (λ N. AllIn N xs) len ax.1 in
        let by = subst (λ N. AllIn N ys) len ay.1 in
        let l' : length xs ≡ length ys = omega arith in
        let q = each_right f right m.1 xs ys p.0.formed bx by l' p.1 won.1 in
        let rest = each_tell m.1 xs ys p.0.formed bx by l' p.1 (keeps ts x y up) won.1 nm σ so o (under_less o (term_size (terms σ xs)) (term_size (terms σ (x ∷ xs))) (omega arith) u) θ sv in
        let first = tells ts x y formed ax.0 ay.0 fr up won.0 (named_before m.1 _ q.0.len q.0.same nm) σ (q.0.out σ so) o (under_less o (term_size (σ x.1)) (term_size (terms σ (x ∷ xs))) (omega arith) u) θ rest.0 in
        (first.0, ap₂ scons first.1 rest.1)

    children_tell : (ts : Types) (k : ℕ) (xs ys : List Ty) → WellFormed ts → AllIn (length ts) xs → AllIn (length ts) ys → Readable ts → RootsUpright ts → Won (unify_children f ts k xs ys).0 → ToldAll ts xs ys (unify_children f ts k xs ys).1
    unfolding unify_children
    children_tell ts k xs ys formed ax ay fr up w = go (eqb (length xs) (length ys)) refl (eqb k kind_closure) refl w
      where
        go : (b : Bool) → eqb (length xs) (length ys) ≡ b → (c : Bool) → eqb k kind_closure ≡ c → Won (unify_children f ts k xs ys).0 → ToldAll ts xs ys (unify_children f ts k xs ys).1
        go true e c q v = rw (e, unify_children) (each_tell ts xs ys formed ax ay (eqb→eq (length xs) (length ys) (subst T (sym e) tt)) fr up (rw (e, unify_children) at v))
        go false e true q v = absurd (rw (e, q, unify_children) at v)
        go false e false q v = absurd (rw (e, q, unify_children) at v)

    known_tell : (ts : Types) (inv : Bool) (k d : ℕ) (xs : List Ty) (k' d' : ℕ) (ys : List Ty) → WellFormed ts → AllIn (length ts) xs → AllIn (length ts) ys → Readable ts → RootsUpright ts → Won (unify_known f s ts inv k d xs k' d' ys).0 → ToldAll ts xs (map (invert_if inv) ys) (unify_known f s ts inv k d xs k' d' ys).1
    unfolding unify_known
    known_tell ts inv k d xs k' d' ys formed ax ay fr up w = go (eqb k kind_error || eqb k' kind_error) refl (eqb k k' && eqb d d' && (not inv || kind_flag s row_may_meet k d)) refl w
      where
        go : (b : Bool) → (eqb k kind_error || eqb k' kind_error) ≡ b → (c : Bool) → (eqb k k' && eqb d d' && (not inv || kind_flag s row_may_meet k d)) ≡ c → Won (unify_known f s ts inv k d xs k' d' ys).0 → ToldAll ts xs (map (invert_if inv) ys) (unify_known f s ts inv k d xs k' d' ys).1
        go true e c e' v = absurd (rw (e, unify_known) at v)
        go false e false e' v = absurd (rw (e, e', unify_known) at v)
        go false e true e' v = rw (e, e', unify_known) (children_tell ts k xs (map (invert_if inv) ys) formed ax (flip_in inv (length ts) ys ay) fr up (rw (e, e', unify_known) at v))

    module _ (ts : Types) (x y : Ty) (formed : WellFormed ts) (hx : x.1 < length ts) (hy : y.1 < length ts) (rx : rep ts x.1 ≡ x.1) (ry : rep ts y.1 ≡ y.1) (fr : Readable ts) (up : RootsUpright ts) where
      -- Two known roots.
      both_tell : x.1 ≢ y.1 → (i : Bool) (k d : ℕ) (xs : List Ty) (j : Bool) (k' d' : ℕ) (ys : List Ty) → state_at ts x.1 ≡ known i k d xs → state_at ts y.1 ≡ known j k' d' ys → let m = unify_known f s ts (xor (xor i x.0) (xor j y.0)) k d xs k' d' ys in Won m.0 → Told ts x y (join m.1 x y)
      unfolding term_size
      both_tell ne i k d xs j k' d' ys eu ev w = λ nm σ so o u θ sv.
          let r = join_mates us q.formed x y (on x.1 hx) (on y.1 hy) rx' ry' ne mates in
          let su = r.out σ so in
          let before = named_before us (join us x y) r.len r.same nm in
          let one = named_met us (join us x y) x.1 y.1 (on x.1 hx) (on y.1 hy) r nm in
          let size : term_size (σ x.1) ≡ term_size (σ y.1) = ap term_size (agree us (join us x y) x.1 y.1 (on x.1 hx) (on y.1 hy) r σ so) in
          let whole : term_size (σ x.1) ≡ suc (term_size (terms σ xs)) = ap term_size (fit σ (q.out σ su) x.1 hx rx (known i k d xs) eu) in
          let below = join_below s ν us x y (on x.1 hx) (on y.1 hy) rx' ry' ne q.formed upright one σ size o u θ sv su in
          let same = (told before σ su (some (term_size (σ x.1))) (omega (arith, whole)) θ below).1 in
          let agreed : Agreed s θ x.0 y.0 (known i k d xs) (known j k' d' ys) = (met'.0, met'.1, λ z. same-side (xor i x.0) (xor j y.0) (met'.2 z), same ∙ sym (turned-values s θ inv ys), (known_plain f s ts inv k d xs k' d' ys w).0) in
          let back = join-back s ν us x y (on x.1 hx) (on y.1 hy) rx' ry' ne q.formed upright one σ size o u θ sv (subst (Agreed s θ x.0 y.0 (state_at us x.1)) (sym sy) (subst (λ st. Agreed s θ x.0 y.0 st (known j k' d' ys)) (sym sx) agreed)) in
          ((told before σ su o (under_less o (term_size (terms σ xs)) (term_size (σ x.1)) (omega (arith, whole)) u) θ back.0).0, back.1)
        where
          children : (r : ℕ) (st : TypeState) → r < length ts → rep ts r ≡ r → state_at ts r ≡ st → ChildrenIn (length ts) st
          children r st h rr e = subst (ChildrenIn (length ts)) (ap (state_at ts) rr ∙ e) (formed r h).2

          inv : Bool
          inv = xor (xor i x.0) (xor j y.0)

          us : Types
          us = (unify_known f s ts inv k d xs k' d' ys).1

          ax : AllIn (length ts) xs
          ax = children x.1 (known i k d xs) hx rx eu

          ay : AllIn (length ts) ys
          ay = children y.1 (known j k' d' ys) hy ry ev

          p : (k ≡ k') × (d ≡ d') × AfterAll ts xs ys us × Readable us
          p = known_right f right s ts inv k d xs k' d' ys formed ax ay fr w

          q : AfterAll ts xs ys us
          q = p.2

          on : (n : ℕ) → n < length ts → n < length us
          on n h = subst (λ N. n < N) (sym q.len) h

          axu : AllIn (length us) xs
          axu = subst (λ N. AllIn N xs) (sym q.len) ax

          ayu : AllIn (length us) ys
          ayu = subst (λ N. AllIn N ys) (sym q.len) ay

          fit : (ρ : Sol) → Solves ts ρ → (r : ℕ) → r < length ts → rep ts r ≡ r → (st : TypeState) → state_at ts r ≡ st → Fits ρ r st
          fit ρ sv r h rr st e = subst (Fits ρ r) e (subst (λ n. Fits ρ n (state_at ts n)) rr (sv r h).1)

          still : Still ts us x.1 y.1
          still = known_still f right s ts x.1 y.1 formed hx hy rx ry fr inv i k d xs j k' d' ys eu ev w

          rx' : rep us x.1 ≡ x.1
          rx' = still.left

          ry' : rep us y.1 ≡ y.1
          ry' = still.right

          sx : state_at us x.1 ≡ known i k d xs
          sx = still.left_state ∙ eu

          sy : state_at us y.1 ≡ known j k' d' ys
          sy = still.right_state ∙ ev

          mates : Mates us x.1 y.1
          mates = alike i j k d xs ys sx (sy ∙ λ t. known j (sym p.0 t) (sym p.1 t) ys) axu ayu q.meet

          met' : (k ≡ k') × (d ≡ d') × (kind_flag s row_own_inverse k d ≡ false → inv ≡ false)
          met' = known_met f s ts inv k d xs k' d' ys w

          told : ToldAll ts xs (map (invert_if inv) ys) us
          told = known_tell ts inv k d xs k' d' ys formed ax ay fr up w

          upright : RootsUpright us
          upright = known_carries RootsUpright join-upright f keeps s ts inv k d xs k' d' ys up

      states_tell : x.1 ≢ y.1 → (u v : TypeState) → state_at ts x.1 ≡ u → state_at ts y.1 ≡ v → Won (unify_states f s ts x y u v).0 → Told ts x y (unify_states f s ts x y u v).1
      unfolding unify_states
      states_tell ne unknown v eu ev w = λ nm σ so o u θ sv.
          let r = (states_right f right s ts x y formed hx hy rx ry ne unknown v eu ev fr w).0 in
          bind_tell ts x y formed hx hy rx ry ne up (λ ρ. subst (λ st. Agreed s ρ x.0 y.0 st (state_at ts y.1)) (sym eu) tt) w (named_met ts _ x.1 y.1 hx hy r nm) σ (ap term_size (agree ts _ x.1 y.1 hx hy r σ so)) o u θ sv
      states_tell ne (known i k d xs) unknown eu ev w = λ nm σ so o u θ sv.
          let r = (states_right f right s ts x y formed hx hy rx ry ne (known i k d xs) unknown eu ev fr w).0 in
          bind_tell ts x y formed hx hy rx ry ne up (λ ρ. subst (Agreed s ρ x.0 y.0 (state_at ts x.1)) (sym ev) (agreed_right s ρ x.0 y.0 (state_at ts x.1))) w (named_met ts _ x.1 y.1 hx hy r nm) σ (ap term_size (agree ts _ x.1 y.1 hx hy r σ so)) o u θ sv
      states_tell ne (known i k d xs) (known j k' d' ys) eu ev w =
          let jw = join_won (unify_known f s ts (xor (xor i x.0) (xor j y.0)) k d xs k' d' ys) x y w in
          subst (Told ts x y) (sym jw.1) (both_tell ne i k d xs j k' d' ys eu ev jw.0)

      -- One root: upright, or its own inverse.
      one_tell : x.1 ≡ y.1 → Won (from_bool (not (xor x.0 y.0) || self_inverse s ts x)) → (σ : Sol) → Solves ts σ → (o : Option ℕ) → Under o (term_size (σ x.1)) → (θ : SignedSol) → SolvesOn s ν σ o ts θ → value s θ x ≡ value s θ y
      unfolding from_bool self_inverse value
      one_tell e w σ so o u θ sv = go (xor x.0 y.0) refl w
        where
          won_true : (b : Bool) → Won (from_bool b) → b ≡ true
          won_true true h = refl
          won_true false h = absurd h

          go : (b : Bool) → xor x.0 y.0 ≡ b → Won (from_bool (not b || self_inverse s ts x)) → value s θ x ≡ value s θ y
          go false q v = ap₂ (λ (c : Bool) (n : ℕ). turned s c (θ n)) (same-side x.0 y.0 q) e
          go true q v =
              let own : inverse s (θ x.1) ≡ θ x.1 = own_value s ν ts formed σ so o θ sv (suc (length ts)) x hx u (won_true (self_inverse s ts x) v) in
              turned_own s x.0 (θ x.1) own ∙ sym (turned_own s y.0 (θ x.1) own) ∙ ap (λ n. turned s y.0 (θ n)) e

      roots_tell : Won (unify_roots f s ts x y).0 → Told ts x y (unify_roots f s ts x y).1
      unfolding unify_roots
      roots_tell w = go (ℕ_discrete x.1 y.1) w
        where
          go : Dec (x.1 ≡ y.1) → Won (unify_roots f s ts x y).0 → Told ts x y (unify_roots f s ts x y).1
          go (yes e) v = rw (eqb_true x.1 y.1 e, unify_roots) (λ nm σ so o u θ sv. (sv, one_tell e (rw (eqb_true x.1 y.1 e, unify_roots) at v) σ so o u θ sv))
          go (no e) v = rw (eqb_false x.1 y.1 e, unify_roots) (states_tell e (state_at ts x.1) (state_at ts y.1) refl refl (rw (eqb_false x.1 y.1 e, unify_roots) at v))

  -- `unify`, to any depth.
  unify_in_tells : (n : ℕ) → Tells (unify_in n s)
  unfolding unify_in find invert_if rep
  unify_in_tells zero ts a b formed ha hb fr up w = absurd w
  unify_in_tells (suc n) ts a b formed ha hb fr up w = λ nm σ so o u θ sv.
      let ga = formed a.1 ha in
      let gb = formed b.1 hb in
      let r = (unify_in_right (suc n) s ts a b formed ha hb fr w).0 in
      let before = r.out σ so in
      let ab : σ a.1 ≡ σ b.1 = agree ts _ a.1 b.1 ha hb r σ so in
      let t = roots_tell (λ us t u. unify_in n s us t u) (unify_in_right n s) (unify_in_carries RootsUpright join-upright n s) (unify_in_tells n) ts (find ts a) (find ts b) formed ga.0 gb.0 ga.1 gb.1 fr up w nm σ so o (subst (λ t. Under o (term_size t)) (before a.1 ha).0 u) θ sv in
      (t.0, value-find s ts θ a (t.0 a.1 ha u).0 ∙ t.1 ∙ sym (value-find s ts θ b (t.0 b.1 hb (subst (λ t. Under o (term_size t)) ab u)).0))

  unify_tells : Tells (unify s)
  unfolding unify
  unify_tells ts = unify_in_tells (suc (length ts)) ts

  unify_right : Right (unify s)
  unfolding unify
  unify_right us = unify_in_right (suc (length us)) s us

  -- Where `unify_impl_type` succeeds and leaves nodes of one class with one name, what solves the table that it leaves solves the table before, and gives the arguments one term each.
  pub impl_type_signed : (ts : Types) (a b : ImplType) → WellFormed ts → AllIn (length ts) a.1 → AllIn (length ts) b.1 → Readable ts → RootsUpright ts → (unify_impl_type s ts a b).0 ≡ success → Named ν (unify_impl_type s ts a b).1 → (θ : SignedSol) → SignedSolves s ν (unify_impl_type s ts a b).1 θ → SignedSolves s ν ts θ × (values s θ a.1 ≡ values s θ b.1)
  unfolding unify_impl_type unify_types
  impl_type_signed ts a b formed ax ay fr up won nm θ sv =
      let r = (impl_type_right s ts a b formed ax ay fr won).1 in
      let t = told nm r.0 r.1.solves none tt θ (λ n h u. sv n h) in
      (λ n h. t.0 n h tt, t.1)
    where
      told : ToldAll ts a.1 b.1 (unify_impl_type s ts a b).1
      told = go (eqb a.0 0 || eqb b.0 0) refl (eqb a.0 b.0) refl (eqb (length a.1) (length b.1)) refl (subst Won (sym won) tt)
        where
          go : (o : Bool) → (eqb a.0 0 || eqb b.0 0) ≡ o → (p : Bool) → eqb a.0 b.0 ≡ p → (q : Bool) → eqb (length a.1) (length b.1) ≡ q → Won (unify_impl_type s ts a b).0 → ToldAll ts a.1 b.1 (unify_impl_type s ts a b).1
          go true e p e' q e'' w = absurd (rw (e, unify_impl_type) at w)
          go false e false e' q e'' w = absurd (rw (e, e', unify_impl_type) at w)
          go false e true e' false e'' w = absurd (rw (e, e', unify_impl_type, e'', unify_types) at w)
          go false e true e' true e'' w = rw (e, e', unify_impl_type) (rw (e'', unify_types) (each_tell (unify s) unify_right (unify-upright s) unify_tells ts a.1 b.1 formed ax ay (eqb→eq (length a.1) (length b.1) (subst T (sym e'') tt)) fr up (rw (e, e', unify_impl_type, e'', unify_types) at w)))

-- A table read as terms with sides: υ for its unknown roots, g for what is known at a root.
module _ (s : Words) (ts : Types) (υ : SignedSol) (g : ℕ → Bool → ℕ → ℕ → Signed → Signed) where
  unfoldable pub shape : SignedSol → ℕ → TypeState → Signed
  shape f r unknown = υ r
  shape f r (known i k d cs) = g r i k d (values s f cs)

  -- To k levels.
  unfoldable pub signed_of : ℕ → SignedSol
  signed_of zero n = snil
  signed_of (suc k) n = turned s (node_at ts n).up.0 (shape (signed_of k) (rep ts n) (state_at ts (rep ts n)))

  module _ (formed : WellFormed ts) (upright : RootsUpright ts) (δ : ℕ → ℕ) (ranked : Ranked ts δ) where
    shape_same : (f f' : SignedSol) (n : ℕ) → n < length ts → ((c : ℕ) → c < length ts → δ c < δ n → f c ≡ f' c) → (st : TypeState) → state_at ts (rep ts n) ≡ st → shape f (rep ts n) st ≡ shape f' (rep ts n) st
    unfolding shape
    shape_same f f' n h e unknown q = refl
    shape_same f f' n h e (known i k d cs) q = ap (g (rep ts n) i k d) (values_same s f f' cs (λ j l. e (get_or cs j (false, 0)).1 (child_in (length ts) cs j (subst (ChildrenIn (length ts)) q (formed n h).2) l) (ranked.falls n h i k d cs q j l)))

    fuel_same : (k m n : ℕ) → n < length ts → δ n < k → δ n < m → signed_of k n ≡ signed_of m n
    unfolding signed_of
    fuel_same zero m n h l l' = absurd (not-suc-le-zero l)
    fuel_same (suc k) zero n h l l' = absurd (not-suc-le-zero l')
    fuel_same (suc k) (suc m) n h l l' = ap (turned s (node_at ts n).up.0) (shape_same (signed_of k) (signed_of m) n h (λ c hc z. fuel_same k m c hc (omega arith) (omega arith)) (state_at ts (rep ts n)) refl)

    unfoldable pub signed_reading : SignedSol
    signed_reading n = signed_of (suc (δ n)) n

    level : (n c : ℕ) → c < length ts → δ c < δ n → signed_of (δ n) c ≡ signed_reading c
    unfolding signed_reading
    level n c h l = fuel_same (δ n) (suc (δ c)) c h l (le_refl _)

    -- A root has the term of its state, over the terms of its children,
    pub read_root : (n : ℕ) → n < length ts → signed_reading (rep ts n) ≡ shape signed_reading (rep ts n) (state_at ts (rep ts n))
    unfolding signed_reading signed_of turned
    read_root n h =
        let r = rep ts n in
        let hr = (formed n h).0 in
        let rr = (formed n h).1 in
        ap (turned s (node_at ts r).up.0) (shape_same (signed_of (δ r)) signed_reading r hr (level r) (state_at ts (rep ts r)) refl) ∙ ap₂ (λ (b : Bool) (m : ℕ). turned s b (shape signed_reading m (state_at ts m))) (upright r hr rr) rr

    -- and a node that of the type of its root that it is.
    pub read_up : (n : ℕ) → n < length ts → signed_reading n ≡ value s signed_reading (node_at ts n).up
    unfolding signed_reading signed_of value rep
    read_up n h = ap (turned s (node_at ts n).up.0) (shape_same (signed_of (δ n)) signed_reading n h (level n) (state_at ts (rep ts n)) refl ∙ sym (read_root n h))

-- The side that stands first in a term.
unfoldable side_of : Signed → Bool
side_of (svar n b) = b
side_of (scon b k d t) = b
side_of snil = false
side_of (scons t u) = false

-- An unknown, inverted or not, is not its own inverse.
unknown_turns : (s : Words) (b : Bool) (r : ℕ) → inverse s (turned s b (svar r false)) ≢ turned s b (svar r false)
unfolding inverse turned side_of
unknown_turns s true r q = true≢false (sym (ap side_of q))
unknown_turns s false r q = true≢false (ap side_of q)

-- A well-formed, readable table with upright roots has a solution with sides, its unknowns left free: none of them is its own inverse.
module _ (s : Words) (ν : ℕ → ℕ) (ts : Types) (formed : WellFormed ts) (free : Readable ts) (upright : RootsUpright ts) where
  abbrev labelled : ℕ → Bool → ℕ → ℕ → Signed → Signed
  labelled r i k d t = made s i k (label ν k d r) t

  abbrev free_signed : SignedSol
  free_signed = signed_reading s ts (λ r. svar r false) labelled formed upright (rank ts) (readable_ranked ts formed free)

  free_root : (n : ℕ) → n < length ts → free_signed (rep ts n) ≡ shape s ts (λ r. svar r false) labelled free_signed (rep ts n) (state_at ts (rep ts n))
  free_root = read_root s ts (λ r. svar r false) labelled formed upright (rank ts) (readable_ranked ts formed free)

  free_up : (n : ℕ) → n < length ts → free_signed n ≡ value s free_signed (node_at ts n).up
  free_up = read_up s ts (λ r. svar r false) labelled formed upright (rank ts) (readable_ranked ts formed free)

  free-turns : (n : ℕ) → n < length ts → state_at ts (rep ts n) ≡ unknown → inverse s (free_signed n) ≢ free_signed n
  unfolding shape value rep
  free-turns n h q = subst (λ t. inverse s t ≢ t) (sym (free_up n h ∙ ap (turned s (node_at ts n).up.0) (free_root n h ∙ ap (shape s ts (λ r. svar r false) labelled free_signed (rep ts n)) q))) (unknown_turns s (node_at ts n).up.0 (rep ts n))

  pub has-signed : (θ : SignedSol) × SignedSolves s ν ts θ × ((n : ℕ) → n < length ts → state_at ts (rep ts n) ≡ unknown → inverse s (θ n) ≢ θ n)
  unfolding shape
  has-signed = (free_signed, λ n h. (free_up n h, go (rep ts n) (state_at ts (rep ts n)) (free_root n h)), free-turns)
    where
      go : (r : ℕ) (st : TypeState) → free_signed r ≡ shape s ts (λ m. svar m false) labelled free_signed r st → SignedFits s ν free_signed r st
      go r unknown e = tt
      go r (known i k d cs) e = e
