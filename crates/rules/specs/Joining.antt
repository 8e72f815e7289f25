-- What joining two roots does: to the table (every class keeps a root), to its solutions (those remain at which the two agree), and to its reading with unknowns left free.
use Rattle.std.specs.Prelude.{ℕ, zero, suc, ◌<◌, ◌≡◌, Bool, List, [], ◌∷◌, map, ◌≢◌, ◌⊎◌, length, get_or}
use Rattle.std.proofs.Math.Path.{refl, sym, ap, subst}
use Rattle.std.proofs.Common.{◌∙◌, ap₂, le_of_suc-le-suc, not-suc-le-zero, lt_irrefl, get_or-set_same, get_or-set_other}
use Rattle.std.proofs.Math.Bool.{true, false}
use Rattle.std.proofs.Math.Logic.{inl, inr}
use Rattle.std.proofs.Math.Decide.{ℕ_discrete}
use Rattle.std.proofs.Math.Dec.{eqb}
use Rattle.std.proofs.Math.ListN.{length-set}
use Rattle.rules.specs.Types.{Ty, TypeState, unknown, known, TypeNode, Types, node_at, xor, invert_if, invert_state, state_at, larger, relabel, or_else, hang, join}
use Rattle.rules.specs.Solutions.{Term, var, con, nil, cons, term_size, Sol, terms, rep, Fits, Solves, AllIn, ChildrenIn, WellFormed, eqb_true, eqb_false, known≢, sub, solves_sub, Free}

-- What is done to each node is done to node n.
pub map_at : (f : TypeNode → TypeNode) (l : Types) (n : ℕ) (d : TypeNode) → n < length l → get_or (map f l) n d ≡ f (get_or l n d)
map_at f [] n d h = absurd (not-suc-le-zero h)
map_at f (x ∷ l) zero d h = refl
map_at f (x ∷ l) (suc n) d h = map_at f l n d (le_of_suc-le-suc h)

pub map-length : (f : TypeNode → TypeNode) (l : Types) → length (map f l) ≡ length l
map-length f [] = refl
map-length f (x ∷ l) = ap suc (map-length f l)

-- A root, or the upper one in place of the lower.
unfoldable swap : ℕ → ℕ → ℕ → ℕ
swap lo hi r = elim (eqb r lo) [ true ↦ hi | false ↦ r ]

-- What hanging one root under another does.
module _ (ts : Types) (lo hi : Ty) (hlo : lo.1 < length ts) (hhi : hi.1 < length ts) (rlo : rep ts lo.1 ≡ lo.1) (rhi : rep ts hi.1 ≡ hi.1) (ne : lo.1 ≢ hi.1) where
  hang-length : length (hang ts lo hi) ≡ length ts
  unfolding hang
  hang-length = length-set (map (relabel lo.1 (xor hi.0 lo.0, hi.1)) ts) hi.1 _ ∙ map-length (relabel lo.1 (xor hi.0 lo.0, hi.1)) ts

  abbrev moving : TypeNode → TypeNode
  moving = relabel lo.1 (xor hi.0 lo.0, hi.1)

  moved_up : (nd : TypeNode) → (moving nd).up.1 ≡ swap lo.1 hi.1 nd.up.1
  unfolding relabel swap invert_if
  moved_up nd = go (eqb nd.up.1 lo.1) refl
    where
      go : (b : Bool) → eqb nd.up.1 lo.1 ≡ b → (moving nd).up.1 ≡ swap lo.1 hi.1 nd.up.1
      go true e = rw (e, relabel, swap)
      go false e = rw (e, relabel, swap)

  moved_state : (nd : TypeNode) → (moving nd).state ≡ nd.state
  unfolding relabel
  moved_state nd = go (eqb nd.up.1 lo.1) refl
    where
      go : (b : Bool) → eqb nd.up.1 lo.1 ≡ b → (moving nd).state ≡ nd.state
      go true e = rw (e, relabel)
      go false e = rw (e, relabel)

  hang-rep : (n : ℕ) → n < length ts → rep (hang ts lo hi) n ≡ swap lo.1 hi.1 (rep ts n)
  unfolding rep node_at hang swap
  hang-rep n h = go (ℕ_discrete n hi.1)
    where
      go : Dec (n ≡ hi.1) → rep (hang ts lo hi) n ≡ swap lo.1 hi.1 (rep ts n)
      go (yes e) =
          subst (λ k. rep (hang ts lo hi) k ≡ swap lo.1 hi.1 (rep ts k)) (sym e)
          (ap (λ nd. nd.up.1) (get_or-set_same (map moving ts) hi.1 _ _ (rw (map-length moving ts) hhi))
          ∙ sym (ap (swap lo.1 hi.1) rhi ∙ rw (eqb_false hi.1 lo.1 (λ q. ne (sym q)), swap)))
      go (no d) = ap (λ nd. nd.up.1) (get_or-set_other (map moving ts) hi.1 n _ _ d ∙ map_at _ ts n _ h) ∙ moved_up (node_at ts n)

  pub hang_state : (n : ℕ) → n < length ts → n ≢ hi.1 → state_at (hang ts lo hi) n ≡ state_at ts n
  unfolding state_at node_at hang
  hang_state n h d = ap (λ nd. nd.state) (get_or-set_other (map moving ts) hi.1 n _ _ d ∙ map_at _ ts n _ h) ∙ moved_state (node_at ts n)

  pub hang_top : state_at (hang ts lo hi) hi.1 ≡ or_else (state_at ts hi.1) (invert_state (xor hi.0 lo.0) (state_at ts lo.1))
  unfolding state_at node_at hang
  hang_top = ap (λ nd. nd.state) (get_or-set_same (map moving ts) hi.1 _ _ (rw (map-length moving ts) hhi))

  swap_cases : (r : ℕ) → ((r ≡ lo.1) × (swap lo.1 hi.1 r ≡ hi.1)) ⊎ ((r ≢ lo.1) × (swap lo.1 hi.1 r ≡ r))
  unfolding swap
  swap_cases r = go (ℕ_discrete r lo.1)
    where
      go : Dec (r ≡ lo.1) → ((r ≡ lo.1) × (swap lo.1 hi.1 r ≡ hi.1)) ⊎ ((r ≢ lo.1) × (swap lo.1 hi.1 r ≡ r))
      go (yes e) = inl (e, rw (eqb_true r lo.1 e, swap))
      go (no d) = inr (d, rw (eqb_false r lo.1 d, swap))

  -- A node's root after it: the upper one for the lower one's class, else as before.
  pub hang_cases : (n : ℕ) → n < length ts → ((rep ts n ≡ lo.1) × (rep (hang ts lo hi) n ≡ hi.1)) ⊎ ((rep ts n ≢ lo.1) × (rep (hang ts lo hi) n ≡ rep ts n))
  hang_cases n h = go (swap_cases (rep ts n))
    where
      go : ((rep ts n ≡ lo.1) × (swap lo.1 hi.1 (rep ts n) ≡ hi.1)) ⊎ ((rep ts n ≢ lo.1) × (swap lo.1 hi.1 (rep ts n) ≡ rep ts n)) → ((rep ts n ≡ lo.1) × (rep (hang ts lo hi) n ≡ hi.1)) ⊎ ((rep ts n ≢ lo.1) × (rep (hang ts lo hi) n ≡ rep ts n))
      go (inl e) = inl (e.0, hang-rep n h ∙ e.1)
      go (inr e) = inr (e.0, hang-rep n h ∙ e.1)

  -- A property of a root and its state, after it.
  hang_each : (P : ℕ → TypeState → Type 0) → P hi.1 (or_else (state_at ts hi.1) (invert_state (xor hi.0 lo.0) (state_at ts lo.1))) → (r : ℕ) → r < length ts → (r ≢ hi.1 → P r (state_at ts r)) → P r (state_at (hang ts lo hi) r)
  hang_each P top r h other = go (ℕ_discrete r hi.1)
    where
      go : Dec (r ≡ hi.1) → P r (state_at (hang ts lo hi) r)
      go (yes e) = subst (λ k. P k (state_at (hang ts lo hi) k)) (sym e) (subst (P hi.1) (sym hang_top) top)
      go (no d) = subst (P r) (sym (hang_state r h d)) (other d)

  module _ (formed : WellFormed ts) where
    kids_top : ChildrenIn (length ts) (or_else (state_at ts hi.1) (invert_state (xor hi.0 lo.0) (state_at ts lo.1)))
    unfolding or_else invert_state
    kids_top = go (state_at ts hi.1) (state_at ts lo.1) (subst (λ r. ChildrenIn (length ts) (state_at ts r)) rhi (formed hi.1 hhi).2) (subst (λ r. ChildrenIn (length ts) (state_at ts r)) rlo (formed lo.1 hlo).2)
      where
        go : (u v : TypeState) → ChildrenIn (length ts) u → ChildrenIn (length ts) v → ChildrenIn (length ts) (or_else u (invert_state (xor hi.0 lo.0) v))
        go unknown unknown a b = tt
        go unknown (known i k d cs) a b = b
        go (known i k d cs) v a b = a

    hang_good : WellFormed (hang ts lo hi)
    hang_good n h' = go (hang_cases n h)
      where
        N : ℕ
        N = length ts

        h : n < N
        h = subst (λ m. n < m) hang-length h'

        g : (rep ts n < N) × (rep ts (rep ts n) ≡ rep ts n) × ChildrenIn N (state_at ts (rep ts n))
        g = formed n h

        settled : (r : ℕ) → r < N → rep (hang ts lo hi) r ≡ r → (r ≢ hi.1 → ChildrenIn N (state_at ts r)) → rep (hang ts lo hi) n ≡ r → (rep (hang ts lo hi) n < length (hang ts lo hi)) × (rep (hang ts lo hi) (rep (hang ts lo hi) n) ≡ rep (hang ts lo hi) n) × ChildrenIn (length (hang ts lo hi)) (state_at (hang ts lo hi) (rep (hang ts lo hi) n))
        settled r hr rr children e =
            subst (λ m. (m < length (hang ts lo hi)) × (rep (hang ts lo hi) m ≡ m) × ChildrenIn (length (hang ts lo hi)) (state_at (hang ts lo hi) m)) (sym e)
            (subst (λ m. r < m) (sym hang-length) hr, rr, subst (λ m. ChildrenIn m (state_at (hang ts lo hi) r)) (sym hang-length) (hang_each (λ k st. ChildrenIn N st) kids_top r hr children))

        fixed : (r : ℕ) → r < N → rep ts r ≡ r → r ≢ lo.1 → rep (hang ts lo hi) r ≡ r
        fixed r hr rr d = pick (hang_cases r hr)
          where
            pick : ((rep ts r ≡ lo.1) × (rep (hang ts lo hi) r ≡ hi.1)) ⊎ ((rep ts r ≢ lo.1) × (rep (hang ts lo hi) r ≡ rep ts r)) → rep (hang ts lo hi) r ≡ r
            pick (inl e) = absurd (d (sym rr ∙ e.0))
            pick (inr e) = e.1 ∙ rr

        go : ((rep ts n ≡ lo.1) × (rep (hang ts lo hi) n ≡ hi.1)) ⊎ ((rep ts n ≢ lo.1) × (rep (hang ts lo hi) n ≡ rep ts n)) → (rep (hang ts lo hi) n < length (hang ts lo hi)) × (rep (hang ts lo hi) (rep (hang ts lo hi) n) ≡ rep (hang ts lo hi) n) × ChildrenIn (length (hang ts lo hi)) (state_at (hang ts lo hi) (rep (hang ts lo hi) n))
        go (inl e) = settled hi.1 hhi (fixed hi.1 hhi rhi (λ q. ne (sym q))) (λ d. absurd (d refl)) e.1
        go (inr e) = settled (rep ts n) g.0 (fixed (rep ts n) g.0 g.1 e.0) (λ d. g.2) e.1

  hang-same : (u v : ℕ) → u < length ts → v < length ts → rep ts u ≡ rep ts v → rep (hang ts lo hi) u ≡ rep (hang ts lo hi) v
  hang-same u v hu hv e = hang-rep u hu ∙ ap (swap lo.1 hi.1) e ∙ sym (hang-rep v hv)

  hang_lo : rep (hang ts lo hi) lo.1 ≡ hi.1
  hang_lo = go (hang_cases lo.1 hlo)
    where
      go : ((rep ts lo.1 ≡ lo.1) × (rep (hang ts lo hi) lo.1 ≡ hi.1)) ⊎ ((rep ts lo.1 ≢ lo.1) × (rep (hang ts lo hi) lo.1 ≡ rep ts lo.1)) → rep (hang ts lo hi) lo.1 ≡ hi.1
      go (inl e) = e.1
      go (inr e) = absurd (e.0 rlo)

  hang_hi : rep (hang ts lo hi) hi.1 ≡ hi.1
  hang_hi = go (hang_cases hi.1 hhi)
    where
      go : ((rep ts hi.1 ≡ lo.1) × (rep (hang ts lo hi) hi.1 ≡ hi.1)) ⊎ ((rep ts hi.1 ≢ lo.1) × (rep (hang ts lo hi) hi.1 ≡ rep ts hi.1)) → rep (hang ts lo hi) hi.1 ≡ hi.1
      go (inl e) = e.1
      go (inr e) = e.1 ∙ rhi

  module _ (formed : WellFormed ts) (θ : Sol) where
    abbrev Top : Type 0
    Top = Fits θ hi.1 (or_else (state_at ts hi.1) (invert_state (xor hi.0 lo.0) (state_at ts lo.1)))

    top_in : (u v : TypeState) → θ lo.1 ≡ θ hi.1 → Fits θ hi.1 u → Fits θ lo.1 v → Fits θ hi.1 (or_else u (invert_state (xor hi.0 lo.0) v))
    unfolding or_else invert_state
    top_in unknown unknown e a b = tt
    top_in unknown (known i k d cs) e a b = sym e ∙ b
    top_in (known i k d cs) v e a b = a

    top_hi : (u v : TypeState) → Fits θ hi.1 (or_else u (invert_state (xor hi.0 lo.0) v)) → Fits θ hi.1 u
    unfolding or_else invert_state
    top_hi unknown v a = tt
    top_hi (known i k d cs) v a = a

    top_lo : (u v : TypeState) → θ lo.1 ≡ θ hi.1 → Fits θ hi.1 (or_else u (invert_state (xor hi.0 lo.0) v)) → (Fits θ hi.1 u → (u ≡ unknown → ⊥) → Fits θ lo.1 v) → Fits θ lo.1 v
    unfolding or_else invert_state
    top_lo unknown unknown e a tw = tt
    top_lo unknown (known i k d cs) e a tw = e ∙ a
    top_lo (known i k d cs) v e a tw = tw a (λ q. subst isUnknown (sym q) tt)
      where
        isUnknown : TypeState → Type 0
        isUnknown unknown = Unit {0}
        isUnknown (known i' k' d' cs') = ⊥

    hang_into : Solves ts θ → θ lo.1 ≡ θ hi.1 → Solves (hang ts lo hi) θ
    hang_into s e n h' = go (hang_cases n h)
      where
        h : n < length ts
        h = subst (λ m. n < m) hang-length h'

        top : Top
        top = top_in (state_at ts hi.1) (state_at ts lo.1) e (subst (λ r. Fits θ r (state_at ts r)) rhi (s hi.1 hhi).1) (subst (λ r. Fits θ r (state_at ts r)) rlo (s lo.1 hlo).1)

        settled : (r : ℕ) → r < length ts → (r ≢ hi.1 → Fits θ r (state_at ts r)) → θ n ≡ θ r → rep (hang ts lo hi) n ≡ r → (θ n ≡ θ (rep (hang ts lo hi) n)) × Fits θ (rep (hang ts lo hi) n) (state_at (hang ts lo hi) (rep (hang ts lo hi) n))
        settled r hr fit en er = subst (λ m. (θ n ≡ θ m) × Fits θ m (state_at (hang ts lo hi) m)) (sym er) (en, hang_each (Fits θ) top r hr fit)

        go : ((rep ts n ≡ lo.1) × (rep (hang ts lo hi) n ≡ hi.1)) ⊎ ((rep ts n ≢ lo.1) × (rep (hang ts lo hi) n ≡ rep ts n)) → (θ n ≡ θ (rep (hang ts lo hi) n)) × Fits θ (rep (hang ts lo hi) n) (state_at (hang ts lo hi) (rep (hang ts lo hi) n))
        go (inl c) = settled hi.1 hhi (λ d. absurd (d refl)) ((s n h).0 ∙ ap θ c.0 ∙ e) c.1
        go (inr c) = settled (rep ts n) (formed n h).0 (λ d. (s n h).1) (s n h).0 c.1

    joined : Solves (hang ts lo hi) θ → θ lo.1 ≡ θ hi.1
    joined s = (s lo.1 (subst (λ m. lo.1 < m) (sym hang-length) hlo)).0 ∙ ap θ hang_lo

    hang_out : Solves (hang ts lo hi) θ → (Fits θ hi.1 (state_at ts hi.1) → (state_at ts hi.1 ≡ unknown → ⊥) → Fits θ lo.1 (state_at ts lo.1)) → Solves ts θ
    hang_out s tw n h = go (hang_cases n h)
      where
        e : θ lo.1 ≡ θ hi.1
        e = joined s

        top : Top
        top = subst (Fits θ hi.1) hang_top (subst (λ r. Fits θ r (state_at (hang ts lo hi) r)) hang_hi (s hi.1 (subst (λ m. hi.1 < m) (sym hang-length) hhi)).1)

        sn : (θ n ≡ θ (rep (hang ts lo hi) n)) × Fits θ (rep (hang ts lo hi) n) (state_at (hang ts lo hi) (rep (hang ts lo hi) n))
        sn = s n (subst (λ m. n < m) (sym hang-length) h)

        fit : (r : ℕ) → r < length ts → Fits θ r (state_at (hang ts lo hi) r) → Dec (r ≡ hi.1) → Fits θ r (state_at ts r)
        fit r hr f (yes q) = subst (λ m. Fits θ m (state_at ts m)) (sym q) (top_hi (state_at ts hi.1) (state_at ts lo.1) top)
        fit r hr f (no d) = subst (Fits θ r) (hang_state r hr d) f

        go : ((rep ts n ≡ lo.1) × (rep (hang ts lo hi) n ≡ hi.1)) ⊎ ((rep ts n ≢ lo.1) × (rep (hang ts lo hi) n ≡ rep ts n)) → (θ n ≡ θ (rep ts n)) × Fits θ (rep ts n) (state_at ts (rep ts n))
        go (inl c) = subst (λ m. (θ n ≡ θ m) × Fits θ m (state_at ts m)) (sym c.0) (sn.0 ∙ ap θ c.1 ∙ sym e, top_lo (state_at ts hi.1) (state_at ts lo.1) e top tw)
        go (inr c) = (sn.0 ∙ ap θ c.1, fit (rep ts n) (formed n h).0 (subst (λ m. Fits θ m (state_at (hang ts lo hi) m)) c.1 sn.1) (ℕ_discrete (rep ts n) hi.1))

-- What a success leaves of nodes a and b: a well-formed table in which they are one, whose solutions are the old ones at which they agree.
-- Classes only grow (same, fewer); a root that stays keeps what is known of it (kept); and one that is larger than a in some solution stays a root (quiet).
pub record After (ts : Types) (a b : ℕ) (us : Types) : Type 0 where
  pub len : length us ≡ length ts
  pub formed : WellFormed us
  pub same : (u v : ℕ) → u < length ts → v < length ts → rep ts u ≡ rep ts v → rep us u ≡ rep us v
  pub meet : rep us a ≡ rep us b
  pub fewer : (r : ℕ) → r < length ts → rep us r ≡ r → rep ts r ≡ r
  pub kept : (r : ℕ) → r < length ts → rep ts r ≡ r → rep us r ≡ r → (state_at ts r ≡ unknown → ⊥) → state_at us r ≡ state_at ts r
  pub quiet : (θ : Sol) → Solves us θ → (r : ℕ) → r < length ts → rep ts r ≡ r → term_size (θ a) < term_size (θ r) → rep us r ≡ r
  pub out : (θ : Sol) → Solves us θ → Solves ts θ
  pub into : (θ : Sol) → Solves ts θ → θ a ≡ θ b → Solves us θ

module _ (ts : Types) (lo hi : Ty) (hlo : lo.1 < length ts) (hhi : hi.1 < length ts) (rlo : rep ts lo.1 ≡ lo.1) (rhi : rep ts hi.1 ≡ hi.1) (ne : lo.1 ≢ hi.1) (formed : WellFormed ts)
    (tw : (θ : Sol) → Solves (hang ts lo hi) θ → Fits θ hi.1 (state_at ts hi.1) → (state_at ts hi.1 ≡ unknown → ⊥) → Fits θ lo.1 (state_at ts lo.1)) where
  hang-kept : (r : ℕ) → r < length ts → rep ts r ≡ r → rep (hang ts lo hi) r ≡ r → (state_at ts r ≡ unknown → ⊥) → state_at (hang ts lo hi) r ≡ state_at ts r
  unfolding or_else
  hang-kept r h rr rr' kn = go (ℕ_discrete r hi.1)
    where
      or_known : (u v : TypeState) → (u ≡ unknown → ⊥) → or_else u v ≡ u
      or_known unknown v k = absurd (k refl)
      or_known (known i k d cs) v q = refl

      go : Dec (r ≡ hi.1) → state_at (hang ts lo hi) r ≡ state_at ts r
      go (yes e) = subst (λ m. state_at (hang ts lo hi) m ≡ state_at ts m) (sym e) (hang_top ts lo hi hlo hhi rlo rhi ne ∙ or_known (state_at ts hi.1) _ (subst (λ m. state_at ts m ≡ unknown → ⊥) e kn))
      go (no d) = hang_state ts lo hi hlo hhi rlo rhi ne r h d

  hang_fewer : (r : ℕ) → r < length ts → rep (hang ts lo hi) r ≡ r → rep ts r ≡ r
  hang_fewer r h e = go (hang_cases ts lo hi hlo hhi rlo rhi ne r h)
    where
      go : ((rep ts r ≡ lo.1) × (rep (hang ts lo hi) r ≡ hi.1)) ⊎ ((rep ts r ≢ lo.1) × (rep (hang ts lo hi) r ≡ rep ts r)) → rep ts r ≡ r
      go (inl c) = absurd (ne (sym c.0 ∙ ap (rep ts) (sym e ∙ c.1) ∙ rhi))
      go (inr c) = sym c.1 ∙ e

  hang_quiet : (θ : Sol) → Solves (hang ts lo hi) θ → (r : ℕ) → r < length ts → rep ts r ≡ r → term_size (θ lo.1) < term_size (θ r) → rep (hang ts lo hi) r ≡ r
  hang_quiet θ s r h rr l = go (hang_cases ts lo hi hlo hhi rlo rhi ne r h)
    where
      go : ((rep ts r ≡ lo.1) × (rep (hang ts lo hi) r ≡ hi.1)) ⊎ ((rep ts r ≢ lo.1) × (rep (hang ts lo hi) r ≡ rep ts r)) → rep (hang ts lo hi) r ≡ r
      go (inl c) = absurd (lt_irrefl (term_size (θ r)) (subst (λ k. term_size (θ k) < term_size (θ r)) (sym c.0 ∙ rr) l))
      go (inr c) = c.1 ∙ rr

  hang-after : After ts lo.1 hi.1 (hang ts lo hi)
  hang-after =
      record {
        len = hang-length ts lo hi hlo hhi rlo rhi ne;
        formed = hang_good ts lo hi hlo hhi rlo rhi ne formed;
        same = hang-same ts lo hi hlo hhi rlo rhi ne;
        meet = hang_lo ts lo hi hlo hhi rlo rhi ne ∙ sym (hang_hi ts lo hi hlo hhi rlo rhi ne);
        fewer = hang_fewer;
        kept = hang-kept;
        quiet = hang_quiet;
        out = λ θ s. hang_out ts lo hi hlo hhi rlo rhi ne formed θ s (tw θ s);
        into = λ θ s e. hang_into ts lo hi hlo hhi rlo rhi ne formed θ s e;
      }

-- In every solution after it the two agree.
pub agree : (ts us : Types) (a b : ℕ) → a < length ts → b < length ts → After ts a b us → (θ : Sol) → Solves us θ → θ a ≡ θ b
agree ts us a b ha hb r θ s = (s a (subst (λ N. a < N) (sym r.len) ha)).0 ∙ ap θ r.meet ∙ sym (s b (subst (λ N. b < N) (sym r.len) hb)).0

flip_after : (ts us : Types) (a b : ℕ) → a < length ts → b < length ts → After ts a b us → After ts b a us
flip_after ts us a b ha hb r =
    record {
      len = r.len;
      formed = r.formed;
      same = r.same;
      meet = sym r.meet;
      fewer = r.fewer;
      kept = r.kept;
      quiet = λ θ s n h rr l. r.quiet θ s n h rr (subst (λ k. term_size k < term_size (θ n)) (sym (agree ts us a b ha hb r θ s)) l);
      out = r.out;
      into = λ θ s e. r.into θ s (sym e);
    }

-- Lists of types, one by one in one class.
abbrev pub SameAll : Types → List Ty → List Ty → Type 0
SameAll ts [] [] = Unit {0}
SameAll ts [] (y ∷ ys) = ⊥
SameAll ts (x ∷ xs) [] = ⊥
SameAll ts (x ∷ xs) (y ∷ ys) = (rep ts x.1 ≡ rep ts y.1) × SameAll ts xs ys

pub same-terms : (ts : Types) (θ : Sol) → Solves ts θ → (xs ys : List Ty) → AllIn (length ts) xs → AllIn (length ts) ys → SameAll ts xs ys → terms θ xs ≡ terms θ ys
unfolding terms
same-terms ts θ s [] [] a b e = refl
same-terms ts θ s [] (y ∷ ys) a b e = absurd e
same-terms ts θ s (x ∷ xs) [] a b e = absurd e
same-terms ts θ s (x ∷ xs) (y ∷ ys) a b e = ap₂ cons ((s x.1 a.0).0 ∙ ap θ e.0 ∙ sym (s y.1 b.0).0) (same-terms ts θ s xs ys a.1 b.1 e.1)

same-all : (ts us : Types) (N : ℕ) → ((u v : ℕ) → u < N → v < N → rep ts u ≡ rep ts v → rep us u ≡ rep us v) → (xs ys : List Ty) → AllIn N xs → AllIn N ys → SameAll ts xs ys → SameAll us xs ys
same-all ts us N f [] [] a b e = tt
same-all ts us N f [] (y ∷ ys) a b e = absurd e
same-all ts us N f (x ∷ xs) [] a b e = absurd e
same-all ts us N f (x ∷ xs) (y ∷ ys) a b e = (f x.1 y.1 a.0 b.0 e.0, same-all ts us N f xs ys a.1 b.1 e.1)

same_flip : (ts : Types) (xs ys : List Ty) → SameAll ts xs ys → SameAll ts ys xs
same_flip ts [] [] e = tt
same_flip ts [] (y ∷ ys) e = absurd e
same_flip ts (x ∷ xs) [] e = absurd e
same_flip ts (x ∷ xs) (y ∷ ys) e = (sym e.0, same_flip ts xs ys e.1)

-- Two roots that may be joined: one is unknown, or both are known and alike.
pub data Mates (ts : Types) (a b : ℕ) : Type 0 where
  free-left : state_at ts a ≡ unknown → Mates ts a b
  free_right : state_at ts b ≡ unknown → Mates ts a b
  alike : (i j : Bool) (k d : ℕ) (xs ys : List Ty) → state_at ts a ≡ known i k d xs → state_at ts b ≡ known j k d ys → AllIn (length ts) xs → AllIn (length ts) ys → SameAll ts xs ys → Mates ts a b

mates_flip : (ts : Types) (a b : ℕ) → Mates ts a b → Mates ts b a
mates_flip ts a b (free-left e) = free_right e
mates_flip ts a b (free_right e) = free-left e
mates_flip ts a b (alike i j k d xs ys e f ax ay s) = alike j i k d ys xs f e ay ax (same_flip ts xs ys s)

module _ (ts : Types) (formed : WellFormed ts) where
  hang_mates : (lo hi : Ty) → lo.1 < length ts → hi.1 < length ts → rep ts lo.1 ≡ lo.1 → rep ts hi.1 ≡ hi.1 → lo.1 ≢ hi.1 → Mates ts lo.1 hi.1 → After ts lo.1 hi.1 (hang ts lo hi)
  hang_mates lo hi hlo hhi rlo rhi ne m = hang-after ts lo hi hlo hhi rlo rhi ne formed (go m)
    where
      go : Mates ts lo.1 hi.1 → (θ : Sol) → Solves (hang ts lo hi) θ → Fits θ hi.1 (state_at ts hi.1) → (state_at ts hi.1 ≡ unknown → ⊥) → Fits θ lo.1 (state_at ts lo.1)
      go (free-left e) θ s f kn = subst (Fits θ lo.1) (sym e) tt
      go (free_right e) θ s f kn = absurd (kn e)
      go (alike i j k d xs ys e e' ax ay sm) θ s f kn =
          let len = hang-length ts lo hi hlo hhi rlo rhi ne in
          let us = hang ts lo hi in
          let eq = same-terms us θ s xs ys (subst (λ N. AllIn N xs) (sym len) ax) (subst (λ N. AllIn N ys) (sym len) ay) (same-all ts us (length ts) (hang-same ts lo hi hlo hhi rlo rhi ne) xs ys ax ay sm) in
          subst (Fits θ lo.1) (sym e) (joined ts lo hi hlo hhi rlo rhi ne formed θ s ∙ subst (Fits θ hi.1) e' f ∙ ap (con k d) (sym eq))

  -- Joining two such roots, the smaller class under the larger, leaves just that.
  pub join_mates : (x y : Ty) → x.1 < length ts → y.1 < length ts → rep ts x.1 ≡ x.1 → rep ts y.1 ≡ y.1 → x.1 ≢ y.1 → Mates ts x.1 y.1 → After ts x.1 y.1 (join ts x y)
  unfolding join
  join_mates x y hx hy rx ry ne m = go (larger ts x y) refl
    where
      go : (b : Bool) → larger ts x y ≡ b → After ts x.1 y.1 (join ts x y)
      go true e = rw (e, join) (flip_after ts (hang ts y x) y.1 x.1 hy hx (hang_mates y x hy hx ry rx (λ q. ne (sym q)) (mates_flip ts x.1 y.1 m)))
      go false e = rw (e, join) (hang_mates x y hx hy rx ry ne m)

-- The reading with unknowns left free is kept: one unknown is replaced.
unfoldable pub one : ℕ → Term → Sol
one v t n = elim (eqb n v) [ true ↦ t | false ↦ var n ]

one_at : (v : ℕ) (t : Term) → one v t v ≡ t
unfolding one
one_at v t = rw (eqb_true v v refl, one)

one_off : (v : ℕ) (t : Term) (n : ℕ) → n ≢ v → one v t n ≡ var n
unfolding one
one_off v t n d = rw (eqb_false n v d, one)

-- An unknown does not stand in a term.
abbrev pub NotIn : ℕ → Term → Type 0
NotIn v (var n) = n ≢ v
NotIn v (con k d t) = NotIn v t
NotIn v nil = Unit {0}
NotIn v (cons t u) = NotIn v t × NotIn v u

sub_off : (v : ℕ) (u t : Term) → NotIn v t → sub (one v u) t ≡ t
unfolding sub
sub_off v u (var n) h = one_off v u n h
sub_off v u (con k d t) h = ap (con k d) (sub_off v u t h)
sub_off v u nil h = refl
sub_off v u (cons s t) h = ap₂ cons (sub_off v u s h.0) (sub_off v u t h.1)

module _ (ts : Types) (lo hi : Ty) (hlo : lo.1 < length ts) (hhi : hi.1 < length ts) (rlo : rep ts lo.1 ≡ lo.1) (rhi : rep ts hi.1 ≡ hi.1) (ne : lo.1 ≢ hi.1) (formed : WellFormed ts) (σ : Sol) (free : Free ts σ) where
  us : Types
  us = hang ts lo hi

  abbrev Stays : Type 0
  Stays = (σ' : Sol) × Free (hang ts lo hi) σ'

  low_not_root : (r : ℕ) → rep (hang ts lo hi) r ≡ r → r ≢ lo.1
  low_not_root r e q = ne (sym q ∙ sym e ∙ ap (rep (hang ts lo hi)) q ∙ hang_lo ts lo hi hlo hhi rlo rhi ne)

  root_before : (r : ℕ) → r < length ts → rep (hang ts lo hi) r ≡ r → rep ts r ≡ r
  root_before r h e = go (hang_cases ts lo hi hlo hhi rlo rhi ne r h)
    where
      go : ((rep ts r ≡ lo.1) × (rep (hang ts lo hi) r ≡ hi.1)) ⊎ ((rep ts r ≢ lo.1) × (rep (hang ts lo hi) r ≡ rep ts r)) → rep ts r ≡ r
      go (inl c) = absurd (ne (sym c.0 ∙ ap (rep ts) (sym e ∙ c.1) ∙ rhi))
      go (inr c) = sym c.1 ∙ e

  -- The unknowns of a solution after it, from what it does at free roots.
  vars_after : (σ' : Sol) → (state_at (hang ts lo hi) hi.1 ≡ unknown → σ' hi.1 ≡ var hi.1) → ((r : ℕ) → r ≢ lo.1 → r ≢ hi.1 → σ r ≡ var r → σ' r ≡ var r) → (r : ℕ) → r < length (hang ts lo hi) → rep (hang ts lo hi) r ≡ r → state_at (hang ts lo hi) r ≡ unknown → σ' r ≡ var r
  vars_after σ' top rest r h e u = go (ℕ_discrete r hi.1)
    where
      h' : r < length ts
      h' = subst (λ N. r < N) (hang-length ts lo hi hlo hhi rlo rhi ne) h

      go : Dec (r ≡ hi.1) → σ' r ≡ var r
      go (yes q) = subst (λ m. σ' m ≡ var m) (sym q) (top (subst (λ m. state_at (hang ts lo hi) m ≡ unknown) q u))
      go (no d) = rest r (low_not_root r e) d (free.vars r h' (root_before r h' e) (sym (hang_state ts lo hi hlo hhi rlo rhi ne r h' d) ∙ u))

  keep_left : state_at ts lo.1 ≡ unknown → NotIn lo.1 (σ hi.1) → Stays
  unfolding sub or_else invert_state
  keep_left u off = (σ', record { solves = hang_into ts lo hi hlo hhi rlo rhi ne formed σ' (solves_sub ts τ σ free.solves) meet; vars = vars_after σ' top (λ r d d' e. rest r d e) })
    where
      τ : Sol
      τ = one lo.1 (σ hi.1)

      σ' : Sol
      σ' n = sub τ (σ n)

      meet : σ' lo.1 ≡ σ' hi.1
      meet = ap (sub τ) (free.vars lo.1 hlo rlo u) ∙ one_at lo.1 (σ hi.1) ∙ sym (sub_off lo.1 (σ hi.1) (σ hi.1) off)

      rest : (r : ℕ) → r ≢ lo.1 → σ r ≡ var r → σ' r ≡ var r
      rest r d e = ap (sub τ) e ∙ one_off lo.1 (σ hi.1) r d

      or_unknown : (a b : TypeState) → b ≡ unknown → or_else a (invert_state (xor hi.0 lo.0) b) ≡ unknown → a ≡ unknown
      or_unknown unknown b e q = refl
      or_unknown (known i k d cs) b e q = q

      top : state_at (hang ts lo hi) hi.1 ≡ unknown → σ' hi.1 ≡ var hi.1
      top q = rest hi.1 (λ z. ne (sym z)) (free.vars hi.1 hhi rhi (or_unknown (state_at ts hi.1) (state_at ts lo.1) u (sym (hang_top ts lo hi hlo hhi rlo rhi ne) ∙ q)))

  top_known : (a b : TypeState) (c : Bool) → (b ≡ unknown → ⊥) → or_else a (invert_state c b) ≡ unknown → ⊥
  unfolding or_else invert_state
  top_known unknown unknown c k q = k refl
  top_known unknown (known i k d cs) c kn q = known≢ q
  top_known (known i k d cs) b c kn q = known≢ q

  keep_right : (state_at ts lo.1 ≡ unknown → ⊥) → state_at ts hi.1 ≡ unknown → NotIn hi.1 (σ lo.1) → Stays
  unfolding sub
  keep_right kn u off = (σ', record { solves = hang_into ts lo hi hlo hhi rlo rhi ne formed σ' (solves_sub ts τ σ free.solves) meet; vars = vars_after σ' (λ q. absurd (top_known (state_at ts hi.1) (state_at ts lo.1) _ kn (sym (hang_top ts lo hi hlo hhi rlo rhi ne) ∙ q))) (λ r d d' e. ap (sub τ) e ∙ one_off hi.1 (σ lo.1) r d') })
    where
      τ : Sol
      τ = one hi.1 (σ lo.1)

      σ' : Sol
      σ' n = sub τ (σ n)

      meet : σ' lo.1 ≡ σ' hi.1
      meet = sub_off hi.1 (σ lo.1) (σ lo.1) off ∙ sym (ap (sub τ) (free.vars hi.1 hhi rhi u) ∙ one_at hi.1 (σ lo.1))

  keep_alike : (state_at ts lo.1 ≡ unknown → ⊥) → σ lo.1 ≡ σ hi.1 → Stays
  keep_alike kn meet = (σ, record { solves = hang_into ts lo hi hlo hhi rlo rhi ne formed σ free.solves meet; vars = vars_after σ (λ q. absurd (top_known (state_at ts hi.1) (state_at ts lo.1) _ kn (sym (hang_top ts lo hi hlo hhi rlo rhi ne) ∙ q))) (λ r d d' e. e) })

  -- One of the three.
  keep : Mates ts lo.1 hi.1 → (state_at ts lo.1 ≡ unknown → NotIn lo.1 (σ hi.1)) → (state_at ts hi.1 ≡ unknown → NotIn hi.1 (σ lo.1)) → Stays
  keep (alike i j k d xs ys e e' ax ay sm) nl nr = keep_alike (λ q. known≢ (sym e ∙ q)) (fit lo.1 hlo rlo (known i k d xs) e ∙ ap (con k d) (same-terms ts σ free.solves xs ys ax ay sm) ∙ sym (fit hi.1 hhi rhi (known j k d ys) e'))
    where
      fit : (r : ℕ) → r < length ts → rep ts r ≡ r → (st : TypeState) → state_at ts r ≡ st → Fits σ r st
      fit r h rr st q = subst (Fits σ r) q (subst (λ z. Fits σ z (state_at ts z)) rr (free.solves r h).1)
  keep (free-left e) nl nr = keep_left e (nl e)
  keep (free_right e) nl nr = go (state_at ts lo.1) refl
    where
      go : (st : TypeState) → state_at ts lo.1 ≡ st → Stays
      go unknown q = keep_left q (nl q)
      go (known i k d cs) q = keep_right (λ z. known≢ (sym q ∙ z)) e (nr e)

module _ (ts : Types) (formed : WellFormed ts) (σ : Sol) (free : Free ts σ) where
  -- Joining two such roots, of which none is an unknown that stands in the other, leaves a table that can be read with its unknowns free.
  pub join_keep : (x y : Ty) → x.1 < length ts → y.1 < length ts → rep ts x.1 ≡ x.1 → rep ts y.1 ≡ y.1 → x.1 ≢ y.1 → Mates ts x.1 y.1 → (state_at ts x.1 ≡ unknown → NotIn x.1 (σ y.1)) → (state_at ts y.1 ≡ unknown → NotIn y.1 (σ x.1)) → (σ' : Sol) × Free (join ts x y) σ'
  unfolding join
  join_keep x y hx hy rx ry ne m nx ny = go (larger ts x y) refl
    where
      go : (b : Bool) → larger ts x y ≡ b → (σ' : Sol) × Free (join ts x y) σ'
      go true e = rw (e, join) (keep ts y x hy hx ry rx (λ q. ne (sym q)) formed σ free (mates_flip ts x.1 y.1 m) ny nx)
      go false e = rw (e, join) (keep ts x y hx hy rx ry ne formed σ free m nx ny)
