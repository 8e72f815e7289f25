-- What is built for a source: rows of reach, of which the components are those of the rules, and the candidate sets, which hold what the rules say that they admit.
use Rattle.std.specs.Prelude.{ℕ, ◌+◌, ◌*◌, ◌/◌, ◌%◌, ◌≤◌, ◌<◌, ◌≡◌, Bool, true, false, not, ◌||◌, ◌&&◌, [], ◌∷◌, ◌⊎◌, ◌↔◌, ◌≢◌, length}
use Rattle.std.proofs.Math.Path.{refl, ap, subst}
use Rattle.std.proofs.Common.{sym, ◌∙◌, ap₂, inl, inr, ⊎_elim, arith, eqb→eq, T_not}
use Rattle.std.proofs.Math.Dec.{T, eqb, eqb_refl, not_T}
use Rattle.rules.specs.Lists.{Words, any, is_in}
use Rattle.rules.specs.Layout.{header_definitions, binding_vis, binding_impl, flag_manual, flag_unsafe, flag_named}
use Rattle.rules.specs.Sheet.{at, many, bindings, impl_flag, impl_trait}
use Rattle.rules.specs.Reach.{reach}
use Rattle.rules.specs.Members.{In, first, in_cases, in_empty, any_in, and_iff, not_iff, is_in_in, same_test}
use Rattle.rules.specs.CheckLaws.{Checked}
use Rattle.rules.proofs.CheckLaws.{passed}
use Rattle.rules.specs.CheckedSheet.{valid}
use Rattle.rules.specs.Candidates.{Edge, edges, node_count, graph, linked, same_component, may_enter, admitted}
use Rattle.rules.specs.Admission.{EdgeFrom, Reaches, arrived, along, Together, LetsIn, OpenPath, stays, onward, binding_node, Binds, Admits}
use Rattle.rules.proofs.Components.{reaches_on, edge_to, reaches_node, reach_paths, components}
use Rattle.rules.proofs.AdmissionLaws.{visible_iff, open_node, admission}
use Rattle.words.specs.Buffers.{cleared}
use Rattle.candidates.specs.Layout.{rows_links, rows_open, rows_reach, rows_sets, rows_end, index_definitions, candidates_length}
use Rattle.candidates.specs.Bits.{bit, on}
use Rattle.candidates.specs.Spread.{leads, has, Walk, stay, step, walk_on, walk_same, Comes, Spread, spread_back, spread_has, Rows, Kin, Kindred, kin_selves, kin_open}
use Rattle.candidates.specs.Index.{Indexes, IndexedAll, indexes_keep, indexes_same}
use Rattle.candidates.specs.Source.{Sourced, seen, seen_is, cleared_at}
use Rattle.candidates.specs.Links.{LinkingAll, Built, to, lets, seen_same, bit-zero}
use Rattle.candidates.specs.Inner.{Selves, InnerAll}
use Rattle.candidates.specs.Sets.{BindingAll, Bound, entry}

-- The rows are clear, the indexes written, the source's ancestors marked.
pub record Prepared (s : Words) (src : ℕ) (us : Words) : Type 0 where
  pub indexes : Indexes s us
  pub clear : (p : ℕ) → rows_links ≤ p → p < rows_end → at us p ≡ 0
  pub before : Words
  pub source : Sourced s src before us

pub prepared : (s : Words) (src : ℕ) (w₀ w₁ w₂ w₃ : Words) → length s ≤ 4096 → w₁ ≡ cleared rows_end w₀ → IndexedAll s w₁ w₂ → Sourced s src w₂ w₃ → Prepared s src w₃
prepared s src w₀ w₁ w₂ w₃ l e i m = record {
  indexes = indexes_keep s w₂ w₃ l (λ p h. m.others p (omega arith)) i.indexes;
  clear = λ p h k. m.others p h ∙ i.others p k ∙ ap (λ w. at w p) e ∙ cleared_at rows_end w₀ p k;
  before = w₂;
  source = m;
}

-- The steps from there to the edges that the source may take,
pub record Connected (s : Words) (n : ℕ) (ws us : Words) : Type 0 where
  pub linked : Words
  pub started : Words
  pub reached : Words
  pub built : Built s (3 * n) ws linked
  pub selves : Selves (3 * n) linked started
  pub spread : Spread (3 * n) rows_links started reached
  pub inner : InnerAll (3 * n) (3 * n) reached us

-- and to the sets.
pub record Filled (s : Words) (n : ℕ) (ws us : Words) : Type 0 where
  pub entered : Words
  pub bound : Bound s n ws entered
  pub spread : Spread (3 * n) rows_open entered us

pub rows_for : (n m : ℕ) (s ws us : Words) → m ≤ rows_open → length us ≡ length ws → LinkingAll n s ws → Rows (3 * n) m us
rows_for n m s ws us h e l = record { few = omega (arith, l.few); fits = omega (arith, l.few, l.fits) }

pub rows-after : (n : ℕ) (s ws us : Words) → length us ≡ length ws → BindingAll n s ws → Rows (3 * n) rows_open us
rows-after n s ws us e l = record { few = omega (arith, l.few); fits = omega (arith, l.few, l.fits) }

-- The indexes, the rows of reach and the sets, for a source.
pub record Candidates (s : Words) (src : ℕ) (us : Words) : Type 0 where
  pub indexes : Indexes s us
  pub reach : (x y : ℕ) → x < node_count s → y < node_count s → on us (rows_reach + 12 * x) y ≡ reach (length (graph s)) (linked (graph s)) x y
  pub sets : (x i : ℕ) → x < node_count s → i < 384 → on us (rows_sets + 12 * x) i ≡ is_in i (admitted s src (x ∷ []))

-- How many definitions the index says.
pub prepared_count : (s : Words) (src n : ℕ) (ws : Words) → Prepared s src ws → n ≡ at ws index_definitions → n ≡ many s header_definitions
prepared_count s src n ws p e = e ∙ p.indexes.definitions.count

pub prepared_links : (s : Words) (src n : ℕ) (ws : Words) → Checked s → length s ≤ 4096 → candidates_length ≤ length ws → Prepared s src ws → n ≡ at ws index_definitions → LinkingAll n s ws
prepared_links s src n ws c l f p e = record {
  few = omega (arith, prepared_count s src n ws p e, (valid s (passed s c).values).definition_count);
  short = l;
  fits = f;
  indexes = p.indexes;
  clear = p.clear;
}

-- What the edges' rows leave alone.
connected_same : (s : Words) (n : ℕ) (ws us : Words) → n ≤ 128 → Connected s n ws us → (p : ℕ) → (p < rows_links) ⊎ (rows_sets ≤ p) → at us p ≡ at ws p
connected_same s n ws us l c p o =
    c.inner.others p (⊎_elim (λ h. inl (omega (arith, h))) (λ h. inr (omega (arith, h))) o)
    ∙ c.spread.grown.same p (⊎_elim (λ h. inl (omega (arith, h))) (λ h. inr (omega (arith, h))) o)
    ∙ c.selves.others p (⊎_elim (λ h. inl (omega (arith, h))) (λ h. inr h) o)
    ∙ c.built.others p (⊎_elim (λ h. inl h) (λ h. inr (omega (arith, h))) o)

pub connected_binds : (s : Words) (n : ℕ) (ws us : Words) → length us ≡ length ws → LinkingAll n s ws → Connected s n ws us → BindingAll n s us
connected_binds s n ws us e l c = record {
  few = l.few;
  short = l.short;
  fits = omega (arith, l.fits);
  indexes = indexes_keep s ws us l.short (λ p h. connected_same s n ws us l.few c p (inr (omega arith))) l.indexes;
  clear = λ p h k. connected_same s n ws us l.few c p (inr h) ∙ l.clear p (omega arith) k;
}

or_iff : (a b : Bool) → T (a || b) ↔ (T a ⊎ T b)
or_iff true b = (λ t. inl tt, λ h. tt)
or_iff false b = (λ t. inr t, λ h. ⊎_elim (λ t. absurd t) (λ t. t) h)

-- Every node begins with itself in the rows of reach,
pub begun : (s : Words) (n : ℕ) (w₀ w₁ w₂ : Words) → LinkingAll n s w₀ → Built s (3 * n) w₀ w₁ → Selves (3 * n) w₁ w₂ → (x j : ℕ) → x < 3 * n → j < 384 → on w₂ (rows_reach + 12 * x) j ≡ eqb j x
unfolding on
begun s n w₀ w₁ w₂ l b c x j hx hj =
    c.selves x j hx hj
    ∙ ap (λ a. a || eqb j x) (ap (λ w. bit w (j % 32)) (b.others (rows_reach + 12 * x + j / 32) (inr (omega arith)) ∙ l.clear (rows_reach + 12 * x + j / 32) (omega arith) (omega (arith, l.few))) ∙ bit-zero (j % 32))

pub kin_begun : (s : Words) (n : ℕ) (w₀ w₁ w₂ : Words) → LinkingAll n s w₀ → Built s (3 * n) w₀ w₁ → Selves (3 * n) w₁ w₂ → Kin (3 * n) rows_links w₂
kin_begun s n w₀ w₁ w₂ l b c = kin_selves (3 * n) w₂ (omega (arith, l.few)) (begun s n w₀ w₁ w₂ l b c)

-- and in the end the edges between nodes that reach each other are open.
module _ (n : ℕ) (w₀ w₁ w₂ : Words) (few : n ≤ 384) (k : Kin n rows_links w₀) (own : (x j : ℕ) → x < n → j < 384 → on w₀ (rows_reach + 12 * x) j ≡ eqb j x) (p : Spread n rows_links w₀ w₁) (i : InnerAll n n w₁ w₂) where
  reach-walk : (x y : ℕ) → x < n → y < n → T (on w₁ (rows_reach + 12 * x) y) → T (on w₁ (rows_reach + 12 * y) x) → Walk (leads rows_links w₀) n x y
  reach-walk x y hx hy t u = walk_same rows_links w₀ w₁ few p.grown.same hx (k.at w₁ p.grown x y hx hy t u)

  self_reached : (x : ℕ) → x < n → T (has rows_links w₁ x x)
  unfolding has
  self_reached x hx = p.grown.keeps x x hx (omega arith) (subst T (sym (own x x hx (omega arith))) (eqb_refl x))

  open_step : (x y : ℕ) → x < n → y < n → T (leads rows_links w₀ x y) → T (has rows_links w₁ y x) → T (leads rows_open w₂ x y)
  unfolding leads has on
  open_step x y hx hy t u =
      subst T (sym (i.done x y hx hy)) ((or_iff (on w₁ (rows_open + 12 * x) y) (on w₁ (rows_links + 12 * x) y && on w₁ (rows_reach + 12 * y) x)).1 (inr ((and_iff (on w₁ (rows_links + 12 * x) y) (on w₁ (rows_reach + 12 * y) x)).1 (
        subst T (sym (ap (λ w. bit w (y % 32)) (p.grown.same (rows_links + 12 * x + y / 32) (inl (omega arith))))) t,
        u,
      ))))

  open_walk : {x z : ℕ} → x < n → Walk (leads rows_links w₀) n x z → Walk (leads rows_links w₀) n z x → Walk (leads rows_open w₂) n x z
  open_walk hx stay v = stay
  open_walk hx (step {x} {y} t hy q) v =
      step (open_step x y hx hy t (spread_back n rows_links w₀ w₁ few p x (omega arith) hy (walk_on q v) (self_reached x hx))) hy (open_walk hy q (walk_on v (step t hy stay)))

  kindred : Kindred n w₂
  unfolding on
  kindred = record {
    at = λ x z hx hz t u.
        let a = subst T (ap (λ w. bit w (z % 32)) (i.others (rows_reach + 12 * x + z / 32) (inr (omega arith)))) t in
        let b = subst T (ap (λ w. bit w (x % 32)) (i.others (rows_reach + 12 * z + x / 32) (inr (omega arith)))) u in
        open_walk hx (reach-walk x z hx hz a b) (reach-walk z x hz hx b a);
  }

pub connected_kin : (s : Words) (n : ℕ) (ws us : Words) → LinkingAll n s ws → Connected s n ws us → Kindred (3 * n) us
connected_kin s n ws us l c =
    kindred (3 * n) c.started c.reached us (omega (arith, l.few)) (kin_begun s n ws c.linked c.started l c.built c.selves) (begun s n ws c.linked c.started l c.built c.selves) c.spread c.inner

pub kin_bound : (s : Words) (n : ℕ) (ws us : Words) → BindingAll n s ws → Kindred (3 * n) ws → Bound s n ws us → Kin (3 * n) rows_open us
kin_bound s n ws us l k b = kin_open (3 * n) ws us (omega (arith, l.few)) b.others k

-- An edge leads from x to y; one whose vis a test lets in.
to_edge : (s : Words) (x y : ℕ) → T (to (edges s x) y) ↔ ((v : ℕ) × EdgeFrom s x v y)
unfolding to
to_edge s x y = (there, λ r. a.1 ((r.0, y), r.1, eqb_refl y))
  where
    a : T (any (λ e. eqb e.1 y) (edges s x)) ↔ ((e : Edge) × In e (edges s x) × T (eqb e.1 y))
    a = any_in (λ e. eqb e.1 y) (edges s x)

    there : T (any (λ e. eqb e.1 y) (edges s x)) → (v : ℕ) × EdgeFrom s x v y
    there t = let r = a.0 t in (r.0.0, subst (λ z. In (r.0.0, z) (edges s x)) (eqb→eq r.0.1 y r.2) r.1)

lets_edge : (s : Words) (sees : ℕ → Bool) (x y : ℕ) → T (lets sees (edges s x) y) ↔ ((v : ℕ) × EdgeFrom s x v y × T (sees v))
unfolding lets
lets_edge s sees x y = (there, λ r. a.1 ((r.0, y), r.1, (and_iff (eqb y y) (sees r.0)).1 (eqb_refl y, r.2)))
  where
    a : T (any (λ e. eqb e.1 y && sees e.0) (edges s x)) ↔ ((e : Edge) × In e (edges s x) × T (eqb e.1 y && sees e.0))
    a = any_in (λ e. eqb e.1 y && sees e.0) (edges s x)

    there : T (any (λ e. eqb e.1 y && sees e.0) (edges s x)) → (v : ℕ) × EdgeFrom s x v y × T (sees v)
    there t =
        let r = a.0 t in
        let b = (and_iff (eqb r.0.1 y) (sees r.0.0)).0 r.2 in
        (r.0.0, subst (λ z. In (r.0.0, z) (edges s x)) (eqb→eq r.0.1 y b.0) r.1, b.1)

path_on : {s : Words} {src x y z : ℕ} → OpenPath s src x y → OpenPath s src y z → OpenPath s src x z
path_on p stays = p
path_on p (onward q e w) = onward (path_on p q) e w

-- "Manual, unsafe and Error impls never enter."
enter_iff : (s : Words) (i : ℕ) → T (may_enter s i) ↔ ((impl_flag s flag_manual i ≡ false) × (impl_flag s flag_unsafe i ≡ false) × (impl_trait s i ≢ 0))
unfolding may_enter
enter_iff s i = (there, back)
  where
    a : T (may_enter s i) ↔ (T (not (impl_flag s flag_manual i) && not (impl_flag s flag_unsafe i)) × T (not (eqb (impl_trait s i) 0)))
    a = and_iff (not (impl_flag s flag_manual i) && not (impl_flag s flag_unsafe i)) (not (eqb (impl_trait s i) 0))

    b : T (not (impl_flag s flag_manual i) && not (impl_flag s flag_unsafe i)) ↔ (T (not (impl_flag s flag_manual i)) × T (not (impl_flag s flag_unsafe i)))
    b = and_iff (not (impl_flag s flag_manual i)) (not (impl_flag s flag_unsafe i))

    there : T (may_enter s i) → (impl_flag s flag_manual i ≡ false) × (impl_flag s flag_unsafe i ≡ false) × (impl_trait s i ≢ 0)
    there t =
        let p = a.0 t in
        let q = b.0 p.0 in
        ((not_iff (impl_flag s flag_manual i)).0 q.0, (not_iff (impl_flag s flag_unsafe i)).0 q.1, λ e. T_not (eqb (impl_trait s i) 0) p.1 (subst (λ c. T (eqb c 0)) (sym e) tt))

    back : (impl_flag s flag_manual i ≡ false) × (impl_flag s flag_unsafe i ≡ false) × (impl_trait s i ≢ 0) → T (may_enter s i)
    back r =
        a.1 (b.1 ((not_iff (impl_flag s flag_manual i)).1 r.0, (not_iff (impl_flag s flag_unsafe i)).1 r.1), not_T (eqb (impl_trait s i) 0) (λ t. r.2 (eqb→eq (impl_trait s i) 0 t)))

node_of : (f : Bool) (x d : ℕ) → x ≡ binding_node f d → x / 3 ≡ d
node_of true x d e = omega arith
node_of false x d e = omega arith

module _ (s : Words) (src : ℕ) (w₀ w₁ w₂ : Words) (short : length s ≤ 4096) (c : Checked s) (hs : src < many s header_definitions) (p : Prepared s src w₀) (k : Connected s (many s header_definitions) w₀ w₁) (f : Filled s (many s header_definitions) w₁ w₂) where
  abbrev N : ℕ
  N = 3 * many s header_definitions

  few : N ≤ 384
  few = omega (arith, (valid s (passed s c).values).definition_count)

  nodes : N ≡ node_count s
  unfolding node_count
  nodes = refl

  below : {x : ℕ} → x < N → x < node_count s
  below {x} h = subst (λ n. x < n) nodes h

  above : {x : ℕ} → x < node_count s → x < N
  above {x} h = subst (λ n. x < n) (sym nodes) h

  -- The rows of links are the edges,
  links : (x y : ℕ) → x < N → y < 384 → leads rows_links k.started x y ≡ to (edges s x) y
  unfolding leads on
  links x y hx hy = ap (λ w. bit w (y % 32)) (k.selves.others (rows_links + 12 * x + y / 32) (inl (omega (arith, few)))) ∙ k.built.links x y hx hy

  -- and every node begins with itself.
  itself : (x j : ℕ) → x < N → j < 384 → has rows_links k.started x j ≡ eqb j x
  unfolding has on
  itself x j hx hj =
      k.selves.selves x j hx hj
      ∙ ap (λ b. b || eqb j x) (ap (λ w. bit w (j % 32)) (k.built.others (rows_reach + 12 * x + j / 32) (inr (omega arith)) ∙ p.clear (rows_reach + 12 * x + j / 32) (omega arith) (omega (arith, few))) ∙ bit-zero (j % 32))

  walk_reaches : {x y : ℕ} → x < N → Walk (leads rows_links k.started) N x y → Reaches s x y
  walk_reaches h stay = arrived
  walk_reaches h (step {x} {y} t l q) =
      let e = (to_edge s x y).0 (subst T (links x y h (omega (arith, few))) t) in
      reaches_on (along arrived e.1) (walk_reaches l q)

  reaches_walk : {x y : ℕ} → x < N → Reaches s x y → Walk (leads rows_links k.started) N x y
  reaches_walk h arrived = stay
  reaches_walk h (along {y} {v} {z} q e) =
      let l = above (reaches_node s c (below h) q) in
      let m = above (edge_to s c y (below l) v z e) in
      walk_on (reaches_walk h q) (step (subst T (sym (links y z l (omega (arith, few)))) ((to_edge s y z).1 (v, e))) m stay)

  -- What is spread from there is reach.
  reach_iff : (x y : ℕ) → x < N → y < N → T (has rows_links k.reached x y) ↔ Reaches s x y
  reach_iff x y hx hy =
      let r = spread_has N rows_links k.started k.reached few k.spread x y hx (omega (arith, few)) in (
        λ t. let m = r.0 t in subst (Reaches s x) (sym (eqb→eq y m.end (subst T (itself m.end y m.below (omega (arith, few))) m.there))) (walk_reaches hx m.walk),
        λ q. r.1 (record { end = y; below = hy; walk = reaches_walk hx q; there = subst T (sym (itself y y hy (omega (arith, few)))) (eqb_refl y) }),
      )

  -- The marks say which vis lets the source in.
  sees : (v : ℕ) → T (seen w₀ v) ↔ LetsIn s src v
  sees v = subst (λ b. T b ↔ LetsIn s src v) (sym (seen_is s src p.before w₀ c hs p.source v)) (visible_iff s c src hs v)

  -- The edges that the source may take: those within a component, and those whose vis lets it in.
  taken_iff : (x y : ℕ) → x < N → y < N → T (leads rows_open f.entered x y) ↔ ((v : ℕ) × EdgeFrom s x v y × (Together s x y ⊎ LetsIn s src v))
  unfolding leads has on
  taken_iff x y hx hy = subst (λ b. T b ↔ ((v : ℕ) × EdgeFrom s x v y × (Together s x y ⊎ LetsIn s src v))) (sym row) (there, back)
    where
      opens : on k.reached (rows_open + 12 * x) y ≡ lets (seen w₀) (edges s x) y
      opens =
          ap (λ w. bit w (y % 32)) (k.spread.grown.same (rows_open + 12 * x + y / 32) (inl (omega (arith, few))) ∙ k.selves.others (rows_open + 12 * x + y / 32) (inl (omega (arith, few))))
          ∙ k.built.opens x y hx (omega (arith, few))

      linked : on k.reached (rows_links + 12 * x) y ≡ to (edges s x) y
      linked = ap (λ w. bit w (y % 32)) (k.spread.grown.same (rows_links + 12 * x + y / 32) (inl (omega (arith, few)))) ∙ links x y hx (omega (arith, few))

      back-row : Bool
      back-row = on k.reached (rows_reach + 12 * y) x

      row : on f.entered (rows_open + 12 * x) y ≡ (lets (seen w₀) (edges s x) y || (to (edges s x) y && back-row))
      row =
          ap (λ w. bit w (y % 32)) (f.bound.others (rows_open + 12 * x + y / 32) (inl (omega (arith, few)))) ∙ k.inner.done x y hx hy
          ∙ ap₂ (λ a b. a || (b && back-row)) opens linked

      there : T (lets (seen w₀) (edges s x) y || (to (edges s x) y && back-row)) → (v : ℕ) × EdgeFrom s x v y × (Together s x y ⊎ LetsIn s src v)
      there t = go ((or_iff (lets (seen w₀) (edges s x) y) (to (edges s x) y && back-row)).0 t)
        where
          go : T (lets (seen w₀) (edges s x) y) ⊎ T (to (edges s x) y && back-row) → (v : ℕ) × EdgeFrom s x v y × (Together s x y ⊎ LetsIn s src v)
          go (inl a) = let r = (lets_edge s (seen w₀) x y).0 a in (r.0, r.1, inr ((sees r.0).0 r.2))
          go (inr a) =
              let b = (and_iff (to (edges s x) y) back-row).0 a in
              let r = (to_edge s x y).0 b.0 in
              (r.0, r.1, inl (along arrived r.1, (reach_iff y x hy hx).0 b.1))

      back : (v : ℕ) × EdgeFrom s x v y × (Together s x y ⊎ LetsIn s src v) → T (lets (seen w₀) (edges s x) y || (to (edges s x) y && back-row))
      back r = (or_iff (lets (seen w₀) (edges s x) y) (to (edges s x) y && back-row)).1 (go r.2)
        where
          go : Together s x y ⊎ LetsIn s src r.0 → T (lets (seen w₀) (edges s x) y) ⊎ T (to (edges s x) y && back-row)
          go (inl g) = inr ((and_iff (to (edges s x) y) back-row).1 ((to_edge s x y).1 (r.0, r.1), (reach_iff y x hy hx).1 g.1))
          go (inr g) = inl ((lets_edge s (seen w₀) x y).1 (r.0, r.1, (sees r.0).1 g))

  -- What a node binds itself.
  bound_iff : (x i : ℕ) → x < N → i < 384 → T (has rows_open f.entered x i) ↔ (T (may_enter s i) × Binds s src x i)
  unfolding has entry
  bound_iff x i hx hi = subst (λ b. T b ↔ (T (may_enter s i) × Binds s src x i)) (sym (f.bound.sets x i hx hi)) (there, back)
    where
      marks : (v : ℕ) → seen w₁ v ≡ seen w₀ v
      marks = seen_same w₀ w₁ (λ q h. connected_same s (many s header_definitions) w₀ w₁ (omega (arith, few)) k q (inl h))

      first_part : ℕ → Bool
      first_part b = eqb (at s (b + binding_impl)) i && seen w₁ (at s (b + binding_vis))

      node : ℕ
      node = binding_node (impl_flag s flag_named i) (x / 3)

      a : T (any (λ b. entry s (seen w₁) (x / 3) b x i) (bindings s (x / 3))) ↔ ((b : ℕ) × In b (bindings s (x / 3)) × T (entry s (seen w₁) (x / 3) b x i))
      a = any_in (λ b. entry s (seen w₁) (x / 3) b x i) (bindings s (x / 3))

      there : T (any (λ b. entry s (seen w₁) (x / 3) b x i) (bindings s (x / 3))) → T (may_enter s i) × Binds s src x i
      there t =
          let r = a.0 t in
          let u = (and_iff (first_part r.0 && may_enter s i) (eqb x node)).0 r.2 in
          let v = (and_iff (first_part r.0) (may_enter s i)).0 u.0 in
          let w = (and_iff (eqb (at s (r.0 + binding_impl)) i) (seen w₁ (at s (r.0 + binding_vis)))).0 v.0 in (
            v.1,
            record {
              definition = x / 3;
              node = eqb→eq x node u.1;
              binding = r.0;
              stands = r.1;
              impl = eqb→eq (at s (r.0 + binding_impl)) i w.0;
              vis = (sees (at s (r.0 + binding_vis))).0 (subst T (marks (at s (r.0 + binding_vis))) w.1);
            },
          )

      back : T (may_enter s i) × Binds s src x i → T (any (λ b. entry s (seen w₁) (x / 3) b x i) (bindings s (x / 3)))
      back r =
          let w = r.1 in
          let d : x / 3 ≡ w.definition = node_of (impl_flag s flag_named i) x w.definition w.node in
          let b = w.binding in
          a.1 (
            b,
            subst (λ e. In b (bindings s e)) (sym d) w.stands,
            (and_iff (first_part b && may_enter s i) (eqb x node)).1 (
              (and_iff (first_part b) (may_enter s i)).1 (
                (and_iff (eqb (at s (b + binding_impl)) i) (seen w₁ (at s (b + binding_vis)))).1 (
                  subst (λ e. T (eqb e i)) (sym w.impl) (eqb_refl i),
                  subst T (sym (marks (at s (b + binding_vis)))) ((sees (at s (b + binding_vis))).1 w.vis),
                ),
                r.0,
              ),
              subst (λ e. T (eqb x (binding_node (impl_flag s flag_named i) e))) (sym d) (subst (λ e. T (eqb x e)) w.node (eqb_refl x)),
            ),
          )

  walk_path : {x y : ℕ} → x < N → Walk (leads rows_open f.entered) N x y → OpenPath s src x y
  walk_path h stay = stays
  walk_path h (step {x} {y} t l q) = let e = (taken_iff x y h l).0 t in path_on (onward stays e.1 e.2) (walk_path l q)

  path_walk : {x y : ℕ} → x < N → OpenPath s src x y → Walk (leads rows_open f.entered) N x y
  path_walk h stays = stay
  path_walk h (onward {y} {v} {z} q e w) =
      let l = above (open_node s c src hs (below h) q) in
      let m = above (edge_to s c y (below l) v z e) in
      walk_on (path_walk h q) (step ((taken_iff y z l m).1 (v, e, w)) m stay)

  -- The sets hold what the sets of the rules admit.
  admits_iff : (x i : ℕ) → x < N → i < 384 → T (has rows_open w₂ x i) ↔ Admits s src x i
  admits_iff x i hx hi = (there, back)
    where
      r : T (has rows_open w₂ x i) ↔ Comes N rows_open f.entered x i
      r = spread_has N rows_open f.entered w₂ few f.spread x i hx hi

      there : T (has rows_open w₂ x i) → Admits s src x i
      there t =
          let m = r.0 t in
          let b = (bound_iff m.end i m.below hi).0 m.there in
          let e = (enter_iff s i).0 b.0 in
          record { end = m.end; path = walk_path hx m.walk; binds = b.1; not_manual = e.0; not_unsafe = e.1; not_error = e.2 }

      back : Admits s src x i → T (has rows_open w₂ x i)
      back a =
          let l = above (open_node s c src hs (below hx) a.path) in
          r.1 (record {
            end = a.end;
            below = l;
            walk = path_walk hx a.path;
            there = (bound_iff a.end i l hi).1 ((enter_iff s i).1 (a.not_manual, a.not_unsafe, a.not_error), a.binds);
          })

  pub candidates_built : Candidates s src w₂
  unfolding has on
  candidates_built = record { indexes = kept; reach = reach-row; sets = set-row }
    where
      kept : Indexes s w₂
      kept = indexes_keep s w₀ w₂ short
          (λ q h. f.spread.grown.same q (inr (omega (arith, few))) ∙ f.bound.others q (inr h) ∙ connected_same s (many s header_definitions) w₀ w₁ (omega (arith, few)) k q (inr (omega arith)))
          p.indexes

      reach-row : (x y : ℕ) → x < node_count s → y < node_count s → on w₂ (rows_reach + 12 * x) y ≡ reach (length (graph s)) (linked (graph s)) x y
      reach-row x y hx hy =
          ap (λ w. bit w (y % 32))
          (f.spread.grown.same (rows_reach + 12 * x + y / 32) (inl (omega (arith, few, above hx, above hy))) ∙ f.bound.others (rows_reach + 12 * x + y / 32) (inl (omega (arith, few, above hx, above hy)))
          ∙ k.inner.others (rows_reach + 12 * x + y / 32) (inr (omega arith)))
          ∙ same_test (has rows_links k.reached x y) (reach (length (graph s)) (linked (graph s)) x y)
          (λ t. (reach_paths s c x y hx).1 ((reach_iff x y (above hx) (above hy)).0 t), λ t. (reach_iff x y (above hx) (above hy)).1 ((reach_paths s c x y hx).0 t))

      set-row : (x i : ℕ) → x < node_count s → i < 384 → on w₂ (rows_sets + 12 * x) i ≡ is_in i (admitted s src (x ∷ []))
      set-row x i hx hi = same_test (has rows_open w₂ x i) (is_in i (admitted s src (x ∷ []))) (
        λ t. (is_in_in i (admitted s src (x ∷ []))).1 ((admission s c src hs (x ∷ []) i).1 (x, first, hx, (admits_iff x i (above hx) hi).0 t)),
        λ t. let r = (admission s c src hs (x ∷ []) i).0 ((is_in_in i (admitted s src (x ∷ []))).0 t) in (admits_iff x i (above hx) hi).1 (⊎_elim (λ e. subst (λ z. Admits s src z i) e r.3) (λ q. absurd (in_empty q)) (in_cases r.1)),
      )

pub build_done : (s : Words) (src n : ℕ) (w₀ w₁ w₂ : Words) → length s ≤ 4096 → Checked s → src < many s header_definitions → n ≡ at w₀ index_definitions → Prepared s src w₀ → Connected s n w₀ w₁ → Filled s n w₁ w₂ → Candidates s src w₂
build_done s src n w₀ w₁ w₂ l c h e p k f =
    let q = prepared_count s src n w₀ p e in
    candidates_built s src w₀ w₁ w₂ l c h p (subst (λ m. Connected s m w₀ w₁) q k) (subst (λ m. Filled s m w₁ w₂) q f)

-- Tarjan's components, of what is computed: two nodes have each other's bit in the rows of reach exactly if they share a component,
pub component_rows : (s : Words) (src : ℕ) (us : Words) → Candidates s src us → (x y : ℕ) → x < node_count s → y < node_count s → (on us (rows_reach + 12 * x) y && on us (rows_reach + 12 * y) x) ≡ same_component (graph s) x y
unfolding same_component
component_rows s src us k x y hx hy = ap₂ (λ a b. a && b) (k.reach x y hx hy) (k.reach y x hy hx)

-- exactly if each reaches the other along edges.
pub component_paths : (s : Words) (src : ℕ) (us : Words) → Checked s → Candidates s src us → (x y : ℕ) → x < node_count s → y < node_count s → T (on us (rows_reach + 12 * x) y && on us (rows_reach + 12 * y) x) ↔ Together s x y
component_paths s src us c k x y hx hy = subst (λ b. T b ↔ Together s x y) (sym (component_rows s src us k x y hx hy)) (components s c x y hx hy)

-- What is built stands as long as the words that hold it do.
pub candidates_same : (s : Words) (src : ℕ) (us vs : Words) → length s ≤ 4096 → Checked s → ((p : ℕ) → p < candidates_length → at vs p ≡ at us p) → Candidates s src us → Candidates s src vs
unfolding on node_count
candidates_same s src us vs l c same k = record {
  indexes = indexes_same s us vs l (λ p h b. same p b) k.indexes;
  reach = λ x y hx hy. ap (λ w. bit w (y % 32)) (same (rows_reach + 12 * x + y / 32) (omega (arith, (valid s (passed s c).values).definition_count))) ∙ k.reach x y hx hy;
  sets = λ x i hx hi. ap (λ w. bit w (i % 32)) (same (rows_sets + 12 * x + i / 32) (omega (arith, (valid s (passed s c).values).definition_count))) ∙ k.sets x i hx hi;
}
