-- The layers of `unify`, one law for each way through the code: from roots to what they are, to two known types.
use Prim.Native.Nat.{ℕ, suc, ◌-◌, ◌/◌, ◌%◌, ◌<◌}
use Rattle.std.specs.Prelude.{◌≡◌, Bool, false, not, ◌||◌, ◌≢◌, [], ◌∷◌, eqb}
use Rattle.std.proofs.Math.Path.{refl, sym, ap, ap₂, subst}
use Rattle.std.proofs.Common.{◌∙◌, inl, inr, eq-eqb, ne_eqb, eqb-true}
use Rattle.std.proofs.Math.Bool.{true}
use native.Mathlib.Omega.{arith}
use Rattle.std.proofs.Math.ListN.{length}
use Rattle.std.proofs.lemmas.Bool.{eqb-false}
use Rattle.rules.specs.Lists.{Words}
use Rattle.rules.specs.Types.{Ty, TypeState, unknown, known, Types, xor, invert_if, find, state_at, self_inverse, from_bool, success, failure, indeterminate, join, Unified, unify_known, join_on_success, bind_unknown, unify_states, unify_roots, unify_in}
use Rattle.rules.specs.Types as rules
use Rattle.rules.specs.Acyclic.{children}
use Rattle.rules.specs.AcyclicLaws.{children_at}
use Rattle.rules.specs.Transfer.{type_of_word}
use Rattle.rules.specs.Answer.{word_of_type}
use Rattle.rules.specs.Solutions.{rep, WellFormed}
use Rattle.rules.specs.Readings.{Acyclic, ranked_readable}
use Rattle.rules.specs.UnifyKeeps.{StaysAcyclic, unify_in-acyclic}
use Rattle.rules.specs.UnifyEnds.{Enough, root_enough}
use Rattle.rules.specs.OwnInverse.{Later}
use Rattle.rules.specs.RootRank.{rank}
use Rattle.rules.specs.MostGeneral.{Won, unify_in_right, states_right as rules_right}
use Rattle.table.specs.Packing.{types_of, kind_in, inverted_in, id_in, kind_at, inverted_at, id_at, Roots, Good}
use Rattle.table.specs.Nodes.{type_word}
use Rattle.table.specs.Reads.{unknown_here}
use Rattle.memo.specs.declared.verdict.UnifyResult.{UnifyResult}
use Rattle.memo.specs.declared.verdict.UnifyResult.TheVariants.{Success, Failure}
use Rattle.memo.specs.Verdicts.{result_of}
use Rattle.unify.specs.Results.{Unifies, Exact, TwoRoots, KnownRoots, met_inverted, unify_fields}
use Rattle.unify.specs.Trying.{Ready, Fuelled, Noted, Binds, Met, Went, noted_then, moves_noted, met_as, met-moved, met_still, met_noted, went_still}

-- `unify` with no fuel left, and with some.
pub unify-none : (w : Bool) (s ws ms : Words) (left a b : ℕ) → left ≡ 0 → Good ws → Ready s (types_of ws) ms → Went w s (types_of ws) ms ws ms Failure (unify_in left s (types_of ws) (type_of_word a) (type_of_word b))
unfolding unify_in result_of
unify-none w s ws ms left a b e g r = went_still w s ws ms Failure _ r (record { good = g; is = sym (ap (λ k. unify_in k s (types_of ws) (type_of_word a) (type_of_word b)) e) })

found : (ts : Types) (a x : ℕ) → x ≡ word_of_type (find ts (type_of_word a)) → type_of_word x ≡ find ts (type_of_word a)
found ts a x e = ap type_of_word e ∙ type_word (find ts (type_of_word a))

module _ (ws : Words) (a b x y : ℕ) (g : Good ws) (ha : a / 2 < length (types_of ws)) (hb : b / 2 < length (types_of ws)) (ex : x ≡ word_of_type (find (types_of ws) (type_of_word a))) (ey : y ≡ word_of_type (find (types_of ws) (type_of_word b))) where
  pub found_roots : TwoRoots (types_of ws) (type_of_word x) (type_of_word y)
  unfolding find invert_if rep type_of_word
  found_roots = record {
    left_in = subst (λ (t : Ty). t.1 < length (types_of ws)) (sym (found (types_of ws) a x ex)) (g.formed (a / 2) ha).0;
    right_in = subst (λ (t : Ty). t.1 < length (types_of ws)) (sym (found (types_of ws) b y ey)) (g.formed (b / 2) hb).0;
    left_root = subst (λ (t : Ty). rep (types_of ws) t.1 ≡ t.1) (sym (found (types_of ws) a x ex)) (g.formed (a / 2) ha).1;
    right_root = subst (λ (t : Ty). rep (types_of ws) t.1 ≡ t.1) (sym (found (types_of ws) b y ey)) (g.formed (b / 2) hb).1;
  }

  pub found_fuelled : (left : ℕ) → left ≢ 0 → Fuelled left (types_of ws) (type_of_word a ∷ []) → Fuelled (suc (left - 1)) (types_of ws) (type_of_word x ∷ [])
  unfolding type_of_word
  found_fuelled left nz f = record { enough = subst (λ k. Enough k (types_of ws) (type_of_word x ∷ [])) (let q : left ≡ suc (left - 1) = omega arith in q) (subst (λ (t : Ty). Enough left (types_of ws) (t ∷ [])) (sym (found (types_of ws) a x ex)) (root_enough left (types_of ws) (type_of_word a) ha f.enough)) }

  module _ (s us ms ns : Words) (left : ℕ) (v : UnifyResult) (nz : left ≢ 0) where
    opens : unify_roots (unify_in (left - 1) s) s (types_of ws) (type_of_word x) (type_of_word y) ≡ unify_in left s (types_of ws) (type_of_word a) (type_of_word b)
    unfolding unify_in
    opens =
        ap₂ (λ (t u : Ty). unify_roots (unify_in (left - 1) s) s (types_of ws) t u) (found (types_of ws) a x ex) (found (types_of ws) b y ey)
        ∙ sym (ap (λ k. unify_in k s (types_of ws) (type_of_word a) (type_of_word b)) (let q : left ≡ suc (left - 1) = omega arith in q))

    pub unify_on : (w : Bool) → Met w s (types_of ws) ms us ns v (unify_roots (unify_in (left - 1) s) s (types_of ws) (type_of_word x) (type_of_word y)) → Went w s (types_of ws) ms us ns v (unify_in left s (types_of ws) (type_of_word a) (type_of_word b))
    unfolding type_of_word
    unify_on w m = record { packed = m.packed; exact = λ e. sound (m.is e ∙ opens); fails = λ n. subst (λ (z : Unified). z.0 ≢ success) opens (m.fails n); noted = m.noted }
      where
        stays : StaysAcyclic (types_of ws) (unify_in left s (types_of ws) (type_of_word a) (type_of_word b)).1
        stays = unify_in-acyclic left s (types_of ws) (type_of_word a) (type_of_word b) g.formed g.acyclic ha hb

        sound : ◌≡◌ {A = Unified} (result_of v, types_of us) (unify_in left s (types_of ws) (type_of_word a) (type_of_word b)) → Unifies us v (unify_in left s (types_of ws) (type_of_word a) (type_of_word b))
        sound e =
            let end : types_of us ≡ (unify_in left s (types_of ws) (type_of_word a) (type_of_word b)).1 = ap (λ (z : Unified). z.1) e in
            record { good = record { packed = m.packed; formed = subst WellFormed (sym end) stays.formed; acyclic = subst Acyclic (sym end) stays.acyclic }; is = e }

    -- All pairs are tried: through the memo.
    pub unify_through : (w : Bool) → w ≡ true → Met true s (types_of ws) ms us ns v (unify_roots (unify_in (left - 1) s) s (types_of ws) (type_of_word x) (type_of_word y)) → Went w s (types_of ws) ms us ns v (unify_in left s (types_of ws) (type_of_word a) (type_of_word b))
    unify_through w e m = unify_on w (subst (λ (b : Bool). Met b s (types_of ws) ms us ns v (unify_roots (unify_in (left - 1) s) s (types_of ws) (type_of_word x) (type_of_word y))) (sym e) m)

-- Type words of one node that are inverted alike are one.
parity : (x y : ℕ) → x / 2 ≡ y / 2 → (type_of_word x).0 ≡ (type_of_word y).0 → x ≡ y
unfolding type_of_word
parity x y e q = go (eqb (x % 2) 1) refl (eqb (y % 2) 1) refl q
  where
    go : (b : Bool) → eqb (x % 2) 1 ≡ b → (c : Bool) → eqb (y % 2) 1 ≡ c → eqb (x % 2) 1 ≡ eqb (y % 2) 1 → x ≡ y
    go true p true r z = omega (arith, eqb-true (x % 2) 1 p, eqb-true (y % 2) 1 r)
    go true p false r z = let n : ◌≡◌ {A = ℕ} 0 1 = cc in absurd (omega arith)
    go false p true r z = let n : ◌≡◌ {A = ℕ} 0 1 = cc in absurd (omega arith)
    go false p false r z = let n : x % 2 ≢ 1 = eqb-false (x % 2) 1 p in let m : y % 2 ≢ 1 = eqb-false (y % 2) 1 r in omega arith

-- Two roots.
module _ (f : Types → Ty → Ty → Unified) (s ws : Words) (x y : ℕ) where
  at_one : (b : Bool) → x / 2 ≡ y / 2 → (not (xor (type_of_word x).0 (type_of_word y).0) || self_inverse s (types_of ws) (type_of_word x)) ≡ b → unify_roots f s (types_of ws) (type_of_word x) (type_of_word y) ≡ (from_bool b, types_of ws)
  unfolding unify_roots type_of_word
  at_one b e q = rw (eq-eqb (x / 2) (y / 2) e, unify_roots) (ap {B = Unified} (λ (c : Bool). (from_bool c, types_of ws)) q)

  upright : (b c : Bool) → b ≡ c → (d : Bool) → (not (xor b c) || d) ≡ true
  upright true true e d = refl
  upright true false e d = absurd (apart e)
    where
      apart : true ≡ false → ⊥
      apart q = let z : ◌≡◌ {A = ℕ} 0 1 = cc in omega arith
  upright false true e d = absurd (apart e)
    where
      apart : false ≡ true → ⊥
      apart q = let z : ◌≡◌ {A = ℕ} 0 1 = cc in omega arith
  upright false false e d = refl

  turned : (b c : Bool) → b ≢ c → (d : Bool) → (not (xor b c) || d) ≡ d
  turned true true e d = absurd (e refl)
  turned true false e d = refl
  turned false true e d = refl
  turned false false e d = absurd (e refl)

  pub roots_same : (w : Bool) (ms : Words) → x ≡ y → Good ws → Ready s (types_of ws) ms → Met w s (types_of ws) ms ws ms Success (unify_roots f s (types_of ws) (type_of_word x) (type_of_word y))
  unfolding result_of from_bool
  roots_same w ms e g r = met_still w s ws ms Success _ r (record { packed = g.packed; is = sym (at_one true (ap (λ k. k / 2) e) (upright _ _ (ap (λ k. (type_of_word k).0) e) (self_inverse s (types_of ws) (type_of_word x)))) })

  pub roots_opposed : (w : Bool) (ms ns : Words) (b : Bool) (v : UnifyResult) → x / 2 ≡ y / 2 → x ≢ y → Good ws → Noted s (types_of ws) ms (types_of ws) ns → b ≡ self_inverse s (types_of ws) (type_of_word x) → result_of v ≡ from_bool b → Met w s (types_of ws) ms ws ns v (unify_roots f s (types_of ws) (type_of_word x) (type_of_word y))
  roots_opposed w ms ns b v e n g nd eb ev = met_noted w s ws ms ns v _ nd (record { packed = g.packed; is = ap {B = Unified} (λ (r : rules.UnifyResult). (r, types_of ws)) ev ∙ sym (at_one b e (turned _ _ odd (self_inverse s (types_of ws) (type_of_word x)) ∙ sym eb)) })
    where
      odd : (type_of_word x).0 ≢ (type_of_word y).0
      odd q = n (parity x y e q)

  pub roots_apart : (w : Bool) (ms us ns : Words) (v : UnifyResult) → x / 2 ≢ y / 2 → Met w s (types_of ws) ms us ns v (unify_states f s (types_of ws) (type_of_word x) (type_of_word y) (state_at (types_of ws) (x / 2)) (state_at (types_of ws) (y / 2))) → Met w s (types_of ws) ms us ns v (unify_roots f s (types_of ws) (type_of_word x) (type_of_word y))
  unfolding unify_roots type_of_word
  roots_apart w ms us ns v n m = met_as w s (types_of ws) ms us ns v _ _ (sym (rw (ne_eqb (x / 2) (y / 2) n, unify_roots))) m

pub two_apart : (ts : Types) (x y : ℕ) → TwoRoots ts (type_of_word x) (type_of_word y) → x / 2 ≢ y / 2 → Roots ts (type_of_word x) (type_of_word y)
unfolding type_of_word
two_apart ts x y r n = record { left_in = r.left_in; right_in = r.right_in; left_root = r.left_root; right_root = r.right_root; apart = n }

pub left-node : (ts : Types) (x y : ℕ) → TwoRoots ts (type_of_word x) (type_of_word y) → x / 2 < length ts
unfolding type_of_word
left-node ts x y r = r.left_in

-- Two different roots, by what they are: k and k' are their kinds.
module _ (left : ℕ) (s ws : Words) (x y k : ℕ) (ek : k ≡ kind_at (types_of ws) (x / 2)) where
  -- On success a later table is left.
  states_later : (us : Types) → Good ws → Roots (types_of ws) (type_of_word x) (type_of_word y) → ◌≡◌ {A = Unified} (success, us) (unify_states (unify_in left s) s (types_of ws) (type_of_word x) (type_of_word y) (state_at (types_of ws) (x / 2)) (state_at (types_of ws) (y / 2))) → Later (types_of ws) us
  unfolding type_of_word
  states_later us g r e =
      let z = rules_right (unify_in left s) (unify_in_right left s) s (types_of ws) (type_of_word x) (type_of_word y) g.formed r.left_in r.right_in r.left_root r.right_root r.apart _ _ refl refl (ranked_readable (types_of ws) g.formed (rank (types_of ws)) g.acyclic) (subst Won (ap (λ (q : Unified). q.0) e) tt) in
      subst (Later (types_of ws)) (sym (ap (λ (q : Unified). q.1) e)) (record { before = g.formed; len = z.0.len; formed = z.0.formed; solution = z.1.0; free = z.1.1; out = z.0.out })

  pub states_left : (w : Bool) (ms us ns : Words) (v : UnifyResult) → k ≡ 0 → Good ws → Roots (types_of ws) (type_of_word x) (type_of_word y) → Ready s (types_of ws) ms → Binds (types_of ws) ms us ns v (bind_unknown (types_of ws) (type_of_word x) (type_of_word y)) → Met w s (types_of ws) ms us ns v (unify_states (unify_in left s) s (types_of ws) (type_of_word x) (type_of_word y) (state_at (types_of ws) (x / 2)) (state_at (types_of ws) (y / 2)))
  unfolding unify_states
  states_left w ms us ns v z g rt r m = met_as w s (types_of ws) ms us ns v _ _ (sym (ap (λ st. unify_states (unify_in left s) s (types_of ws) (type_of_word x) (type_of_word y) st (state_at (types_of ws) (y / 2))) (unknown_here ws (x / 2) k ek z))) (met-moved w s (types_of ws) ms us ns v _ r (λ won. states_later (types_of us) g rt (ap {B = Unified} (λ (q : rules.UnifyResult). (q, types_of us)) (sym won) ∙ m.meets.is ∙ sym (ap (λ st. unify_states (unify_in left s) s (types_of ws) (type_of_word x) (type_of_word y) st (state_at (types_of ws) (y / 2))) (unknown_here ws (x / 2) k ek z)))) m)

  module _ (k' : ℕ) (ek' : k' ≡ kind_at (types_of ws) (y / 2)) where
    pub states_right : (w : Bool) (ms us ns : Words) (v : UnifyResult) → k ≢ 0 → k' ≡ 0 → Good ws → Roots (types_of ws) (type_of_word x) (type_of_word y) → Ready s (types_of ws) ms → Binds (types_of ws) ms us ns v (bind_unknown (types_of ws) (type_of_word x) (type_of_word y)) → Met w s (types_of ws) ms us ns v (unify_states (unify_in left s) s (types_of ws) (type_of_word x) (type_of_word y) (state_at (types_of ws) (x / 2)) (state_at (types_of ws) (y / 2)))
    unfolding unify_states
    states_right w ms us ns v n z g rt r m = met_as w s (types_of ws) ms us ns v _ _ (sym (ap (λ st. unify_states (unify_in left s) s (types_of ws) (type_of_word x) (type_of_word y) (state_at (types_of ws) (x / 2)) st) (unknown_here ws (y / 2) k' ek' z) ∙ go (state_at (types_of ws) (x / 2)))) (met-moved w s (types_of ws) ms us ns v _ r (λ won. states_later (types_of us) g rt (ap {B = Unified} (λ (q : rules.UnifyResult). (q, types_of us)) (sym won) ∙ m.meets.is ∙ sym (ap (λ st. unify_states (unify_in left s) s (types_of ws) (type_of_word x) (type_of_word y) (state_at (types_of ws) (x / 2)) st) (unknown_here ws (y / 2) k' ek' z) ∙ go (state_at (types_of ws) (x / 2))))) m)
      where
        go : (st : TypeState) → unify_states (unify_in left s) s (types_of ws) (type_of_word x) (type_of_word y) st unknown ≡ bind_unknown (types_of ws) (type_of_word x) (type_of_word y)
        go unknown = refl
        go (known i kd d cs) = refl

    both : (st st' : TypeState) → kind_in st ≢ 0 → kind_in st' ≢ 0 → unify_states (unify_in left s) s (types_of ws) (type_of_word x) (type_of_word y) st st' ≡ join_on_success (unify_known (unify_in left s) s (types_of ws) (xor (xor (inverted_in st) (type_of_word x).0) (xor (inverted_in st') (type_of_word y).0)) (kind_in st) (id_in st) (children st) (kind_in st') (id_in st') (children st')) (type_of_word x) (type_of_word y)
    unfolding unify_states kind_in inverted_in id_in children
    both unknown st' n n' = absurd (n refl)
    both (known i kd d cs) unknown n n' = absurd (n' refl)
    both (known i kd d cs) (known j kd' d' cs') n n' = refl

    -- The verdict stays when two roots are joined.
    same-verdict : (m : Unified) → (join_on_success m (type_of_word x) (type_of_word y)).0 ≡ m.0
    unfolding join_on_success
    same-verdict m = go m.0 refl
      where
        go : (r : rules.UnifyResult) → m.0 ≡ r → (join_on_success m (type_of_word x) (type_of_word y)).0 ≡ m.0
        go success e = rw (e, join_on_success)
        go failure e = rw (e, join_on_success) e
        go indeterminate e = rw (e, join_on_success) e

    pub states_both : (w : Bool) (ms vs ns us os : Words) (v r : UnifyResult) → k ≢ 0 → k' ≢ 0 → (result_of v ≡ success → Later (types_of vs) (join (types_of vs) (type_of_word x) (type_of_word y))) → Went w s (types_of ws) ms vs ns v (unify_fields (unify_in left s) s (types_of ws) (type_of_word x) (type_of_word y)) → Binds (types_of vs) ns us os r (join_on_success (result_of v, types_of vs) (type_of_word x) (type_of_word y)) → Met w s (types_of ws) ms us os r (unify_states (unify_in left s) s (types_of ws) (type_of_word x) (type_of_word y) (state_at (types_of ws) (x / 2)) (state_at (types_of ws) (y / 2)))
    unfolding unify_fields met_inverted kind_at inverted_at id_at children_at type_of_word join_on_success
    states_both w ms vs ns us os v r n n' later u m = record {
      packed = m.meets.packed;
      is = λ e. m.meets.is ∙ ap (λ (z : Unified). join_on_success z (type_of_word x) (type_of_word y)) (u.exact (back e)).is ∙ opened;
      fails = λ e q. u.fails (λ z. e (alike ∙ z)) (sym (same-verdict (unify_fields (unify_in left s) s (types_of ws) (type_of_word x) (type_of_word y))) ∙ ap (λ (z : Unified). z.0) opened ∙ q);
      noted = noted_then s (types_of ws) (types_of vs) (types_of us) ms ns os u.noted (moves_noted s (types_of vs) ns (types_of us) os r u.noted.marks u.noted.memo after-join m.moves);
    }
      where
        opened : join_on_success (unify_fields (unify_in left s) s (types_of ws) (type_of_word x) (type_of_word y)) (type_of_word x) (type_of_word y) ≡ unify_states (unify_in left s) s (types_of ws) (type_of_word x) (type_of_word y) (state_at (types_of ws) (x / 2)) (state_at (types_of ws) (y / 2))
        opened = sym (both (state_at (types_of ws) (x / 2)) (state_at (types_of ws) (y / 2)) (λ q. n (ek ∙ q)) (λ q. n' (ek' ∙ q)))

        alike : result_of r ≡ result_of v
        alike = ap (λ (z : Unified). z.0) m.meets.is ∙ same-verdict (result_of v, types_of vs)

        joined-table : result_of v ≡ success → (join_on_success (result_of v, types_of vs) (type_of_word x) (type_of_word y)).1 ≡ join (types_of vs) (type_of_word x) (type_of_word y)
        joined-table e = ap (λ (z : rules.UnifyResult). (join_on_success (z, types_of vs) (type_of_word x) (type_of_word y)).1) e

        after-join : result_of r ≡ success → Later (types_of vs) (types_of us)
        after-join e =
            let won : result_of v ≡ success = sym alike ∙ e in
            subst (Later (types_of vs)) (sym (ap (λ (z : Unified). z.1) m.meets.is ∙ joined-table won)) (later won)

        back : Exact w r → Exact w v
        back (inl e) = inl e
        back (inr e) = inr (sym alike ∙ e)

pub known_roots : (ws : Words) (x y k k' : ℕ) → k ≡ kind_at (types_of ws) (x / 2) → k' ≡ kind_at (types_of ws) (y / 2) → k ≢ 0 → k' ≢ 0 → Roots (types_of ws) (type_of_word x) (type_of_word y) → KnownRoots (types_of ws) (x / 2) (y / 2)
unfolding type_of_word
known_roots ws x y k k' ek ek' n n' r = record { left_in = r.left_in; right_in = r.right_in; left_root = r.left_root; right_root = r.right_root; left_known = λ q. n (ek ∙ q); right_known = λ q. n' (ek' ∙ q) }
