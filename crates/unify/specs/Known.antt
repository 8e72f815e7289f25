-- Two known types: the tests on them, and that two roots whose children were met with success are roots still.
use Rattle.std.specs.Prelude.{ℕ, suc, ◌/◌, ◌<◌, ◌≡◌, refl, Bool, true, not, ◌&&◌, ◌||◌, List, [], ◌∷◌, map, ◌≢◌, eqb}
use Rattle.std.proofs.Math.Path.{sym, ap, subst}
use Rattle.std.proofs.Common.{◌∙◌, inr, arith}
use Rattle.std.proofs.Math.Bool.{false}
use Rattle.std.proofs.Math.ListN.{length}
use borrow.Author.Tests.{eq-eqb, ne_eqb}
use Rattle.rules.specs.Lists.{Words}
use Rattle.rules.specs.Sheet.{kind_flag, row_may_meet}
use Rattle.rules.specs.Types.{Ty, TypeState, unknown, known, Types, invert_if, state_at, success, join, Unified, unify_children, unify_known, join_on_success, unify_states, unify_in}
use Rattle.rules.specs.Types as rules
use Rattle.rules.specs.Acyclic.{children}
use Rattle.rules.specs.AcyclicLaws.{children_at}
use Rattle.rules.specs.Transfer.{type_of_word}
use Rattle.rules.specs.Solutions.{Sol, con, terms, term_size, rep, Fits, Solves, AllIn, ChildrenIn, Readable}
use Rattle.rules.specs.RootRank.{rank}
use Rattle.rules.specs.Readings.{ranked_readable}
use Rattle.rules.specs.Joining.{After, agree, same-terms}
use Rattle.rules.specs.OwnInverse.{Later}
use Rattle.rules.specs.UnifyEnds.{below_enough}
use Rattle.rules.specs.MostGeneral.{Won, AfterAll, tailT, known_right, states_right, unify_in_right}
use Rattle.table.specs.Packing.{types_of, kind_in, inverted_in, id_in, kind_at, inverted_at, id_at, Roots, Good}
use Rattle.memo.specs.declared.verdict.UnifyResult.{UnifyResult}
use Rattle.memo.specs.declared.verdict.UnifyResult.TheVariants.{Failure, Indeterminate}
use Rattle.memo.specs.Verdicts.{result_of}
use Rattle.unify.specs.Results.{KnownRoots, met_inverted, unify_fields}
use Rattle.unify.specs.Trying.{Ready, Fuelled, Went, went_as, went_still}

known_parts : (st : TypeState) → kind_in st ≢ 0 → st ≡ known (inverted_in st) (kind_in st) (id_in st) (children st)
unfolding kind_in inverted_in id_in children
known_parts unknown n = absurd (n refl)
known_parts (known i k d cs) n = refl

-- What a known node is, by its fields.
pub known_fields : (ts : Types) (n : ℕ) → kind_at ts n ≢ 0 → state_at ts n ≡ known (inverted_at ts n) (kind_at ts n) (id_at ts n) (children_at ts n)
unfolding kind_at inverted_at id_at children_at
known_fields ts n z = known_parts (state_at ts n) z

-- The children of a known root are nodes.
pub children_there : (ws : Words) (n : ℕ) → Good ws → n < length (types_of ws) → rep (types_of ws) n ≡ n → kind_at (types_of ws) n ≢ 0 → AllIn (length (types_of ws)) (children_at (types_of ws) n)
children_there ws n g h r z = subst (ChildrenIn (length (types_of ws))) (ap (state_at (types_of ws)) r ∙ known_fields (types_of ws) n z) (g.formed n h).2

-- Fuel for the children of a known root.
pub below_fuelled : (ts : Types) (left x y : ℕ) → KnownRoots ts (x / 2) (y / 2) → Fuelled (suc left) ts (type_of_word x ∷ []) → Fuelled left ts (children_at ts (x / 2))
unfolding type_of_word
below_fuelled ts left x y k f = record { enough = below_enough left ts (type_of_word x) k.left_in k.left_root (known_fields ts (x / 2) k.left_known) f.enough }

-- Both are roots still: what the children touched is smaller, in a solution of what they left.
module _ (s ws vs : Words) (x y left : ℕ) (v : UnifyResult) (g : Good ws) (r : Roots (types_of ws) (type_of_word x) (type_of_word y)) (k : KnownRoots (types_of ws) (x / 2) (y / 2)) (ms ns : Words) (w : Bool) (u : Went w s (types_of ws) ms vs ns v (unify_fields (unify_in left s) s (types_of ws) (type_of_word x) (type_of_word y))) (won : result_of v ≡ success) where
  abbrev ts : Types
  ts = types_of ws

  abbrev m : Unified
  m = unify_known (unify_in left s) s (types_of ws) (met_inverted (types_of ws) (type_of_word x) (type_of_word y)) (kind_at (types_of ws) (x / 2)) (id_at (types_of ws) (x / 2)) (children_at (types_of ws) (x / 2)) (kind_at (types_of ws) (y / 2)) (id_at (types_of ws) (y / 2)) (children_at (types_of ws) (y / 2))

  abbrev us : Types
  us = m.1

  abbrev xs : List Ty
  xs = children_at ts (x / 2)

  abbrev ys : List Ty
  ys = children_at ts (y / 2)

  is : ◌≡◌ {A = Unified} (result_of v, types_of vs) m
  unfolding unify_fields type_of_word
  is = (u.exact (inr won)).is

  win : Won m.0
  win = subst Won (sym won ∙ ap (λ (z : Unified). z.0) is) tt

  ax : AllIn (length ts) xs
  ax = children_there ws (x / 2) g k.left_in k.left_root k.left_known

  ay : AllIn (length ts) ys
  ay = children_there ws (y / 2) g k.right_in k.right_root k.right_known

  p : (kind_at ts (x / 2) ≡ kind_at ts (y / 2)) × (id_at ts (x / 2) ≡ id_at ts (y / 2)) × AfterAll ts xs ys us × Readable us
  p = known_right (unify_in left s) (unify_in_right left s) s ts (met_inverted ts (type_of_word x) (type_of_word y)) (kind_at ts (x / 2)) (id_at ts (x / 2)) xs (kind_at ts (y / 2)) (id_at ts (y / 2)) ys g.formed ax ay (ranked_readable ts g.formed (rank ts) g.acyclic) win

  q : AfterAll ts xs ys us
  q = p.2

  abbrev σ : Sol
  σ = p.3.0

  solved : Solves us σ
  solved = p.3.1.solves

  fit : (n : ℕ) → n < length ts → rep ts n ≡ n → kind_at ts n ≢ 0 → σ n ≡ con (kind_at ts n) (id_at ts n) (terms σ (children_at ts n))
  fit n h rr z = subst (Fits σ n) (known_fields ts n z) (subst (λ r. Fits σ r (state_at ts r)) rr (q.out σ solved n h).1)

  left_still : rep us (x / 2) ≡ x / 2
  unfolding term_size
  left_still = q.quiet σ solved (x / 2) k.left_in k.left_root (omega (arith, ap term_size (fit (x / 2) k.left_in k.left_root k.left_known)))

  right_still : rep us (y / 2) ≡ y / 2
  unfolding term_size
  right_still =
      let axu : AllIn (length us) xs = subst (λ N. AllIn N xs) (sym q.len) ax in
      let ayu : AllIn (length us) ys = subst (λ N. AllIn N ys) (sym q.len) ay in
      q.quiet σ solved (y / 2) k.right_in k.right_root (omega (arith, ap term_size (fit (y / 2) k.right_in k.right_root k.right_known), ap term_size (same-terms us σ solved xs ys axu ayu q.meet)))

  pub still_roots : Roots (types_of vs) (type_of_word x) (type_of_word y)
  unfolding type_of_word
  still_roots =
      let e : types_of vs ≡ us = ap (λ (z : Unified). z.1) is in
      record {
        left_in = subst (λ (l : Types). x / 2 < length l) (sym e) (subst (λ N. x / 2 < N) (sym q.len) k.left_in);
        right_in = subst (λ (l : Types). y / 2 < length l) (sym e) (subst (λ N. y / 2 < N) (sym q.len) k.right_in);
        left_root = subst (λ (l : Types). rep l (x / 2) ≡ x / 2) (sym e) left_still;
        right_root = subst (λ (l : Types). rep l (y / 2) ≡ y / 2) (sym e) right_still;
        apart = r.apart;
      }

  -- What solves the table in which they are joined solves the one before: they are one there, so their children are.
  pub joined_later : Later (types_of vs) (join (types_of vs) (type_of_word x) (type_of_word y))
  unfolding unify_states join_on_success tailT met_inverted type_of_word
  joined_later = subst (λ (l : Types). Later l (join l (type_of_word x) (type_of_word y))) (sym (ap (λ (z : Unified). z.1) is)) (record {
    before = q.formed;
    len = after.len ∙ sym q.len;
    formed = after.formed;
    solution = z.1.0;
    free = z.1.1;
    out = λ θ sv. q.into θ (after.out θ sv) (ap tailT (sym (fits θ (after.out θ sv) (x / 2) k.left_in k.left_root k.left_known) ∙ agree ts (join us (type_of_word x) (type_of_word y)) (x / 2) (y / 2) k.left_in k.right_in after θ sv ∙ fits θ (after.out θ sv) (y / 2) k.right_in k.right_root k.right_known));
  })
    where
      fits : (θ : Sol) → Solves ts θ → (n : ℕ) → n < length ts → rep ts n ≡ n → kind_at ts n ≢ 0 → θ n ≡ con (kind_at ts n) (id_at ts n) (terms θ (children_at ts n))
      fits θ sv n h rr c = subst (Fits θ n) (known_fields ts n c) (subst (λ r. Fits θ r (state_at ts r)) rr (sv n h).1)

      joined : (o : Unified) → o.0 ≡ success → join_on_success o (type_of_word x) (type_of_word y) ≡ (success, join o.1 (type_of_word x) (type_of_word y))
      joined o e = rw (e, join_on_success)

      both : join_on_success m (type_of_word x) (type_of_word y) ≡ (success, join us (type_of_word x) (type_of_word y))
      both = joined m (sym (ap (λ (o : Unified). o.0) is) ∙ won)

      z : After ts (x / 2) (y / 2) (join us (type_of_word x) (type_of_word y)) × Readable (join us (type_of_word x) (type_of_word y))
      z = subst (λ (o : Unified). After ts (x / 2) (y / 2) o.1 × Readable o.1) both
          (states_right (unify_in left s) (unify_in_right left s) s ts (type_of_word x) (type_of_word y) g.formed r.left_in r.right_in r.left_root r.right_root r.apart
          (known (inverted_at ts (x / 2)) (kind_at ts (x / 2)) (id_at ts (x / 2)) xs) (known (inverted_at ts (y / 2)) (kind_at ts (y / 2)) (id_at ts (y / 2)) ys) (known_fields ts (x / 2) k.left_known) (known_fields ts (y / 2) k.right_known) (ranked_readable ts g.formed (rank ts) g.acyclic)
          (subst (λ (o : Unified). Won o.0) (sym both) tt))

      after : After ts (x / 2) (y / 2) (join us (type_of_word x) (type_of_word y))
      after = z.0

-- Error against a known type, on either side; k is a kind that was read.
module _ (f : Types → Ty → Ty → Unified) (s ws : Words) (x y : ℕ) (g : Good ws) (w : Bool) (ms : Words) (rd : Ready s (types_of ws) ms) where
  pub error_left : (k : ℕ) → k ≡ kind_at (types_of ws) (x / 2) → k ≡ 13 → Went w s (types_of ws) ms ws ms Indeterminate (unify_fields f s (types_of ws) (type_of_word x) (type_of_word y))
  unfolding unify_fields unify_known result_of type_of_word
  error_left k e z = went_still w s ws ms Indeterminate _ rd (record { good = g; is = sym (rw (eq-eqb (kind_at (types_of ws) (x / 2)) 13 (sym e ∙ z), unify_known)) })

  module _ (k k' : ℕ) (ek : k ≡ kind_at (types_of ws) (x / 2)) (ek' : k' ≡ kind_at (types_of ws) (y / 2)) (n : k ≢ 13) where
    pub error_right : k' ≡ 13 → Went w s (types_of ws) ms ws ms Indeterminate (unify_fields f s (types_of ws) (type_of_word x) (type_of_word y))
    unfolding unify_fields unify_known result_of type_of_word
    error_right z = went_still w s ws ms Indeterminate _ rd (record { good = g; is = sym (rw (ne_eqb (kind_at (types_of ws) (x / 2)) 13 (λ q. n (ek ∙ q)), eq-eqb (kind_at (types_of ws) (y / 2)) 13 (sym ek' ∙ z), unify_known)) })

    -- No Error: b says whether they may meet, i whether they meet inverted.
    module _ (n' : k' ≢ 13) (i b : Bool) (ei : i ≡ met_inverted (types_of ws) (type_of_word x) (type_of_word y))
        (eb : b ≡ (eqb (kind_at (types_of ws) (x / 2)) (kind_at (types_of ws) (y / 2)) && eqb (id_at (types_of ws) (x / 2)) (id_at (types_of ws) (y / 2)) && (not i || kind_flag s row_may_meet (kind_at (types_of ws) (x / 2)) (id_at (types_of ws) (x / 2))))) where
      opened : (c : Bool) → b ≡ c → unify_fields f s (types_of ws) (type_of_word x) (type_of_word y) ≡ elim c [ true ↦ unify_children f (types_of ws) (kind_at (types_of ws) (x / 2)) (children_at (types_of ws) (x / 2)) (map (invert_if i) (children_at (types_of ws) (y / 2))) | false ↦ (rules.failure, types_of ws) ]
      unfolding unify_fields unify_known type_of_word
      opened c ec =
          ap (λ (j : Bool). unify_known f s (types_of ws) j (kind_at (types_of ws) (x / 2)) (id_at (types_of ws) (x / 2)) (children_at (types_of ws) (x / 2)) (kind_at (types_of ws) (y / 2)) (id_at (types_of ws) (y / 2)) (children_at (types_of ws) (y / 2))) (sym ei)
          ∙ rw (ne_eqb (kind_at (types_of ws) (x / 2)) 13 (λ q. n (ek ∙ q)), ne_eqb (kind_at (types_of ws) (y / 2)) 13 (λ q. n' (ek' ∙ q)), sym eb ∙ ec, unify_known)

      pub known_differ : b ≡ false → Went w s (types_of ws) ms ws ms Failure (unify_fields f s (types_of ws) (type_of_word x) (type_of_word y))
      unfolding result_of
      known_differ z = went_still w s ws ms Failure _ rd (record { good = g; is = sym (opened false z) })

      pub known_meet : (us ns : Words) (v : UnifyResult) → b ≡ true → Went w s (types_of ws) ms us ns v (unify_children f (types_of ws) (kind_at (types_of ws) (x / 2)) (children_at (types_of ws) (x / 2)) (map (invert_if i) (children_at (types_of ws) (y / 2)))) → Went w s (types_of ws) ms us ns v (unify_fields f s (types_of ws) (type_of_word x) (type_of_word y))
      known_meet us ns v z u = went_as w s (types_of ws) ms us ns v _ _ (sym (opened true z)) u
