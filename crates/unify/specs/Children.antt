-- The children of two known roots: pair by pair, all of them, or of Closures of different counts the last two. They are read from the table as it changes, where what is known stays.
use Rattle.std.specs.Prelude.{ℕ, zero, suc, ◌+◌, ◌-◌, ◌*◌, ◌/◌, ◌%◌, ◌<◌, ◌≡◌, Bool, false, ◌≢◌, eqb, length, get_or}
use Rattle.std.proofs.Math.Path.{refl, sym, ap, ap₂, subst}
use Rattle.std.proofs.Common.{◌∙◌, ⊎_elim, inl, inr, le_of_suc-le-suc, not-suc-le-zero, arith}
use mathlib.Core.List.{List, [], ◌∷◌, map}
use Rattle.std.proofs.lemmas.List.{length-map}
use borrow.Author.Tests.{eq-eqb, ne_eqb}
use Rattle.rules.specs.Lists.{Words}
use Rattle.rules.specs.Sheet.{at}
use Rattle.rules.specs.Types.{Ty, Types, invert_if, success, failure, Unified, unify_each, last_of, unify_children}
use Rattle.rules.specs.AcyclicLaws.{children_at}
use Rattle.rules.specs.Transfer.{type_of_word}
use Rattle.rules.specs.Answer.{word_of_type}
use Rattle.rules.specs.Pigeonholes.{lt_or}
use Rattle.rules.specs.RootRank.{child_in}
use Rattle.rules.specs.UnifyEnds.{Enough, child_enough}
use Rattle.table.specs.Packing.{types_of, kind_at, Good}
use Rattle.table.specs.Nodes.{type_word}
use Rattle.table.specs.Reads.{digit, child_here, child_past}
use Rattle.memo.specs.declared.verdict.UnifyResult.{UnifyResult}
use Rattle.memo.specs.declared.verdict.UnifyResult.TheVariants.{Failure}
use Rattle.memo.specs.Verdicts.{result_of}
use Rattle.unify.specs.Results.{Unifies, Exact, KnownRoots}
use Rattle.unify.specs.Trying.{Ready, Fuelled, Went, Left, went_as, went_still, left_still, failure_not}
use Rattle.unify.specs.Known.{children_there}

-- By their counts m and k.
module _ (w : Bool) (s ms : Words) (f : Types → Ty → Ty → Unified) (ws : Words) (x y m k : ℕ) (i : Bool) (em : m ≡ length (children_at (types_of ws) x)) (ek : k ≡ length (children_at (types_of ws) y)) where
  counts : length (map (invert_if i) (children_at (types_of ws) y)) ≡ k
  counts = length-map (children_at (types_of ws) y) (invert_if i) ∙ sym ek

  pub children_each : (us ns : Words) (v : UnifyResult) → m ≡ k → Went w s (types_of ws) ms us ns v (unify_each f (types_of ws) (children_at (types_of ws) x) (map (invert_if i) (children_at (types_of ws) y))) → Went w s (types_of ws) ms us ns v (unify_children f (types_of ws) (kind_at (types_of ws) x) (children_at (types_of ws) x) (map (invert_if i) (children_at (types_of ws) y)))
  unfolding unify_children
  children_each us ns v e u = went_as w s (types_of ws) ms us ns v _ _ (sym (rw (eq-eqb (length (children_at (types_of ws) x)) (length (map (invert_if i) (children_at (types_of ws) y))) (sym em ∙ e ∙ sym counts), unify_children))) u

  module _ (n : m ≢ k) (kd : ℕ) (ew : kd ≡ kind_at (types_of ws) x) where
    differ : eqb (length (children_at (types_of ws) x)) (length (map (invert_if i) (children_at (types_of ws) y))) ≡ false
    differ = ne_eqb _ _ (λ q. n (em ∙ q ∙ counts))

    last_is_failure : kd ≡ 8 → ◌≡◌ {A = Unified} (failure, (unify_each f (types_of ws) (last_of (children_at (types_of ws) x)) (last_of (map (invert_if i) (children_at (types_of ws) y)))).1) (unify_children f (types_of ws) (kind_at (types_of ws) x) (children_at (types_of ws) x) (map (invert_if i) (children_at (types_of ws) y)))
    unfolding unify_children
    last_is_failure e = sym (rw (differ, eq-eqb (kind_at (types_of ws) x) 8 (sym ew ∙ e), unify_children))

    pub children-last : (us ns : Words) → kd ≡ 8 → Left w s (types_of ws) ms us ns (unify_each f (types_of ws) (last_of (children_at (types_of ws) x)) (last_of (map (invert_if i) (children_at (types_of ws) y)))) → Went w s (types_of ws) ms us ns Failure (unify_children f (types_of ws) (kind_at (types_of ws) x) (children_at (types_of ws) x) (map (invert_if i) (children_at (types_of ws) y)))
    unfolding result_of
    children-last us ns e u = record {
      packed = u.packed;
      exact = λ z. go z;
      fails = λ q. subst (λ (r : Unified). r.0 ≢ success) (last_is_failure e) failure_not;
      noted = u.noted;
    }
      where
        go : Exact w Failure → Unifies us Failure (unify_children f (types_of ws) (kind_at (types_of ws) x) (children_at (types_of ws) x) (map (invert_if i) (children_at (types_of ws) y)))
        go (inl z) = record { good = (u.exact z).good; is = ap {B = Unified} (λ (ts : Types). (failure, ts)) (u.exact z).is ∙ last_is_failure e }
        go (inr z) = absurd (failure_not z)

    pub children_fail : kd ≢ 8 → Good ws → Ready s (types_of ws) ms → Went w s (types_of ws) ms ws ms Failure (unify_children f (types_of ws) (kind_at (types_of ws) x) (children_at (types_of ws) x) (map (invert_if i) (children_at (types_of ws) y)))
    unfolding unify_children result_of
    children_fail e g r = went_still w s ws ms Failure _ r (record { good = g; is = sym (rw (differ, ne_eqb (kind_at (types_of ws) x) 8 (λ q. e (ew ∙ q)), unify_children)) })

-- A child's type word is small.
digit_small : (j w : ℕ) → digit j w < 512
digit_small zero w = omega arith
digit_small (suc zero) w = omega arith
digit_small (suc (suc j)) w = omega arith

pub child_fits : (ws : Words) (n j c : ℕ) → c ≡ word_of_type (get_or (children_at (types_of ws) n) j (false, 0)) → c < 4294967294
child_fits ws n j c e = ⊎_elim
    (λ h. omega (arith, digit_small (j % 3) (at ws (4 * n + (2 + j / 3))), child_here ws n j (length (children_at (types_of ws) n)) refl (at ws (4 * n + (2 + j / 3))) (digit (j % 3) (at ws (4 * n + (2 + j / 3)))) h refl refl))
    (λ h. omega (arith, child_past ws n j (length (children_at (types_of ws) n)) refl h))
    (lt_or j (length (children_at (types_of ws) n)))

-- Child c, inverted if i.
pub turned-child : (ts : Types) (n j c r : ℕ) (i : Bool) → c ≡ word_of_type (get_or (children_at ts n) j (false, 0)) → r ≡ word_of_type (invert_if i (type_of_word c)) → r ≡ word_of_type (invert_if i (get_or (children_at ts n) j (false, 0)))
turned-child ts n j c r i e q = q ∙ ap (λ (t : Ty). word_of_type (invert_if i t)) (ap type_of_word e ∙ type_word (get_or (children_at ts n) j (false, 0)))

pub map_at : (i : Bool) (ys : List Ty) (j : ℕ) → j < length ys → get_or (map (invert_if i) ys) j (false, 0) ≡ invert_if i (get_or ys j (false, 0))
map_at i [] j h = absurd (not-suc-le-zero h)
map_at i (y ∷ ys) zero h = refl
map_at i (y ∷ ys) (suc j) h = map_at i ys j (le_of_suc-le-suc h)

last_at : (x : Ty) (xs : List Ty) → last_of (x ∷ xs) ≡ get_or (x ∷ xs) (length xs) (false, 0) ∷ []
unfolding last_of
last_at x [] = refl
last_at x (y ∷ ys) = last_at y ys

last_is : (xs : List Ty) (m : ℕ) → m ≡ length xs → m ≢ 0 → last_of xs ≡ get_or xs (m - 1) (false, 0) ∷ []
last_is [] m e n = absurd (n e)
last_is (x ∷ xs) m e n = last_at x xs ∙ ap (λ k. get_or (x ∷ xs) k (false, 0) ∷ []) (let q : length xs ≡ m - 1 = omega arith in q)

-- Fuel for a child.
pub child_fuelled : (ts : Types) (left : ℕ) (xs : List Ty) (j a : ℕ) → Fuelled left ts xs → j < length xs → a ≡ word_of_type (get_or xs j (false, 0)) → Fuelled left ts (type_of_word a ∷ [])
child_fuelled ts left xs j a f h e = record { enough = subst (λ (t : Ty). Enough left ts (t ∷ [])) (sym (ap type_of_word e ∙ type_word (get_or xs j (false, 0)))) (child_enough left ts xs j h f.enough) }

half_of : (t : Ty) (c : ℕ) → c ≡ word_of_type t → c / 2 ≡ t.1
unfolding type_of_word
half_of t c e = ap (λ (u : Ty). u.1) (ap type_of_word e ∙ type_word t)

-- The nodes of two children that stand at the same place, or at the last.
module _ (ws : Words) (x y : ℕ) (g : Good ws) (k : KnownRoots (types_of ws) x y) where
  pub left-child : (j c : ℕ) → j < length (children_at (types_of ws) x) → c ≡ word_of_type (get_or (children_at (types_of ws) x) j (false, 0)) → c / 2 < length (types_of ws)
  left-child j c h e = omega (arith, half_of _ c e, child_in (length (types_of ws)) (children_at (types_of ws) x) j (children_there ws x g k.left_in k.left_root k.left_known) h)

  pub right_child : (i : Bool) (j c : ℕ) → j < length (children_at (types_of ws) y) → c ≡ word_of_type (invert_if i (get_or (children_at (types_of ws) y) j (false, 0))) → c / 2 < length (types_of ws)
  unfolding invert_if
  right_child i j c h e = omega (arith, half_of (invert_if i (get_or (children_at (types_of ws) y) j (false, 0))) c e, child_in (length (types_of ws)) (children_at (types_of ws) y) j (children_there ws y g k.right_in k.right_root k.right_known) h)

  -- The last two: m and n are the counts.
  pub last-left : (m a : ℕ) → m ≡ length (children_at (types_of ws) x) → m ≢ 0 → a ≡ word_of_type (get_or (children_at (types_of ws) x) (m - 1) (false, 0)) → a / 2 < length (types_of ws)
  last-left m a e z ea = left-child (m - 1) a (omega arith) ea

  pub last_right : (n b : ℕ) (i : Bool) → n ≡ length (children_at (types_of ws) y) → n ≢ 0 → b ≡ word_of_type (invert_if i (get_or (children_at (types_of ws) y) (n - 1) (false, 0))) → b / 2 < length (types_of ws)
  last_right n b i e z eb = right_child i (n - 1) b (omega arith) eb

module _ (w : Bool) (s ms : Words) (f : Types → Ty → Ty → Unified) (ws : Words) (x y : ℕ) (i : Bool) where
  none_left : (xs ys : List Ty) → 0 ≡ length xs → (unify_each f (types_of ws) (last_of xs) ys).1 ≡ types_of ws
  unfolding unify_each last_of
  none_left [] ys e = refl
  none_left (z ∷ zs) ys e = absurd (omega arith)

  none_right : (xs ys : List Ty) → 0 ≡ length ys → (unify_each f (types_of ws) xs (last_of (map (invert_if i) ys))).1 ≡ types_of ws
  unfolding unify_each last_of
  none_right [] [] e = refl
  none_right (x ∷ xs) [] e = refl
  none_right xs (z ∷ zs) e = absurd (omega arith)

  pub last-none-left : (m : ℕ) → m ≡ length (children_at (types_of ws) x) → m ≡ 0 → Good ws → Ready s (types_of ws) ms → Left w s (types_of ws) ms ws ms (unify_each f (types_of ws) (last_of (children_at (types_of ws) x)) (last_of (map (invert_if i) (children_at (types_of ws) y))))
  last-none-left m e z g r = left_still w s ws ms _ r (record { good = g; is = sym (none_left (children_at (types_of ws) x) (last_of (map (invert_if i) (children_at (types_of ws) y))) (sym z ∙ e)) })

  pub last_none_right : (n : ℕ) → n ≡ length (children_at (types_of ws) y) → n ≡ 0 → Good ws → Ready s (types_of ws) ms → Left w s (types_of ws) ms ws ms (unify_each f (types_of ws) (last_of (children_at (types_of ws) x)) (last_of (map (invert_if i) (children_at (types_of ws) y))))
  last_none_right n e z g r = left_still w s ws ms _ r (record { good = g; is = sym (none_right (last_of (children_at (types_of ws) x)) (children_at (types_of ws) y) (sym z ∙ e)) })

  pub last-met : (us ns : Words) (v : UnifyResult) (m n a b : ℕ) → m ≡ length (children_at (types_of ws) x) → m ≢ 0 → n ≡ length (children_at (types_of ws) y) → n ≢ 0
      → a ≡ word_of_type (get_or (children_at (types_of ws) x) (m - 1) (false, 0)) → b ≡ word_of_type (invert_if i (get_or (children_at (types_of ws) y) (n - 1) (false, 0)))
      → Went w s (types_of ws) ms us ns v (f (types_of ws) (type_of_word a) (type_of_word b)) → Left w s (types_of ws) ms us ns (unify_each f (types_of ws) (last_of (children_at (types_of ws) x)) (last_of (map (invert_if i) (children_at (types_of ws) y))))
  unfolding unify_each
  last-met us ns v m n a b em zm en zn ea eb u = record {
    packed = u.packed;
    exact = λ z. record { good = (u.exact (inl z)).good; is = ap (λ (r : Unified). r.1) (u.exact (inl z)).is ∙ sym pair };
    noted = u.noted;
  }
    where
      pair : (unify_each f (types_of ws) (last_of (children_at (types_of ws) x)) (last_of (map (invert_if i) (children_at (types_of ws) y)))).1 ≡ (f (types_of ws) (type_of_word a) (type_of_word b)).1
      pair =
          ap₂ (λ (p q : List Ty). (unify_each f (types_of ws) p q).1)
          (last_is (children_at (types_of ws) x) m em zm ∙ ap (λ (t : Ty). t ∷ []) (sym (ap type_of_word ea ∙ type_word _)))
          (last_is (map (invert_if i) (children_at (types_of ws) y)) n (en ∙ sym (length-map (children_at (types_of ws) y) (invert_if i))) zn
          ∙ ap (λ (t : Ty). t ∷ []) (map_at i (children_at (types_of ws) y) (n - 1) (omega arith) ∙ sym (ap type_of_word eb ∙ type_word _)))

-- Fuel for the last child.
pub last_fuelled : (ts : Types) (left x m a : ℕ) → Fuelled left ts (children_at ts x) → m ≡ length (children_at ts x) → m ≢ 0 → a ≡ word_of_type (get_or (children_at ts x) (m - 1) (false, 0)) → Fuelled left ts (type_of_word a ∷ [])
last_fuelled ts left x m a f em z ea = child_fuelled ts left (children_at ts x) (m - 1) a f (omega arith) ea

pub counts_same : (ts : Types) (x y m k : ℕ) → m ≡ length (children_at ts x) → k ≡ length (children_at ts y) → m ≡ k → length (children_at ts x) ≡ length (children_at ts y)
counts_same ts x y m k e q z = sym e ∙ z ∙ q
