-- Pairs of children that are of one root and side already: each is a success that leaves the table as it is, so they are passed over.
use Rattle.std.specs.Prelude.{ℕ, zero, suc, ◌+◌, ◌-◌, ◌≤◌, ◌<◌, ◌≡◌, refl, Bool, true, false, not, ◌||◌, ◌≢◌, length, get_or, drop}
use Rattle.std.proofs.Common.{sym, ◌∙◌, subst, arith, drop-cons, eq-eqb}
use Rattle.std.proofs.Math.Path.{ap, ap₂}
use mathlib.Core.List.{List, map}
use Rattle.std.proofs.lemmas.List.{length-map}
use Rattle.rules.specs.Lists.{Words}
use Rattle.rules.specs.Types.{Ty, Types, xor, invert_if, find, self_inverse, from_bool, success, Unified, unify_each, unify_roots, unify_in}
use Rattle.rules.specs.AcyclicLaws.{children_at}
use Rattle.rules.specs.Solutions.{AllIn}
use Rattle.table.specs.Packing.{types_of, Good}
use Rattle.table.specs.Alike.{Matched, Alike, alike_none}
use Rattle.memo.specs.declared.verdict.UnifyResult.{UnifyResult}
use Rattle.memo.specs.Verdicts.{result_of}
use Rattle.unify.specs.Results.{KnownRoots}
use Rattle.unify.specs.Known.{children_there}
use Rattle.unify.specs.Children.{map_at}
use Rattle.unify.specs.Pairs.{before, each_step, Pairs, same-children}

-- From pair i on, of m, the pairs up to r are of one root and side, and some fuel is left if any is.
pub record Passes (ts : Types) (x y : ℕ) (b : Bool) (left i m r : ℕ) : Type 0 where
  pub alike : Alike ts x y b i m r
  pub fuel : i < r → left ≢ 0

pub passes_none : (ts : Types) (x y : ℕ) (b : Bool) (left i m : ℕ) → Passes ts x y b left i m i
passes_none ts x y b left i m = record { alike = alike_none ts x y b i m; fuel = λ h. absurd (omega arith) }

pub passes_alike : (ts : Types) (x y : ℕ) (b : Bool) (left i m r : ℕ) → left ≢ 0 → Alike ts x y b i m r → Passes ts x y b left i m r
passes_alike ts x y b left i m r n a = record { alike = a; fuel = λ h. n }

-- Two types of one root and side.
upright : (b d : Bool) → (not (xor b b) || d) ≡ true
upright true d = refl
upright false d = refl

one_root : (f : Types → Ty → Ty → Unified) (s : Words) (ts : Types) (x : Ty) → unify_roots f s ts x x ≡ (success, ts)
unfolding unify_roots from_bool
one_root f s ts x = rw (eq-eqb x.1 x.1 refl, unify_roots) (ap {B = Unified} (λ (c : Bool). (from_bool c, ts)) (upright x.0 (self_inverse s ts x)))

met_alike : (left : ℕ) (s : Words) (ts : Types) (a b : Ty) → left ≢ 0 → find ts a ≡ find ts b → unify_in left s ts a b ≡ (success, ts)
unfolding unify_in
met_alike zero s ts a b n e = absurd (n refl)
met_alike (suc k) s ts a b n e = ap (λ (t : Ty). unify_roots (λ us t u. unify_in k s us t u) s ts (find ts a) t) (sym e) ∙ one_root (λ us t u. unify_in k s us t u) s ts (find ts a)

-- Pairs that succeed and leave the table as it is.
module _ (f : Types → Ty → Ty → Unified) (ts : Types) (xs ys : List Ty) where
  passed_one : (i : ℕ) → i < length xs → i < length ys → f ts (get_or xs i (false, 0)) (get_or ys i (false, 0)) ≡ (success, ts) → unify_each f ts (drop i xs) (drop i ys) ≡ unify_each f ts (drop (suc i) xs) (drop (suc i) ys)
  unfolding before
  passed_one i h l e =
      ap₂ (λ (p q : List Ty). unify_each f ts p q) (drop-cons xs i (false, 0) h) (drop-cons ys i (false, 0) l)
      ∙ each_step f ts (get_or xs i (false, 0)) (get_or ys i (false, 0)) (drop (suc i) xs) (drop (suc i) ys)
      ∙ ap (λ (o : Unified). before o.0 (unify_each f o.1 (drop (suc i) xs) (drop (suc i) ys))) e

  passed : (n i : ℕ) → i + n ≤ length xs → i + n ≤ length ys → ((k : ℕ) → i ≤ k → k < i + n → f ts (get_or xs k (false, 0)) (get_or ys k (false, 0)) ≡ (success, ts)) → unify_each f ts (drop i xs) (drop i ys) ≡ unify_each f ts (drop (i + n) xs) (drop (i + n) ys)
  passed zero i h l e = ap (λ k. unify_each f ts (drop k xs) (drop k ys)) (let z : i ≡ i + 0 = omega arith in z)
  passed (suc n) i h l e =
      passed_one i (omega arith) (omega arith) (e i (omega arith) (omega arith))
      ∙ passed n (suc i) (omega arith) (omega arith) (λ k a b. e k (omega arith) (omega arith))
      ∙ ap (λ k. unify_each f ts (drop k xs) (drop k ys)) (let z : suc i + n ≡ i + suc n = omega arith in z)

-- After i pairs: the children are as they were, and those passed over go with them.
module _ (s ws ms vs ns : Words) (left x y m i : ℕ) (inv : Bool) (v : UnifyResult) (g : Good ws) (k : KnownRoots (types_of ws) x y) (p : Pairs s ws ms vs ns left x y inv v i) (em : m ≡ length (children_at (types_of ws) x)) (el : length (children_at (types_of ws) x) ≡ length (children_at (types_of ws) y)) where
  left-same : children_at (types_of vs) x ≡ children_at (types_of ws) x
  left-same = same-children (types_of ws) (types_of vs) x p.kept k.left_known

  right_same : children_at (types_of vs) y ≡ children_at (types_of ws) y
  right_same = same-children (types_of ws) (types_of vs) y p.kept k.right_known

  pub pairs_matched : Matched (types_of vs) x y m
  pairs_matched = record {
    left_in = subst (AllIn (length (types_of vs))) (sym left-same) (subst (λ n. AllIn n (children_at (types_of ws) x)) (sym p.len) (children_there ws x g k.left_in k.left_root k.left_known));
    right_in = subst (AllIn (length (types_of vs))) (sym right_same) (subst (λ n. AllIn n (children_at (types_of ws) y)) (sym p.len) (children_there ws y g k.right_in k.right_root k.right_known));
    left-count = em ∙ ap length (sym left-same);
    right_count = em ∙ el ∙ ap length (sym right_same);
  }

  pub pairs_on : (j : ℕ) → i ≤ m → Passes (types_of vs) x y inv left i m j → Pairs s ws ms vs ns left x y inv v j
  pairs_on j l q = record {
    good = p.good;
    ready = p.ready;
    noted = p.noted;
    fuelled = p.fuelled;
    kept = p.kept;
    len = p.len;
    rest = p.rest ∙ ap (before (result_of v)) (passed (unify_in left s) (types_of vs) (children_at (types_of ws) x) (map (invert_if inv) (children_at (types_of ws) y)) (j - i) i few few_2 each ∙ ap (λ n. unify_each (unify_in left s) (types_of vs) (drop n (children_at (types_of ws) x)) (drop n (map (invert_if inv) (children_at (types_of ws) y)))) sum);
  }
    where
      sum : i + (j - i) ≡ j
      sum = omega (arith, q.alike.low)

      few : i + (j - i) ≤ length (children_at (types_of ws) x)
      few = omega (arith, sum, q.alike.most l)

      few_2 : i + (j - i) ≤ length (map (invert_if inv) (children_at (types_of ws) y))
      few_2 = omega (arith, sum, q.alike.most l, length-map (children_at (types_of ws) y) (invert_if inv))

      each : (n : ℕ) → i ≤ n → n < i + (j - i) → unify_in left s (types_of vs) (get_or (children_at (types_of ws) x) n (false, 0)) (get_or (map (invert_if inv) (children_at (types_of ws) y)) n (false, 0)) ≡ (success, types_of vs)
      each n a b = met_alike left s (types_of vs) _ _ (q.fuel (omega (arith, sum)))
          (ap (λ (cs : List Ty). find (types_of vs) (get_or cs n (false, 0))) (sym left-same)
          ∙ q.alike.same n a (omega (arith, sum))
          ∙ ap (λ (cs : List Ty). find (types_of vs) (invert_if inv (get_or cs n (false, 0)))) right_same
          ∙ ap (find (types_of vs)) (sym (map_at inv (children_at (types_of ws) y) n (omega (arith, sum, q.alike.most l)))))
