-- Two roots met through the memo: what is kept, and what may be kept.
use Rattle.std.specs.Prelude.{ℕ, suc, ◌+◌, ◌<◌, ◌≡◌, refl, true, [], ◌∷◌, ◌≢◌, set, Option, Some}
use Rattle.std.proofs.Common.{sym, ◌∙◌, ap, subst, inl, arith, length-set, get_or-set_other}
use Rattle.rules.specs.Lists.{Words}
use Rattle.rules.specs.Sheet.{at}
use Rattle.rules.specs.Types.{Ty, Types, success, failure, indeterminate, Unified, unify_roots, unify_in}
use Rattle.rules.specs.Types as rules
use Rattle.rules.specs.Transfer.{type_of_word}
use Rattle.rules.specs.UnifyEnds.{roots_any}
use Rattle.table.specs.Packing.{types_of, Good}
use Rattle.table.specs.Nodes.{types_few}
use Rattle.memo.specs.Memo.{verdict, Settled, Recalls, Ends, recalled, memo_begun, memo_ends}
use Rattle.memo.specs.declared.verdict.UnifyResult.{UnifyResult}
use Rattle.memo.specs.declared.verdict.UnifyResult.TheVariants.{Success, Failure, Indeterminate}
use Rattle.memo.specs.Verdicts.{result_of, code_of, kept_code}
use Rattle.unify.specs.Results.{TwoRoots}
use Rattle.unify.specs.Trying.{Ready, Fuelled, Met, noted_still}

pub root_small : (ws : Words) (x y : ℕ) → TwoRoots (types_of ws) (type_of_word x) (type_of_word y) → x < 512
unfolding type_of_word
root_small ws x y r = omega (arith, types_few ws, r.left_in)

pub root_small_2 : (ws : Words) (x y : ℕ) → TwoRoots (types_of ws) (type_of_word x) (type_of_word y) → y < 512
unfolding type_of_word
root_small_2 ws x y r = omega (arith, types_few ws, r.right_in)

pub code_small : (v : UnifyResult) (c : ℕ) → c ≡ code_of v → c < 3
code_small v c e = go v e
  where
    go : (v : UnifyResult) → c ≡ code_of v → c < 3
    go Success q = omega arith
    go Failure q = omega arith
    go Indeterminate q = omega arith

pub begun_ready : (s : Words) (ts : Types) (ms ns : Words) → Ready s ts ms → ns ≡ set ms 513 1 → Ready s ts ns
begun_ready s ts ms ns r e = subst (Ready s ts) (sym e) (record { room = omega (arith, r.room, length-set ms 513 1); marks = record { own = λ l n h k z. r.marks.own (omega (arith, length-set ms 513 1)) n h k (λ q. z (get_or-set_other ms 513 (256 + n) 1 0 (omega arith) ∙ q)) }; memo = memo_begun s ts ms 1 r.memo })

-- What is kept: it comes to the same again.
module _ (s ws ms : Words) (x y left r : ℕ) (g : Good ws) (two : TwoRoots (types_of ws) (type_of_word x) (type_of_word y)) (rd : Ready s (types_of ws) ms) (f : Fuelled (suc left) (types_of ws) (type_of_word x ∷ [])) (k : Recalls ms x y r) where
  kept_is : (v : UnifyResult) → r ≢ 0 → verdict r ≡ result_of v → Met true s (types_of ws) ms ws ms v (unify_roots (unify_in left s) s (types_of ws) (type_of_word x) (type_of_word y))
  kept_is v nz e = record {
    packed = g.packed;
    is = λ q. is;
    fails = λ n q. n (ap (λ (z : Unified). z.0) is ∙ q);
    noted = noted_still s (types_of ws) ms rd;
  }
    where
      is : ◌≡◌ {A = Unified} (result_of v, types_of ws) (unify_roots (unify_in left s) s (types_of ws) (type_of_word x) (type_of_word y))
      is = ap {B = Unified} (λ (z : rules.UnifyResult). (z, types_of ws)) (sym e) ∙ (recalled s (types_of ws) ms x y r rd.memo (root_small ws x y two) (root_small_2 ws x y two) k nz).is left f.enough

  pub kept_failure : r ≡ 1 → Met true s (types_of ws) ms ws ms Failure (unify_roots (unify_in left s) s (types_of ws) (type_of_word x) (type_of_word y))
  unfolding verdict result_of
  kept_failure e = kept_is Failure (omega arith) (ap verdict e)

  pub kept_indeterminate : r ≡ 2 → Met true s (types_of ws) ms ws ms Indeterminate (unify_roots (unify_in left s) s (types_of ws) (type_of_word x) (type_of_word y))
  unfolding verdict result_of
  kept_indeterminate e = kept_is Indeterminate (omega arith) (ap verdict e)

-- So is a verdict that is recalled, which is no success.
pub kept_again : (s ws ms : Words) (x y left : ℕ) (o : Option UnifyResult) (v : UnifyResult) → Good ws → TwoRoots (types_of ws) (type_of_word x) (type_of_word y) → Ready s (types_of ws) ms → Fuelled (suc left) (types_of ws) (type_of_word x ∷ []) → Recalls ms x y (kept_code o) → o ≢ Some Success → o ≡ Some v
    → Met true s (types_of ws) ms ws ms v (unify_roots (unify_in left s) s (types_of ws) (type_of_word x) (type_of_word y))
kept_again s ws ms x y left o Success g two rd f k n e = absurd (n e)
kept_again s ws ms x y left o Failure g two rd f k n e = kept_failure s ws ms x y left (kept_code o) g two rd f k (ap kept_code e)
kept_again s ws ms x y left o Indeterminate g two rd f k n e = kept_indeterminate s ws ms x y left (kept_code o) g two rd f k (ap kept_code e)

-- What may be kept: ms is the memo before, ns as it is begun, os after the roots were met, ps at the end.
pub kept_on : (s ws ms ns us os ps : Words) (x y left before c : ℕ) (v : UnifyResult) → Good ws → TwoRoots (types_of ws) (type_of_word x) (type_of_word y) → Fuelled (suc left) (types_of ws) (type_of_word x ∷ []) → before ≡ at ms 513 → c ≡ code_of v
    → Met true s (types_of ws) ns us os v (unify_roots (unify_in left s) s (types_of ws) (type_of_word x) (type_of_word y)) → Ends os ps before x y c → Met true s (types_of ws) ms us ps v (unify_roots (unify_in left s) s (types_of ws) (type_of_word x) (type_of_word y))
unfolding type_of_word verdict result_of
kept_on s ws ms ns us os ps x y left before c v g two f eb ec m e = record {
  packed = m.packed;
  is = m.is;
  fails = m.fails;
  noted = record {
    marks = record { own = λ l n h k z. m.noted.marks.own (omega (arith, e.len)) n h k (λ q. z (e.marks (256 + n) (omega arith) ∙ q)) };
    memo = memo_ends s (types_of us) os ps before x y c m.noted.memo e (root_small ws x y two) (root_small_2 ws x y two) (code_small v c ec) settled;
    stands = λ q. (sym eb ∙ (e.stands q).1, (m.noted.stands (e.stands q).0).1);
  };
}
  where
    as_verdict : (v : UnifyResult) → c ≡ code_of v → c ≢ 0 → verdict c ≡ result_of v
    as_verdict Success q n = absurd (n q)
    as_verdict Failure q n = ap verdict q
    as_verdict Indeterminate q n = ap verdict q

    settled : at os 513 ≡ 1 → c ≢ 0 → Settled s (types_of us) x y (verdict c)
    settled q n =
        let same : types_of us ≡ types_of ws = (m.noted.stands q).1 in
        subst (λ (l : Types). Settled s l x y (verdict c)) (sym same)
        (record {
          is = λ k h.
              ap {B = Unified} (λ (z : rules.UnifyResult). (z, types_of ws)) (as_verdict v ec n) ∙ ap {B = Unified} (λ (l : Types). (result_of v, l)) (sym same) ∙ m.is (inl refl)
              ∙ roots_any s (types_of ws) (type_of_word x) (type_of_word y) g.formed g.acyclic two.left_in two.right_in two.left_root two.right_root left k f.enough h;
        })
