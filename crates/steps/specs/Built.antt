-- Where no sub-questions are left, and built-in fork and drop: what the code leaves.
use Rattle.std.specs.Prelude.{ℕ, ◌+◌, ◌*◌, ◌≤◌, ◌<◌, ◌≡◌, refl, ltb, length, take, drop, Option, Some, None, Ok, Err}
use Rattle.std.proofs.Common.{sym, ◌∙◌, inl, arith, length-append}
use Rattle.std.proofs.Math.Path.{ap, subst}
use mathlib.Core.List.{List, [], ◌∷◌, ◌++◌, map}
use Rattle.rules.specs.Lists.{Words}
use Rattle.rules.specs.Sheet.{at}
use Rattle.rules.specs.Layout.{header_duplicate, header_erase}
use Rattle.rules.specs.Types.{Types, ImplType}
use Rattle.rules.specs.Slim.{Slim}
use Rattle.rules.specs.Transfer.{type_of_word}
use Rattle.rules.specs.Run.{Run, done, within}
use Rattle.rules.specs.Search.{Trees, end, leaf, Result, add_results, find_subimpls, find_auto_impls}
use Rattle.table.specs.Packing.{types_of}
use Rattle.auto.specs.declared.Leaf.{Leaf}
use Rattle.auto.specs.Built.{leaves}
use Rattle.auto.specs.Fits.{leaf_fits}
use Rattle.refusals.specs.declared.Refusal.{Refusal}
use Rattle.slots.specs.declared.Results.{Results}
use Rattle.slots.specs.Slots.{Slot, Written, slots_none, slots_more}
use Rattle.slots.specs.Copies.{Beside}
use Rattle.slots.specs.Adding.{Verdict, Adds}
use Rattle.slots.specs.Turns.{Asked, Answers, answers_refused, answers_found, Stepped}
use Rattle.queries.specs.declared.Query.{Query}
use Rattle.queries.specs.Queries.{four, query_of}
use Rattle.queries.specs.Rows.{query_types}
use Rattle.transfer.specs.Imports.{types_in}

-- No sub-questions are left: one result, whatever the limit and the way to ask.
pub record NoneLeft (ws : Words) (count : ℕ) (r : Asked) (out : Words) : Type 0 where
  pub at : (L : ℕ) (ask : Types → ImplType → Run (List Result)) → Answers (within (ltb L) (find_subimpls ask (types_of ws) []) count) r out

-- None are left: the table itself, with no trees.
pub tail_none : (ask : Types → ImplType → Run (List Result)) (ts : Types) → find_subimpls ask ts [] ≡ done ((ts, end) ∷ [])
unfolding find_subimpls
tail_none ask ts = refl

pub beside_one : Beside 0 1282
beside_one = record { either = inl (omega arith) }

pub none_left : (ws out : Words) (count : ℕ) → count ≤ 4000000000 → Written ws out 1282 (types_of ws, end) → NoneLeft ws count (Ok (record { n = 1; count = count })) out
unfolding within
none_left ws out count low w = record {
  at = λ L ask. answers_found _ (record { n = 1; count = count }) ((types_of ws, end) ∷ []) out (ap (λ r. within (ltb L) r count) (tail_none ask (types_of ws))) low refl (omega arith)
      (slots_more out 1282 0 [] (types_of ws, end) refl (slots_none out 1282) (subst (λ a. Slot out a (types_of ws, end)) (let z : 1282 ≡ 1282 + 1282 * 0 = omega arith in z) w.slot));
}

-- The types that stand at `from`, with a leaf, are added behind those found; slot 0 and what lies behind slot 4 is as it was.
pub record LeafStep (ws : Words) (found : Results) (from k i : ℕ) (r : Asked) (out : Words) : Type 0 where
  pub len : length out ≡ length ws
  pub low : (j : ℕ) → j < 1282 → at out j ≡ at ws j
  pub high : (j : ℕ) → 6410 ≤ j → at out j ≡ at ws j
  pub at : (L : ℕ) → Stepped L (λ fs. add_results fs ((types_of (drop from ws), leaf k i) ∷ [])) found.n found.count ws r out

pub leaf_added : (ws out : Words) (found : Results) (from k i : ℕ) (o : Verdict) → Adds ws out found.n (types_of (drop from ws), leaf k i) o → o ≡ Ok tt → found.count ≤ 4000000000 → LeafStep ws found from k i (Ok (record { n = found.n + 1; count = found.count })) out
unfolding within add_results
leaf_added ws out found from k i o a e low = record {
  len = a.len;
  low = a.low;
  high = a.high;
  at = λ L. record {
    at = λ fs p s.
        let g : Result = (types_of (drop from ws), leaf k i) in
        let h = a.at fs p s in
        answers_found _ (record { n = found.n + 1; count = found.count }) (fs ++ (g ∷ [])) out (ap (λ r. within (ltb L) r found.count) (h.goes e [])) low (length-append fs (g ∷ []) ∙ ap (λ j. j + 1) p) (omega (arith, a.few e)) (h.stand e);
  };
}

pub leaf_refused : (ws out : Words) (found : Results) (from k i : ℕ) (o : Verdict) (refusal : Refusal) → Adds ws out found.n (types_of (drop from ws), leaf k i) o → o ≡ Err refusal → LeafStep ws found from k i (Err (record { refusal = refusal; count = found.count })) out
unfolding within
leaf_refused ws out found from k i o refusal a e = record {
  len = a.len;
  low = a.low;
  high = a.high;
  at = λ L. record { at = λ fs p s. answers_refused _ (record { refusal = refusal; count = found.count }) out (ap (λ r. within (ltb L) r found.count) ((a.at fs p s).stops refusal e [])) };
}

-- Built-in fork and drop are added behind no results; slot 0 and what lies behind slot 4 is as it was.
pub record Autos (s ws : Words) (q : ImplType) (count : ℕ) (r : Asked) (out : Words) : Type 0 where
  pub len : length out ≡ length ws
  pub low : (j : ℕ) → j < 1282 → at out j ≡ at ws j
  pub high : (j : ℕ) → 6410 ≤ j → at out j ≡ at ws j
  pub at : (L : ℕ) → Stepped L (λ fs. add_results fs (map (λ (t : Trees). (types_of ws, t)) (find_auto_impls s (types_of ws) q))) 0 count ws r out

-- The ids that built-ins may have are below 4,096.
pub record SmallIds (s : Words) (ts : Types) : Type 0 where
  pub duplicate : at s header_duplicate ≤ 4096
  pub erase : at s header_erase ≤ 4096
  pub closures : Slim ts

-- What is found for the four words of a question.
module _ (s ws : Words) (q : Query) (o : Option Leaf) (e : leaves o ≡ find_auto_impls s (types_of ws) (q.tr, map type_of_word (take q.n (four q.args)))) where
  is : leaves o ≡ find_auto_impls s (types_of ws) (query_of q)
  unfolding query_of
  is = e

  pub auto_fits_kind : (l : Leaf) → o ≡ Some l → SmallIds s (types_of ws) → l.kind < 8
  auto_fits_kind l p h = (leaf_fits s (types_of ws) (query_of q) l (ap leaves (sym p) ∙ is) h.duplicate h.erase h.closures).0

  pub auto_fits_id : (l : Leaf) → o ≡ Some l → SmallIds s (types_of ws) → l.id < 4096
  auto_fits_id l p h = (leaf_fits s (types_of ws) (query_of q) l (ap leaves (sym p) ∙ is) h.duplicate h.erase h.closures).1

  pub auto_none : (count : ℕ) → o ≡ None → count ≤ 4000000000 → Autos s ws (query_of q) count (Ok (record { n = 0; count = count })) ws
  unfolding leaves within add_results
  auto_none count n low = record {
    len = refl;
    low = λ j l. refl;
    high = λ j l. refl;
    at = λ L. record {
      at = λ fs p t. answers_found _ (record { n = 0; count = count }) fs ws (ap (λ (ts : List Trees). within (ltb L) (add_results fs (map (λ (t : Trees). (types_of ws, t)) ts)) count) (sym is ∙ ap leaves n)) low p (omega arith) t;
    };
  }

  pub auto_one : (l : Leaf) (count : ℕ) (r : Asked) (out : Words) → o ≡ Some l → LeafStep ws (record { n = 0; count = count }) 0 l.kind l.id r out → Autos s ws (query_of q) count r out
  unfolding leaves
  auto_one l count r out p a = record {
    len = a.len;
    low = a.low;
    high = a.high;
    at = λ L. subst (λ (ts : List Trees). Stepped L (λ fs. add_results fs (map (λ (t : Trees). (types_of ws, t)) ts)) 0 count ws r out) (ap leaves (sym p) ∙ is) (a.at L);
  }

-- The same of its array, where that has four.
module _ (s ws : Words) (q : Query) (o : Option Leaf) (long : length q.args ≡ 4) (e : leaves o ≡ find_auto_impls s (types_of ws) (q.tr, map type_of_word (take q.n q.args))) where
  of_four : leaves o ≡ find_auto_impls s (types_of ws) (q.tr, map type_of_word (take q.n (four q.args)))
  unfolding query_of types_in
  of_four = e ∙ ap (λ (x : ImplType). find_auto_impls s (types_of ws) x) (sym (query_types q long))

  pub args_fit_kind : (l : Leaf) → o ≡ Some l → SmallIds s (types_of ws) → l.kind < 8
  args_fit_kind = auto_fits_kind s ws q o of_four

  pub args_fit_id : (l : Leaf) → o ≡ Some l → SmallIds s (types_of ws) → l.id < 4096
  args_fit_id = auto_fits_id s ws q o of_four

  pub args_none : (count : ℕ) → o ≡ None → count ≤ 4000000000 → Autos s ws (query_of q) count (Ok (record { n = 0; count = count })) ws
  args_none = auto_none s ws q o of_four

  pub args_one : (l : Leaf) (count : ℕ) (r : Asked) (out : Words) → o ≡ Some l → LeafStep ws (record { n = 0; count = count }) 0 l.kind l.id r out → Autos s ws (query_of q) count r out
  args_one = auto_one s ws q o of_four
