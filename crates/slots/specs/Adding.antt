-- One result more behind n of a question: as it stands, under a Def, or as the trees behind a tree. `add_results` of the rules, for one result.
use Rattle.std.specs.Prelude.{ℕ, ◌+◌, ◌*◌, ◌≤◌, ◌<◌, ◌≡◌, refl, List, [], ◌∷◌, ◌++◌, ◌≢◌, length, drop, Ok, Err}
use Rattle.std.proofs.Common.{sym, ◌∙◌, ap, subst, inl, inr, arith, lt-ltb, le-ltb}
use Rattle.std.specs.Prelude.{Result as Outcome}
use Rattle.rules.specs.Lists.{Words}
use Rattle.rules.specs.Limits.{limit_results, limit_tree_nodes}
use Rattle.rules.specs.Layout.{tree_def}
use Rattle.rules.specs.Sheet.{at}
use Rattle.rules.specs.Types.{Types}
use Rattle.rules.specs.Run.{stop}
use Rattle.rules.specs.Search.{Trees, end, tree, tree_size, leaf, before, Result, add_results}
use Rattle.table.specs.Packing.{types_of}
use Rattle.trees.specs.Forests.{Held, Single}
use Rattle.trees.specs.Changes.{Copies, Appends, Wraps, size-before, holds-apart}
use Rattle.refusals.specs.declared.Refusal.{Refusal}
use Rattle.refusals.specs.declared.Refusal.TheVariants.{ResultsFull, TreesFull}
use Rattle.refusals.specs.Numbers.{number_of}
use Rattle.slots.specs.Slots.{slot_length, Slot, Slots, Written, table_move, slots_kept, slots_more}
use Rattle.slots.specs.Copies.{Beside, Filled, Tabled, Doubles, trees_apart, trees_few, trees_kept, with_trees}

-- A result is added, or refused.
abbrev pub Verdict : Type 0
Verdict = Outcome (Unit {0}) Refusal

-- Where a question's results end: its part has slots 0 to 4 for itself.
abbrev pub results_end : ℕ
results_end = 6410

-- A result g is added behind fs, or refused: what the rule says, whatever comes behind it, and where they stand.
pub record Enters (fs : List Result) (g : Result) (us : Words) (o : Verdict) : Type 0 where
  pub goes : o ≡ Ok tt → (gs : List Result) → add_results fs (g ∷ gs) ≡ add_results (fs ++ (g ∷ [])) gs
  pub stops : (refusal : Refusal) → o ≡ Err refusal → (gs : List Result) → add_results fs (g ∷ gs) ≡ stop (number_of refusal)
  pub stand : o ≡ Ok tt → Slots us slot_length (fs ++ (g ∷ []))

-- A result is added behind n; slot 0 and what lies behind slot 4 is as it was.
pub record Adds (ws us : Words) (n : ℕ) (g : Result) (o : Verdict) : Type 0 where
  pub len : length us ≡ length ws
  pub few : o ≡ Ok tt → n < limit_results
  pub low : (i : ℕ) → i < slot_length → at us i ≡ at ws i
  pub high : (i : ℕ) → results_end ≤ i → at us i ≡ at ws i
  pub at : (fs : List Result) → length fs ≡ n → Slots ws slot_length fs → Enters fs g us o

-- What is made of the result in the slot at `from` is added behind n.
pub record Gives (give : Result → Result) (ws us : Words) (n from : ℕ) (o : Verdict) : Type 0 where
  pub at : (r : Result) → Slot ws from r → Adds ws us n (give r) o

-- The forms: as it stands, under a Def, and behind the tree of another.
abbrev pub plain : Result → Result
plain r = r

abbrev pub under : ℕ → Result → Result
under i r = (r.0, tree tree_def i r.1 end)

abbrev pub behind : Trees → Result → Result
behind ts u = (u.0, before ts u.1)

-- A result that is one tree stands in the slot.
pub record Element (ws : Words) (a : ℕ) : Type 0 where
  pub result : Result
  pub slot : Slot ws a result
  pub one : Single result.1

-- What is made of the result at `from` behind the tree of the one at e: written to a slot, or added behind n.
pub record Joined (ws us : Words) (e from b : ℕ) : Type 0 where
  pub at : (r u : Result) → Slot ws e r → Single r.1 → Slot ws from u → Written ws us b (behind r.1 u)

pub record Joins (ws us : Words) (n e from : ℕ) (o : Verdict) : Type 0 where
  pub at : (r : Result) → Slot ws e r → Single r.1 → Gives (behind r.1) ws us n from o

-- The rule: 16, then 17, then one more.
pub add_full : (fs : List Result) (g : Result) (gs : List Result) → length fs ≡ 4 → add_results fs (g ∷ gs) ≡ stop 16
unfolding add_results
add_full fs g gs e = rw (le-ltb (length fs) limit_results (omega arith), add_results)

pub add_big : (fs : List Result) (g : Result) (gs : List Result) → length fs < 4 → 256 < tree_size g.1 → add_results fs (g ∷ gs) ≡ stop 17
unfolding add_results
add_big fs g gs l h = rw (lt-ltb (length fs) limit_results l, lt-ltb limit_tree_nodes (tree_size g.1) h, add_results)

pub add_one_more : (fs : List Result) (g : Result) (gs : List Result) → length fs < 4 → tree_size g.1 ≤ 256 → add_results fs (g ∷ gs) ≡ add_results (fs ++ (g ∷ [])) gs
unfolding add_results
add_one_more fs g gs l h = rw (lt-ltb (length fs) limit_results l, le-ltb limit_tree_nodes (tree_size g.1) h, add_results)

-- What the answer says.
not_added : (refusal : Refusal) → ◌≡◌ {A = Verdict} (Err refusal) (Ok tt) → ⊥
not_added refusal e = cc

enters_stop : (fs : List Result) (g : Result) (us : Words) (refusal : Refusal) → ((gs : List Result) → add_results fs (g ∷ gs) ≡ stop (number_of refusal)) → Enters fs g us (Err refusal)
enters_stop fs g us refusal h = record {
  goes = λ e. absurd (not_added refusal e);
  stops = λ k e gs. h gs ∙ ap (λ r. stop (number_of r)) (same k e);
  stand = λ e. absurd (not_added refusal e);
}
  where
    same : (k : Refusal) → ◌≡◌ {A = Verdict} (Err refusal) (Err k) → refusal ≡ k
    same k e = cc

enters_added : (fs : List Result) (g : Result) (us : Words) → ((gs : List Result) → add_results fs (g ∷ gs) ≡ add_results (fs ++ (g ∷ [])) gs) → Slots us slot_length (fs ++ (g ∷ [])) → Enters fs g us (Ok tt)
enters_added fs g us h s = record {
  goes = λ e. h;
  stops = λ k e. absurd (not_added k (sym e));
  stand = λ e. s;
}

adds_same : (ws : Words) (n : ℕ) (g : Result) (refusal : Refusal) → ((fs gs : List Result) → length fs ≡ n → add_results fs (g ∷ gs) ≡ stop (number_of refusal)) → Adds ws ws n g (Err refusal)
adds_same ws n g refusal h = record { len = refl; few = λ e. absurd (not_added refusal e); low = λ i l. refl; high = λ i l. refl; at = λ fs e s. enters_stop fs g ws refusal (λ gs. h fs gs e) }

pub adds_full : (ws : Words) (n : ℕ) (g : Result) → n ≡ 4 → Adds ws ws n g (Err ResultsFull)
adds_full ws n g e = adds_same ws n g ResultsFull (λ fs gs l. add_full fs g gs (l ∙ e))

adds_big : (ws : Words) (n : ℕ) (g : Result) → n < 4 → 256 < tree_size g.1 → Adds ws ws n g (Err TreesFull)
adds_big ws n g h b = adds_same ws n g TreesFull (λ fs gs l. add_big fs g gs (omega arith) b)

-- The slot behind n is written.
pub adds_written : (ws us : Words) (n : ℕ) (g : Result) → n < 4 → Written ws us (1282 + 1282 * n) g → Adds ws us n g (Ok tt)
adds_written ws us n g h w = record {
  len = w.len;
  few = λ e. h;
  low = λ i l. w.low i (omega arith);
  high = λ i l. w.high i (omega arith);
  at = λ fs e s. enters_added fs g us (λ gs. add_one_more fs g gs (omega arith) w.slot.trees.few)
      (slots_more us slot_length n fs g e (slots_kept ws us slot_length fs w.len (λ i p q. w.low i (omega arith)) s) w.slot);
}

-- Slots 1 to 4 are beside those behind them.
pub beside_result : (a n : ℕ) → 6410 ≤ a → n ≤ 4 → n ≢ 4 → Beside a (1282 + 1282 * n)
beside_result a n h l e = record { either = inr (omega arith) }

-- A slot is beside the one behind n results, where there is one.
pub record Aside (a n : ℕ) : Type 0 where
  pub at : n ≢ 4 → Beside a (1282 + 1282 * n)

pub aside_beside : (a n : ℕ) → Aside a n → n ≢ 4 → Beside a (1282 + 1282 * n)
aside_beside a n h e = h.at e

pub aside_first : (n : ℕ) → Aside 0 n
aside_first n = record { at = λ e. record { either = inl (omega arith) } }

pub aside_behind : (a n : ℕ) → 6410 ≤ a → n ≤ 4 → Aside a n
aside_behind a n h l = record { at = beside_result a n h l }

-- As it stands.
pub plain_full : (ws : Words) (n from : ℕ) → n ≡ 4 → Gives plain ws ws n from (Err ResultsFull)
plain_full ws n from e = record { at = λ r s. adds_full ws n r e }

pub plain_added : (ws us : Words) (n from : ℕ) → n ≤ 4 → n ≢ 4 → Doubles ws us from (1282 + 1282 * n) → Gives plain ws us n from (Ok tt)
plain_added ws us n from l e d = record { at = λ r s. adds_written ws us n r (omega arith) (d.at r s) }

-- Under a Def.
pub under_full : (ws : Words) (n from i : ℕ) → n ≡ 4 → Gives (under i) ws ws n from (Err ResultsFull)
under_full ws n from i e = record { at = λ r s. adds_full ws n (under i r) e }

pub under_big : (ws : Words) (n from i s : ℕ) → n ≤ 4 → n ≢ 4 → s ≡ at ws (from + 1025) → 256 ≤ s → Gives (under i) ws ws n from (Err TreesFull)
unfolding tree_size
under_big ws n from i s l e c h = record { at = λ r t. adds_big ws n (under i r) (omega arith) (omega (arith, t.trees.count)) }

pub under_small : (ws us : Words) (from b s : ℕ) → Filled ws from → Doubles ws us from b → s ≡ at ws (from + 1025) → s < 256 → at us (b + 1025) < 256
under_small ws us from b s f d c h = omega (arith, f.slot.trees.count, (d.at f.result f.slot).slot.trees.count)

-- A slot written, and its trees changed.
rewritten : (ws us vs : Words) (b : ℕ) (ts : Types) (x y : Trees) → Written ws us b (ts, x) → Held us vs (b + 1025) y → Written ws vs b (ts, y)
rewritten ws us vs b ts x y w h = record {
  len = h.len ∙ w.len;
  slot = record {
    room = omega (arith, h.len, w.slot.room);
    table = table_move us vs b b ts (omega (arith, h.len, w.slot.room)) (λ i l m. h.low (b + i) (omega arith)) w.slot.table;
    trees = h.holds;
  };
  low = λ i l. h.low i (omega arith) ∙ w.low i l;
  high = λ i l. h.high i (omega arith) ∙ w.high i l;
}

pub under_added : (ws us vs : Words) (n from i : ℕ) → n ≤ 4 → n ≢ 4 → Doubles ws us from (1282 + 1282 * n) → Wraps us vs (1282 + 1282 * n + 1025) i → Gives (under i) ws vs n from (Ok tt)
under_added ws us vs n from i l e d w = record {
  at = λ r s. let t = d.at r s in adds_written ws vs n (under i r) (omega arith) (rewritten ws us vs (1282 + 1282 * n) r.0 r.1 (tree tree_def i r.1 end) t (w.trees r.1 t.slot.trees));
}

-- Behind the tree of another.
pub element_filled : (ws : Words) (a : ℕ) → Element ws a → Filled ws a
element_filled ws a e = record { result = e.result; slot = e.slot }

pub element_few : (ws us : Words) (a b c : ℕ) → Element ws c → Beside c b → Tabled ws us a b → at us (c + 1025) ≤ 256
element_few ws us a b c e p t = trees_few ws us a b c (element_filled ws c e) p t

-- The two together have at most 256 nodes still.
pub join_few : (ws us vs : Words) (e from b : ℕ) → Element ws e → Filled ws from → Beside e b → Beside from b → Tabled ws us from b → Copies us us vs (e + 1025) (b + 1025) → at ws (e + 1025) + at ws (from + 1025) ≤ 256 → at vs (b + 1025) + at vs (from + 1025) ≤ 256
join_few ws us vs e from b el f pe pf t c h =
    let held = c.trees el.result.1 (trees_kept ws us from b e el.result.1 t pe el.slot.trees) in
    let rest = holds-apart us vs (from + 1025) (b + 1025) f.result.1 el.result.1 (trees_apart from b pf) held (trees_kept ws us from b from f.result.1 t pf f.slot.trees) in
    omega (arith, held.holds.count, rest.count, el.slot.trees.count, f.slot.trees.count)

pub joined : (ws us vs xs : Words) (e from b : ℕ) → Beside e b → Beside from b → b + 1282 ≤ length ws → Tabled ws us from b → Copies us us vs (e + 1025) (b + 1025) → Appends vs vs xs (from + 1025) (b + 1025) → Joined ws xs e from b
joined ws us vs xs e from b pe pf room t c a = record { at = λ r u s o v. one r u s o v }
  where
    one : (r u : Result) → Slot ws e r → Single r.1 → Slot ws from u → Written ws xs b (behind r.1 u)
    one r u s o v =
        let held = c.trees r.1 (trees_kept ws us from b e r.1 t pe s.trees) in
        let rest = holds-apart us vs (from + 1025) (b + 1025) u.1 r.1 (trees_apart from b pf) held (trees_kept ws us from b from u.1 t pf v.trees) in
        subst (λ (ts : Types). Written ws xs b (ts, before r.1 u.1)) v.table.is
        (rewritten ws vs xs b (types_of (drop from ws)) r.1 (before r.1 u.1) (with_trees ws us vs from b r.1 t room held) (a.trees r.1 u.1 o held.holds rest))

pub join_full : (ws : Words) (n e from : ℕ) → n ≡ 4 → Joins ws ws n e from (Err ResultsFull)
join_full ws n e from h = record { at = λ r s o. record { at = λ u v. adds_full ws n (behind r.1 u) h } }

pub join_big : (ws : Words) (n e from s t : ℕ) → n ≤ 4 → n ≢ 4 → s ≡ at ws (e + 1025) → t ≡ at ws (from + 1025) → 256 < s + t → Joins ws ws n e from (Err TreesFull)
join_big ws n e from s t l h p q b = record { at = λ r x o. record { at = λ u v. adds_big ws n (behind r.1 u) (omega arith) (omega (arith, x.trees.count, v.trees.count, size-before r.1 u.1 o)) } }

pub join_added : (ws us : Words) (n e from : ℕ) → n ≤ 4 → n ≢ 4 → Joined ws us e from (1282 + 1282 * n) → Joins ws us n e from (Ok tt)
join_added ws us n e from l h j = record { at = λ r s o. record { at = λ u v. adds_written ws us n (behind r.1 u) (omega arith) (j.at r u s o v) } }

-- The table with a leaf: it has one node.
pub leaf_added : (ws us vs : Words) (n from k i : ℕ) → n ≤ 4 → n ≢ 4 → 6410 ≤ length ws → Tabled ws us from (1282 + 1282 * n) → Held us vs (1282 + 1282 * n + 1025) (leaf k i) → Adds ws vs n (types_of (drop from ws), leaf k i) (Ok tt)
leaf_added ws us vs n from k i l e room t h = adds_written ws vs n (types_of (drop from ws), leaf k i) (omega arith) (with_trees ws us vs from (1282 + 1282 * n) (leaf k i) t (omega arith) h)
