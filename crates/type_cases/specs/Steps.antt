-- Laws of the steps, as their tests and calls ask for them.
use Rattle.std.specs.Prelude.{ℕ, ◌+◌, ◌/◌, ◌≤◌, ◌<◌, ◌≡◌, refl, Bool, true, false, not, List, map, ◌≢◌, eqb, length, take}
use Rattle.std.proofs.Common.{sym, ◌∙◌, ap, subst, true≢false, ⊎_elim, not-suc-le-zero, eq-or-lt_of_le, arith, length-take-le, eqb-true}
use Rattle.rules.specs.Lists.{Words}
use Rattle.rules.specs.Sheet.{at}
use Rattle.rules.specs.Types.{known, unify_impl_type}
use Rattle.rules.specs.Transfer.{type_of_word, import_types, export_types}
use Rattle.words.specs.Buffers.{copied, copied-length}
use Rattle.table.specs.Packing.{types_of, Pushes, Above, TypeWords}
use Rattle.table.specs.Nodes.{types_few}
use Rattle.memo.specs.declared.verdict.UnifyResult.{UnifyResult}
use Rattle.unify.specs.Results.{Unifies}
use Rattle.unify.specs.Lists.{Nodes}
use Rattle.transfer.specs.Moving.{params_of}
use Rattle.transfer.specs.Imports.{types_in, Inside, Imports}
use Rattle.transfer.specs.Callers.{imports_brought, exports_brought, export_fits}
use Rattle.type_cases.specs.Sound.{Sound, Below, Tested, BothTested, Fitting, Loaded, below_nodes, below_inside, below_words, sound_known, sound_impl_types, sound_source, low}

-- The front of a slice, as lending it asks.
pub front_length : {A : Type 0} (n : ℕ) (xs : List A) → n ≤ length xs → n ≡ length (take n xs)
front_length n xs h = sym (length-take-le n xs h)

pub front_copied : (n : ℕ) (xs ts vs : Words) → vs ≡ copied n xs ts → n ≤ length ts → n ≡ length (take n vs)
front_copied n xs ts vs e h = front_length n vs (omega (arith, ap (λ (ws : Words). length ws) e, copied-length n xs ts))

-- `below`: the first i are nodes.
pub record Begun (n : ℕ) (xs : Words) (i : ℕ) : Type 0 where
  pub each : (j : ℕ) → j < i → at xs j / 2 < n

pub begun_none : (n : ℕ) (xs : Words) → Begun n xs 0
begun_none n xs = record { each = λ j l. absurd (not-suc-le-zero l) }

pub begun_more : (n : ℕ) (xs : Words) (i : ℕ) → Begun n xs i → at xs i / 2 < n → Begun n xs (i + 1)
begun_more n xs i b h = record { each = λ j l. ⊎_elim (λ e. subst (λ k. at xs k / 2 < n) (sym e) h) (λ k. b.each j k) (eq-or-lt_of_le (let z : j ≤ i = omega arith in z)) }

pub begun_all : (n : ℕ) (xs : Words) (i : ℕ) → Begun n xs i → length xs ≤ i → Tested n xs true
begun_all n xs i b h = record { holds = λ e. record { each = λ j l. b.each j (omega arith) } }

pub tested_not : (n : ℕ) (xs : Words) → Tested n xs false
tested_not n xs = record { holds = λ e. absurd (true≢false (sym e)) }

passed : (q : Bool) → not q ≡ false → q ≡ true
passed true e = refl
passed false e = absurd (true≢false e)

-- `id_fits`.
pub record IdFits (k d n : ℕ) (b : Bool) : Type 0 where
  pub at : b ≡ true → (k < 16) × (k ≡ 8 → d < 4096) × (0 < n → d < 4096)

pub id_not : (k d n : ℕ) → IdFits k d n false
id_not k d n = record { at = λ e. absurd (true≢false (sym e)) }

pub id_low : (k d n : ℕ) → k < 16 → d < 4096 → IdFits k d n true
id_low k d n h l = record { at = λ e. (h, λ p. l, λ p. l) }

pub id_free : (k d n : ℕ) → k < 16 → k ≢ 8 → IdFits k d n (eqb n 0)
id_free k d n h z = record { at = λ e. (h, λ p. absurd (z p), λ p. absurd (omega (arith, eqb-true n 0 e))) }

module _ (k d n : ℕ) (b : Bool) (t : IdFits k d n b) (z : not b ≡ false) where
  pub fits_kind : k < 16
  fits_kind = (t.at (passed b z)).0

  pub fits_id : Above d n
  fits_id = record { small = (t.at (passed b z)).2 }

-- A type that passed the test is a node of its table, whose count c is.
pub node_there : (ws : Words) (c t : ℕ) → c ≡ length (types_of ws) → t / 2 < c → t / 2 < length (types_of ws)
node_there ws c t e h = omega arith

-- A word for each node.
pub marks_room : (ws ms : Words) → 256 ≤ length ms → length (types_of ws) ≤ length ms
marks_room ws ms h = omega (arith, types_few ws)

module _ (ws xs : Words) (c : ℕ) (q : Bool) (e : c ≡ length (types_of ws)) (t : Tested c xs q) (p : not q ≡ false) where
  pub tested-words : TypeWords xs
  tested-words = below_words ws xs c e (t.holds (passed q p))

pub known_pushed : (ws us cs : Words) (r c k d : ℕ) (i q : Bool) → Sound ws → c ≡ length (types_of ws) → Tested c cs q → not q ≡ false → length cs ≤ 8 → (b : Bool) → IdFits k d (length cs) b → not b ≡ false → Pushes ws us (known i k d (map type_of_word cs)) r → Sound us
known_pushed ws us cs r c k d i q g e t p few b low z u = sound_known ws us r g cs c k d i e (t.holds (passed q p)) few (low.at (passed b z)) u

-- `both_below`.
pub both_not : (ws xs ys : Words) → BothTested ws xs ys false
both_not ws xs ys = record { left = λ e. absurd (true≢false (sym e)); right = λ e. absurd (true≢false (sym e)) }

pub both : (ws xs ys : Words) (c : ℕ) (q r : Bool) → c ≡ length (types_of ws) → Tested c xs q → q ≡ true → Tested c ys r → BothTested ws xs ys r
both ws xs ys c q r e t p u = record { left = λ z. subst (λ n. Below n xs) e (t.holds p); right = λ z. subst (λ n. Below n ys) e (u.holds z) }

module _ (ws xs ys : Words) (q : Bool) (t : BothTested ws xs ys q) (p : not q ≡ false) where
  pub left_nodes : Nodes (types_of ws) xs
  left_nodes = below_nodes ws xs (length (types_of ws)) refl (t.left (passed q p))

  pub right_nodes : Nodes (types_of ws) ys
  right_nodes = below_nodes ws ys (length (types_of ws)) refl (t.right (passed q p))

  pub rows-joined : (s us : Words) (a b : ℕ) (v : UnifyResult) → Sound ws → Unifies us v (unify_impl_type s (types_of ws) (a, map type_of_word xs) (b, map type_of_word ys)) → Sound us
  rows-joined s us a b v g u = sound_impl_types s ws us xs ys a b (length (types_of ws)) v g refl (t.left (passed q p)) (t.right (passed q p)) u

-- `params_fit`.
pub fitting_not : (b : Bool) (ps ds : Words) → Fitting b ps ds false
fitting_not b ps ds = record { below = λ e. absurd (true≢false (sym e)); room = λ e. absurd (true≢false (sym e)) }

pub fitting_with : (b : Bool) (ps ds : Words) (c : ℕ) (r : Bool) → c ≡ length (types_of ds) → c ≢ 0 → Tested c ps r → Fitting b ps ds r
fitting_with b ps ds c r e h t = record { below = λ z. subst (λ n. Below n ps) e (t.holds z); room = λ z w. omega arith }

pub fitting_without : (b : Bool) (ps ds : Words) (c : ℕ) (r : Bool) → c ≡ length (types_of ds) → b ≡ false → Tested c ps r → Fitting b ps ds r
fitting_without b ps ds c r e h t = record { below = λ z. subst (λ n. Below n ps) e (t.holds z); room = λ z w. absurd (true≢false (sym w ∙ h)) }

pub fitting_words : (b : Bool) (ps ds : Words) → Fitting b ps ds true → TypeWords ps
fitting_words b ps ds f = below_words ds ps (length (types_of ds)) refl (f.below refl)

pub fitting_passed : (b : Bool) (ps ds : Words) (q : Bool) → Fitting b ps ds q → not q ≡ false → Fitting b ps ds true
fitting_passed b ps ds q f p = subst (Fitting b ps ds) (passed q p) f

-- `load`.
pub loaded : (ws ts : Words) (m c : ℕ) (r : Bool) → c ≡ length (types_of ws) → Tested c (take m ts) r → Loaded ws m ts r
loaded ws ts m c r e t = record { below = λ z. subst (λ n. Below n (take m ts)) e (t.holds z) }

pub loaded_passed : (ws ts : Words) (m : ℕ) (q : Bool) → Loaded ws m ts q → not q ≡ false → Loaded ws m ts true
loaded_passed ws ts m q f p = subst (Loaded ws m ts) (passed q p) f

pub loaded_inside : (ws ts : Words) (m : ℕ) → Loaded ws m ts true → Inside (types_of ws) (take m ts)
loaded_inside ws ts m l = below_inside ws (take m ts) (length (types_of ws)) refl (l.below refl)

-- Moves from table ws: types ts are moved, and stand then in vs.
module _ (ws ts : Words) (m : ℕ) (g : Sound ws) (l : Loaded ws m ts true) where
  pub sound_import : (ds us ps vs : Words) (b r : Bool) → Sound ds → Fitting b ps ds true → r ≡ true → Imports (import_types (types_of ws) (params_of b ps) (types_in m ts) (types_of ds)) us ts vs m r → Sound us
  sound_import ds us ps vs b r k f e i = record {
    packed = i.replaces.packed;
    neat = (imports_brought (types_of ws) (params_of b ps) (types_of ds) us ts vs m r (sound_source ws g) k.neat (low ds ps (length (types_of ds)) refl (f.below refl) b (f.room refl)) (loaded_inside ws ts m l) e i).neat;
  }

  pub sound_export : (us vs : Words) (r : Bool) → Imports (export_types (types_of ws) (types_in m ts)) us ts vs m r → Sound us
  sound_export us vs r i = record {
    packed = i.replaces.packed;
    neat = (exports_brought (types_of ws) us ts vs m r g.neat (loaded_inside ws ts m l) (export_fits ws us ts vs m r g.neat (loaded_inside ws ts m l) i) i).neat;
  }
