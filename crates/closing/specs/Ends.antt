-- What the search of an impl call comes to: a refusal of its own, 20, 21, or what one result comes to.
use Rattle.std.specs.Prelude.{ℕ, ◌+◌, ◌*◌, ◌≤◌, ◌<◌, ◌≡◌, ◌≢◌, drop, Ok, Err}
use Rattle.std.proofs.Math.Path.{refl, ap}
use Rattle.std.proofs.Common.{sym, ◌∙◌, ap₂, subst, get_or-drop, length-drop}
use mathlib.Core.List.{List, [], ◌∷◌}
use native.Mathlib.Omega.{arith}
use Rattle.std.proofs.Math.ListN.{length}
use Rattle.rules.specs.Lists.{Words}
use Rattle.rules.specs.Sheet.{at}
use Rattle.rules.specs.Types.{Types, ImplType}
use Rattle.rules.specs.Transfer.{export_impl_type}
use Rattle.rules.specs.Run.{Out, got, refused}
use Rattle.rules.specs.Search.{Result}
use Rattle.rules.specs.Calls.{question_types, impl_query, impl_outcome, answer_after}
use Rattle.rules.specs.Neat.{Neat}
use Rattle.rules.specs.SearchKeeps.{AllKept}
use Rattle.table.specs.Packing.{types_of}
use Rattle.refusals.specs.declared.Stopped.{Stopped}
use Rattle.refusals.specs.Numbers.{number_of, number_some}
use Rattle.slots.specs.declared.Results.{Results}
use Rattle.slots.specs.Slots.{Slot, Slots, slot_move}
use Rattle.slots.specs.Copies.{Filled}
use Rattle.slots.specs.Turns.{Asked, Answers}
use Rattle.queries.specs.declared.Query.{Query}
use Rattle.loading.specs.Exports.{Asks}
use Rattle.closing.specs.Impl.{Closed, impl_closing, ClosesImpl, asks_on}

-- The words of slots 0 and 1 stand in another slice too.
pub record Front (vs found : Words) : Type 0 where
  pub long : 2564 ≤ length found
  pub same : (i : ℕ) → i < 2564 → at found i ≡ at vs i

pub front_self : (vs : Words) → 2564 ≤ length vs → Front vs vs
front_self vs h = record { long = h; same = λ i l. refl }

front_then : (us vs ws : Words) → Front us vs → Front vs ws → Front us ws
front_then us vs ws p q = record { long = q.long; same = λ i l. q.same i l ∙ p.same i l }

front_slot : (vs found : Words) (r : Result) → Front vs found → Slot vs 1282 r → Slot found 1282 r
front_slot vs found r f s = slot_move vs found 1282 1282 r (omega (arith, f.long)) (λ i l. f.same (1282 + i) (omega arith)) s

-- A slot's words alone.
slot_behind : (ws : Words) (a : ℕ) (r : Result) → Slot ws a r → Slot (drop a ws) 0 r
slot_behind ws a r h = slot_move ws (drop a ws) a 0 r (omega (arith, length-drop a ws, h.room)) (λ i l. ap (at (drop a ws)) (let e : 0 + i ≡ i = omega arith in e) ∙ get_or-drop a ws i 0) h

-- One result in slot 1, with what was asked over its types.
pub record OneStands (asked : Query) (found : Words) : Type 0 where
  pub filled : Filled found 1282
  pub asks : Asks (types_of (drop 1282 found)) asked

-- Where there is one.
pub record IfOne (n : ℕ) (asked : Query) (found : Words) : Type 0 where
  pub one : n ≡ 1 → OneStands asked found

-- Where the search found one.
pub record IfFound (searched : Asked) (asked : Query) (found : Words) : Type 0 where
  pub one : (k : Results) → searched ≡ Ok k → IfOne k.n asked found

-- The rule, over the caller's types, the query and what was exported of it.
unfoldable pub impl_ending : Words → Types → ImplType → ImplType → Out (List Result) → Out Words
impl_ending s ts q sub (refused n) = refused n
impl_ending s ts q sub (got []) = refused 20
impl_ending s ts q sub (got (r ∷ (r' ∷ rs))) = refused 21
impl_ending s ts q sub (got (r ∷ [])) = impl_closing s ts q sub r

pub impl_ends : (s q : Words) (o : Out (List Result)) → impl_outcome s q o ≡ impl_ending s (question_types q) (impl_query q) (export_impl_type (question_types q) (impl_query q)).0 o
unfolding impl_outcome impl_ending impl_closing
impl_ends s q (refused n) = refl
impl_ends s q (got []) = refl
impl_ends s q (got (r ∷ (r' ∷ rs))) = refl
impl_ends s q (got (r ∷ [])) = refl

-- n results stand in the slots from 1 on; found has the first of them.
pub record EndsResults (s : Words) (ts : Types) (query sub : ImplType) (n : ℕ) (found buf out : Words) (r : ℕ) : Type 0 where
  pub ends : (vs : Words) (rs : List Result) → Front vs found → length rs ≡ n → Slots vs 1282 rs → Closed (impl_ending s ts query sub (got rs)) buf out r

-- The search came to o.
pub record EndsImpl (s : Words) (ts : Types) (query sub : ImplType) (searched : Asked) (found buf out : Words) (r : ℕ) : Type 0 where
  pub ends : (vs : Words) (o : Out (List Result) × ℕ) → Front vs found → Answers o searched vs → Closed (impl_ending s ts query sub o.0) buf out r

-- In the terms of the call.
pub ends_call : (s q : Words) (ts : Types) (query sub : ImplType) (searched : Asked) (found buf out : Words) (r : ℕ) → EndsImpl s ts query sub searched found buf out r → ts ≡ question_types q → query ≡ impl_query q → sub ≡ (export_impl_type (question_types q) (impl_query q)).0 → (vs : Words) (o : Out (List Result) × ℕ) → Front vs found → Answers o searched vs → Closed (impl_outcome s q o.0) buf out r
ends_call s q ts query sub searched found buf out r c et eq es vs o f a = subst (λ (x : Out Words). Closed x buf out r) (ap₂ (λ (x : Types) (y : ImplType). impl_ending s x y sub o.0) et eq ∙ ap (λ (y : ImplType). impl_ending s (question_types q) (impl_query q) y o.0) es ∙ sym (impl_ends s q o.0)) (c.ends vs o f a)

refused_closed : (o : Out Words) (buf : Words) (n : ℕ) → n ≢ 0 → o ≡ refused n → Closed o buf buf n
unfolding answer_after
refused_closed o buf n z e = record { answers = λ h. absurd (z h); refuses = λ h. e; after = sym (ap (λ (p : Out Words). answer_after p buf) e) }

module _ (s : Words) (ts : Types) (query sub : ImplType) (n : ℕ) (found buf : Words) where
  pub results_none : n ≡ 0 → EndsResults s ts query sub n found buf buf 20
  unfolding impl_ending
  results_none z = record { ends = λ vs rs f l h. one rs l }
    where
      one : (rs : List Result) → length rs ≡ n → Closed (impl_ending s ts query sub (got rs)) buf buf 20
      one [] l = refused_closed (refused 20) buf 20 (λ x. omega arith) refl
      one (r ∷ rs) l = absurd (omega arith)

  pub results_many : n ≢ 0 → n ≢ 1 → EndsResults s ts query sub n found buf buf 21
  unfolding impl_ending
  results_many z y = record { ends = λ vs rs f l h. one rs l }
    where
      one : (rs : List Result) → length rs ≡ n → Closed (impl_ending s ts query sub (got rs)) buf buf 21
      one [] l = absurd (z (sym l))
      one (r ∷ []) l = absurd (y (sym l))
      one (r ∷ (r' ∷ rs)) l = refused_closed (refused 21) buf 21 (λ x. omega arith) refl

  pub results_one : (out first : Words) (r : ℕ) → n ≡ 1 → first ≡ drop 1282 found → ClosesImpl s ts query sub first 0 buf out r → EndsResults s ts query sub n found buf out r
  unfolding impl_ending
  results_one out first r z e c = record { ends = one }
    where
      one : (vs : Words) (rs : List Result) → Front vs found → length rs ≡ n → Slots vs 1282 rs → Closed (impl_ending s ts query sub (got rs)) buf out r
      one vs [] f l h = absurd (omega arith)
      one vs (x ∷ []) f l h = c.closes x (subst (λ (us : Words). Slot us 0 x) (sym e) (slot_behind found 1282 x (front_slot vs found x f (subst (λ i. Slot vs i x) (let e : 1282 + 1282 * 0 ≡ 1282 = omega arith in e) (h.at 0 (omega arith))))))
      one vs (x ∷ (y ∷ rs)) f l h = absurd (omega arith)

pub one_room : (n : ℕ) (asked : Query) (found : Words) → IfOne n asked found → n ≡ 1 → 1282 ≤ length found
one_room n asked found i e = omega (arith, (i.one e).filled.slot.room)

pub one-filled : (n : ℕ) (asked : Query) (found first : Words) → IfOne n asked found → n ≡ 1 → first ≡ drop 1282 found → Filled first 0
one-filled n asked found first i e d = let f = (i.one e).filled in record { result = f.result; slot = subst (λ (us : Words). Slot us 0 f.result) (sym d) (slot_behind found 1282 f.result f.slot) }

pub one_asks : (n : ℕ) (asked : Query) (found first : Words) → IfOne n asked found → n ≡ 1 → first ≡ drop 1282 found → Asks (types_of first) asked
one_asks n asked found first i e d = subst (λ (us : Words). Asks (types_of us) asked) (sym d) (i.one e).asks

module _ (s : Words) (ts : Types) (query sub : ImplType) (searched : Asked) (found buf : Words) where
  pub ends_refused : (k : Stopped) → searched ≡ Err k → EndsImpl s ts query sub searched found buf buf (number_of k.refusal)
  unfolding impl_ending
  ends_refused k e = record { ends = λ vs o f a. let h : o.0 ≡ refused (number_of k.refusal) = ap (λ (x : Out (List Result) × ℕ). x.0) (a.refuses k e) in refused_closed (impl_ending s ts query sub o.0) buf (number_of k.refusal) (number_some k.refusal) (ap (impl_ending s ts query sub) h) }

  pub ends_found : (out : Words) (k : Results) (r : ℕ) → searched ≡ Ok k → EndsResults s ts query sub k.n found buf out r → EndsImpl s ts query sub searched found buf out r
  ends_found out k r e h = record { ends = λ vs o f a. let g = a.found k e in subst (λ (x : Out (List Result)). Closed (impl_ending s ts query sub x) buf out r) (sym (ap (λ (x : Out (List Result) × ℕ). x.0) g.is)) (h.ends vs g.results f g.size g.stand) }

pub found_if : (searched : Asked) (asked : Query) (found : Words) (k : Results) → IfFound searched asked found → searched ≡ Ok k → IfOne k.n asked found
found_if searched asked found k i e = i.one k e

-- What the search answered, and that its results are kept, give what the end of the call asks for.
pub searched_one : (o : Out (List Result) × ℕ) (searched : Asked) (found : Words) (ts : Types) (asked : Query) → Answers o searched found → ((rs : List Result) → o.0 ≡ got rs → AllKept ts rs) → Asks ts asked → IfFound searched asked found
searched_one o searched found ts asked a k h = record { one = λ n e. record { one = λ z. let g = a.found n e in go g.results (g.size ∙ z) g.stand (k g.results (ap (λ (x : Out (List Result) × ℕ). x.0) g.is)) } }
  where
    go : (rs : List Result) → length rs ≡ 1 → Slots found 1282 rs → AllKept ts rs → OneStands asked found
    go [] l s j = absurd (omega arith)
    go (r ∷ rs) l s j =
        let t : Slot found 1282 r = subst (λ i. Slot found i r) (let e : 1282 + 1282 * 0 ≡ 1282 = omega arith in e) (s.at 0 (omega arith)) in
        record {
          filled = record { result = r; slot = t };
          asks = asks_on ts (types_of (drop 1282 found)) asked (subst Neat (sym t.table.is) j.0.neat) (subst (λ (us : Types). length ts ≤ length us) (sym t.table.is) j.0.grown) h;
        }

-- What stands in the front of one slice stands in that of the other.
stands_front : (asked : Query) (vs found : Words) → OneStands asked vs → Front vs found → OneStands asked found
stands_front asked vs found o f =
    let s = o.filled.slot in
    let t = front_slot vs found o.filled.result f s in
    record { filled = record { result = o.filled.result; slot = t }; asks = subst (λ (ts : Types). Asks ts asked) (s.table.is ∙ sym t.table.is) o.asks }

pub results_front : (s : Words) (ts : Types) (query sub : ImplType) (n : ℕ) (vs found buf out : Words) (r : ℕ) → Front vs found → EndsResults s ts query sub n found buf out r → EndsResults s ts query sub n vs buf out r
results_front s ts query sub n vs found buf out r f e = record { ends = λ us rs g z h. e.ends us rs (front_then us vs found g f) z h }

pub ends_front : (s : Words) (ts : Types) (query sub : ImplType) (searched : Asked) (vs found buf out : Words) (r : ℕ) → Front vs found → EndsImpl s ts query sub searched found buf out r → EndsImpl s ts query sub searched vs buf out r
ends_front s ts query sub searched vs found buf out r f e = record { ends = λ us o g a. e.ends us o (front_then us vs found g f) a }

pub one_front : (n : ℕ) (asked : Query) (vs found : Words) → IfOne n asked vs → Front vs found → IfOne n asked found
one_front n asked vs found i f = record { one = λ e. stands_front asked vs found (i.one e) f }

pub found_front : (searched : Asked) (asked : Query) (vs found : Words) → IfFound searched asked vs → Front vs found → IfFound searched asked found
found_front searched asked vs found i f = record { one = λ k e. one_front k.n asked vs found (i.one k e) f }
