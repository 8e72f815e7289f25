-- A search as the flex call takes it: 18 and 19 are nothing found, and its first result is kept in a slot alone.
use Rattle.std.specs.Prelude.{ℕ, ◌+◌, ◌*◌, ◌≤◌, ◌<◌, max, ◌≡◌, refl, Bool, true, false, ◌||◌, ◌≢◌, eqb, ltb, Ok, Err, length, take, drop}
use Rattle.std.proofs.Math.Path.{sym, ap, subst}
use Rattle.std.proofs.Common.{◌∙◌, ◌⊎◌, ⊎_elim, eq-eqb, ne_eqb, length-drop, length-take, get_or-drop, get_or-take}
use mathlib.Core.List.{List, [], ◌∷◌}
use native.Mathlib.Omega.{arith}
use Rattle.rules.specs.Lists.{Words}
use Rattle.rules.specs.Sheet.{at}
use Rattle.rules.specs.Run.{Out, got, refused, within}
use Rattle.rules.specs.RunLaws.{got_not_refused}
use Rattle.rules.proofs.RunLaws.{rises_to}
use Rattle.rules.specs.Search.{Result}
use Rattle.rules.specs.Search as rules
use Rattle.rules.specs.SearchKeeps.{AllKept}
use Rattle.rules.specs.Calls.{or_nothing}
use Rattle.refusals.specs.declared.Refusal.TheVariants.{SearchLimit, ErrorType}
use Rattle.refusals.specs.declared.Stopped.{Stopped}
use Rattle.refusals.specs.Numbers.{number_of, same_refusal}
use Rattle.slots.specs.declared.Results.{Results}
use Rattle.slots.specs.Slots.{Slot, Slots, slot_move}
use Rattle.slots.specs.Turns.{Asked, count_of, Answers}
use Rattle.steps.specs.declared.Finder.{Finder}
use Rattle.steps.specs.Asking.{finder_of}
use Rattle.closing.specs.Searched.{flex_kept}
use Rattle.flexing.specs.Asked.{Flexing, exported, flex_question}

-- The words of slot 1, as those of a slot alone.
pub record Copied (ws us : Words) : Type 0 where
  pub room : 1282 ≤ length us
  pub at : (i : ℕ) → i < 1282 → at us i ≡ at ws (1282 + i)

pub slot_taken : (ws us : Words) → 2564 ≤ length ws → us ≡ take 1282 (drop 1282 ws) → Copied ws us
slot_taken ws us h e = record {
  room = omega (arith, ap (λ (l : Words). length l) e, length-take 1282 (drop 1282 ws), length-drop 1282 ws);
  at = λ i l. ap (λ (u : Words). at u i) e ∙ get_or-take 1282 (drop 1282 ws) i 0 l ∙ get_or-drop 1282 ws i 0;
}

copied_slot : (ws us : Words) (r : Result) → Copied ws us → Slot ws 1282 r → Slot us 0 r
copied_slot ws us r c s = slot_move ws us 1282 0 r (omega (arith, c.room)) (λ i l. ap (at us) (let e : 0 + i ≡ i = omega arith in e) ∙ c.at i l) s

-- What a search came to, in the code's terms: a number that ends the call, or the results that it counts as.
pub record Taken (o : Out (List Result)) (ws : Words) (a n : ℕ) : Type 0 where
  pub results : List Result
  pub is : o ≡ got results
  pub size : length results ≡ n
  pub first : (r : Result) (rs : List Result) → results ≡ r ∷ rs → Slot ws a r

pub record Takes (o : Out (List Result) × ℕ) (ws : Words) (r : Asked) : Type 0 where
  pub stops : (s : Stopped) → r ≡ Err s → or_nothing o.0 ≡ refused (number_of s.refusal)
  pub goes : (t : Results) → r ≡ Ok t → Taken (or_nothing o.0) ws 1282 t.n
  pub count : count_of r ≡ o.1

pub record Settles (asked : Asked) (r : Asked) : Type 0 where
  pub at : (o : Out (List Result) × ℕ) (out : Words) → Answers o asked out → Takes o out r

-- Results, by the rule for 18 and 19.
nothing_18 : (m : ℕ) → m ≡ 18 → or_nothing (refused m) ≡ got []
unfolding or_nothing
nothing_18 m e = rw (eq-eqb m 18 e, or_nothing)

nothing_19 : (m : ℕ) → m ≢ 18 → m ≡ 19 → or_nothing (refused m) ≡ got []
unfolding or_nothing
nothing_19 m z e = rw (ne_eqb m 18 z, eq-eqb m 19 e, or_nothing)

nothing_else : (m : ℕ) → m ≢ 18 → m ≢ 19 → or_nothing (refused m) ≡ refused m
unfolding or_nothing
nothing_else m z y = rw (ne_eqb m 18 z, ne_eqb m 19 y, or_nothing)

none_taken : (ws : Words) (a : ℕ) (o : Out (List Result)) → o ≡ got [] → Taken o ws a 0
none_taken ws a o e = record { results = []; is = e; size = refl; first = λ r rs z. absurd (no r rs z) }
  where
    no : (r : Result) (rs : List Result) → ◌≡◌ {A = List Result} [] (r ∷ rs) → ⊥
    no r rs z = omega (arith, ap (λ (l : List Result). length l) z)

module _ (asked : Asked) where
  pub settle_found : (h : Results) → asked ≡ Ok h → Settles asked (Ok h)
  unfolding or_nothing
  settle_found h e = record {
    at = λ o out w. let g = w.found h e in record {
      stops = λ s x. cc;
      goes = λ t x. subst (λ (t : Results). Taken (or_nothing o.0) out 1282 t.n) (let k : h ≡ t = cc in k) (record { results = g.results; is = ap (λ (p : Out (List Result) × ℕ). or_nothing p.0) g.is; size = g.size; first = λ r rs p. one g.results out r rs p g.stand });
      count = sym (ap (λ (p : Out (List Result) × ℕ). p.1) g.is);
    };
  }
    where
      one : (fs : List Result) (out : Words) (r : Result) (rs : List Result) → fs ≡ r ∷ rs → Slots out 1282 fs → Slot out 1282 r
      one fs out r rs e s = subst (λ i. Slot out i r) (let z : 1282 + 1282 * 0 ≡ 1282 = omega arith in z) ((subst (λ (l : List Result). Slots out 1282 l) e s).at 0 (omega arith))

  -- A refusal.
  module _ (stopped : Stopped) (e : asked ≡ Err stopped) where
    nothing : ((o : Out (List Result)) → o ≡ refused (number_of stopped.refusal) → or_nothing o ≡ got []) → Settles asked (Ok (record { n = 0; count = stopped.count }))
    nothing h = record {
      at = λ o out w. let g = w.refuses stopped e in record {
        stops = λ s x. cc;
        goes = λ t x. subst (λ (t : Results). Taken (or_nothing o.0) out 1282 t.n) (let k : record { n = 0; count = stopped.count } ≡ t = cc in k) (none_taken out 1282 (or_nothing o.0) (h o.0 (ap (λ (p : Out (List Result) × ℕ). p.0) g)));
        count = sym (ap (λ (p : Out (List Result) × ℕ). p.1) g);
      };
    }

    pub settle_none : (stopped.refusal ≡ SearchLimit) ⊎ (stopped.refusal ≡ ErrorType) → Settles asked (Ok (record { n = 0; count = stopped.count }))
    settle_none = ⊎_elim
        (λ h. nothing (λ o x. ap or_nothing x ∙ nothing_18 (number_of stopped.refusal) (ap number_of h)))
        (λ h. let i : number_of stopped.refusal ≡ 19 = ap number_of h in nothing (λ o x. ap or_nothing x ∙ nothing_19 (number_of stopped.refusal) (λ z. omega arith) i))

    pub settle_stop : ¬ (stopped.refusal ≡ SearchLimit) → ¬ (stopped.refusal ≡ ErrorType) → Settles asked (Err stopped)
    settle_stop y h = record {
      at = λ p out v. let g = v.refuses stopped e in let k : p.0 ≡ refused (number_of stopped.refusal) = ap (λ (p : Out (List Result) × ℕ). p.0) g in record {
        stops = λ s x. ap or_nothing k ∙ nothing_else (number_of stopped.refusal) (λ z. y (same_refusal stopped.refusal SearchLimit z)) (λ z. h (same_refusal stopped.refusal ErrorType z)) ∙ ap (λ (s : Stopped). refused (number_of s.refusal)) (let i : stopped ≡ s = cc in i);
        goes = λ t x. cc;
        count = sym (ap (λ (p : Out (List Result) × ℕ). p.1) g);
      };
    }

-- Results of one of the four questions: how many there are, and the first in a slot alone.
pub record Holding (q : Words) (n : ℕ) (kept : Words) (fs : List Result) : Type 0 where
  pub size : length fs ≡ n
  pub first : (r : Result) (rs : List Result) → fs ≡ r ∷ rs → Slot kept 0 r
  pub keeps : AllKept (exported q).1 fs

pub record Goes (q : Words) (o : Out (List Result)) (kept : Words) (n : ℕ) : Type 0 where
  pub results : List Result
  pub is : o ≡ got results
  pub holds : Holding q n kept results

-- One of the four questions is asked.
pub record Turned (L : ℕ) (a : rules.Finder) (q : Words) (h : ℕ) (inv : Bool) (c : ℕ) (kept : Words) (r : Asked) : Type 0 where
  pub stops : (s : Stopped) → r ≡ Err s → or_nothing (within (ltb L) (flex_question a q h inv) c).0 ≡ refused (number_of s.refusal)
  pub goes : (t : Results) → r ≡ Ok t → Goes q (or_nothing (within (ltb L) (flex_question a q h inv) c).0) kept t.n
  pub count : count_of r ≡ (within (ltb L) (flex_question a q h inv) c).1
  pub low : count_of r ≤ max L c + 1

-- What holds of all results of a search, and of none, holds of those that it counts as.
counted : (P : List Result → Type 0) → P [] → (o : Out (List Result)) → ((rs : List Result) → o ≡ got rs → P rs) → (fs : List Result) → or_nothing o ≡ got fs → P fs
unfolding or_nothing
counted P z (got gs) h fs e = h fs e
counted P z (refused n) h fs e = go (eqb n 18 || eqb n 19) refl
  where
    go : (b : Bool) → (eqb n 18 || eqb n 19) ≡ b → P fs
    go true x = subst P (same (sym (or_true x) ∙ e)) z
      where
        or_true : (eqb n 18 || eqb n 19) ≡ true → or_nothing (refused n) ≡ got []
        or_true x = rw (x, or_nothing)

        same : ◌≡◌ {A = Out (List Result)} (got []) (got fs) → [] ≡ fs
        same p = cc
    go false x = absurd (got_not_refused fs n (sym e ∙ or_false x))
      where
        or_false : (eqb n 18 || eqb n 19) ≡ false → or_nothing (refused n) ≡ refused n
        or_false x = rw (x, or_nothing)

module _ (s sets q : Words) (f : Finder) (h : ℕ) (inv : Bool) (c : ℕ) (asked : Asked) (out : Words) (w : Answers (within (ltb f.limit) (flex_question (finder_of s f) q h inv) c) asked out) where
  pub turned : (kept : Words) (r : Asked) → Flexing s sets q f → Copied out kept → Settles asked r → Turned f.limit (finder_of s f) q h inv c kept r
  unfolding flex_question exported
  turned kept r k d e = record {
    stops = p.stops;
    goes = λ t z. let g = p.goes t z in record {
      results = g.results;
      is = g.is;
      holds = record {
        size = g.size;
        first = λ r rs x. copied_slot out kept r d (g.first r rs x);
        keeps = counted (AllKept (exported q).1) tt o.0 (λ rs x. flex_kept (finder_of s f) q k.passed k.sheet_short k.short (ltb f.limit) h inv c rs o.1 (λ i. (x i, o.1))) g.results g.is;
      };
    };
    count = p.count;
    low = omega (arith, p.count, rises_to f.limit (flex_question (finder_of s f) q h inv) c);
  }
    where
      o : Out (List Result) × ℕ
      o = within (ltb f.limit) (flex_question (finder_of s f) q h inv) c

      p : Takes o out r
      p = e.at o out w
