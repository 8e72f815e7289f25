-- Candidates by id from the sets that stand in the workspace. The ids that are found one after the other are the lists of the rules.
use Rattle.std.specs.Prelude.{ℕ, zero, suc, ◌+◌, ◌*◌, ◌-◌, ◌/◌, ◌%◌, ◌≤◌, ◌<◌, ◌≡◌, refl, Bool, true, false, not, ◌||◌, ◌&&◌, [], ◌∷◌, ◌↔◌, ◌≢◌, T, eqb, leb, max, Option, Some, None, IfSome, MatchOption}
use Rattle.std.proofs.Common.{sym, ◌∙◌, ap, ap₂, subst, ⊎_elim, arith, leb→le, le→leb, eqb→eq, eq-eqb, ne_eqb}
use Rattle.std.proofs.Math.Dec.{eqb_refl}
use mathlib.Core.Bool.{beq}
use Rattle.std.specs.List.{list_any}
use Rattle.rules.specs.Lists.{Words, any, select, is_in}
use Rattle.rules.specs.Layout.{header_definitions, header_impls, flag_basic}
use Rattle.rules.specs.Sheet.{many, field, impl_flag, impl_trait}
use Rattle.rules.specs.Members.{In, first, later, in_cases, in_empty, any_in, and_iff, is_in_in, select_in, select_rising, Rising, rising_unique}
use Rattle.rules.specs.CheckLaws.{Checked}
use Rattle.rules.proofs.CheckLaws.{passed}
use Rattle.rules.specs.CheckedSheet.{valid}
use Rattle.rules.specs.Candidates.{node_count, admitted, get_candidates}
use Rattle.rules.specs.Admission.{Admits, SomeAdmits}
use Rattle.rules.proofs.AdmissionLaws.{admits_in, admission, candidates, admitted_rises, candidates_rise}
use Rattle.candidates.specs.Layout.{rows_sets}
use Rattle.candidates.specs.Bits.{on}
use Rattle.candidates.specs.Build.{Candidates}

-- The ids of a list from one on.
unfoldable pub from_on : ℕ → Words → Words
from_on k xs = select (λ x. leb k x) xs

from_on_in : (k : ℕ) (xs : Words) (x : ℕ) → In x (from_on k xs) ↔ (In x xs × (k ≤ x))
unfolding from_on
from_on_in k xs x =
    let a = select_in (λ y. leb k y) xs x in
    (λ h. let r = a.0 h in (r.0, leb→le k x r.1), λ h. a.1 (h.0, le→leb k x h.1))

from_on_rises : (k : ℕ) (xs : Words) → Rising xs → Rising (from_on k xs)
unfolding from_on
from_on_rises k xs r = select_rising (λ y. leb k y) xs r

-- r is the first number from one on, and below n, that passes a test; n or more where there is none.
pub record First (f : ℕ → Bool) (from n r : ℕ) : Type 0 where
  pub up : from ≤ r
  pub below : (k : ℕ) → from ≤ k → k < r → k < n → f k ≡ false
  pub here : r < n → f r ≡ true

module _ (f : ℕ → Bool) (from n r : ℕ) (xs : Words) (rising : Rising xs) (are : (k : ℕ) → In k xs ↔ ((k < n) × T (f k))) (g : First f from n r) where
  -- Where it is found it is the next of the list,
  next_found : r < n → from_on from xs ≡ r ∷ from_on (r + 1) xs
  next_found h = rising_unique (from_on from xs) (r ∷ from_on (r + 1) xs) (from_on_rises from xs rising) (λ y i. omega (arith, ((from_on_in (r + 1) xs y).0 i).1), from_on_rises (r + 1) xs rising) (λ x. (there x, back x))
    where
      there : (x : ℕ) → In x (from_on from xs) → In x (r ∷ from_on (r + 1) xs)
      there x i = let a = (from_on_in from xs x).0 i in go a.0 a.1 (x - r) refl (r - x) refl
        where
          go : In x xs → from ≤ x → (d : ℕ) → x - r ≡ d → (e : ℕ) → r - x ≡ e → In x (r ∷ from_on (r + 1) xs)
          go m l zero p zero q = subst (λ z. In x (z ∷ from_on (r + 1) xs)) (let w : x ≡ r = omega arith in w) first
          go m l (suc d) p e q = later ((from_on_in (r + 1) xs x).1 (m, omega arith))
          go m l zero p (suc e) q = let b = (are x).0 m in absurd (subst T (g.below x l (omega arith) b.0) b.1)

      back : (x : ℕ) → In x (r ∷ from_on (r + 1) xs) → In x (from_on from xs)
      back x i = ⊎_elim (λ e. (from_on_in from xs x).1 ((are x).1 (subst (λ z. (z < n) × T (f z)) (sym e) (h, subst T (sym (g.here h)) tt)), omega (arith, g.up, e)))
          (λ m. let a = (from_on_in (r + 1) xs x).0 m in (from_on_in from xs x).1 (a.0, omega (arith, g.up, a.1))) (in_cases i)

  -- else the list is at its end.
  next_none : n ≤ r → from_on from xs ≡ []
  next_none h = rising_unique (from_on from xs) [] (from_on_rises from xs rising) tt (λ x. (λ i. absurd (gone x i), λ i. absurd (in_empty i)))
    where
      gone : (x : ℕ) → In x (from_on from xs) → ⊥
      gone x i =
          let a = (from_on_in from xs x).0 i in
          let b = (are x).0 a.0 in
          subst T (g.below x a.1 (omega (arith, b.0)) b.0) b.1

-- The set of some node among these has impl i.
unfoldable pub in_some : Words → Words → ℕ → Bool
in_some ws nodes i = any (λ n. on ws (rows_sets + 12 * n) i) nodes

-- Impl i is of a trait, and basic or not as asked.
unfoldable pub same : Bool → Bool → Bool
same true c = c
same false c = not c

unfoldable pub wanted : Words → ℕ → Bool → ℕ → Bool
wanted s t b i = eqb (impl_trait s i) (suc t) && same (impl_flag s flag_basic i) b

unfoldable pub tested : Words → Words → Words → ℕ → Bool → ℕ → Bool
tested s ws nodes t b i = wanted s t b i && in_some ws nodes i

same_iff : (a b : Bool) → T (same a b) ↔ (a ≡ b)
unfolding same
same_iff true true = (λ t. refl, λ e. tt)
same_iff true false = (λ t. absurd t, λ e. subst T e tt)
same_iff false true = (λ t. absurd t, λ e. subst T (sym e) tt)
same_iff false false = (λ t. refl, λ e. tt)

-- The sets of a source stand in the workspace, and these are nodes.
pub record Standing (s : Words) (src : ℕ) (ws nodes : Words) : Type 0 where
  pub checked : Checked s
  pub source : src < many s header_definitions
  pub sets : Candidates s src ws
  pub nodes_in : (n : ℕ) → In n nodes → n < node_count s

few_impls : (s : Words) → Checked s → many s header_impls ≤ 384
few_impls s c = omega (arith, (valid s (passed s c).values).impl_count)

set_admits : (s : Words) (src : ℕ) (ws : Words) → Checked s → src < many s header_definitions → Candidates s src ws → (n i : ℕ) → n < node_count s → i < many s header_impls → T (on ws (rows_sets + 12 * n) i) ↔ Admits s src n i
set_admits s src ws c h k n i hn hi = subst (λ b. T b ↔ Admits s src n i) (sym (k.sets n i hn (omega (arith, few_impls s c)))) (there, back)
  where
    there : T (is_in i (admitted s src (n ∷ []))) → Admits s src n i
    there t = let r = (admission s c src h (n ∷ []) i).0 ((is_in_in i (admitted s src (n ∷ []))).0 t) in ⊎_elim (λ e. subst (λ z. Admits s src z i) e r.3) (λ q. absurd (in_empty q)) (in_cases r.1)

    back : Admits s src n i → T (is_in i (admitted s src (n ∷ [])))
    back a = (is_in_in i (admitted s src (n ∷ []))).1 ((admission s c src h (n ∷ []) i).1 (n, first, hn, a))

some_admits : (s : Words) (src : ℕ) (ws nodes : Words) → Standing s src ws nodes → (i : ℕ) → i < many s header_impls → T (in_some ws nodes i) ↔ SomeAdmits s src nodes i
unfolding in_some
some_admits s src ws nodes d i hi = (there, back)
  where
    a : T (any (λ n. on ws (rows_sets + 12 * n) i) nodes) ↔ ((n : ℕ) × In n nodes × T (on ws (rows_sets + 12 * n) i))
    a = any_in (λ n. on ws (rows_sets + 12 * n) i) nodes

    there : T (any (λ n. on ws (rows_sets + 12 * n) i) nodes) → SomeAdmits s src nodes i
    there t = let r = a.0 t in let l = d.nodes_in r.0 r.1 in (r.0, r.1, l, (set_admits s src ws d.checked d.source d.sets r.0 i l hi).0 r.2)

    back : SomeAdmits s src nodes i → T (any (λ n. on ws (rows_sets + 12 * n) i) nodes)
    back r = a.1 (r.0, r.1, (set_admits s src ws d.checked d.source d.sets r.0 i r.2 hi).1 r.3)

-- Candidates are the impls that pass the test.
candidates_are : (s : Words) (src : ℕ) (ws nodes : Words) (t : ℕ) (b : Bool) → Standing s src ws nodes → (i : ℕ) → In i (get_candidates s src nodes t b) ↔ ((i < many s header_impls) × T (tested s ws nodes t b i))
unfolding tested wanted
candidates_are s src ws nodes t b d i = (there, back)
  where
    r : In i (get_candidates s src nodes t b) ↔ (SomeAdmits s src nodes i × (impl_trait s i ≡ suc t) × (impl_flag s flag_basic i ≡ b))
    r = candidates s d.checked src d.source nodes t b i

    w : T (wanted s t b i) ↔ (T (eqb (impl_trait s i) (suc t)) × T (same (impl_flag s flag_basic i) b))
    w = and_iff (eqb (impl_trait s i) (suc t)) (same (impl_flag s flag_basic i) b)

    a : T (wanted s t b i && in_some ws nodes i) ↔ (T (wanted s t b i) × T (in_some ws nodes i))
    a = and_iff (wanted s t b i) (in_some ws nodes i)

    there : In i (get_candidates s src nodes t b) → (i < many s header_impls) × T (wanted s t b i && in_some ws nodes i)
    there m =
        let q = r.0 m in
        let l = admits_in s d.checked src d.source q.0.0 i q.0.2 q.0.3 in
        (l, a.1 (w.1 (subst (λ z. T (eqb z (suc t))) (sym q.1) (eqb_refl (suc t)), (same_iff (impl_flag s flag_basic i) b).1 q.2), (some_admits s src ws nodes d i l).1 q.0))

    back : (i < many s header_impls) × T (wanted s t b i && in_some ws nodes i) → In i (get_candidates s src nodes t b)
    back m =
        let p = a.0 m.1 in
        let q = w.0 p.0 in
        r.1 ((some_admits s src ws nodes d i m.0).0 p.1, eqb→eq (impl_trait s i) (suc t) q.0, (same_iff (impl_flag s flag_basic i) b).0 q.1)

-- The next candidate from an id on, or the end of the list of candidates, for whatever source the sets stand there.
pub record NextCandidate (s ws nodes : Words) (t : ℕ) (b : Bool) (from r : ℕ) : Type 0 where
  pub up : from ≤ r
  pub found : (src : ℕ) → Standing s src ws nodes → r < many s header_impls → from_on from (get_candidates s src nodes t b) ≡ r ∷ from_on (r + 1) (get_candidates s src nodes t b)
  pub none : (src : ℕ) → Standing s src ws nodes → many s header_impls ≤ r → from_on from (get_candidates s src nodes t b) ≡ []

next_candidate : (s ws nodes : Words) (t : ℕ) (b : Bool) (from r : ℕ) → First (tested s ws nodes t b) from (many s header_impls) r → NextCandidate s ws nodes t b from r
next_candidate s ws nodes t b from r g = record {
  up = g.up;
  found = λ src d. next_found (tested s ws nodes t b) from (many s header_impls) r (get_candidates s src nodes t b) (candidates_rise s src nodes t b) (candidates_are s src ws nodes t b d) g;
  none = λ src d. next_none (tested s ws nodes t b) from (many s header_impls) r (get_candidates s src nodes t b) (candidates_rise s src nodes t b) (candidates_are s src ws nodes t b d) g;
}

-- Likewise the next impl that a node's set admits.
pub record NextAdmitted (s ws : Words) (node from r : ℕ) : Type 0 where
  pub up : from ≤ r
  pub found : (src : ℕ) → Standing s src ws (node ∷ []) → r < many s header_impls → from_on from (admitted s src (node ∷ [])) ≡ r ∷ from_on (r + 1) (admitted s src (node ∷ []))
  pub none : (src : ℕ) → Standing s src ws (node ∷ []) → many s header_impls ≤ r → from_on from (admitted s src (node ∷ [])) ≡ []

-- An id that is found, or the end of the ids from one on, of n in all.
abbrev pub id_or_end : ℕ → ℕ → Option ℕ → ℕ
id_or_end from n None = max from n
id_or_end from n (Some i) = i

-- What is found is one of the sheet's impls; its id, or the end where nothing is found, is the next.
pub record CandidateFrom (s ws nodes : Words) (t : ℕ) (b : Bool) (from : ℕ) (o : Option ℕ) : Type 0 where
  pub next : NextCandidate s ws nodes t b from (id_or_end from (many s header_impls) o)
  pub impl : IfSome o (λ i. i < many s header_impls)

pub record AdmittedFrom (s ws : Words) (node from : ℕ) (o : Option ℕ) : Type 0 where
  pub next : NextAdmitted s ws node from (id_or_end from (many s header_impls) o)
  pub impl : IfSome o (λ i. i < many s header_impls)

admitted_are : (s : Words) (src : ℕ) (ws : Words) (node : ℕ) → Standing s src ws (node ∷ []) → (i : ℕ) → In i (admitted s src (node ∷ [])) ↔ ((i < many s header_impls) × T (on ws (rows_sets + 12 * node) i))
admitted_are s src ws node d i = (there, back)
  where
    a : In i (admitted s src (node ∷ [])) ↔ SomeAdmits s src (node ∷ []) i
    a = admission s d.checked src d.source (node ∷ []) i

    l : node < node_count s
    l = d.nodes_in node first

    there : In i (admitted s src (node ∷ [])) → (i < many s header_impls) × T (on ws (rows_sets + 12 * node) i)
    there m =
        let q = a.0 m in
        let h = admits_in s d.checked src d.source q.0 i q.2 q.3 in
        (h, (set_admits s src ws d.checked d.source d.sets node i l h).1 (⊎_elim (λ e. subst (λ z. Admits s src z i) e q.3) (λ n. absurd (in_empty n)) (in_cases q.1)))

    back : (i < many s header_impls) × T (on ws (rows_sets + 12 * node) i) → In i (admitted s src (node ∷ []))
    back m = a.1 (node, first, l, (set_admits s src ws d.checked d.source d.sets node i l m.0).0 m.1)

next_admitted : (s ws : Words) (node from r : ℕ) → First (λ i. on ws (rows_sets + 12 * node) i) from (many s header_impls) r → NextAdmitted s ws node from r
next_admitted s ws node from r g = record {
  up = g.up;
  found = λ src d. next_found (λ i. on ws (rows_sets + 12 * node) i) from (many s header_impls) r (admitted s src (node ∷ [])) (admitted_rises s src (node ∷ [])) (admitted_are s src ws node d) g;
  none = λ src d. next_none (λ i. on ws (rows_sets + 12 * node) i) from (many s header_impls) r (admitted s src (node ∷ [])) (admitted_rises s src (node ∷ [])) (admitted_are s src ws node d) g;
}

-- By the nodes one after the other.
some_cons : (ws : Words) (n : ℕ) (nodes : Words) (i : ℕ) (b : Bool) → on ws (rows_sets + 12 * n) i ≡ b → in_some ws (n ∷ nodes) i ≡ (b || in_some ws nodes i)
unfolding in_some any
some_cons ws n nodes i true e = rw (e, in_some, any) refl
some_cons ws n nodes i false e = rw (e, in_some, any) refl

pub some_listed : (ws nodes : Words) (i : ℕ) → list_any (λ n. on ws (rows_sets + 12 * n) i) nodes ≡ in_some ws nodes i
unfolding in_some any
some_listed ws [] i = refl
some_listed ws (n ∷ nodes) i = ap (λ b. on ws (rows_sets + 12 * n) i || b) (some_listed ws nodes i) ∙ sym (some_cons ws n nodes i (on ws (rows_sets + 12 * n) i) refl)

-- The cases of trait and flag.
trait_differs : (s : Words) (t : ℕ) (b : Bool) (i : ℕ) → impl_trait s i ≢ suc t → false ≡ wanted s t b i
unfolding wanted
trait_differs s t b i h = sym (ap (λ c. c && same (impl_flag s flag_basic i) b) (ne_eqb (impl_trait s i) (suc t) h))

pub wanted_error : (s : Words) (t i w u : ℕ) (b : Bool) → w ≡ field s header_impls i 3 → u ≡ w → u ≡ 0 → false ≡ wanted s t b i
unfolding impl_trait
wanted_error s t i w u b e f z = trait_differs s t b i (λ q. omega (arith, sym q ∙ sym e ∙ sym f ∙ z))

pub wanted_other : (s : Words) (t i w u : ℕ) (b : Bool) → w ≡ field s header_impls i 3 → u ≡ w → u ≢ 0 → u - 1 ≢ t → false ≡ wanted s t b i
unfolding impl_trait
wanted_other s t i w u b e f z n = trait_differs s t b i (λ q. n (omega (arith, f ∙ e ∙ q)))

pub wanted_basic : (s : Words) (t i w u basic v : ℕ) → basic < 2 → w ≡ field s header_impls i 3 → u ≡ w → u ≢ 0 → u - 1 ≡ t → v ≡ field s header_impls i 2 → eqb (v / 2 % 2) basic ≡ wanted s t (eqb basic 1) i
unfolding wanted impl_trait impl_flag same
wanted_basic s t i w u basic v l e f z n k =
    sym (ap₂ (λ c d. c && same d (eqb basic 1)) (eq-eqb (impl_trait s i) (suc t) (sym e ∙ sym f ∙ (let q : u ≡ suc t = omega (arith, z) in q))) (ap (λ c. eqb (c / 2 % 2) 1) (sym k)) ∙ digits (v / 2 % 2) basic (omega arith) l)
  where
    digits : (x y : ℕ) → x < 2 → y < 2 → same (eqb x 1) (eqb y 1) ≡ eqb x y
    digits zero zero h j = refl
    digits zero (suc zero) h j = refl
    digits zero (suc (suc y)) h j = absurd (omega arith)
    digits (suc zero) zero h j = refl
    digits (suc zero) (suc zero) h j = refl
    digits (suc zero) (suc (suc y)) h j = absurd (omega arith)
    digits (suc (suc x)) y h j = absurd (omega arith)

beq_same : (x y : Bool) → beq x y ≡ same x y
unfolding same
beq_same true true = refl
beq_same true false = refl
beq_same false true = refl
beq_same false false = refl

-- By the trait of the impl's word, where it has one, and its flag.
pub wanted_flag : (s : Words) (t i w u : ℕ) (r b : Bool) → w ≡ field s header_impls i 3 → 1 ≤ w → u ≡ w - 1 → u ≡ t → r ≡ impl_flag s flag_basic i → beq r b ≡ wanted s t b i
unfolding wanted impl_trait
wanted_flag s t i w u r b e l f z k =
    ap (λ c. beq c b) k ∙ beq_same (impl_flag s flag_basic i) b ∙ ap (λ c. c && same (impl_flag s flag_basic i) b) (sym (eq-eqb (field s header_impls i 3) (suc t) (omega (arith, e))))

pub wanted_not : (s : Words) (t i w u : ℕ) (b : Bool) → w ≡ field s header_impls i 3 → 1 ≤ w → u ≡ w - 1 → u ≢ t → eqb u t ≡ wanted s t b i
wanted_not s t i w u b e l f z = ne_eqb u t z ∙ wanted_other s t i w w b e refl (omega arith) (λ q. z (f ∙ q))

pub wanted_none : (s : Words) (t i w : ℕ) (b : Bool) → w ≡ field s header_impls i 3 → (1 ≤ w → ⊥) → false ≡ wanted s t b i
wanted_none s t i w b e h = wanted_error s t i w w b e refl (omega arith)

pub tested_yes : (s ws nodes : Words) (t : ℕ) (b : Bool) (i : ℕ) (r q : Bool) → r ≡ wanted s t b i → r ≡ true → q ≡ in_some ws nodes i → q ≡ tested s ws nodes t b i
unfolding tested
tested_yes s ws nodes t b i r q e f g = g ∙ ap (λ c. c && in_some ws nodes i) (sym (sym e ∙ f))

pub tested_no : (s ws nodes : Words) (t : ℕ) (b : Bool) (i : ℕ) (r : Bool) → r ≡ wanted s t b i → r ≡ false → false ≡ tested s ws nodes t b i
unfolding tested
tested_no s ws nodes t b i r e f = ap (λ c. c && in_some ws nodes i) (sym (sym e ∙ f))

-- What a search of the ids below n from one on finds.
abbrev pub Finds : (ℕ → Bool) → ℕ → ℕ → Option ℕ → Type 0
Finds f from n o = MatchOption o ((k : ℕ) → from ≤ k → k < n → f k ≡ false) (λ i. (from ≤ i) × (i < n) × (f i ≡ true) × ((k : ℕ) → from ≤ k → k < i → f k ≡ false))

first_found : (f : ℕ → Bool) (from n : ℕ) (o : Option ℕ) → Finds f from n o → First f from n (id_or_end from n o)
first_found f from n None h = record { up = omega arith; below = λ k a b c. h k a c; here = λ l. absurd (omega arith) }
first_found f from n (Some i) h = record { up = h.0; below = λ k a b c. h.3 k a b; here = λ l. h.2 }

impl_found : (f : ℕ → Bool) (from n : ℕ) (o : Option ℕ) → Finds f from n o → IfSome o (λ i. i < n)
impl_found f from n None h = tt
impl_found f from n (Some i) h = h.1

pub candidate_from : (s ws nodes : Words) (t : ℕ) (b : Bool) (from n : ℕ) (o : Option ℕ) → n ≡ many s header_impls → Finds (tested s ws nodes t b) from n o → CandidateFrom s ws nodes t b from o
candidate_from s ws nodes t b from n o e h =
    let g : Finds (tested s ws nodes t b) from (many s header_impls) o = subst (λ k. Finds (tested s ws nodes t b) from k o) e h in
    record {
      next = next_candidate s ws nodes t b from (id_or_end from (many s header_impls) o) (first_found (tested s ws nodes t b) from (many s header_impls) o g);
      impl = impl_found (tested s ws nodes t b) from (many s header_impls) o g;
    }

pub admitted_from : (s ws : Words) (node from n : ℕ) (o : Option ℕ) → n ≡ many s header_impls → Finds (on ws (rows_sets + 12 * node)) from n o → AdmittedFrom s ws node from o
admitted_from s ws node from n o e h =
    let g : Finds (on ws (rows_sets + 12 * node)) from (many s header_impls) o = subst (λ k. Finds (on ws (rows_sets + 12 * node)) from k o) e h in
    record {
      next = next_admitted s ws node from (id_or_end from (many s header_impls) o) (first_found (on ws (rows_sets + 12 * node)) from (many s header_impls) o g);
      impl = impl_found (on ws (rows_sets + 12 * node)) from (many s header_impls) o g;
    }
