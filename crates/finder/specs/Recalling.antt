-- Sub-questions that are known to find nothing, as the last ones that were asked of the same table did: what is noted of those, and what follows.
use Rattle.std.specs.Prelude.{ℕ, ◌+◌, ◌-◌, ◌*◌, ◌≤◌, ◌<◌, ◌≡◌, refl, Bool, true, List, [], ◌∷◌, eqb, ltb, length, drop, take, Option, Some, None, Ok}
use Rattle.std.proofs.Common.{sym, ◌∙◌, ap, subst, arith, get_or-take}
use Rattle.std.specs.Bool.{Decides}
use Rattle.std.specs.Cmp.Lexicographic.{pointwise}
use Rattle.std.specs.Cmp.{unsigned_Decides}
use Rattle.std.proofs.lemmas.Bool.Decides.{Decides-and, Decides-like}
use Rattle.std.proofs.lemmas.Slice.Eq.{slice_eq-Decides}
use Rattle.rules.specs.Lists.{Words}
use Rattle.rules.specs.Sheet.{at}
use Rattle.rules.specs.Types.{Types, ImplType}
use Rattle.rules.specs.Run.{Run, Out, got, free, asked, within}
use Rattle.rules.proofs.RunLaws.{run_alike}
use Rattle.rules.specs.Search.{Result, find_subimpls}
use Rattle.table.specs.Packing.{types_of, Packed}
use Rattle.table.specs.Nodes.{types_length}
use Rattle.slots.specs.declared.Results.{Results}
use Rattle.slots.specs.Slots.{table_move, slots_none}
use Rattle.slots.specs.Turns.{Answers, answers_found}
use Rattle.queries.specs.declared.Query.{Query}
use Rattle.queries.specs.declared.Queries.{Queries}
use Rattle.queries.specs.contracts.QueryPartialEq.TheImpl as query
use Rattle.queries.specs.contracts.QueriesPartialEq.TheImpl as queries
use Rattle.queries.specs.Queries.{queries_of}
use Rattle.finder.specs.declared.Nothing.{Nothing}
use Rattle.finder.specs.declared.Recall.{Recall}

-- Sub-questions that compare as equal are the same.
pub query_equal : (p q : Query) → Decides (query.eq-value.it p q) (p ≡ q)
query_equal p q =
    Decides-like (query.eq-value.it p q) (λ h i. record { tr = h.0 i; n = h.1.0 i; args = h.1.1 i }) (λ e. (ap (λ (r : Query). r.tr) e, (ap (λ (r : Query). r.n) e, ap (λ (r : Query). r.args) e)))
    (Decides-and _ _ (unsigned_Decides p.tr q.tr) (Decides-and _ _ (unsigned_Decides p.n q.n) (slice_eq-Decides unsigned_Decides p.args q.args _ refl)))

pub queries_equal : (p q : Queries) → Decides (queries.eq-value.it p q) (p ≡ q)
queries_equal p q =
    Decides-like (queries.eq-value.it p q) (λ h i. record { n = h.0 i; items = h.1 i }) (λ e. (ap (λ (r : Queries). r.n) e, ap (λ (r : Queries). r.items) e))
    (Decides-and _ _ (unsigned_Decides p.n q.n) (slice_eq-Decides query_equal p.items q.items _ refl))

-- r tells that two tables are the same.
pub record SameTable (a b : Words) (r : Bool) : Type 0 where
  pub is : r ≡ true → types_of b ≡ types_of a

-- It tells that their first n words are, which are those of the nodes of the first.
pub same_words : (a b : Words) (c n : ℕ) (r : Bool) → Packed a → 1025 ≤ length b → c ≡ length (types_of a) → n ≡ 4 * c + 1 → r ≡ pointwise eqb (take n a) (take n b) → SameTable a b r
same_words a b c n r p long ec en er = record {
  is = λ e. (table_move a b 0 0 (types_of a) long (λ i l m. ap (at b) (let z : 0 + i ≡ i = omega arith in z) ∙ sym (each e i (omega (arith, types_length a, p.few))) ∙ ap (at a) (let z : i ≡ 0 + i = omega arith in z)) (record { packed = p; is = refl })).is;
}
  where
    same : r ≡ true → take n a ≡ take n b
    same e = (slice_eq-Decides unsigned_Decides (take n a) (take n b) r er).0 e

    each : r ≡ true → (i : ℕ) → i < n → at a i ≡ at b i
    each e i l = sym (get_or-take n a i 0 l) ∙ ap (λ (x : Words). at x i) (same e) ∙ get_or-take n b i 0 l

-- Where o has steps, these sub-questions, of the table in ws, are the noted ones, which found nothing in so many; within the limit.
pub record Known (r : Recall) (ws : Words) (qs : Queries) (L count : ℕ) (o : Option ℕ) : Type 0 where
  pub table : (k : ℕ) → o ≡ Some k → types_of r.table ≡ types_of ws
  pub nothing : (k : ℕ) → o ≡ Some k → r.nothing ≡ Some (record { questions = qs; steps = k })
  pub fits : (k : ℕ) → o ≡ Some k → count + k ≤ L

pub known_same : (r : Recall) (ws : Words) (qs : Queries) (L count : ℕ) (k : Nothing) (x y : Bool) → r.nothing ≡ Some k → x ≡ queries.eq-value.it k.questions qs → x ≡ true → SameTable ws r.table y → y ≡ true → count ≤ L → k.steps ≤ L - count → Known r ws qs L count (Some k.steps)
known_same r ws qs L count k x y e ex t s ty low fits = record {
  table = λ j p. s.is ty;
  nothing = λ j p. e ∙ (λ i. Some (record { questions = same i; steps = steps j p i }));
  fits = λ j p. omega (arith, steps j p);
}
  where
    same : k.questions ≡ qs
    same = (queries_equal k.questions qs).0 (sym ex ∙ t)

    steps : (j : ℕ) → ◌≡◌ {A = Option ℕ} (Some k.steps) (Some j) → k.steps ≡ j
    steps j p = cc

-- The table in ws is noted, and nothing is known.
pub record Noted (ts : Types) (r : Recall) : Type 0 where
  pub table : types_of r.table ≡ ts
  pub unknown : r.nothing ≡ None

-- Where o has steps, nothing was found after so many, within the limit.
pub record ToNothing (found : Results) (L count : ℕ) (o : Option ℕ) : Type 0 where
  pub steps : (k : ℕ) → o ≡ Some k → found ≡ record { n = 0; count = count + k }
  pub fits : (k : ℕ) → o ≡ Some k → count + k ≤ L

-- Where nothing was known, and now is, it is of these sub-questions; the table is as it was.
pub record Keeps (r r' : Recall) (qs : Queries) (found : Results) (L count : ℕ) : Type 0 where
  pub table : r'.table ≡ r.table
  pub nothing : (k : Nothing) → r.nothing ≡ None → r'.nothing ≡ Some k → (k.questions ≡ qs) × ToNothing found L count (Some k.steps)

-- The noted sub-questions, of the noted table, find nothing after the noted steps.
pub record Recalls (ask : Types → ImplType → Run (List Result)) (r : Recall) : Type 0 where
  pub none : (k : Nothing) → r.nothing ≡ Some k → free (find_subimpls ask (types_of r.table) (queries_of k.questions)) ≡ got []
  pub steps : (k : Nothing) → r.nothing ≡ Some k → asked (find_subimpls ask (types_of r.table) (queries_of k.questions)) ≡ k.steps

-- At first nothing is known, and where it is noted what is to be asked.
pub recalls_unknown : (ask : Types → ImplType → Run (List Result)) (r : Recall) → r.nothing ≡ None → Recalls ask r
recalls_unknown ask r u = record { none = λ k e. absurd (no k e); steps = λ k e. absurd (no k e) }
  where
    no : (k : Nothing) → r.nothing ≡ Some k → ⊥
    no k e = let z : ◌≡◌ {A = Option Nothing} None (Some k) = sym u ∙ e in cc

-- What is recalled is the answer.
pub recalled_answers : (ask : Types → ImplType → Run (List Result)) (r : Recall) (ws : Words) (qs : Queries) (L count : ℕ) (o : Option ℕ) (k : ℕ) → L ≤ 4000000000 → Recalls ask r → Known r ws qs L count o → o ≡ Some k →
    Answers (within (ltb L) (find_subimpls ask (types_of ws) (drop 0 (queries_of qs))) count) (Ok (record { n = 0; count = count + k })) ws
recalled_answers ask r ws qs L count o k low h g e =
    answers_found _ (record { n = 0; count = count + k }) [] ws
    ((run_alike L (find_subimpls ask (types_of ws) (queries_of qs)) count).free_low (omega (arith, taken, g.fits k e)) ∙ (λ i. (nothing i, count + taken i)))
    (omega (arith, g.fits k e)) refl (omega arith) (slots_none ws 1282)
  where
    nothing : free (find_subimpls ask (types_of ws) (queries_of qs)) ≡ got []
    nothing = subst (λ (ts : Types). free (find_subimpls ask ts (queries_of qs)) ≡ got []) (g.table k e) (h.none (record { questions = qs; steps = k }) (g.nothing k e))

    taken : asked (find_subimpls ask (types_of ws) (queries_of qs)) ≡ k
    taken = subst (λ (ts : Types). asked (find_subimpls ask ts (queries_of qs)) ≡ k) (g.table k e) (h.steps (record { questions = qs; steps = k }) (g.nothing k e))

-- What was asked and found nothing is kept.
module _ (ask : Types → ImplType → Run (List Result)) (ws out : Words) (qs : Queries) (L count : ℕ) (r r' : Recall) (found : Results) (n : Noted (types_of ws) r)
    (w : Answers (within (ltb L) (find_subimpls ask (types_of ws) (drop 0 (queries_of qs))) count) (Ok found) out) (e : Keeps r r' qs found L count) where
  nil : (rs : List Result) → length rs ≡ 0 → rs ≡ []
  nil [] l = refl
  nil (r ∷ rs) l = absurd (omega arith)

  module _ (k : Nothing) (known : r'.nothing ≡ Some k) where
    end : ToNothing found L count (Some k.steps)
    end = (e.nothing k n.unknown known).1

    came : within (ltb L) (find_subimpls ask (types_of ws) (queries_of qs)) count ≡ (got [], count + k.steps)
    came = let o = w.found (record { n = 0; count = count + k.steps }) (λ i. Ok (end.steps k.steps refl i)) in o.is ∙ (λ i. (got (nil o.results o.size i), count + k.steps))

    same : find_subimpls ask (types_of ws) (queries_of qs) ≡ find_subimpls ask (types_of r'.table) (queries_of k.questions)
    same = (λ i. find_subimpls ask (sym (ap types_of e.table ∙ n.table) i) (queries_of (sym (e.nothing k n.unknown known).0 i)))

    runs : ◌≡◌ {A = Out (List Result) × ℕ} (got [], count + k.steps) (free (find_subimpls ask (types_of r'.table) (queries_of k.questions)), count + asked (find_subimpls ask (types_of r'.table) (queries_of k.questions)))
    runs = sym came ∙ (run_alike L (find_subimpls ask (types_of ws) (queries_of qs)) count).run_low (subst (λ (o : Out (List Result) × ℕ). o.1 ≤ L) (sym came) (end.fits k.steps refl)) ∙ ap (λ (m : Run (List Result)). (free m, count + asked m)) same

  pub kept_recalls : Recalls ask r'
  kept_recalls = record {
    none = λ k l. sym (ap (λ (o : Out (List Result) × ℕ). o.0) (runs k l));
    steps = λ k l. omega (arith, ap (λ (o : Out (List Result) × ℕ). o.1) (runs k l));
  }
