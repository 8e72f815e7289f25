-- A walk along a chain of one kind: what marks say, what holds on the way, and how a walk ends.
use Rattle.std.specs.Prelude.{ℕ, zero, suc, ◌+◌, ◌-◌, ◌≤◌, ◌<◌, ◌≡◌, refl, Bool, not, [], ◌∷◌, ◌≢◌, ◌⊎◌, T, eqb, leb, set}
use Rattle.std.specs.Borrow.{MutBor}
use Rattle.std.specs.ControlFlow.{MatchControlFlow}
use Rattle.std.specs.declared.ops.ControlFlow.{ControlFlow}
use Rattle.std.specs.declared.ops.ControlFlow.TheVariants.{Continue, Break}
use Rattle.std.proofs.Common.{sym, ◌∙◌, subst, inl, inr, arith, get_or-set_other}
use Rattle.std.proofs.Math.Path.{ap}
use Rattle.std.proofs.Math.Bool.{true, false}
use Rattle.std.proofs.Math.Decide.{ℕ_discrete}
use borrow.Author.Tests.{eqb-true, not-true, not-false}
use Rattle.std.proofs.Math.ListN.{length}
use Rattle.rules.specs.Lists.{Words}
use Rattle.rules.specs.Sheet.{at, chain, chain_of}
use Rattle.rules.specs.Chains.{zero_or_from, record_keeps, chain_keeps, head_keeps, no_heads}
use Rattle.rules.specs.ChainLaws.{sits_in, runs_step, runs_end}

-- The record at p keeps the rule, and so do the heads in it.
unfoldable pub ok_at : Words → ℕ → (ℕ → Bool) → ℕ → Bool
ok_at s len heads p = elim (record_keeps s len p) [ true ↦ heads p | false ↦ false ]

-- How far a walk that has come to place p may still go, in n words.
unfoldable pub left : ℕ → ℕ → ℕ
left n zero = 0
left n (suc p) = suc (n - suc p)

-- A chain keeps the rule from each place that the plane from b marks.
pub record Kept (s : Words) (len : ℕ) (heads : ℕ → Bool) (b : ℕ) (ws : Words) : Type 0 where
  pub is : (v : ℕ) → v < length s → at ws (b + v) ≡ 1 → chain_keeps s len heads v ≡ true

-- Words from c on are as they were, but for the n of the plane from b.
pub record Apart (c b n : ℕ) (ws us : Words) : Type 0 where
  pub below : (j : ℕ) → c ≤ j → j < b → at us j ≡ at ws j
  pub above : (j : ℕ) → c ≤ j → b + n ≤ j → at us j ≡ at ws j

-- The plane from b marks a place of the slice.
pub record Known (s : Words) (b p : ℕ) (ws : Words) (r : Bool) : Type 0 where
  pub inside : r ≡ true → p < length s
  pub marked : r ≡ true → at ws (b + p) ≡ 1

-- A record passed and is marked: words from c on are as they were but for the mark, and Q holds of the workspace.
pub record Tested (Q : Words → Type 0) (c : ℕ) (s : Words) (len : ℕ) (heads : ℕ → Bool) (b p : ℕ) (ws us : Words) : Type 0 where
  pub is : ok_at s len heads p ≡ true
  pub rest : Q us
  pub others : (j : ℕ) → c ≤ j → j ≢ b + p → at us j ≡ at ws j

-- What a test of a record tells: the walk ends where its place is marked, and where it does not pass; else it goes on.
abbrev pub Tells : (Words → Type 0) → ℕ → Words → ℕ → (ℕ → Bool) → ℕ → ℕ → Words → Words → ControlFlow Bool (Unit {0}) → Type 0
Tells Q c s len heads b p ws us (Continue u) = Tested Q c s len heads b p ws us
Tells Q c s len heads b p ws us (Break true) = Known s b p ws true × (us ≡ ws)
Tells Q c s len heads b p ws us (Break false) = ok_at s len heads p ≡ false

-- The same of a test without marks.
abbrev pub on : Bool → ControlFlow Bool (Unit {0})
on true = Continue tt
on false = Break false

-- A test that runs along some records, up to one where it ends the walk.
unfoldable pub Runs : (Words → ℕ → ControlFlow Bool (Unit {0}) → Words → Type 0) → Words → Words → Words → Bool → Type 0
Runs R [] us vs r = (us ≡ vs) × (r ≡ true)
Runs R (p ∷ ps) us vs r = (f : ControlFlow Bool (Unit {0})) × (xs : Words) × R us p f xs × MatchControlFlow f (λ u. Runs R ps xs vs r) (λ e. (xs ≡ vs) × (r ≡ e))

-- So along the chain from a head, where the head is not too low.
pub record Walks (R : Words → ℕ → ControlFlow Bool (Unit {0}) → Words → Type 0) (lo : ℕ) (s : Words) (h : ℕ) (ws vs : Words) (r : Bool) : Type 0 where
  pub low : zero_or_from lo h ≡ false → r ≡ false
  pub runs : zero_or_from lo h ≡ true → Runs R (chain s h) ws vs r

-- The calls of a closure as such a test: what it is lent, what it gives and what it leaves.
unfoldable pub Calls : (MutBor Words → ℕ → ControlFlow Bool (Unit {0}) → MutBor Words → Type 0) → Words → ℕ → ControlFlow Bool (Unit {0}) → Words → Type 0
Calls post us p f xs = (lent : MutBor Words) × (left : MutBor Words) × (lent.now ≡ us) × (left.now ≡ xs) × post lent p f left

-- What is promised of a test that passes, where it failed.
pub never : {A : Type 0} → false ≡ true → A
never e = absurd (subst T (sym e) tt)

module _ (R : Words → ℕ → ControlFlow Bool (Unit {0}) → Words → Type 0) where
  -- No record is left,
  pub runs_none : (rest us : Words) → rest ≡ [] → Runs R rest us us true
  unfolding Runs
  runs_none rest us e = subst (λ ps. Runs R ps us us true) (sym e) (refl, refl)

  module _ (p : ℕ) (rest more us xs : Words) (q : rest ≡ p ∷ more) where
    -- the test ends the walk at the first,
    pub runs_break : (e : Bool) → R us p (Break e) xs → Runs R rest us xs e
    unfolding Runs
    runs_break e a = subst (λ ps. Runs R ps us xs e) (sym q) (Break e, xs, a, (refl, refl))

    -- or goes on to the others.
    pub runs_more : (vs : Words) (r : Bool) → R us p (Continue tt) xs → Runs R more xs vs r → Runs R rest us vs r
    unfolding Runs
    runs_more vs r a n = subst (λ ps. Runs R ps us vs r) (sym q) (Continue tt, xs, a, n)

  module _ (lo : ℕ) (s : Words) (h : ℕ) (ws vs : Words) where
    pub walks_low : zero_or_from lo h ≡ false → Walks R lo s h ws vs false
    walks_low z = record { low = λ e. refl; runs = λ e. never (sym z ∙ e) }

    pub walks_from : (r : Bool) → zero_or_from lo h ≡ true → Runs R (chain s h) ws vs r → Walks R lo s h ws vs r
    walks_from r z n = record { low = λ e. never (sym e ∙ z); runs = λ e. n }

-- One call of a closure.
pub called : (post : MutBor Words → ℕ → ControlFlow Bool (Unit {0}) → MutBor Words → Type 0) (lent left : MutBor Words) (p : ℕ) (f : ControlFlow Bool (Unit {0})) → post lent p f left → Calls post lent.now p f left.now
unfolding Calls
called post lent left p f a = (lent, left, refl, refl, a)

-- What each call of it tells.
pub by_calls : (post : MutBor Words → ℕ → ControlFlow Bool (Unit {0}) → MutBor Words → Type 0) (P : Words → ℕ → ControlFlow Bool (Unit {0}) → Words → Type 0) → ((lent left : MutBor Words) (p : ℕ) (f : ControlFlow Bool (Unit {0})) → post lent p f left → P lent.now p f left.now) → (us : Words) (p : ℕ) (f : ControlFlow Bool (Unit {0})) (xs : Words) → Calls post us p f xs → P us p f xs
unfolding Calls
by_calls post P t us p f xs (lent, left, e, g, a) = subst (λ ws. P ws p f xs) e (subst (P lent.now p f) g (t lent left p f a))

-- A walk from head h is over. Where it found a chain that keeps the rule, all marks are right.
pub record Walked (Q : Words → Type 0) (c lo : ℕ) (s : Words) (len : ℕ) (heads : ℕ → Bool) (b h : ℕ) (ws us : Words) (r : Bool) : Type 0 where
  pub is : r ≡ head_keeps lo s len heads h
  pub rest : r ≡ true → Q us
  pub kept : r ≡ true → Kept s len heads b us
  pub apart : r ≡ true → Apart c b (length s) ws us

-- A walk from head h has come to place p. Marks ahead are right; its own, which lie behind, are right if the chain from p keeps the rule.
pub record Going (Q : Words → Type 0) (c : ℕ) (s : Words) (len : ℕ) (heads : ℕ → Bool) (b h p : ℕ) (ws us : Words) : Type 0 where
  pub same : chain_keeps s len heads h ≡ chain_keeps s len heads p
  pub rest : Q us
  pub ahead : (v : ℕ) → v < length s → p ≤ v → at us (b + v) ≡ 1 → chain_keeps s len heads v ≡ true
  pub behind : chain_keeps s len heads p ≡ true → Kept s len heads b us
  pub apart : Apart c b (length s) ws us

-- Nothing else is asked.
abbrev pub nothing : Words → Type 0
nothing ws = Unit {0}

ok_record : (s : Words) (len : ℕ) (heads : ℕ → Bool) (p : ℕ) → ok_at s len heads p ≡ true → T (record_keeps s len p)
unfolding ok_at
ok_record s len heads p e = go (record_keeps s len p) refl
  where
    go : (x : Bool) → record_keeps s len p ≡ x → T (record_keeps s len p)
    go true q = subst T (sym q) tt
    go false q = never (sym (ap (λ x. elim x as (λ b. Bool) [ true ↦ heads p | false ↦ false ]) q) ∙ e)

-- Where the record at p passes, the chain goes on as from its next; where it does not, no chain through it keeps the rule.
module _ (s : Words) (len : ℕ) (heads : ℕ → Bool) (p : ℕ) (long : 0 < len) (some : 0 < length s) (pos : p ≢ 0) where
  pub goes_on : ok_at s len heads p ≡ true → chain_keeps s len heads p ≡ chain_keeps s len heads (at s p)
  unfolding ok_at
  goes_on e = runs_step s len long heads p (omega arith) some ∙ ap (λ x. elim x as (λ b. Bool) [ true ↦ chain_keeps s len heads (at s p) | false ↦ false ]) e

  pub breaks : ok_at s len heads p ≡ false → chain_keeps s len heads p ≡ false
  unfolding ok_at
  breaks e = runs_step s len long heads p (omega arith) some ∙ ap (λ x. elim x as (λ b. Bool) [ true ↦ chain_keeps s len heads (at s p) | false ↦ false ]) e

  -- A walk ends.
  pub left_falls : (q : ℕ) → ok_at s len heads p ≡ true → q ≡ at s p → left (length s) q < left (length s) p
  unfolding left
  left_falls q e n = go p q pos room.0 (next room.1)
    where
      room : (p + len ≤ length s) × ((at s p ≡ 0) ⊎ (p + len ≤ at s p))
      room = (sits_in s len p).0 (ok_record s len heads p e)

      next : (at s p ≡ 0) ⊎ (p + len ≤ at s p) → (q ≡ 0) ⊎ (p < q)
      next (inl z) = inl (n ∙ z)
      next (inr l) = inr (omega arith)

      go : (p q : ℕ) → p ≢ 0 → p + len ≤ length s → (q ≡ 0) ⊎ (p < q) → left (length s) q < left (length s) p
      go zero q z l m = absurd (z refl)
      go (suc p) zero z l m = omega arith
      go (suc p) (suc q) z l (inl m) = absurd (omega arith)
      go (suc p) (suc q) z l (inr m) = omega arith

-- The test of a head.
pub head_zero : (lo h : ℕ) → h ≡ 0 → eqb h 0 ≡ zero_or_from lo h
unfolding zero_or_from
head_zero lo zero e = refl
head_zero lo (suc h) e = absurd (omega arith)

pub head_from : (lo h : ℕ) → h ≢ 0 → leb lo h ≡ zero_or_from lo h
unfolding zero_or_from
head_from lo zero d = absurd (d refl)
head_from lo (suc h) d = refl

-- Head h: too low, or its chain decides.
module _ (lo : ℕ) (s : Words) (len : ℕ) (heads : ℕ → Bool) (h : ℕ) where
  pub head_no : zero_or_from lo h ≡ false → false ≡ head_keeps lo s len heads h
  unfolding head_keeps
  head_no f = rw (f, head_keeps)

  pub head_yes : zero_or_from lo h ≡ true → (r : Bool) → r ≡ chain_keeps s len heads h → r ≡ head_keeps lo s len heads h
  unfolding head_keeps
  head_yes f r q = rw (f, head_keeps) q

-- The plane keeps what it has where others are written.
pub kept_below : (s : Words) (len : ℕ) (heads : ℕ → Bool) (a c b n : ℕ) (ws us : Words) → Kept s len heads a ws → Apart c b n ws us → c ≤ a → a + length s ≤ b → Kept s len heads a us
kept_below s len heads a c b n ws us k p l m = record { is = λ v i e. k.is v i (sym (p.below (a + v) (omega arith) (omega arith)) ∙ e) }

pub kept_above : (s : Words) (len : ℕ) (heads : ℕ → Bool) (a c b n : ℕ) (ws us : Words) → Kept s len heads a ws → Apart c b n ws us → c ≤ a → b + n ≤ a → Kept s len heads a us
kept_above s len heads a c b n ws us k p l m = record { is = λ v i e. k.is v i (sym (p.above (a + v) (omega arith) (omega arith)) ∙ e) }

-- Past the end there is no mark.
pub known_none : (s : Words) (b p : ℕ) (ws : Words) → Known s b p ws false
known_none s b p ws = record { inside = never; marked = never }

pub known_read : (s : Words) (b p : ℕ) (ws : Words) → p < length s → Known s b p ws (eqb (at ws (b + p)) 1)
known_read s b p ws l = record { inside = λ e. l; marked = eqb-true (at ws (b + p)) 1 }

-- A record that keeps the rule ends within the slice.
pub record_in : (s : Words) (len p : ℕ) (k : Bool) → k ≡ record_keeps s len p → not k ≡ false → p + len ≤ length s
record_in s len p k e f = ((sits_in s len p).0 (subst T (sym (sym e ∙ not-false k f)) tt)).0

-- The record at p passes or not.
module _ (s : Words) (len : ℕ) (heads : ℕ → Bool) (p : ℕ) (k : Bool) (e : k ≡ record_keeps s len p) where
  pub ok_no : not k ≡ true → false ≡ ok_at s len heads p
  unfolding ok_at
  ok_no f = rw (sym e ∙ not-true k f, ok_at)

  pub ok_yes : not k ≡ false → (r : Bool) → r ≡ heads p → r ≡ ok_at s len heads p
  unfolding ok_at
  ok_yes f r q = rw (sym e ∙ not-false k f, ok_at) q

-- A plain record, tested.
module _ (s : Words) (len b p : ℕ) (ws : Words) (k : Bool) (e : k ≡ record_keeps s len p) where
  pub plain_yes : not k ≡ false → Tested nothing 0 s len no_heads b p ws (set ws (b + p) 1)
  plain_yes f = record { is = sym (ok_yes s len no_heads p k e f true refl); rest = tt; others = λ j l d. get_or-set_other ws (b + p) j 1 0 d }

-- Walks.
module _ (Q : Words → Type 0) (c lo : ℕ) (s : Words) (len : ℕ) (heads : ℕ → Bool) (b h : ℕ) (ws : Words) where
  pub going_start : Kept s len heads b ws → Q ws → Going Q c s len heads b h h ws ws
  going_start k q = record { same = refl; rest = q; ahead = λ v l m e. k.is v l e; behind = λ e. k; apart = record { below = λ j l m. refl; above = λ j l m. refl } }

  pub walked_low : (vs : Words) → zero_or_from lo h ≡ false → Walked Q c lo s len heads b h ws vs false
  walked_low vs f = record { is = head_no lo s len heads h f; rest = never; kept = never; apart = never }

  module _ (p : ℕ) (us : Words) (long : 0 < len) (some : 0 < length s) (y : zero_or_from lo h ≡ true) (g : Going Q c s len heads b h p ws us) where
    over : chain_keeps s len heads p ≡ true → Walked Q c lo s len heads b h ws us true
    over k = record { is = head_yes lo s len heads h y true (sym (g.same ∙ k)); rest = λ t. g.rest; kept = λ t. g.behind k; apart = λ t. g.apart }

    pub walked_end : p ≡ 0 → Walked Q c lo s len heads b h ws us true
    walked_end n = over (ap (chain_keeps s len heads) n ∙ runs_end s len long heads)

    pub walked_known : Known s b p us true → Walked Q c lo s len heads b h ws us true
    walked_known k = over (g.ahead p (k.inside refl) (omega arith) (k.marked refl))

    pub walked_broken : (vs : Words) → p ≢ 0 → ok_at s len heads p ≡ false → Walked Q c lo s len heads b h ws vs false
    walked_broken vs n t = record {
      is = head_yes lo s len heads h y false (sym (g.same ∙ breaks s len heads p long some n t));
      rest = never;
      kept = never;
      apart = never;
    }

    pub going_on : (q : ℕ) (vs : Words) → c ≤ b → p ≢ 0 → Tested Q c s len heads b p us vs → q ≡ at s p → Going Q c s len heads b h q ws vs
    going_on q vs low n t m = record {
      same = g.same ∙ step;
      rest = t.rest;
      ahead = λ v l k e. later v l k e room.1;
      behind = behind;
      apart = record {
        below = λ j l k. t.others j l (λ z. absurd (omega arith)) ∙ g.apart.below j l k;
        above = λ j l k. t.others j l (λ z. absurd (omega (arith, room.0))) ∙ g.apart.above j l k;
      };
    }
      where
        room : (p + len ≤ length s) × ((at s p ≡ 0) ⊎ (p + len ≤ at s p))
        room = (sits_in s len p).0 (ok_record s len heads p t.is)

        step : chain_keeps s len heads p ≡ chain_keeps s len heads q
        step = goes_on s len heads p long some n t.is ∙ ap (chain_keeps s len heads) (sym m)

        old : (v : ℕ) → v ≢ p → at vs (b + v) ≡ at us (b + v)
        old v d = t.others (b + v) (omega arith) (λ z. d (omega arith))

        behind : chain_keeps s len heads q ≡ true → Kept s len heads b vs
        behind k = record { is = λ v l e. go v l e (ℕ_discrete v p) }
          where
            go : (v : ℕ) → v < length s → at vs (b + v) ≡ 1 → Dec (v ≡ p) → chain_keeps s len heads v ≡ true
            go v l e (yes d) = ap (chain_keeps s len heads) d ∙ step ∙ k
            go v l e (no d) = (g.behind (step ∙ k)).is v l (sym (old v d) ∙ e)

        later : (v : ℕ) → v < length s → q ≤ v → at vs (b + v) ≡ 1 → (at s p ≡ 0) ⊎ (p + len ≤ at s p) → chain_keeps s len heads v ≡ true
        later v l k e (inl z) = (behind (ap (chain_keeps s len heads) (m ∙ z) ∙ runs_end s len long heads)).is v l e
        later v l k e (inr w) = g.ahead v l (omega arith) (sym (old v (λ d. absurd (omega arith))) ∙ e)

pub left_short : (s : Words) → 0 < length s → (p : ℕ) → left (length s) p ≤ length s
unfolding left
left_short s some zero = omega arith
left_short s some (suc p) = omega arith

-- A walk whose test tells so much is over as the rule says.
module _ (Q : Words → Type 0) (c lo : ℕ) (s : Words) (len : ℕ) (heads : ℕ → Bool) (b h : ℕ) (ws : Words) (R : Words → ℕ → ControlFlow Bool (Unit {0}) → Words → Type 0) (long : 0 < len) (some : 0 < length s) (low : c ≤ b) (tells : (us : Words) (p : ℕ) (f : ControlFlow Bool (Unit {0})) (xs : Words) → Q us → R us p f xs → Tells Q c s len heads b p us xs f) where
  run_over : (y : zero_or_from lo h ≡ true) (k p : ℕ) (us vs : Words) (r : Bool) → left (length s) p ≤ k → Going Q c s len heads b h p ws us → Runs R (chain_of k s p) us vs r → Walked Q c lo s len heads b h ws vs r
  unfolding left chain_of Runs
  run_over y zero zero us vs r l g (e, t) = rw (t, sym e) (walked_end Q c lo s len heads b h ws 0 us long some y g refl)
  run_over y zero (suc p) us vs r l g n = absurd (omega arith)
  run_over y (suc k) zero us vs r l g (e, t) = rw (t, sym e) (walked_end Q c lo s len heads b h ws 0 us long some y g refl)
  run_over y (suc k) (suc p) us vs r l g (f, xs, a, n) = go f (tells us (suc p) f xs g.rest a) n (run_over y k (at s (suc p)) xs vs r)
    where
      go : (f : ControlFlow Bool (Unit {0})) → Tells Q c s len heads b (suc p) us xs f → MatchControlFlow f (λ u. Runs R (chain_of k s (at s (suc p))) xs vs r) (λ e. (xs ≡ vs) × (r ≡ e)) →
          (left (length s) (at s (suc p)) ≤ k → Going Q c s len heads b h (at s (suc p)) ws xs → Runs R (chain_of k s (at s (suc p))) xs vs r → Walked Q c lo s len heads b h ws vs r) → Walked Q c lo s len heads b h ws vs r
      go (Continue u) t n ih = ih (omega (arith, left_falls s len heads (suc p) long some (λ q. omega arith) (at s (suc p)) t.is refl)) (going_on Q c lo s len heads b h ws (suc p) us long some y g (at s (suc p)) xs low (λ q. omega arith) t refl) n
      go (Break true) t n ih = rw (n.1, sym n.0, t.1) (walked_known Q c lo s len heads b h ws (suc p) us long some y g t.0)
      go (Break false) t n ih = rw n.1 (walked_broken Q c lo s len heads b h ws (suc p) us long some y g vs (λ q. omega arith) t)

  pub walked : (vs : Words) (r : Bool) → Kept s len heads b ws → Q ws → Walks R lo s h ws vs r → Walked Q c lo s len heads b h ws vs r
  unfolding chain
  walked vs r k q w = go (zero_or_from lo h) refl
    where
      go : (z : Bool) → zero_or_from lo h ≡ z → Walked Q c lo s len heads b h ws vs r
      go true y = run_over y (length s) h ws vs r (left_short s some h) (going_start Q c lo s len heads b h ws k q) (w.runs y)
      go false y = rw (w.low y) (walked_low Q c lo s len heads b h ws vs y)
