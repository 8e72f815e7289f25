-- Laws of verdicts, of binding an unknown, of joining on success, and of the tests on two known types.
use Rattle.std.specs.Prelude.{ℕ, ◌/◌, ◌<◌, ◌≡◌, refl, Bool, true, false, not, ◌&&◌, ◌||◌, ◌≢◌, eqb, length}
use Rattle.std.proofs.Math.Path.{sym, ap}
use Rattle.std.proofs.Common.{◌∙◌, ap₂, inl, inr, eq-eqb, ne_eqb}
use Rattle.rules.specs.Lists.{Words}
use Rattle.rules.specs.Sheet.{kind_flag, row_may_meet}
use Rattle.rules.specs.Types.{Types, xor, occurs, and, from_bool, success, join, Unified, join_on_success, bind_unknown}
use Rattle.rules.specs.Transfer.{type_of_word}
use Rattle.table.specs.Packing.{types_of, kind_at, inverted_at, id_at, Packed, Becomes, Roots, Good}
use Rattle.memo.specs.Memo.{Forgets, Aside, forgets_aside}
use Rattle.memo.specs.declared.verdict.UnifyResult.{UnifyResult}
use Rattle.memo.specs.declared.verdict.UnifyResult.TheVariants.{Success, Failure, Indeterminate}
use Rattle.memo.specs.Verdicts.{result_of}
use Rattle.unify.specs.Results.{Meets, met_inverted}
use Rattle.unify.specs.Trying.{Binds}

module _ (a b : UnifyResult) where
  pub and_success : a ≡ Success → result_of b ≡ and (result_of a) (result_of b)
  unfolding result_of
  and_success e = sym (ap (λ (x : UnifyResult). and (result_of x) (result_of b)) e)

  pub and_failure : a ≡ Failure → result_of Failure ≡ and (result_of a) (result_of b)
  unfolding result_of
  and_failure e = sym (ap (λ (x : UnifyResult). and (result_of x) (result_of b)) e)

  and_both : (x y : UnifyResult) → a ≡ x → b ≡ y → and (result_of x) (result_of y) ≡ and (result_of a) (result_of b)
  and_both x y e q = sym (ap₂ (λ (v w : UnifyResult). and (result_of v) (result_of w)) e q)

  pub and_on : a ≡ Indeterminate → b ≡ Success → result_of Indeterminate ≡ and (result_of a) (result_of b)
  unfolding result_of
  and_on e q = and_both Indeterminate Success e q

  pub and_fails : a ≡ Indeterminate → b ≡ Failure → result_of Failure ≡ and (result_of a) (result_of b)
  unfolding result_of
  and_fails e q = and_both Indeterminate Failure e q

  pub and_stays : a ≡ Indeterminate → b ≡ Indeterminate → result_of Indeterminate ≡ and (result_of a) (result_of b)
  unfolding result_of
  and_stays e q = and_both Indeterminate Indeterminate e q

pub from_true : (b : Bool) → b ≡ true → result_of Success ≡ from_bool b
unfolding result_of from_bool
from_true b e = sym (ap from_bool e)

pub from_false : (b : Bool) → b ≡ false → result_of Failure ≡ from_bool b
unfolding result_of from_bool
from_false b e = sym (ap from_bool e)

-- A step that joined, and one that did not.
joins_now : {ts : Types} (us ms ns : Words) {m : Unified} → Forgets ms ns → Meets us Success m → Binds ts ms us ns Success m
unfolding result_of
joins_now us ms ns f m = record { meets = m; moves = record { either = inr (f, refl) } }

stays_now : (ws ms ns : Words) {v : UnifyResult} {m : Unified} → Aside ms ns → Meets ws v m → Binds (types_of ws) ms ws ns v m
stays_now ws ms ns a m = record { meets = m; moves = record { either = inl (refl, a) } }

aside_same : (ms : Words) → Aside ms ms
aside_same ms = record { len = refl; rest = λ i h. refl }

-- Two roots, whose children were met with verdict v.
module _ (ws : Words) (v : UnifyResult) (x y : ℕ) where
  pub success_roots : v ≡ Success → (result_of v ≡ success → Roots (types_of ws) (type_of_word x) (type_of_word y)) → Roots (types_of ws) (type_of_word x) (type_of_word y)
  unfolding result_of
  success_roots e f = f (ap result_of e)

  pub success_joins : (us ms ns : Words) → v ≡ Success → Becomes us (join (types_of ws) (type_of_word x) (type_of_word y)) → Forgets ms ns → Binds (types_of ws) ms us ns Success (join_on_success (result_of v, types_of ws) (type_of_word x) (type_of_word y))
  unfolding result_of join_on_success
  success_joins us ms ns e w f = joins_now us ms ns f (record { packed = w.packed; is = ap {B = Unified} (λ (ts : Types). (success, ts)) w.is ∙ sym (ap (λ (u : UnifyResult). join_on_success (result_of u, types_of ws) (type_of_word x) (type_of_word y)) e) })

  pub failure_stays : (ms : Words) → v ≡ Failure → Packed ws → Binds (types_of ws) ms ws ms Failure (join_on_success (result_of v, types_of ws) (type_of_word x) (type_of_word y))
  unfolding result_of join_on_success
  failure_stays ms e g = stays_now ws ms ms (aside_same ms) (record { packed = g; is = sym (ap (λ (u : UnifyResult). join_on_success (result_of u, types_of ws) (type_of_word x) (type_of_word y)) e) })

  pub indeterminate_stays : (ms : Words) → v ≡ Indeterminate → Packed ws → Binds (types_of ws) ms ws ms Indeterminate (join_on_success (result_of v, types_of ws) (type_of_word x) (type_of_word y))
  unfolding result_of join_on_success
  indeterminate_stays ms e g = stays_now ws ms ms (aside_same ms) (record { packed = g; is = sym (ap (λ (u : UnifyResult). join_on_success (result_of u, types_of ws) (type_of_word x) (type_of_word y)) e) })

-- The nodes of two roots are there.
pub left_there : (ts : Types) (x y : ℕ) → Roots ts (type_of_word x) (type_of_word y) → x / 2 < length ts
unfolding type_of_word
left_there ts x y r = r.left_in

pub right_there : (ts : Types) (x y : ℕ) → Roots ts (type_of_word x) (type_of_word y) → y / 2 < length ts
unfolding type_of_word
right_there ts x y r = r.right_in

-- Either of two roots in the other: a says whether the first is in the second, b the other way round.
pub occurs_first : (ts : Types) (x y : ℕ) (a : Bool) → a ≡ occurs ts (x / 2) (type_of_word y) → a ≡ true → true ≡ (occurs ts (x / 2) (type_of_word y) || occurs ts (y / 2) (type_of_word x))
occurs_first ts x y a e q = sym (ap (λ (c : Bool). c || occurs ts (y / 2) (type_of_word x)) (sym e ∙ q))

pub occurs_second : (ts : Types) (x y : ℕ) (a b : Bool) → a ≡ occurs ts (x / 2) (type_of_word y) → a ≡ false → b ≡ occurs ts (y / 2) (type_of_word x) → b ≡ (occurs ts (x / 2) (type_of_word y) || occurs ts (y / 2) (type_of_word x))
occurs_second ts x y a b e q f = f ∙ sym (ap (λ (c : Bool). c || occurs ts (y / 2) (type_of_word x)) (sym e ∙ q))

-- An unknown and another root: a says whether either occurs in the other.
module _ (ws : Words) (x y : ℕ) (a : Bool) (ea : a ≡ (occurs (types_of ws) (x / 2) (type_of_word y) || occurs (types_of ws) (y / 2) (type_of_word x))) where
  pub bind_fails : (ms ns : Words) → a ≡ true → Good ws → Aside ms ns → Binds (types_of ws) ms ws ns Failure (bind_unknown (types_of ws) (type_of_word x) (type_of_word y))
  unfolding result_of bind_unknown type_of_word
  bind_fails ms ns e g z = stays_now ws ms ns z (record { packed = g.packed; is = sym (rw (sym ea ∙ e, bind_unknown)) })

  pub bind_joins : (us ms os ns : Words) → a ≡ false → Becomes us (join (types_of ws) (type_of_word x) (type_of_word y)) → Aside ms os → Forgets os ns → Binds (types_of ws) ms us ns Success (bind_unknown (types_of ws) (type_of_word x) (type_of_word y))
  unfolding result_of bind_unknown type_of_word
  bind_joins us ms os ns e w sd f = joins_now us ms ns (forgets_aside ms os ns sd f) (record { packed = w.packed; is = ap {B = Unified} (λ (ts : Types). (success, ts)) w.is ∙ sym (rw (sym ea ∙ e, bind_unknown)) })

-- Whether two roots meet inverted.
pub met : (ts : Types) (x y : ℕ) (i ix j jy a b r : Bool) → i ≡ inverted_at ts (x / 2) → ix ≡ (type_of_word x).0 → a ≡ xor i ix → j ≡ inverted_at ts (y / 2) → jy ≡ (type_of_word y).0 → b ≡ xor j jy → r ≡ xor a b → r ≡ met_inverted ts (type_of_word x) (type_of_word y)
unfolding met_inverted type_of_word
met ts x y i ix j jy a b r ei eix ea ej ejy eb er = er ∙ ap₂ (λ (p q : Bool). xor p q) (ea ∙ ap₂ (λ (p q : Bool). xor p q) ei eix) (eb ∙ ap₂ (λ (p q : Bool). xor p q) ej ejy)

-- Whether two nodes may meet: kinds k and k', ids d and d'.
module _ (s : Words) (ts : Types) (x y k k' d : ℕ) (inv : Bool) (ek : k ≡ kind_at ts x) (ek' : k' ≡ kind_at ts y) (ed : d ≡ id_at ts x) where
  test : (d' : ℕ) → d' ≡ id_at ts y → (eqb k k' && eqb d d' && (not inv || kind_flag s row_may_meet k d)) ≡ (eqb (kind_at ts x) (kind_at ts y) && eqb (id_at ts x) (id_at ts y) && (not inv || kind_flag s row_may_meet (kind_at ts x) (id_at ts x)))
  test d' ed' = cc

  pub other_kind : k ≢ k' → false ≡ (eqb (kind_at ts x) (kind_at ts y) && eqb (id_at ts x) (id_at ts y) && (not inv || kind_flag s row_may_meet (kind_at ts x) (id_at ts x)))
  other_kind n = sym (ap (λ (b : Bool). b && eqb d (id_at ts y) && (not inv || kind_flag s row_may_meet k d)) (ne_eqb k k' n)) ∙ test (id_at ts y) refl

  module _ (d' : ℕ) (ed' : d' ≡ id_at ts y) (e : k ≡ k') where
    pub other_id : d ≢ d' → false ≡ (eqb (kind_at ts x) (kind_at ts y) && eqb (id_at ts x) (id_at ts y) && (not inv || kind_flag s row_may_meet (kind_at ts x) (id_at ts x)))
    other_id n = sym (ap₂ (λ (b c : Bool). b && c && (not inv || kind_flag s row_may_meet k d)) (eq-eqb k k' e) (ne_eqb d d' n)) ∙ test d' ed'

    flagged : d ≡ d' → (not inv || kind_flag s row_may_meet k d) ≡ (eqb (kind_at ts x) (kind_at ts y) && eqb (id_at ts x) (id_at ts y) && (not inv || kind_flag s row_may_meet (kind_at ts x) (id_at ts x)))
    flagged q = sym (ap₂ (λ (b c : Bool). b && c && (not inv || kind_flag s row_may_meet k d)) (eq-eqb k k' e) (eq-eqb d d' q)) ∙ test d' ed'

    pub meet_flag : (r : Bool) (kw dw : ℕ) → d ≡ d' → inv ≡ true → kw ≡ k → dw ≡ d → r ≡ kind_flag s row_may_meet kw dw → r ≡ (eqb (kind_at ts x) (kind_at ts y) && eqb (id_at ts x) (id_at ts y) && (not inv || kind_flag s row_may_meet (kind_at ts x) (id_at ts x)))
    meet_flag r kw dw q i ew eu er = er ∙ ap₂ (kind_flag s row_may_meet) ew eu ∙ sym (ap (λ (b : Bool). not b || kind_flag s row_may_meet k d) i) ∙ flagged q

    pub meet_upright : d ≡ d' → inv ≡ false → true ≡ (eqb (kind_at ts x) (kind_at ts y) && eqb (id_at ts x) (id_at ts y) && (not inv || kind_flag s row_may_meet (kind_at ts x) (id_at ts x)))
    meet_upright q i = sym (ap (λ (b : Bool). not b || kind_flag s row_may_meet k d) i) ∙ flagged q
