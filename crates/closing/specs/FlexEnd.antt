-- The end of a flex call put together: the last imports (14), their join (26), the closing join, and the answer.
use Rattle.std.specs.Prelude.{ℕ, ◌/◌, ◌≤◌, ◌<◌, ◌≡◌, Bool, false, ◌≢◌, ltb, Option, Some, None, Ok, Err}
use Rattle.std.specs.Prelude.{Result as Tried}
use Rattle.std.specs.Option.{option_or}
use Rattle.std.proofs.Math.Path.{refl, sym, ap, subst}
use Rattle.std.proofs.Common.{◌∙◌, ap₂, true≢false, arith, lt-ltb, le-ltb}
use Rattle.std.proofs.Math.Bool.{true}
use mathlib.Core.List.{List, [], ◌∷◌, ◌++◌}
use Rattle.std.proofs.Math.ListN.{length}
use Rattle.rules.specs.Lists.{Words}
use Rattle.rules.specs.Limits.{limit_nodes}
use Rattle.rules.specs.Types.{Ty, Types, success, failure, indeterminate, Unified}
use Rattle.rules.specs.Types as rules
use Rattle.rules.specs.Solutions.{AllIn}
use Rattle.rules.specs.Transfer.{type_of_word}
use Rattle.rules.specs.Run.{Out, got, refused}
use Rattle.rules.specs.Search.{Result}
use Rattle.rules.specs.Answer.{answer}
use Rattle.rules.specs.Calls.{first_tree, import_result, unify_first, answer_after}
use Rattle.rules.specs.Neat.{Neat, in_more, Brought}
use Rattle.refusals.specs.declared.Refusal.{Refusal}
use Rattle.refusals.specs.Numbers.{verdict_number}
use Rattle.table.specs.Packing.{types_of, Packed}
use Rattle.table.specs.Nodes.{types_few}
use Rattle.closing.specs.Impl.{Closed}
use Rattle.closing.specs.Flex.{types_if, failed, First, Offers, Brings, first_brought, JoinsFirst, WritesFlex}

-- The first of two types that may be absent.
first_of : (s : Words) (ts : Types) (t : Ty) (x y : Option ℕ) → unify_first s ts (t ∷ []) (types_if x ++ types_if y) ≡ unify_first s ts (t ∷ []) (types_if (option_or x y))
unfolding unify_first
first_of s ts t (Some x) y = refl
first_of s ts t None (Some y) = refl
first_of s ts t None None = refl

-- The caller's table, and the type as asked.
pub record Caller (ws : Words) (t : ℕ) : Type 0 where
  pub packed : Packed ws
  pub neat : Neat (types_of ws)
  pub asked : t / 2 < length (types_of ws)

-- With what the last imports brought, each of which may be absent; n is how many nodes the question had.
pub record Joining (ws : Words) (t : ℕ) (x y : Option ℕ) (n : ℕ) : Type 0 where
  pub caller : Caller ws t
  pub left : AllIn (length (types_of ws)) (types_if x)
  pub right : AllIn (length (types_of ws)) (types_if y)
  pub long : n ≤ length (types_of ws)

-- The types that the closing join leaves.
unfoldable pub closing_join : Words → Types → ℕ → Option ℕ → Option ℕ → Types
closing_join s ts t x y = (unify_first s ts (type_of_word t ∷ []) (types_if x ++ types_if y)).1

module _ (ws : Words) (t : ℕ) (x y : Option ℕ) (n : ℕ) (j : Joining ws t x y n) where
  -- After the first join.
  pub joining_on : (s us : Words) (r : Bool) → JoinsFirst s (types_of ws) (types_if x) (types_if y) us r → Joining us t x y n
  joining_on s us r k =
      let e : length (types_of us) ≡ length (types_of ws) = k.joined.len in
      record {
        caller = record { packed = k.packed; neat = k.joined.neat; asked = omega (arith, j.caller.asked) };
        left = subst (λ m. AllIn m (types_if x)) (sym e) j.left;
        right = subst (λ m. AllIn m (types_if y)) (sym e) j.right;
        long = omega (arith, j.long);
      }

  pub joining_asked : AllIn (length (types_of ws)) (types_if (Some t))
  unfolding type_of_word
  joining_asked = (j.caller.asked, tt)

  -- The closing join.
  module _ (z : Option ℕ) (ez : z ≡ option_or x y) where
    module _ (s us : Words) (r : Bool) (k : JoinsFirst s (types_of ws) (types_if (Some t)) (types_if z) us r) where
      pub closing_writes : (fork drop : Option Words) (inv self : Bool) (buf out : Words) → WritesFlex fork drop inv self (types_of us) n buf out → WritesFlex fork drop inv self (closing_join s (types_of ws) t x y) n buf out
      unfolding closing_join
      closing_writes fork drop inv self buf out w = subst (λ (ts : Types). WritesFlex fork drop inv self ts n buf out) same w
        where
          same : types_of us ≡ (unify_first s (types_of ws) (type_of_word t ∷ []) (types_if x ++ types_if y)).1
          same = k.is ∙ ap (λ (m : Unified). m.1) (ap (λ (o : Option ℕ). unify_first s (types_of ws) (type_of_word t ∷ []) (types_if o)) ez ∙ sym (first_of s (types_of ws) (type_of_word t) x y))

-- The two joins and the answer, by the rule: xs and ys are fork's type and drop's, each of which may be absent.
unfoldable pub flex_joining : Words → Types → Ty → List Ty → List Ty → Bool → Bool → ℕ → List Result → List Result → Out Words
flex_joining s ts ty xs ys inv self n fork drop =
    let m = unify_first s ts xs ys in
    let found = got (answer (first_tree fork) (first_tree drop) inv self n (unify_first s m.1 (ty ∷ []) (xs ++ ys)).1) in
    elim m.0 [ failure ↦ refused 26 | success ↦ found | indeterminate ↦ found ]

pub record ClosesJoined (s : Words) (ts : Types) (t : ℕ) (x : Option ℕ) (fork : Option Words) (y : Option ℕ) (drop : Option Words) (inv self : Bool) (n : ℕ) (buf out : Words) (r : ℕ) : Type 0 where
  pub closes : (fs gs : List Result) → First fork fs → First drop gs → Closed (flex_joining s ts (type_of_word t) (types_if x) (types_if y) inv self n fs gs) buf out r

-- What comes to a refusal, or to an answer.
pub closed_refused : (o : Out Words) (buf : Words) (n : ℕ) → n ≢ 0 → o ≡ refused n → Closed o buf buf n
unfolding answer_after
closed_refused o buf n z e = record { answers = λ h. absurd (z h); refuses = λ h. e; after = sym (ap (λ (p : Out Words). answer_after p buf) e) }

pub closed_got : (o : Out Words) (buf out ws : Words) → o ≡ got ws → out ≡ answer_after (got ws) buf → Closed o buf out 0
closed_got o buf out ws e h = record { answers = λ z. record { words = ws; is = e }; refuses = λ z. absurd (z refl); after = h ∙ sym (ap (λ (p : Out Words). answer_after p buf) e) }

module _ (s ws us : Words) (t : ℕ) (x : Option ℕ) (fork : Option Words) (y : Option ℕ) (drop : Option Words) (inv self : Bool) (n : ℕ) (r : Bool) (k : JoinsFirst s (types_of ws) (types_if x) (types_if y) us r) where
  abbrev join_verdict : Unified
  join_verdict = unify_first s (types_of ws) (types_if x) (types_if y)

  pub joined_fails : (buf : Words) → r ≡ true → ClosesJoined s (types_of ws) t x fork y drop inv self n buf buf 26
  unfolding flex_joining failed
  joined_fails buf e = record { closes = λ fs gs p q. closed_refused _ buf 26 (λ z. omega arith) (go fs gs join_verdict.0 refl (sym k.verdict ∙ e)) }
    where
      go : (fs gs : List Result) (v : rules.UnifyResult) → join_verdict.0 ≡ v → failed join_verdict.0 ≡ true → flex_joining s (types_of ws) (type_of_word t) (types_if x) (types_if y) inv self n fs gs ≡ refused 26
      go fs gs failure z h = rw (z, flex_joining)
      go fs gs success z h = absurd (true≢false (sym h ∙ ap failed z))
      go fs gs indeterminate z h = absurd (true≢false (sym h ∙ ap failed z))

  pub joined_answers : (buf out : Words) → r ≡ false → WritesFlex fork drop inv self (closing_join s (types_of us) t x y) n buf out → ClosesJoined s (types_of ws) t x fork y drop inv self n buf out 0
  unfolding flex_joining failed closing_join
  joined_answers buf out e w = record { closes = λ fs gs p q. closed_got _ buf out _ (go fs gs join_verdict.0 refl (sym k.verdict ∙ e)) (w.writes fs gs p q) }
    where
      ends : (fs gs : List Result) → got (answer (first_tree fs) (first_tree gs) inv self n (unify_first s join_verdict.1 (type_of_word t ∷ []) (types_if x ++ types_if y)).1) ≡ got (answer (first_tree fs) (first_tree gs) inv self n (closing_join s (types_of us) t x y))
      ends fs gs = ap (λ (ts : Types). got (answer (first_tree fs) (first_tree gs) inv self n (unify_first s ts (type_of_word t ∷ []) (types_if x ++ types_if y)).1)) (sym k.is)

      go : (fs gs : List Result) (v : rules.UnifyResult) → join_verdict.0 ≡ v → failed join_verdict.0 ≡ false → flex_joining s (types_of ws) (type_of_word t) (types_if x) (types_if y) inv self n fs gs ≡ got (answer (first_tree fs) (first_tree gs) inv self n (closing_join s (types_of us) t x y))
      go fs gs failure z h = absurd (true≢false (sym (ap failed z) ∙ h))
      go fs gs success z h = rw (z, flex_joining) (ends fs gs)
      go fs gs indeterminate z h = rw (z, flex_joining) (ends fs gs)

-- All of it, by the rule: the results of the fork and the drop question that count.
unfoldable pub flex_closing : Words → Types → Ty → List Ty → Bool → Bool → List Result → List Result → Out Words
flex_closing s ts ty e inv self fork drop =
    let w = import_result fork e ts in
    let v = import_result drop e w.1 in
    elim (ltb limit_nodes (length v.1)) [
      | true ↦ refused 14
      | false ↦ flex_joining s v.1 ty w.0 v.0 inv self (length ts) fork drop
    ]

pub record ClosesFound (s : Words) (ts : Types) (t e : ℕ) (fork drop : Option Words) (inv self : Bool) (buf out : Words) (r : ℕ) : Type 0 where
  pub closes : (fs gs : List Result) → First fork fs → First drop gs → Closed (flex_closing s ts (type_of_word t) (type_of_word e ∷ []) inv self fs gs) buf out r

module _ (ws us : Words) (t e : ℕ) (fork drop : Option Words) (c : Caller ws t) (od : Offers drop e) where
  -- No room for fork's.
  pub found_full : {A : Type 0} (s : Words) (inv self : Bool) (buf : Words) (w : Refusal) (r : Tried A Refusal) → r ≡ Err w → Offers fork e → Brings fork e (types_of ws) us (Err w) → ClosesFound s (types_of ws) t e fork drop inv self buf buf (verdict_number r)
  unfolding flex_closing
  found_full s inv self buf w r z of k = record { closes = λ fs gs p q. rw (z, (k.full w refl).0) (closed_refused _ buf 14 (λ h. omega arith) (one fs gs p q)) }
    where
      one : (fs gs : List Result) → First fork fs → First drop gs → flex_closing s (types_of ws) (type_of_word t) (type_of_word e ∷ []) inv self fs gs ≡ refused 14
      one fs gs p q =
          let a = first_brought fork e fs (types_of ws) of p c.neat in
          let b = first_brought drop e gs (import_result fs (type_of_word e ∷ []) (types_of ws)).1 od q a.neat in
          rw (lt-ltb limit_nodes (length (import_result gs (type_of_word e ∷ []) (import_result fs (type_of_word e ∷ []) (types_of ws)).1).1) (omega (arith, (k.full w refl).1 fs p, b.grown)), flex_closing)

  module _ (x : Option ℕ) (k : Brings fork e (types_of ws) us (Ok x)) where
    left-brought : Brought (types_of ws) (types_if x) (types_of us)
    left-brought = k.brought x refl c.neat

    module _ (vs : Words) where
      -- No room for drop's.
      pub found_over : {A : Type 0} (s : Words) (inv self : Bool) (buf : Words) (w : Refusal) (r : Tried A Refusal) → r ≡ Err w → Brings drop e (types_of us) vs (Err w) → ClosesFound s (types_of ws) t e fork drop inv self buf buf (verdict_number r)
      unfolding flex_closing
      found_over s inv self buf w r z l = record { closes = λ fs gs p q. rw (z, (l.full w refl).0) (closed_refused _ buf 14 (λ h. omega arith) (one fs gs p q)) }
        where
          one : (fs gs : List Result) → First fork fs → First drop gs → flex_closing s (types_of ws) (type_of_word t) (type_of_word e ∷ []) inv self fs gs ≡ refused 14
          one fs gs p q = rw (lt-ltb limit_nodes _ (subst (λ (ts : Types). limit_nodes < length (import_result gs (type_of_word e ∷ []) ts).1) (sym (ap (λ (o : List Ty × Types). o.1) (k.is x refl fs p))) ((l.full w refl).1 gs q)), flex_closing)

      module _ (y : Option ℕ) (l : Brings drop e (types_of us) vs (Ok y)) where
        right_brought : Brought (types_of us) (types_if y) (types_of vs)
        right_brought = l.brought y refl left-brought.neat

        pub found_joining : (n : ℕ) → n ≡ length (types_of ws) → Joining vs t x y n
        found_joining n en = record {
          caller = record { packed = l.packed; neat = right_brought.neat; asked = omega (arith, c.asked, left-brought.grown, right_brought.grown) };
          left = in_more (length (types_of us)) (length (types_of vs)) right_brought.grown (types_if x) left-brought.inside;
          right = right_brought.inside;
          long = omega (arith, left-brought.grown, right_brought.grown);
        }

        pub found_closes : (s : Words) (inv self : Bool) (buf out : Words) (n r : ℕ) → n ≡ length (types_of ws) → ClosesJoined s (types_of vs) t x fork y drop inv self n buf out r → ClosesFound s (types_of ws) t e fork drop inv self buf out r
        unfolding flex_closing
        found_closes s inv self buf out n r en j = record { closes = λ fs gs p q. subst (λ (o : Out Words). Closed o buf out r) (sym (one fs gs p q)) (j.closes fs gs p q) }
          where
            one : (fs gs : List Result) → First fork fs → First drop gs → flex_closing s (types_of ws) (type_of_word t) (type_of_word e ∷ []) inv self fs gs ≡ flex_joining s (types_of vs) (type_of_word t) (types_if x) (types_if y) inv self n fs gs
            one fs gs p q =
                let w = k.is x refl fs p in
                let v = ap (λ (o : List Ty × Types). import_result gs (type_of_word e ∷ []) o.1) w ∙ l.is y refl gs q in
                rw (le-ltb limit_nodes _ (subst (λ (o : List Ty × Types). length o.1 ≤ limit_nodes) (sym v) (types_few vs)), flex_closing)
                (ap₂ (λ (o u : List Ty × Types). flex_joining s u.1 (type_of_word t) o.0 u.0 inv self (length (types_of ws)) fs gs) w v
                ∙ ap (λ i. flex_joining s (types_of vs) (type_of_word t) (types_if x) (types_if y) inv self i fs gs) (sym en))
