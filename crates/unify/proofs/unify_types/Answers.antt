-- `unify_types`: what is left of the pairs comes to the whole.
use Rattle.std.proofs.Common.{rules, ℕ, ◌≡◌, ◌+◌, ◌<◌, ◌≤◌, ◌∷◌, length, drop, sym, ◌∙◌, ap, arith, add-one, length-drop, length-append, drop-cons, ⊎_elim}
use Rattle.rules.specs.Lists.{Words}
use Rattle.rules.specs.Sheet.{at}
use Rattle.unify.specs.Lists.{going_none, types_differ, going_stop, going_on, going_end, going_left, going_right}
use Rattle.unify.proofs.unify_types.Goals as goal

-- The word whose turn it is, and those behind it.
turn : (xs vs ws : Words) (k a : ℕ) → vs ≡ drop k xs → vs ≡ a ∷ ws → (k < length xs) × (a ≡ at xs k) × (ws ≡ drop (k + 1) xs)
turn xs vs ws k a p q = let e : drop k xs ≡ a ∷ ws = sym p ∙ q in let h : k < length xs = omega (arith, ap length e, length-drop k xs) in let d : a ∷ ws ≡ at xs k ∷ drop (k + 1) xs = sym e ∙ drop-cons xs k 0 h ∙ ap (λ j. at xs k ∷ drop j xs) (sym (add-one k)) in (h, cc, cc)

spent : (xs ws : Words) (k : ℕ) → ws ≡ drop k xs → length ws ≡ 0 → length xs ≤ k
spent xs ws k e z = omega (arith, ap length e, length-drop k xs)

pub returns-then-xs-ys : goal.returns-then-xs-ys
returns-then-xs-ys c = search (rules, types_differ)

pub unify_one-requires-clause-a_in_bounds : goal.unify_one-requires-clause-a_in_bounds
unify_one-requires-clause-a_in_bounds c =
    let x = turn c.args.xs.now _ _ _ _ c.loop-a.invariant.left c.in-Some.ensures.steps.0 in
    let y = turn c.args.ys.now _ _ _ _ c.loop-a.invariant.right c.in-Some.ensures.steps.1 in
    going_left _ _ _ _ _ _ _ _ _ c.loop-a.invariant.going c.requires.nodes c.requires.nodes_2 c.if-xs-ys.false x.0 x.1 y.1

pub unify_one-requires-clause-b_in_bounds : goal.unify_one-requires-clause-b_in_bounds
unify_one-requires-clause-b_in_bounds c =
    let x = turn c.args.xs.now _ _ _ _ c.loop-a.invariant.left c.in-Some.ensures.steps.0 in
    let y = turn c.args.ys.now _ _ _ _ c.loop-a.invariant.right c.in-Some.ensures.steps.1 in
    going_right _ _ _ _ _ _ _ _ _ c.loop-a.invariant.going c.requires.nodes c.requires.nodes_2 c.if-xs-ys.false x.0 x.1 y.1

pub returns-then-stops : goal.returns-then-stops
returns-then-stops c =
    let x = turn c.args.xs.now _ _ _ _ c.loop-a.invariant.left c.in-Some.ensures.steps.0 in
    let y = turn c.args.ys.now _ _ _ _ c.loop-a.invariant.right c.in-Some.ensures.steps.1 in
    going_stop _ _ _ _ _ _ _ _ _ c.loop-a.invariant.going c.requires.nodes c.requires.nodes_2 c.if-xs-ys.false x.0 x.1 y.1 _ _ _ _ _ c.unify_one.ensures c.and-v.ensures c.stops.ensures c.if-stops.true

pub loop-a-init : goal.loop-a-init
loop-a-init c = record { going = search (rules, going_none); left = search rules; right = search rules }

pub loop-a-preserved : goal.loop-a-preserved
loop-a-preserved c =
    let x = turn c.args.xs.now _ _ _ _ c.loop-a.invariant.left c.in-Some.ensures.steps.0 in
    let y = turn c.args.ys.now _ _ _ _ c.loop-a.invariant.right c.in-Some.ensures.steps.1 in
    simp length-append (record {
      going = going_on _ _ _ _ _ _ _ _ _ c.loop-a.invariant.going c.requires.nodes c.requires.nodes_2 c.if-xs-ys.false x.0 x.1 y.1 _ _ _ _ _ c.unify_one.ensures c.and-v.ensures c.stops.ensures c.if-stops.false;
      left = x.2;
      right = y.2;
    })

pub returns : goal.returns
returns c = going_end _ _ _ _ _ _ _ _ c.loop-a.invariant.going c.if-xs-ys.false (⊎_elim (λ z. spent c.args.xs.now _ _ c.loop-a.invariant.left z.1.0) (λ z. omega (arith, spent c.args.ys.now _ _ c.loop-a.invariant.right z.1.0)) c.in-None.ensures.steps)
