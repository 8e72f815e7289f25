-- The cycle of `unify`: each layer comes to the rule's layer of its name, and the fuel falls.
use Rattle.std.proofs.Common.{rules, arith, ◌∙◌, refl, ⊎_elim}
use Rattle.unify.specs.Layers.{unify-none, found_roots, found_fuelled, unify_on, unify_through, roots_same, roots_opposed, roots_apart, two_apart, left-node, states_left, states_right, states_both, known_roots}
use Rattle.unify.specs.Noting.{root_small, root_small_2, kept_again, kept_on}
use Rattle.unify.specs.Known.{below_fuelled, still_roots, joined_later, error_left, error_right, known_differ, known_meet}
use Rattle.unify.specs.Children.{children_each, children-last, children_fail, last-none-left, last_none_right, last-left, last_right, last_fuelled, last-met}
use Rattle.unify.specs.Pairs.{pairs_none, pair_left, pair_right, pair_fuelled, pairs_stop, pairs_more, pairs_end}
use Rattle.unify.specs.Passing.{pairs_matched, pairs_on}
use Rattle.unify.proofs.+joining.Goals as goal
use Rattle.unify.proofs.+joining.Goals.{unify_known-then-kind-eq-KIND_ERROR-via-then-kind-eq-KIND_ERROR, unify_known-then-kind-eq-KIND_ERROR-via-else-kind-eq-KIND_ERROR+then-kind-eq-KIND_ERROR-2, unify_states-then-kind-eq-KIND_UNKNOWN-via-then-kind-eq-KIND_UNKNOWN, unify_states-then-kind-eq-KIND_UNKNOWN-via-else-kind-eq-KIND_UNKNOWN+then-kind-eq-KIND_UNKNOWN-2}

pub unify_children-returns-then-child_count : goal.unify_children-returns-then-child_count
unify_children-returns-then-child_count t c = search (rules, children_each)

pub unify_children-returns-then-kind-eq-KIND_CLOSURE : goal.unify_children-returns-then-kind-eq-KIND_CLOSURE
unify_children-returns-then-kind-eq-KIND_CLOSURE t c = search (rules, children-last)

pub unify_children-returns-else-kind-eq-KIND_CLOSURE : goal.unify_children-returns-else-kind-eq-KIND_CLOSURE
unify_children-returns-else-kind-eq-KIND_CLOSURE t c = search (rules, children_fail)

pub unify_each-loop-v-init : goal.unify_each-loop-v-init
unify_each-loop-v-init t c = (search rules, (search rules, (omega arith, search (rules, pairs_none))))

pub unify_each-next_pair-j-requires-clause-cases : goal.unify_each-next_pair-j-requires-clause-cases
unify_each-next_pair-j-requires-clause-cases t c =
    let here = c.loop-v.invariant in
    let count = c.child_count-m.ensures in
    pairs_matched _ _ _ _ _ _ _ _ _ _ _ _ c.requires.good c.requires.known_roots here.1.1.1 count c.requires.x_len

pub unify_each-returns-then-j-m : goal.unify_each-returns-then-j-m
unify_each-returns-then-j-m t c =
    let here = c.loop-v.invariant in
    let count = c.child_count-m.ensures in
    let on = pairs_on _ _ _ _ _ _ _ _ _ _ _ _ c.requires.good c.requires.known_roots here.1.1.1 count c.requires.x_len _ here.1.1.0 c.next_pair-j.ensures in
    pairs_end _ _ _ _ _ _ _ _ _ _ _ _ _ on count c.if-j-m.true

pub unify_each-unify_in-r-requires : goal.unify_each-unify_in-r-requires
unify_each-unify_in-r-requires t c =
    let here = c.loop-v.invariant in
    let count = c.child_count-m.ensures in
    let on = pairs_on _ _ _ _ _ _ _ _ _ _ _ _ c.requires.good c.requires.known_roots here.1.1.1 count c.requires.x_len _ here.1.1.0 c.next_pair-j.ensures in
    (omega arith, (here.1.1.1.good, (pair_left _ _ _ _ _ _ _ _ _ _ _ _ _ _ c.requires.good c.requires.known_roots on count c.requires.x_len c.if-j-m.false c.child-a.ensures c.met_child-b.ensures, (pair_right _ _ _ _ _ _ _ _ _ _ _ _ _ _ c.requires.good c.requires.known_roots on count c.requires.x_len c.if-j-m.false c.child-a.ensures c.met_child-b.ensures, (search rules, pair_fuelled _ _ _ _ _ _ _ _ _ _ _ _ _ _ c.requires.good c.requires.known_roots on count c.requires.x_len c.if-j-m.false c.child-a.ensures c.met_child-b.ensures)))))

pub unify_each-returns-then-stops : goal.unify_each-returns-then-stops
unify_each-returns-then-stops t c =
    let here = c.loop-v.invariant in
    let count = c.child_count-m.ensures in
    let on = pairs_on _ _ _ _ _ _ _ _ _ _ _ _ c.requires.good c.requires.known_roots here.1.1.1 count c.requires.x_len _ here.1.1.0 c.next_pair-j.ensures in
    pairs_stop _ _ _ _ _ _ _ _ _ _ _ _ _ _ c.requires.good c.requires.known_roots on count c.requires.x_len c.if-j-m.false c.child-a.ensures c.met_child-b.ensures _ _ _ _ _ _ c.unify_in-r.ensures c.and-v.ensures c.stops.ensures c.if-stops.true

pub unify_each-loop-v-preserved : goal.unify_each-loop-v-preserved
unify_each-loop-v-preserved t c =
    let here = c.loop-v.invariant in
    let count = c.child_count-m.ensures in
    let on = pairs_on _ _ _ _ _ _ _ _ _ _ _ _ c.requires.good c.requires.known_roots here.1.1.1 count c.requires.x_len _ here.1.1.0 c.next_pair-j.ensures in
    (c.unify_in-r.auto.ws ∙ here.0, (c.unify_in-r.auto.marks ∙ here.1.0, (omega (arith, c.if-j-m.false), pairs_more _ _ _ _ _ _ _ _ _ _ _ _ _ _ c.requires.good c.requires.known_roots on count c.requires.x_len c.if-j-m.false c.child-a.ensures c.met_child-b.ensures _ _ _ _ _ _ c.unify_in-r.ensures c.and-v.ensures c.stops.ensures c.if-stops.false c.unify_in-r.auto.marks)))

pub unify_in-returns-then-left-eq0 : goal.unify_in-returns-then-left-eq0
unify_in-returns-then-left-eq0 t c = search (rules, unify-none)

pub unify_in-unify_noted-requires : goal.unify_in-unify_noted-requires
unify_in-unify_noted-requires t c =
    (omega arith, (search rules, (search (rules, found_roots), (search rules, found_fuelled _ _ _ _ _ c.requires.good c.requires.a_in_bounds c.requires.b_in_bounds c.find-x.ensures c.find-y.ensures _ c.if-left-eq0.false c.requires.fuelled))))

pub unify_in-returns-then-whole : goal.unify_in-returns-then-whole
unify_in-returns-then-whole t c = search (rules, unify_through)

pub unify_in-unify_roots-requires : goal.unify_in-unify_roots-requires
unify_in-unify_roots-requires t c =
    (omega arith, (search rules, (search (rules, found_roots), (search rules, found_fuelled _ _ _ _ _ c.requires.good c.requires.a_in_bounds c.requires.b_in_bounds c.find-x.ensures c.find-y.ensures _ c.if-left-eq0.false c.requires.fuelled))))

pub unify_in-returns : goal.unify_in-returns
unify_in-returns t c = search (rules, unify_on)

pub unify_known-returns-then-kind-eq-KIND_ERROR : goal.unify_known-returns-then-kind-eq-KIND_ERROR
unify_known-returns-then-kind-eq-KIND_ERROR t c =
    elim c.then-kind-eq-KIND_ERROR.branch [
      | unify_known-then-kind-eq-KIND_ERROR-via-then-kind-eq-KIND_ERROR w ↦ search (rules, error_left)
      | unify_known-then-kind-eq-KIND_ERROR-via-else-kind-eq-KIND_ERROR+then-kind-eq-KIND_ERROR-2 w ↦ search (rules, error_right)
    ]

pub unify_known-unify_children-requires : goal.unify_known-unify_children-requires
unify_known-unify_children-requires t c = (omega arith, (search rules, (search rules, (search rules, search (rules, below_fuelled)))))

pub unify_known-returns-then-may_meet : goal.unify_known-returns-then-may_meet
unify_known-returns-then-may_meet t c = search (rules, known_meet)

pub unify_known-returns : goal.unify_known-returns
unify_known-returns t c = search (rules, known_differ)

pub unify_last-returns-then-m-eq0 : goal.unify_last-returns-then-m-eq0
unify_last-returns-then-m-eq0 t c = ⊎_elim (λ z. search (rules, last-none-left)) (λ z. search (rules, last_none_right)) c.then-m-eq0.either

pub unify_last-unify_in-requires : goal.unify_last-unify_in-requires
unify_last-unify_in-requires t c =
    (omega arith, (search rules, (last-left _ _ _ c.requires.good c.requires.known_roots _ _ c.child_count-m.ensures c.if-m-eq0.false c.child-a.ensures, (last_right _ _ _ c.requires.good c.requires.known_roots _ _ _ c.child_count-n.ensures c.if-n-eq0.false c.met_child-b.ensures, (search rules, last_fuelled _ _ _ _ _ c.requires.fuelled c.child_count-m.ensures c.if-m-eq0.false c.child-a.ensures)))))

pub unify_last-returns : goal.unify_last-returns
unify_last-returns t c = search (rules, last-met)

pub unify_noted-invariant_of-pair-clause-left : goal.unify_noted-invariant_of-pair-clause-left
unify_noted-invariant_of-pair-clause-left t c = search (rules, root_small)

pub unify_noted-invariant_of-pair-clause-right : goal.unify_noted-invariant_of-pair-clause-right
unify_noted-invariant_of-pair-clause-right t c = search (rules, root_small_2)

pub unify_noted-returns-in-Some : goal.unify_noted-returns-in-Some
unify_noted-returns-in-Some t c = search (rules, kept_again)

pub unify_noted-returns : goal.unify_noted-returns
unify_noted-returns t c =
    kept_on _ _ _ _ _ _ _ _ _ _ _ _ _ c.requires.good c.requires.two_roots c.requires.fuelled (search rules) refl c.unify_roots-r.ensures c.end.ensures

pub unify_roots-unify_states-requires : goal.unify_roots-unify_states-requires
unify_roots-unify_states-requires t c = (omega arith, (search rules, (search (rules, two_apart), (search rules, search rules))))

pub unify_roots-returns-then-x-y : goal.unify_roots-returns-then-x-y
unify_roots-returns-then-x-y t c = search (rules, roots_apart)

pub unify_roots-returns-then-x-y-2 : goal.unify_roots-returns-then-x-y-2
unify_roots-returns-then-x-y-2 t c = search (rules, roots_same)

pub unify_roots-own_inverse-requires-clause-t_in_bounds : goal.unify_roots-own_inverse-requires-clause-t_in_bounds
unify_roots-own_inverse-requires-clause-t_in_bounds t c = search (rules, left-node)

pub unify_roots-returns : goal.unify_roots-returns
unify_roots-returns t c = search (rules, roots_opposed)

pub unify_states-returns-then-kind-eq-KIND_UNKNOWN : goal.unify_states-returns-then-kind-eq-KIND_UNKNOWN
unify_states-returns-then-kind-eq-KIND_UNKNOWN t c =
    elim c.then-kind-eq-KIND_UNKNOWN.branch [
      | unify_states-then-kind-eq-KIND_UNKNOWN-via-then-kind-eq-KIND_UNKNOWN w ↦ search (rules, states_left)
      | unify_states-then-kind-eq-KIND_UNKNOWN-via-else-kind-eq-KIND_UNKNOWN+then-kind-eq-KIND_UNKNOWN-2 w ↦ search (rules, states_right)
    ]

pub unify_states-unify_known-v-requires : goal.unify_states-unify_known-v-requires
unify_states-unify_known-v-requires t c =
    (omega arith, (search rules, (known_roots _ _ _ _ _ c.kind.ensures c.kind-else-kind-eq-KIND_UNKNOWN.ensures c.if-kind-eq-KIND_UNKNOWN.false c.if-kind-eq-KIND_UNKNOWN-2.false c.requires.roots, (search rules, search rules))))

pub unify_states-join_on_success-requires-clause-roots : goal.unify_states-join_on_success-requires-clause-roots
unify_states-join_on_success-requires-clause-roots t c =
    λ e. still_roots _ _ _ _ _ _ _ c.requires.good c.requires.roots (known_roots _ _ _ _ _ c.kind.ensures c.kind-else-kind-eq-KIND_UNKNOWN.ensures c.if-kind-eq-KIND_UNKNOWN.false c.if-kind-eq-KIND_UNKNOWN-2.false c.requires.roots) _ _ _ c.unify_known-v.ensures e

pub unify_states-returns : goal.unify_states-returns
unify_states-returns t c =
    states_both _ _ _ _ _ _ c.kind.ensures _ c.kind-else-kind-eq-KIND_UNKNOWN.ensures _ _ _ _ _ _ _ _ c.if-kind-eq-KIND_UNKNOWN.false c.if-kind-eq-KIND_UNKNOWN-2.false (λ e. joined_later _ _ _ _ _ _ _ c.requires.good c.requires.roots (known_roots _ _ _ _ _ c.kind.ensures c.kind-else-kind-eq-KIND_UNKNOWN.ensures c.if-kind-eq-KIND_UNKNOWN.false c.if-kind-eq-KIND_UNKNOWN-2.false c.requires.roots) _ _ _ c.unify_known-v.ensures e) c.unify_known-v.ensures c.join_on_success.ensures
