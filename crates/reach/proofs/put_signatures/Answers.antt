-- `put_signatures`: record by record, each with how many were before it.
use Rattle.std.proofs.Common.{rules, refl, ◌∙◌, arith, inl, ap}
use Rattle.rules.specs.Sheet.{at}
use Rattle.words.specs.Chain.{chain_within}
use Rattle.reach.specs.Impls.{checked_short, signing_start, signing_index, signing_on, signing_few, signing_params, signing_end}
use Rattle.reach.proofs.put_signatures.Goals as goal

pub loop-i-init : goal.loop-i-init
loop-i-init c =
    let e = c.into_iter-i-iterator.ensures.into_iter_gives in
    let t = signing_start _ c.args.taken.now _ _ _ c.next.ensures (ap (λ x. x.count) e ∙ c.enumerate-i-items.ensures.count) (ap (λ x. x.iter) e ∙ c.enumerate-i-items.ensures.source ∙ c.records-impls.ensures) in
    ((tt, tt, inl (omega (arith, t.steps.count, checked_short _ c.requires.checked, chain_within c.args.sheet.now (at c.args.sheet.now 4)))), tt, refl, refl, t)

pub put_signature-requires-clause-p_in_bounds : goal.put_signature-requires-clause-p_in_bounds
put_signature-requires-clause-p_in_bounds c = signing_few _ _ _ _ c.loop-i.invariant.4 c.requires.checked _ _ c.in-Some.ensures.steps.0

pub put_signature-requires-clause-p_bound : goal.put_signature-requires-clause-p_bound
put_signature-requires-clause-p_bound c = signing_params _ _ _ _ c.loop-i.invariant.4 c.requires.checked _ _ c.in-Some.ensures.steps.0 _ c.requires.generics

pub put_signature-requires-clause-i_in_bounds : goal.put_signature-requires-clause-i_in_bounds
put_signature-requires-clause-i_in_bounds c = signing_index _ _ _ _ c.loop-i.invariant.4 c.requires.checked _ _ c.in-Some.ensures.steps.0 _ _ c.in-Some.ensures.steps.1 c.requires.in_bounds c.loop-i.invariant.3

pub loop-i-preserved : goal.loop-i-preserved
loop-i-preserved c =
    let h = c.in-Some.ensures.steps in
    let t = signing_on _ _ _ _ c.loop-i.invariant.4 c.requires.checked _ _ h.0 _ c.requires.generics _ _ _ h.1 h.2 c.put_signature.ensures in
    ((tt, tt, inl (omega (arith, t.steps.count, checked_short _ c.requires.checked, chain_within c.args.sheet.now (at c.args.sheet.now 4)))), tt, search rules, search rules, t)

pub returns : goal.returns
returns c = signing_end _ _ _ _ c.loop-i.invariant.4 c.in-None.ensures.steps.0.0
