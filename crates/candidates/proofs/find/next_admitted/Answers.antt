-- `next_admitted`: the first id that the set has.
use Rattle.std.proofs.Common.{rules, tests, ◌≡◌, true, false, ◌+◌, ◌*◌}
use Rattle.std.proofs.lemmas.Iterator.{first_from_Range}
use Rattle.candidates.specs.Layout.{rows_sets}
use Rattle.candidates.specs.Bits.{on}
use Rattle.candidates.specs.Find.{admitted_from}
use Rattle.candidates.proofs.find.next_admitted.Goals as goal

pub returns : goal.returns
returns c =
    let has = on c.args.ws.now (rows_sets + 12 * c.args.node) in
    admitted_from _ _ _ _ _ _ c.impls.ensures (first_from_Range _ _ _ c.find.result (λ i. has i ≡ true) (λ i. has i ≡ false) c.find.ensures.ran (λ x q k. search (rules, tests)) (λ x q k. search (rules, tests)))
