-- `next_candidate`: the first id that passes the test.
use Rattle.std.proofs.Common.{rules, tests, ◌≡◌, true, false}
use Rattle.std.proofs.lemmas.Iterator.{first_from_Range}
use Rattle.candidates.specs.Find.{tested, candidate_from}
use Rattle.candidates.proofs.find.next_candidate.Goals as goal

pub returns : goal.returns
returns c =
    let is = tested c.args.s.now c.args.ws.now c.args.nodes.now c.args.t c.args.basic in
    candidate_from _ _ _ _ _ _ _ _ c.impls.ensures (first_from_Range _ _ _ c.find.result (λ i. is i ≡ true) (λ i. is i ≡ false) c.find.ensures.ran (λ x q k. search (rules, tests)) (λ x q k. search (rules, tests)))
