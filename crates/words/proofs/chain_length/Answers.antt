-- `chain_length`: as many as the chain has.
use Rattle.std.proofs.Common.{arith, inl, ap, length}
use Rattle.std.proofs.lemmas.Iterator.Consumers.{count_from_yields_List, YieldsList-from_first}
use Rattle.rules.specs.Sheet.{chain}
use Rattle.words.specs.Chain.{chain_within}
use Rattle.words.proofs.chain_length.Goals as goal

pub count-requires-clause-fits : goal.count-requires-clause-fits
count-requires-clause-fits c = inl (omega (arith, chain_within c.args.s.now c.args.head, ap length c.records.ensures))

pub returns : goal.returns
returns c = count_from_yields_List c.records.result _ c.count.ensures.ran (YieldsList-from_first (λ x. x) (λ places. places) (chain c.args.s.now c.args.head) c.records.ensures)
