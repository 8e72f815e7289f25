-- `in_some`: the set of some node has it.
use Rattle.std.proofs.Common.{rules, tests, ◌∙◌, ◌+◌, ◌*◌}
use Rattle.std.proofs.lemmas.Iterator.{YieldsList-from_slice}
use Rattle.std.proofs.lemmas.Iterator.Search.{any_from_yields_List}
use Rattle.candidates.specs.Layout.{rows_sets}
use Rattle.candidates.specs.Bits.{on}
use Rattle.candidates.specs.Find.{some_listed}
use Rattle.candidates.proofs.find.in_some.Goals as goal

pub returns : goal.returns
returns c = any_from_yields_List (λ n. on c.args.ws.now (rows_sets + 12 * n) c.args.i) _ _ _ c.any.ensures.ran (YieldsList-from_slice c.args.nodes.now cc) (λ x b q k. search (rules, tests)) ∙ some_listed c.args.ws.now c.args.nodes.now c.args.i
