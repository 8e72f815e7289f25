-- `chains_ok`: one chain after the other.
use Rattle.std.proofs.Common.{rules, tests, ◌∙◌, refl}
use Rattle.std.proofs.lemmas.Iterator.{YieldsList-from_range}
use Rattle.std.proofs.lemmas.Iterator.Search.{all_from_yields_List}
use Rattle.values.specs.Verdict.{chain_ok, chains_listed}
use Rattle.values.proofs.records.Linked.chains_ok.Goals as goal

pub returns : goal.returns
returns c = all_from_yields_List (chain_ok c.args.self.s.now) _ _ _ c.all.ensures.ran (YieldsList-from_range 1 11 10 refl refl) (λ x b q k. search (rules, tests)) ∙ chains_listed c.args.self.s.now
