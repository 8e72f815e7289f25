-- `holds`: every one of them.
use Rattle.std.proofs.Common.{rules, tests, ◌∙◌}
use Rattle.std.proofs.lemmas.Iterator.{YieldsList-from_slice}
use Rattle.std.proofs.lemmas.Iterator.Search.{all_from_yields_List}
use Rattle.values.specs.Tests.{holds_listed}
use Rattle.values.proofs.fits.holds.Goals as goal

pub returns : goal.returns
returns g c = all_from_yields_List (λ b. b) _ _ _ c.all.ensures.ran (YieldsList-from_slice c.args.tests cc) (λ x b q k. search (rules, tests)) ∙ holds_listed c.args.tests
