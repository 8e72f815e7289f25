-- `flex_trait_ok`: not set, or a trait with one argument.
use Rattle.std.proofs.Common.{rules}
use Rattle.values.specs.Verdict.{flex_none, flex_some}
use Rattle.values.proofs.fits.Noted.flex_trait_ok.Goals as goal

pub returns-then-t-eq0 : goal.returns-then-t-eq0
returns-then-t-eq0 c = search (rules, flex_none)

pub returns-else-t-eq0 : goal.returns-else-t-eq0
returns-else-t-eq0 c = search (rules, flex_some)
