-- `trait_ok`: the count is the sheet's.
use Rattle.std.proofs.Common.{rules}
use Rattle.values.specs.Verdict.{trait_found}
use Rattle.values.proofs.fits.Noted.trait_ok.Goals as goal

pub returns : goal.returns
returns c = search (rules, trait_found)
