-- `import_ok`: the count is the sheet's.
use Rattle.std.proofs.Common.{rules}
use Rattle.values.specs.Verdict.{import_found}
use Rattle.values.proofs.fits.Noted.import_ok.Goals as goal

pub returns : goal.returns
returns c = search (rules, import_found)
