-- `words_ok`: the counts are the sheet's.
use Rattle.std.proofs.Common.{rules}
use Rattle.values.specs.Verdict.{words-found}
use Rattle.values.proofs.fits.Noted.words_ok.Goals as goal

pub returns : goal.returns
returns c = search (rules, words-found)
