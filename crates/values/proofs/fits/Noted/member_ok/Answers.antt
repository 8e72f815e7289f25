-- `member_ok`: the counts are those of the sheet.
use Rattle.std.proofs.Common.{rules}
use Rattle.values.specs.Known.{member_known}
use Rattle.values.proofs.fits.Noted.member_ok.Goals as goal

pub returns : goal.returns
returns c = search (rules, member_known)
