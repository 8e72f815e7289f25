-- `member_id`: of a child or an import.
use Rattle.std.proofs.Common.{rules}
use Rattle.values.specs.Known.{member_child, member_import_lem}
use Rattle.values.proofs.fits.Noted.member_id.Goals as goal

pub returns-then-import-eq0 : goal.returns-then-import-eq0
returns-then-import-eq0 c = search (rules, member_child)

pub returns-else-import-eq0 : goal.returns-else-import-eq0
returns-else-import-eq0 c = search (rules, member_import_lem)
