-- `prepare_sheet`: what is known, the tables, the other chains.
use Rattle.std.proofs.Common.{rules}
use Rattle.values.specs.Tables.{charted}
use Rattle.values.proofs.prepare.prepare_sheet.Goals as goal

pub returns : goal.returns
returns c = search (rules, charted)
