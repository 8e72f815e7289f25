-- `put_entry`: a space and the number.
use Rattle.std.proofs.Common.{rules}
use Rattle.lines.specs.Lines.{entry_puts, entry_short}
use Rattle.lines.proofs.put_entry.Goals as goal

pub returns : goal.returns
returns c = (search (rules, entry_puts), search (rules, entry_short))
