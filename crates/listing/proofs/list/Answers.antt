-- `list`: a sheet that is not refused is checked.
use Rattle.std.proofs.Common.{rules}
use Rattle.listing.specs.Refused.{listed_short, listed_checked}
use Rattle.listing.proofs.list.Goals as goal

pub print_lines-requires : goal.print_lines-requires
print_lines-requires g c = (search (rules, listed_checked), search (rules, listed_short), search rules)
