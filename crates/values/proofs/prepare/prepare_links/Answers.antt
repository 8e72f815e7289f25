-- `prepare_links`: four planes, each above those that it reads.
use Rattle.std.proofs.Common.{rules}
use Rattle.values.specs.Tables.{links_made}
use Rattle.values.proofs.prepare.prepare_links.Goals as goal

pub returns : goal.returns
returns c = search (rules, links_made)
