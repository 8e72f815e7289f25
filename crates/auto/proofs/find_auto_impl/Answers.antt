-- `find_auto_impl`: what the root of the type is.
use Rattle.std.proofs.Common.{rules}
use Rattle.auto.specs.Built.{auto_type}
use Rattle.auto.proofs.find_auto_impl.Goals as goal

pub returns : goal.returns
returns c = search (rules, auto_type)
