-- The last import of a type from a result that may be absent.
use Rattle.std.proofs.Common.{ap, refl, rules}
use Rattle.std.specs.Option.{option_copied}
use Rattle.closing.specs.Flex.{brings_none, offered_inside, brings_full, brings_some}
use Rattle.closing.proofs.import_type.Goals as goal

pub returns-in_default : goal.returns-in_default
returns-in_default c = brings_none _ _ _ (ap option_copied c.in_default.is) c.requires.packed

pub import_result-requires-clause-inside : goal.import_result-requires-clause-inside
import_result-requires-clause-inside c = search (rules, offered_inside)

pub returns-in_err-import_result : goal.returns-in_err-import_result
returns-in_err-import_result c = search (rules, brings_full)

pub returns : goal.returns
returns c = brings_some _ c.in-Some.slot.now _ (ap option_copied c.in-Some.is) c.requires.offers _ _ _ _ c.in_ok-import_result.ensures.imports refl _ refl
