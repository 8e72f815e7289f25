use Rattle.std.proofs.Common.{rules}
use Rattle.finder.proofs.Search.begin.Goals as goal

pub built_ins-requires-clause-generics_value : goal.built_ins-requires-clause-generics_value
built_ins-requires-clause-generics_value c = search (rules, c.no_params.ensures)
