-- `import_def`: its record stands where the index says.
use Rattle.std.proofs.Common.{rules}
use Rattle.candidates.specs.Index.{import_def_is}
use Rattle.candidates.proofs.index.Records.import_def.Goals as goal

pub returns : goal.returns
returns c = search (rules, import_def_is)
