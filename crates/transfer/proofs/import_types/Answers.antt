-- `import_types`: `transfer` from a cleared mapping.
use Rattle.std.proofs.Common.{rules}
use Rattle.transfer.specs.Imports.{cleared_mapping, imports}
use Rattle.transfer.proofs.import_types.Goals as goal

pub transfer_types-requires-clause-mapping : goal.transfer_types-requires-clause-mapping
transfer_types-requires-clause-mapping g c = search (rules, cleared_mapping)

pub returns-clause-imports : goal.returns-clause-imports
returns-clause-imports g c = search (rules, imports)
