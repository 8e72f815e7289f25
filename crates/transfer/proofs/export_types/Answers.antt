-- `export_types`: `import` without parameters into an empty table.
use Rattle.std.proofs.Common.{rules}
use Rattle.transfer.specs.Imports.{exports}
use Rattle.transfer.proofs.export_types.Goals as goal

pub returns-clause-exports : goal.returns-clause-exports
returns-clause-exports g c = search (rules, exports)
