-- `import_impl_types`: `import` of their arguments.
use Rattle.std.proofs.Common.{rules}
use Rattle.transfer.specs.Imports.{imports_impls}
use Rattle.transfer.proofs.import_impl_types.Goals as goal

pub returns-clause-imports : goal.returns-clause-imports
returns-clause-imports g c = search (rules, imports_impls)
