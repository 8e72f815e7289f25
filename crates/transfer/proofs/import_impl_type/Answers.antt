-- `import_impl_type`: `import` of its arguments.
use Rattle.std.proofs.Common.{rules}
use Rattle.transfer.specs.Imports.{imports_impl}
use Rattle.transfer.proofs.import_impl_type.Goals as goal

pub returns-clause-imports : goal.returns-clause-imports
returns-clause-imports g c = search (rules, imports_impl)
