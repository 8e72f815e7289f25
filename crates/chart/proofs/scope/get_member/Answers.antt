-- `get_member`: a child names its definition, an import what it is resolved to.
use Rattle.std.proofs.Common.{rules}
use Rattle.chart.specs.Scope.{child_member, import_member}
use Rattle.chart.proofs.scope.get_member.Goals as goal

pub returns-then-field_at-eq0 : goal.returns-then-field_at-eq0
returns-then-field_at-eq0 c = search (rules, child_member)

pub returns-else-field_at-eq0 : goal.returns-else-field_at-eq0
returns-else-field_at-eq0 c = search (rules, import_member)
