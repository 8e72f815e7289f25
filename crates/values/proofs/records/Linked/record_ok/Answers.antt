-- `record_ok`, kind by kind.
use Rattle.std.proofs.Common.{rules, inl, inr}
use Rattle.values.specs.Verdict.{plain_trait, plain-closure, plain_import, plain-struct, plain_union, plain_opaque, record_definition, record_generics, record_impl, record_plain}
use Rattle.values.proofs.records.Linked.record_ok.Goals as goal

pub returns-in-1 : goal.returns-in-1
returns-in-1 c = search (rules, record_definition)

pub returns-in-2 : goal.returns-in-2
returns-in-2 c = search (rules, record_generics)

pub returns-in-3 : goal.returns-in-3
returns-in-3 c = search (rules, record_plain, plain_trait)

pub returns-in-4 : goal.returns-in-4
returns-in-4 c = search (rules, record_impl)

pub returns-in-6 : goal.returns-in-6
returns-in-6 c = elim c.in-6.is [
  | inl e ↦ search (rules, record_plain, plain-struct)
  | inr e ↦ search (rules, record_plain, plain_union)
]

pub returns-in-9 : goal.returns-in-9
returns-in-9 c = search (rules, record_plain, plain-closure)

pub returns-in-10 : goal.returns-in-10
returns-in-10 c = search (rules, record_plain, plain_import)

pub returns-in_default : goal.returns-in_default
returns-in_default c = search (rules, record_plain, plain_opaque)
