use Rattle.std.proofs.Common.{rules}
use Rattle.calls.specs.Behind.{call_prepares, impl_call, flex_call}
use Rattle.calls.proofs.Call.with_sets.Goals as goal

pub prepare-requires-clause-passed : goal.prepare-requires-clause-passed
prepare-requires-clause-passed c = search (rules, call_prepares)

pub ask_impl-requires-clause-impls : goal.ask_impl-requires-clause-impls
ask_impl-requires-clause-impls c = search (rules, impl_call)

pub ask_flex-requires-clause-flexing : goal.ask_flex-requires-clause-flexing
ask_flex-requires-clause-flexing c = search (rules, flex_call)
