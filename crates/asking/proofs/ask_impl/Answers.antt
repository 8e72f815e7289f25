-- The search, and what it comes to.
use Rattle.std.proofs.Common.{arith}
use Rattle.asking.specs.Impls.{ask_ends, ask_one, impls_basic, impls_question}
use Rattle.asking.proofs.ask_impl.Goals as goal

pub export_asked-asked-requires-clause-questions : goal.export_asked-asked-requires-clause-questions
export_asked-asked-requires-clause-questions c = impls_question _ _ _ _ _ c.requires.impls

pub question-searched-requires-clause-basic_bound : goal.question-searched-requires-clause-basic_bound
question-searched-requires-clause-basic_bound c = impls_basic _ _ _ _ _ c.requires.impls

pub end_asked-requires-clause-questions : goal.end_asked-requires-clause-questions
end_asked-requires-clause-questions c = impls_question _ _ _ _ _ c.requires.impls

pub end_asked-requires-clause-if_found : goal.end_asked-requires-clause-if_found
end_asked-requires-clause-if_found c = ask_one _ _ _ _ _ _ c.requires.impls _ _ _ c.export_asked-asked.ensures _ c.question-searched.ensures

pub returns : goal.returns
returns c = ask_ends _ _ _ _ _ _ c.requires.impls _ _ _ c.export_asked-asked.ensures _ c.question-searched.ensures _ _ _ (omega (arith, c.question-searched.auto.ws, c.export_asked-asked.auto.ws, c.requires.in_bounds)) c.end_asked.ensures.ends c.end_asked.ensures.count
