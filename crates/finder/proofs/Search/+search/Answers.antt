use Rattle.std.specs.Prelude.{refl}
use Rattle.std.proofs.Common.{rules, arith}
use Rattle.std.proofs.lemmas.Result.{err_from_is_err_and}
use Rattle.steps.specs.Asking.{tail_asking}
use Rattle.finder.specs.Recalling.{recalled_answers, recalls_unknown, kept_recalls}
use Rattle.finder.specs.Cycle.{few_impls, question_limit, question_depth, question_refused, begun_results, question_goes, begun_asking, begun_long, sets_refused, trying_start, trying_refused, trying_on, trying_end, trying_long, trying_low, trying_few, collecting_start, collecting_few, collecting_low, collecting_element, collecting_on, collecting_refused, collecting_end, collecting_long, element_tail, sub-none, sub-last, first_asking, asked_refused, asked_elements, asked_goes, opened_full, opened_unfit, opened_tail, opened_sub, opened_long, opened_part, opened_steps, rest_long, rest_element, rest-sub, rest-steps, rest_part, first_part, sub_long}
use Rattle.finder.proofs.Search.+search.Goals as goal

pub candidate-returns-in-Err-clause-step : goal.candidate-returns-in-Err-clause-step
candidate-returns-in-Err-clause-step t c = search (rules, opened_full, c.open_one.ensures)

pub candidate-returns-in-Ok-None-clause-step : goal.candidate-returns-in-Ok-None-clause-step
candidate-returns-in-Ok-None-clause-step t c = opened_unfit _ _ _ _ _ _ c.open_one.ensures _ _ _ _ c.in-Ok-None.is c.in-Ok-None.field-0-is c.requires.n_bound c.requires.count_bound

pub candidate-recall_or_ask-asked-requires : goal.candidate-recall_or_ask-asked-requires
candidate-recall_or_ask-asked-requires t c = (omega (arith, c.decreases), (search rules, (search (rules, opened_tail, c.open_one.ensures, c.in-Ok-Some.is, c.in-Ok-Some.field-0-is), (search (rules, opened_part, c.open_one.ensures, c.in-Ok-Some.is, c.in-Ok-Some.field-0-is, c.requires), (omega (arith, c.requires), c.requires.recalls_2)))))

pub candidate-overflow_cast-i : goal.candidate-overflow_cast-i
candidate-overflow_cast-i t c = omega (arith, few_impls _ _ _ c.requires.searching, c.requires)

pub candidate-settle_wrapped-requires-clause-from_in_bounds : goal.candidate-settle_wrapped-requires-clause-from_in_bounds
candidate-settle_wrapped-requires-clause-from_in_bounds t c = search (rules, opened_long, c.open_one.ensures, c.in-Ok-Some.is, c.in-Ok-Some.field-0-is, c.requires, c.recall_or_ask-asked.ensures.answers, c.recall_or_ask-asked.auto.ws)

pub candidate-settle_wrapped-requires-clause-sub : goal.candidate-settle_wrapped-requires-clause-sub
candidate-settle_wrapped-requires-clause-sub t c = opened_sub _ _ _ _ _ _ c.open_one.ensures _ c.in-Ok-Some.is _ c.in-Ok-Some.field-0-is _ _ _ _ _ (omega (arith, c.requires)) c.recall_or_ask-asked.ensures.answers c.recall_or_ask-asked.auto.ws

pub candidate-settle_wrapped-requires-clause-id_bound : goal.candidate-settle_wrapped-requires-clause-id_bound
candidate-settle_wrapped-requires-clause-id_bound t c = omega (arith, few_impls _ _ _ c.requires.searching, c.requires)

pub candidate-returns-in-Ok-Some-clause-step : goal.candidate-returns-in-Ok-Some-clause-step
candidate-returns-in-Ok-Some-clause-step t c = opened_steps _ _ _ _ _ _ c.open_one.ensures _ c.in-Ok-Some.is _ c.in-Ok-Some.field-0-is _ _ _ _ _ (omega (arith, c.requires)) c.recall_or_ask-asked.ensures.answers c.recall_or_ask-asked.auto.ws _ _ _ (omega (arith, c.requires)) c.settle_wrapped.ensures

pub candidates-returns-in-Err : goal.candidates-returns-in-Err
candidates-returns-in-Err t c = sets_refused _ _ _ _ _ _ _ _ _ c.requires.searching _ c.in-Err.ensures

pub candidates-loop-id-init : goal.candidates-loop-id-init
candidates-loop-id-init t c = (search (rules, trying_start, c.in-Ok.ensures, c.requires), omega arith, recalls_unknown _ _ refl)

pub candidates-candidate-requires : goal.candidates-candidate-requires
candidates-candidate-requires t c = (omega arith, (search rules, (c.loop-id.invariant.0.asking, ((c.next_id.ensures.up _ c.in-Some.is).1, (search (rules, trying_long, c.loop-id.invariant.0, c.requires), (search (rules, trying_low, c.loop-id.invariant.0), (search (rules, trying_few, c.loop-id.invariant.0), c.loop-id.invariant.2)))))))

pub candidates-returns-in_err-stand : goal.candidates-returns-in_err-stand
candidates-returns-in_err-stand t c = let p = err_from_is_err_and c.from_residual.result c.from_residual.ensures.1 in rw (p.1, p.2) (trying_refused _ _ _ _ _ _ _ _ _ _ c.requires.searching c.in-Ok.ensures _ _ _ _ c.loop-id.invariant.0 c.requires.asking.packed _ c.next_id.ensures _ c.in-Some.is _ _ c.candidate.ensures.step _ c.in_err-stand.was)

pub candidates-next_id-requires-clause-n_bound : goal.candidates-next_id-requires-clause-n_bound
candidates-next_id-requires-clause-n_bound t c = omega (arith, c.in-Ok.ensures.few)

pub candidates-loop-id-smaller : goal.candidates-loop-id-smaller
candidates-loop-id-smaller t c = let h = c.next_id.ensures.up _ c.in-Some.is in omega (arith, h.0, h.1)

pub candidates-loop-id-preserved : goal.candidates-loop-id-preserved
candidates-loop-id-preserved t c = (trying_on _ _ _ _ _ _ _ _ _ _ c.requires.searching c.in-Ok.ensures _ _ _ _ c.loop-id.invariant.0 c.requires.asking.packed _ c.next_id.ensures _ c.in-Some.is _ _ c.candidate.ensures.step _ c.in_ok-stand.was, (let h = c.next_id.ensures.up _ c.in-Some.is in omega (arith, h.1)), c.candidate.ensures.recalls)

pub candidates-returns : goal.candidates-returns
candidates-returns t c = trying_end _ _ _ _ _ _ _ _ _ _ c.requires.searching c.in-Ok.ensures _ _ _ _ c.loop-id.invariant.0 c.requires.asking.packed _ c.next_id.ensures c.in_default.is

pub question-returns-then-self-count : goal.question-returns-then-self-count
question-returns-then-self-count t c = search (rules, question_limit)

pub question-returns-then-depth-eq0 : goal.question-returns-then-depth-eq0
question-returns-then-depth-eq0 t c = search (rules, question_depth)

pub question-candidates-requires : goal.question-candidates-requires
question-candidates-requires t c = let b = begun_results _ _ _ _ _ _ _ c.begin.ensures _ c.in_ok-first.was in (omega arith, (search rules, (search (rules, begun_asking), (search (rules, begun_long), (search rules, (b.0, (b.1, b.2)))))))

pub question-returns-in_err-first : goal.question-returns-in_err-first
question-returns-in_err-first t c = let p = err_from_is_err_and c.from_residual.result c.from_residual.ensures.1 in rw (p.1, p.2) (search (rules, question_refused))

pub question-returns : goal.question-returns
question-returns t c = question_goes _ _ _ _ _ _ _ _ _ (omega (arith, c.if-self-count.false)) c.if-depth-eq0.false c.begin.ensures _ c.in_ok-first.was _ _ c.requires.asking.packed c.candidates.ensures

pub recall_or_ask-overflow_add-result : goal.recall_or_ask-overflow_add-result
recall_or_ask-overflow_add-result t c = omega (arith, c.requires.searching.low, c.known.ensures.fits _ c.in-Some.is)

pub recall_or_ask-returns-in-Some-clause-answers : goal.recall_or_ask-returns-in-Some-clause-answers
recall_or_ask-returns-in-Some-clause-answers t c = recalled_answers _ _ _ _ _ _ _ _ c.requires.searching.low c.requires.recalls_2 c.known.ensures c.in-Some.is

pub recall_or_ask-sub_questions-requires : goal.recall_or_ask-sub_questions-requires
recall_or_ask-sub_questions-requires t c = (omega (arith, c.requires.tail.few, c.requires), (search rules, (search rules, (omega (arith, c.requires.tail.few, c.requires), search rules))))

pub recall_or_ask-returns-in_err-found-clause-answers : goal.recall_or_ask-returns-in_err-found-clause-answers
recall_or_ask-returns-in_err-found-clause-answers t c = let p = err_from_is_err_and c.from_residual.result c.from_residual.ensures.1 in rw (p.1, p.2) (search rules)

pub recall_or_ask-returns-in_err-found-clause-recalls : goal.recall_or_ask-returns-in_err-found-clause-recalls
recall_or_ask-returns-in_err-found-clause-recalls t c = recalls_unknown _ _ c.note.ensures.unknown

pub recall_or_ask-returns-clause-recalls : goal.recall_or_ask-returns-clause-recalls
recall_or_ask-returns-clause-recalls t c = kept_recalls _ _ _ _ _ _ _ _ _ c.note.ensures c.in_ok-found.ensures c.keep.ensures

pub result-sub_questions-asked-requires : goal.result-sub_questions-asked-requires
result-sub_questions-asked-requires t c = (omega arith, (search rules, (search (rules, element_tail), (search (rules, rest_part), search rules))))

pub result-settle_joined-requires-clause-from_in_bounds : goal.result-settle_joined-requires-clause-from_in_bounds
result-settle_joined-requires-clause-from_in_bounds t c = search (rules, rest_long, c.requires, c.copy_table_slot.ensures, c.sub_questions-asked.ensures, c.sub_questions-asked.auto.ws)

pub result-settle_joined-requires-clause-element : goal.result-settle_joined-requires-clause-element
result-settle_joined-requires-clause-element t c = rest_element _ _ _ _ _ _ _ _ c.requires.element_at (omega (arith, c.requires)) (omega (arith, c.requires)) c.copy_table_slot.ensures _ _ c.sub_questions-asked.ensures c.sub_questions-asked.auto.ws

pub result-settle_joined-requires-clause-sub : goal.result-settle_joined-requires-clause-sub
result-settle_joined-requires-clause-sub t c = rest-sub _ _ _ _ _ _ _ _ c.requires.element_at (omega (arith, c.requires)) (omega (arith, c.requires)) c.copy_table_slot.ensures _ _ c.sub_questions-asked.ensures c.sub_questions-asked.auto.ws

pub result-returns : goal.result-returns
result-returns t c = rest-steps _ _ _ _ _ _ _ _ c.requires.element_at (omega (arith, c.requires)) (omega (arith, c.requires)) c.copy_table_slot.ensures _ _ c.sub_questions-asked.ensures c.sub_questions-asked.auto.ws _ _ _ (omega (arith, c.requires)) c.settle_joined.ensures

pub results-loop-k-init : goal.results-loop-k-init
results-loop-k-init t c = search (rules, collecting_start)

pub results-result-requires : goal.results-result-requires
results-result-requires t c = (omega arith, (search rules, (search (rules, collecting_element), (search (rules, collecting_long), (search rules, (omega arith, (search (rules, collecting_few), search (rules, collecting_low))))))))

pub results-returns-in_err-stand : goal.results-returns-in_err-stand
results-returns-in_err-stand t c = let p = err_from_is_err_and c.from_residual.result c.from_residual.ensures.1 in rw (p.1, p.2) (collecting_refused _ _ _ _ _ _ _ _ _ _ _ c.loop-k.invariant (omega arith) c.requires.m_bound _ _ c.result.ensures _ c.in_err-stand.was)

pub results-loop-k-preserved : goal.results-loop-k-preserved
results-loop-k-preserved t c = collecting_on _ _ _ _ _ _ _ _ _ _ _ c.loop-k.invariant (omega arith) c.requires.m_bound _ _ c.result.ensures _ c.in_ok-stand.was

pub results-returns : goal.results-returns
results-returns t c = collecting_end _ _ _ _ _ _ _ _ _ _ _ c.loop-k.invariant (omega arith)

pub sub_questions-returns-then-qs-from : goal.sub_questions-returns-then-qs-from
sub_questions-returns-then-qs-from t c = search (rules, sub-none)

pub sub_questions-question-requires : goal.sub_questions-question-requires
sub_questions-question-requires t c = (omega arith, (search rules, (tail_asking _ _ _ c.requires.tail (omega (arith, c.if-qs-from-2.true)), (omega arith, (omega arith, search rules)))))

pub sub_questions-returns-then-qs-from-2 : goal.sub_questions-returns-then-qs-from-2
sub_questions-returns-then-qs-from-2 t c = search (rules, sub-last, c.question.ensures, c.if-qs-from-2.true)

pub sub_questions-question-requires-2 : goal.sub_questions-question-requires-2
sub_questions-question-requires-2 t c = (omega arith, (search rules, (first_asking _ _ _ _ c.requires.tail (omega (arith, c.if-qs-from.false)) c.copy_table_slot.ensures, (search (rules, first_part), (omega arith, search rules)))))

pub sub_questions-results-requires : goal.sub_questions-results-requires
sub_questions-results-requires t c = let a = asked_elements _ _ _ _ _ c.requires.searching _ _ _ _ _ _ _ c.requires.tail (omega (arith, c.if-qs-from.false)) (omega (arith, c.requires, c.if-qs-from.false, c.if-qs-from-2.false)) c.copy_table_slot.ensures c.question-2.ensures c.question-2.auto.ws _ c.in_ok-first.was in (omega arith, (search (rules, c.requires), (a.0, (search (rules, sub_long, c.requires, c.if-qs-from.false, c.if-qs-from-2.false, c.copy_table_slot.ensures, c.question-2.auto.ws), (omega arith, (a.1, a.2))))))

pub sub_questions-returns-in_err-first : goal.sub_questions-returns-in_err-first
sub_questions-returns-in_err-first t c = let p = err_from_is_err_and c.from_residual.result c.from_residual.ensures.1 in rw (p.1, p.2) (asked_refused _ _ _ _ _ c.requires.searching _ _ _ _ _ _ _ c.requires.tail (omega (arith, c.if-qs-from.false)) (omega (arith, c.requires, c.if-qs-from.false, c.if-qs-from-2.false)) c.copy_table_slot.ensures c.question-2.ensures c.question-2.auto.ws _ c.in_err-first.was)

pub sub_questions-returns : goal.sub_questions-returns
sub_questions-returns t c = asked_goes _ _ _ _ _ c.requires.searching _ _ _ _ _ _ _ c.requires.tail (omega (arith, c.if-qs-from.false)) (omega (arith, c.requires, c.if-qs-from.false, c.if-qs-from-2.false)) c.copy_table_slot.ensures c.question-2.ensures c.question-2.auto.ws _ c.in_ok-first.was _ _ c.results.ensures
