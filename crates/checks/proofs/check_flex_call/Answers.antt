-- `check_flex_call`: entry, then the checks behind it.
use Rattle.checks.specs.Numbers.{passed_on, sheet_some, sheet_within, question-some, question-within, work_within, past_entry, at_entry}
use Rattle.checks.proofs.check_flex_call.Goals as goal

pub returns-in_err-check_entry : goal.returns-in_err-check_entry
returns-in_err-check_entry c = passed_on _ _ _ c.from_residual.ensures (at_entry _ _ _ _ _ _ _ c.in_err-check_entry.ensures)

pub check_flex-requires-clause-s_nonzero : goal.check_flex-requires-clause-s_nonzero
check_flex-requires-clause-s_nonzero c = sheet_some _ _ _ _ _ c.in_ok-check_entry.ensures

pub check_flex-requires-clause-s_len_bound : goal.check_flex-requires-clause-s_len_bound
check_flex-requires-clause-s_len_bound c = sheet_within _ _ _ _ _ c.in_ok-check_entry.ensures

pub check_flex-requires-clause-q_nonzero : goal.check_flex-requires-clause-q_nonzero
check_flex-requires-clause-q_nonzero c = question-some _ _ _ _ _ c.in_ok-check_entry.ensures

pub check_flex-requires-clause-q_len_bound : goal.check_flex-requires-clause-q_len_bound
check_flex-requires-clause-q_len_bound c = question-within _ _ _ _ _ c.in_ok-check_entry.ensures

pub check_flex-requires-clause-in_bounds : goal.check_flex-requires-clause-in_bounds
check_flex-requires-clause-in_bounds c = work_within _ _ _ _ _ c.in_ok-check_entry.ensures

pub returns : goal.returns
returns c = past_entry _ _ _ _ _ c.in_ok-check_entry.ensures _ _ c.check_flex.ensures
