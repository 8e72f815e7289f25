-- `check_listing`: the length, then the sheet.
use Rattle.checks.specs.Numbers.{passed_on, listing-length, listing-some, listing-within, listing_sheet}
use Rattle.checks.proofs.check_listing.Goals as goal

pub returns-in_err-check_length : goal.returns-in_err-check_length
returns-in_err-check_length c = passed_on _ _ _ c.from_residual.ensures (listing-length _ _ c.in_err-check_length.ensures)

pub check_sheet-requires-clause-s_nonzero : goal.check_sheet-requires-clause-s_nonzero
check_sheet-requires-clause-s_nonzero c = listing-some _ c.in_ok-check_length.ensures

pub check_sheet-requires-clause-s_len_bound : goal.check_sheet-requires-clause-s_len_bound
check_sheet-requires-clause-s_len_bound c = listing-within _ c.in_ok-check_length.ensures

pub returns : goal.returns
returns c = listing_sheet _ c.in_ok-check_length.ensures _ c.check_sheet.ensures
