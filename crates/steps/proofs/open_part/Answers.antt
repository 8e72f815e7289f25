-- `open_part`: by what the signature came to.
use Rattle.std.proofs.Common.{rules}
use Rattle.std.proofs.lemmas.Result.{err_from_is_err_and}
use Rattle.steps.specs.Candidate.{part_full, part_unfit, part_room, part_crowded, part_fits}
use Rattle.steps.proofs.open_part.Goals as goal

pub seek-requires-clause-i_in_bounds : goal.seek-requires-clause-i_in_bounds
seek-requires-clause-i_in_bounds c = search (rules, part_room, c.sign.ensures, c.in_ok-sign.was, c.count-base.ensures, c.requires.sound_sheet, c.requires.asking, c.requires.i_bound)

pub returns-in_err-sign : goal.returns-in_err-sign
returns-in_err-sign c = let p = err_from_is_err_and c.from_residual.result c.from_residual.ensures.1 in rw (p.1, p.2) (search (rules, part_full, c.in_err-sign.was, c.sign.ensures))

pub returns-then-not-branch : goal.returns-then-not-branch
returns-then-not-branch c = search (rules, part_unfit, c.in_ok-sign.was, c.sign.ensures)

pub returns-in_err-qs : goal.returns-in_err-qs
returns-in_err-qs c = let p = err_from_is_err_and c.from_residual-in_err-qs.result c.from_residual-in_err-qs.ensures.1 in rw (p.1, p.2) (search (rules, part_crowded, c.in_err-qs.was, c.in_ok-sign.was, c.sign.ensures, c.seek.ensures, c.count-base.ensures, c.requires.sound_sheet, c.requires.asking, c.requires.i_bound))

pub returns : goal.returns
returns c = search (rules, part_fits, c.in_ok-qs.was, c.in_ok-sign.was, c.sign.ensures, c.seek.ensures, c.count-base.ensures, c.requires.sound_sheet, c.requires.asking, c.requires.i_bound)
