-- What a search answered, as the flex call takes it.
use Rattle.std.proofs.Common.{rules}
use Rattle.flexing.specs.Kept.{settle_found, settle_none, settle_stop}
use Rattle.flexing.proofs.settle.Goals as goal

pub returns-in-Ok : goal.returns-in-Ok
returns-in-Ok c = search (rules, settle_found)

pub returns-in-SearchLimit : goal.returns-in-SearchLimit
returns-in-SearchLimit c = settle_none _ _ c.in-Err.is c.in-SearchLimit.is

pub returns-in_default : goal.returns-in_default
returns-in_default c = settle_stop _ _ c.in-Err.is c.in_default.not-SearchLimit c.in_default.not-ErrorType
