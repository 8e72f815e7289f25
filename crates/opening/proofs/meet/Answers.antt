-- `meet`: the type words of p are imported.
use Rattle.std.proofs.Common.{rules}
use Rattle.opening.specs.Meeting.{args_inside, args_brought, args_meet}
use Rattle.opening.proofs.meet.Goals as goal

pub meet_types-requires-clause-all_in : goal.meet_types-requires-clause-all_in
meet_types-requires-clause-all_in c = search (rules, args_inside)

pub meet_types-requires-clause-brought : goal.meet_types-requires-clause-brought
meet_types-requires-clause-brought c = search (rules, args_brought)

pub returns : goal.returns
returns c = search (rules, args_meet)
