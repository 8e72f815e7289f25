-- `meet_param`: without parameters, from the table of the generics.
use Rattle.std.proofs.Common.{rules}
use Rattle.opening.specs.Sound.{generics_lent, params_neat, param_inside, param-brought, param_meets}
use Rattle.opening.proofs.meet_param.Goals as goal

pub meet-requires-clause-neat : goal.meet-requires-clause-neat
meet-requires-clause-neat c = search (rules, params_neat)

pub meet-requires-clause-lent : goal.meet-requires-clause-lent
meet-requires-clause-lent c = search (rules, generics_lent)

pub meet-requires-clause-all_in : goal.meet-requires-clause-all_in
meet-requires-clause-all_in c = search (rules, param_inside)

pub meet-requires-clause-brought : goal.meet-requires-clause-brought
meet-requires-clause-brought c = search (rules, param-brought)

pub returns : goal.returns
returns c = search (rules, param_meets)
