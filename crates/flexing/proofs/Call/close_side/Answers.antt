-- What the four lists of results come to, with the side that counts.
use Rattle.std.proofs.Common.{rules}
use Rattle.flexing.specs.Asked.{flexing_fitting, flexing_inside, loaded_neat, loaded_inside}
use Rattle.flexing.specs.Sides.{side_offers, side_closes}
use Rattle.flexing.proofs.Call.close_side.Goals as goal

pub load_table-requires-clause-fitting : goal.load_table-requires-clause-fitting
load_table-requires-clause-fitting c = search (rules, flexing_fitting)

pub export_type-e-requires-clause-neat : goal.export_type-e-requires-clause-neat
export_type-e-requires-clause-neat c = search (rules, loaded_neat, flexing_fitting)

pub export_type-e-requires-clause-t_in_bounds : goal.export_type-e-requires-clause-t_in_bounds
export_type-e-requires-clause-t_in_bounds c = search (rules, loaded_inside, flexing_inside)

pub close_flex-requires-clause-offers : goal.close_flex-requires-clause-offers
close_flex-requires-clause-offers c = search (rules, side_offers)

pub close_flex-requires-clause-offers_2 : goal.close_flex-requires-clause-offers_2
close_flex-requires-clause-offers_2 c = search (rules, side_offers)

pub close_flex-requires-clause-caller : goal.close_flex-requires-clause-caller
close_flex-requires-clause-caller c = search (rules, loaded_neat, flexing_fitting, loaded_inside, flexing_inside)

pub returns : goal.returns
returns c = search (rules, side_closes)
