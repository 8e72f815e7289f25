-- What a Param stands for.
use Rattle.std.proofs.Common.{rules, refl, subst}
use Rattle.transfer.specs.Outcomes.{GivenWords}
use Rattle.transfer.proofs.Params.{param_absent, param_else, param_given}
use Rattle.transfer.proofs.param_type.Goals as goal

pub returns-in_default : goal.returns-in_default
returns-in_default g c = search (rules, param_absent)

pub returns-then-kind_of-ne-KIND_PARAM : goal.returns-then-kind_of-ne-KIND_PARAM
returns-then-kind_of-ne-KIND_PARAM g c = search (rules, param_else)

pub returns : goal.returns
returns g c = param_given _ _ _ _ c.in-Some.is (subst GivenWords c.in-Some.is c.args.from.now.given) _ _ _ _ _ _ _ _ c.word-p.ensures c.invert_if-u.ensures c.invert_if.ensures c.kind_of.ensures c.if-kind_of-ne-KIND_PARAM.false c.id_of.ensures refl c.inverted_of.ensures c.is_inverted.ensures
