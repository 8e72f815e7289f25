-- `get_mod`: what is left of the way comes to the whole.
use Rattle.std.proofs.Common.{rules, arith, ◌∙◌, ap}
use Rattle.chart.specs.Numbers.{kind_apart}
use Rattle.walks.specs.Modules.{own_module, seek_start, seek_error, seek_own, seek_strange, seek_on, seek_spent}
use Rattle.walks.proofs.get_mod.Goals as goal

pub loop-i-init : goal.loop-i-init
loop-i-init c = search (rules, seek_start)

pub returns-in_default : goal.returns-in_default
returns-in_default c = search (rules, seek_strange)

pub returns-in-Error : goal.returns-in-Error
returns-in-Error c = search (rules, seek_error)

pub returns-in_default-kind : goal.returns-in_default-kind
returns-in_default-kind c =
    seek_own _ _ _ _ _ _ _ (λ e. omega (arith, e, c.loop-i-test.true)) c.loop-i.invariant c.root_of-n.ensures c.kind_of.ensures _ _ (kind_apart _ _ _ c.in-Some.ensures c.in_default-kind.not-Error) (kind_apart _ _ _ c.in-Some.ensures c.in_default-kind.not-Ref) c.id_of.ensures (c.own_module_of.ensures ∙ ap (λ k. own_module c.args.s.now k c.id_of.result) c.in-Some.ensures)

pub loop-i-preserved : goal.loop-i-preserved
loop-i-preserved c = search (rules, seek_on)

pub returns : goal.returns
returns c = search (rules, seek_spent)
