-- `spread`: turns go on while a pass changes anything.
use Rattle.std.proofs.Common.{rules, subst, true}
use Rattle.candidates.specs.Spread.{Going, going_start, going_on, going_done, going_kin, rows_same}
use Rattle.candidates.proofs.rows.spread.Goals as goal

pub loop-n-init : goal.loop-n-init
loop-n-init c = search (rules, going_start)

pub descend-requires : goal.descend-requires
descend-requires c = (search rules, search (rules, going_kin))

pub returns-then-not-pass : goal.returns-then-not-pass
returns-then-not-pass c =
    going_done c.args.n c.args.m c.args.ws.now c.pass.new.ws c.pass.result c.if-not-pass.true
    (going_on c.args.n c.args.m c.args.ws.now c.loop-n.ws c.descend.new.ws c.pass.new.ws true c.pass.result c.loop-n.invariant.1 c.loop-n.invariant.2 c.descend.ensures c.pass.ensures)

pub loop-n-preserved : goal.loop-n-preserved
loop-n-preserved c =
    let on = going_on c.args.n c.args.m c.args.ws.now c.loop-n.ws c.descend.new.ws c.pass.new.ws true c.pass.result c.loop-n.invariant.1 c.loop-n.invariant.2 c.descend.ensures c.pass.ensures in
    (search rules, search (rules, rows_same), subst (λ b. Going c.args.n c.args.m c.args.ws.now c.pass.new.ws b) c.if-not-pass.false on)
