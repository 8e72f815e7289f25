-- `note_args`: the most of the chain from a place, from the record there and its next.
use Rattle.std.proofs.Common.{rules, arith, ◌≡◌, max}
use Rattle.rules.specs.Layout.{impl_param_args}
use Rattle.values.specs.Value.{inner_mark, inner_same}
use Rattle.values.specs.Folds.{chain_most, most-none, most_step}
use Rattle.values.specs.Tables.{plane_args, plane_bounds, most-made}
use Rattle.values.proofs.planes.note_args.Goals as goal

pub returns : goal.returns
returns c =
    let f = inner_mark c.args.s.now c.args.ws.now plane_bounds impl_param_args in
    let w = c.args.s.now in
    most-made _ _ _ _ c.requires f plane_args 1 (omega arith) (omega arith)
    (c.note.ensures (chain_most f w) (most-none f w)
    (λ us i m r k p o e q. let z : r ≡ max (inner_mark c.args.s.now us.now plane_bounds impl_param_args i) m = search rules in most_step f w i m _ r p o e (inner_same _ _ _ plane_args (omega arith) k.same c.args.s.now impl_param_args i) z))
