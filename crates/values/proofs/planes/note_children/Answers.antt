-- `note_children`: the most of the chain from a place, from the record there and its next.
use Rattle.std.proofs.Common.{rules, arith, ◌≡◌, max}
use Rattle.rules.specs.Layout.{node_children}
use Rattle.values.specs.Value.{inner_mark, inner_same}
use Rattle.values.specs.Folds.{chain_most, most-none, most_step}
use Rattle.values.specs.Tables.{plane_kids, plane_bounds, most-made}
use Rattle.values.proofs.planes.note_children.Goals as goal

pub returns : goal.returns
returns c =
    let f = inner_mark c.args.w.now c.args.ws.now plane_bounds node_children in
    let w = c.args.w.now in
    most-made _ _ _ _ c.requires f plane_kids 1 (omega arith) (omega arith)
    (c.note.ensures (chain_most f w) (most-none f w)
    (λ us i m r k p o e q. let z : r ≡ max (inner_mark c.args.w.now us.now plane_bounds node_children i) m = search rules in most_step f w i m _ r p o e (inner_same _ _ _ plane_kids (omega arith) k.same c.args.w.now node_children i) z))
