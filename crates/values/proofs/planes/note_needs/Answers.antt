-- `note_needs`: the most of the chain from a place, from the record there and its next.
use Rattle.std.proofs.Common.{rules, arith, ◌≡◌, max}
use Rattle.std.proofs.Common.{refl}
use Rattle.values.specs.NodeLaws.{node_need}
use Rattle.values.specs.Folds.{chain_most, most-none, most_step}
use Rattle.values.specs.Tables.{plane_needs, most-made}
use Rattle.values.proofs.planes.note_needs.Goals as goal

pub returns : goal.returns
returns c =
    let f = node_need c.args.w.now in
    let w = c.args.w.now in
    most-made _ _ _ _ c.requires f plane_needs 1 (omega arith) (omega arith)
    (c.note.ensures (chain_most f w) (most-none f w)
    (λ us i m r k p o e q. let z : r ≡ max (node_need c.args.w.now i) m = search rules in most_step f w i m _ r p o e refl z))
