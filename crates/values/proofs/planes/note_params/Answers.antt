-- `note_params`: the most of the chain from a place, from the record there and its next.
use Rattle.std.proofs.Common.{rules, arith, ◌≡◌, max}
use Rattle.values.specs.Value.{param_mark, param-same}
use Rattle.values.specs.Folds.{chain_most, most-none, most_step}
use Rattle.values.specs.Tables.{plane_params, plane_lengths, known_below, most-made}
use Rattle.values.proofs.planes.note_params.Goals as goal

pub note-requires : goal.note-requires
note-requires c = record { room = search rules; runs = λ us i m k. let known = known_below _ _ _ us.now plane_params c.requires (omega arith) k in search rules }

pub returns : goal.returns
returns c =
    let f = param_mark c.args.s.now c.args.ws.now plane_lengths in
    let w = c.args.s.now in
    most-made _ _ _ _ c.requires f plane_params 1 (omega arith) (omega arith)
    (c.note.ensures (chain_most f w) (most-none f w)
    (λ us i m r k p o e q. let z : r ≡ max (param_mark c.args.s.now us.now plane_lengths i) m = search rules in most_step f w i m _ r p o e (param-same _ _ _ plane_params (omega arith) k.same c.args.s.now i) z))
