-- `note_bindings`: the most of the chain from a place, from the record there and its next.
use Rattle.std.proofs.Common.{rules, arith, ◌≡◌, max}
use Rattle.std.proofs.Common.{refl}
use Rattle.rules.specs.Values.{binding_ok}
use Rattle.values.specs.NodeLaws.{bad}
use Rattle.values.specs.Folds.{chain_most, most-none, most_step}
use Rattle.values.specs.Tables.{plane_bindings, known_below, most-made}
use Rattle.values.proofs.planes.note_bindings.Goals as goal

pub note-requires : goal.note-requires
note-requires c = record { room = search rules; runs = λ us i m k. let known = known_below _ _ _ us.now plane_bindings c.requires (omega arith) k in search rules }

pub returns : goal.returns
returns c =
    let f = bad (binding_ok c.args.s.now) in
    let w = c.args.s.now in
    most-made _ _ _ _ c.requires f plane_bindings 1 (omega arith) (omega arith)
    (c.note.ensures (chain_most f w) (most-none f w)
    (λ us i m r k p o e q. let z : r ≡ max (bad (binding_ok c.args.s.now) i) m = search rules in most_step f w i m _ r p o e refl z))
