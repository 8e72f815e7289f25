-- `note_lengths`: one more than its next.
use Rattle.std.proofs.Common.{rules, ◌≡◌, ◌∙◌}
use Rattle.values.specs.Folds.{longer, chain_length, length_none, length_right}
use Rattle.values.proofs.folds.note_lengths.Goals as goal

pub returns : goal.returns
returns c =
    c.note.ensures (chain_length c.args.s.now) (length_none c.args.s.now)
    (λ us i m r k p o e q. let z : r ≡ longer m = search rules in z ∙ length_right c.args.s.now i m c.requires.0 p o e)
