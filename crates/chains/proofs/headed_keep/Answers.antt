-- `headed_keep`: one record after the other.
use Rattle.std.proofs.Common.{subst}
use Rattle.rules.specs.Layout.{header_length}
use Rattle.rules.specs.Chains.{head_keeps}
use Rattle.chains.specs.Walks.{ok_at, by_calls}
use Rattle.chains.specs.Planes.{Planes, Goes}
use Rattle.chains.specs.Sheets.{Stands, standing}
use Rattle.chains.proofs.headed_keep.Goals as goal

pub returns : goal.returns
returns g c = λ len heads long some knows k.
    let s = c.args.s.now in
    subst (λ h. Goes header_length s (head_keeps header_length s len heads h) c.walk.new.ws c.walk.result) c.next.ensures
    (standing header_length s len heads _ _ long some
    (λ us p f xs t a. by_calls _ (λ us p f xs. Planes header_length s us → Stands header_length s (ok_at s len heads p) xs f) knows us p f xs a t)
    _ _ _ k c.walk.ensures)
