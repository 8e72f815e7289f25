-- `owned`: a record of its kind, or none.
use Rattle.values.specs.Known.{owned_none, owned_some}
use Rattle.values.proofs.fits.Noted.owned.Goals as goal

pub returns-in-Some : goal.returns-in-Some
returns-in-Some c = owned_some _ _ _ _ _ _ c.args.self.known c.in-Some.ensures c.next.ensures

pub returns-in-None : goal.returns-in-None
returns-in-None c = owned_none _ _ _ c.in-None.ensures
