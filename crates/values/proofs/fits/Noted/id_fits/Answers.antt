-- `id_fits`, kind by kind.
use Rattle.std.proofs.Common.{rules, refl}
use Rattle.chart.specs.Numbers.{kind_apart}
use Rattle.values.specs.Known.{id_param, id_fn, id_key, id_owned}
use Rattle.values.proofs.fits.Noted.id_fits.Goals as goal

pub returns-in-Param : goal.returns-in-Param
returns-in-Param c = search (rules, id_param)

pub returns-in-Fn : goal.returns-in-Fn
returns-in-Fn c = search (rules, id_fn, id_key)

pub returns-in_default : goal.returns-in_default
returns-in_default c = id_owned _ _ _ _ (kind_apart _ _ _ refl c.in_default.not-Param) (kind_apart _ _ _ refl c.in_default.not-Fn) (kind_apart _ _ _ refl c.in_default.not-Key) c.owned.ensures
