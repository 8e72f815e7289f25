-- `param_mark`: the words of the impl parameter, and the length of its arguments' chain.
use Rattle.std.proofs.Common.{rules}
use Rattle.values.specs.Value.{param-marked}
use Rattle.values.proofs.fits.Noted.param_mark.Goals as goal

pub returns : goal.returns
returns c = search (rules, param-marked)
