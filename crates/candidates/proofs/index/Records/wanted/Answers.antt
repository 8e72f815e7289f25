-- `wanted`: the cases of trait and flag.
use Rattle.std.proofs.Common.{rules}
use Rattle.candidates.specs.Find.{wanted_flag, wanted_not, wanted_none}
use Rattle.candidates.proofs.index.Records.wanted.Goals as goal

pub returns-then-u-t : goal.returns-then-u-t
returns-then-u-t c = wanted_flag _ _ _ _ _ _ _ c.impl_word.ensures c.in-Some.ensures.0 c.in-Some.ensures.1 c.if-u-t.true c.impl_flag.ensures

pub returns-else-u-t : goal.returns-else-u-t
returns-else-u-t c = wanted_not _ _ _ _ _ _ c.impl_word.ensures c.in-Some.ensures.0 c.in-Some.ensures.1 c.if-u-t.false

pub returns-in-None : goal.returns-in-None
returns-in-None c = search (rules, wanted_none)
