-- `sets`: the two nodes, and the modules of the inherent arguments.
use Rattle.std.proofs.Common.{rules, arith, length-take-le}
use Rattle.admitted.specs.Found.{few_definitions, sets_written, source_small}
use Rattle.admitted.proofs.sets.Goals as goal

pub general-requires : goal.general-requires
general-requires c = search (rules, source_small)

pub with_within-two-requires : goal.with_within-two-requires
with_within-two-requires c = (omega (arith, c.none.ensures.1, c.with-own.ensures.1), search (rules, few_definitions))

pub put_modules-requires : goal.put_modules-requires
put_modules-requires c = (omega (arith, c.none.ensures.1, c.with-own.ensures.1, c.with_within-two.ensures.up, c.min-k.ensures, length-take-le c.min-k.result c.args.args.now (omega (arith, c.min-k.ensures))), search (rules, few_definitions))

pub returns : goal.returns
returns c =
    sets_written _ _ _ _ _ _ c.none.result c.with-own.result c.with_within-two.result _ _ _ _ _ _ c.requires.stands c.definitions-count.ensures c.none.ensures.0 c.with-own.ensures.0 c.general.ensures c.trait_def.ensures c.inherent.ensures c.min-k.ensures c.requires.args_len_bound
    (omega (arith, c.none.ensures.1, c.with-own.ensures.1)) c.with_within-two.ensures c.put_modules.ensures
