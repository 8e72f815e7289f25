-- `all_clash`: as the parts say.
use Rattle.std.proofs.Common.{rules}
use Rattle.clash.specs.Pairs.{clashing_args, clashing_cyclic, clashing_opposed, clashing_run}
use Rattle.clash.proofs.arguments.Arguments.all_clash.Goals as goal

pub returns-then-is_err : goal.returns-then-is_err
returns-then-is_err c = search (rules, clashing_args)

pub returns-then-is_err-2 : goal.returns-then-is_err-2
returns-then-is_err-2 c = search (rules, clashing_run)

pub returns-then-is_opposed : goal.returns-then-is_opposed
returns-then-is_opposed c = search (rules, clashing_opposed)

pub returns : goal.returns
returns c = search (rules, clashing_cyclic)
