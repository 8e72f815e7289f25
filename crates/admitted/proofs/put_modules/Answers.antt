-- `put_modules`: one argument more.
use Rattle.std.proofs.Common.{rules, length, map}
use Rattle.rules.specs.Transfer.{type_of_word}
use Rattle.rules.specs.Search.{inherent_mods}
use Rattle.table.specs.Packing.{types_of}
use Rattle.admitted.specs.Modules.{Gathers, handed_on, gather_start, gather_on, gather_stops, gather_end}
use Rattle.admitted.proofs.put_modules.Goals as goal

pub loop-t-init : goal.loop-t-init
loop-t-init c = search (rules, gather_start)

pub returns-in_err-all : goal.returns-in_err-all
returns-in_err-all c =
    handed_on (Gathers (inherent_mods c.args.s.now (types_of c.args.types.now) (map type_of_word c.args.args.now)) c.args.count (length c.args.args.now) c.args.nodes) c.from_residual.result c.in_err-all.field-0.0 c.from_residual.ensures.1 (search (rules, gather_stops))

pub loop-t-preserved : goal.loop-t-preserved
loop-t-preserved c = search (rules, gather_on)

pub returns : goal.returns
returns c = search (rules, gather_end)
