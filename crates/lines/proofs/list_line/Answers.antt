-- `list_line`: the parts of the line, one after the other.
use Rattle.std.proofs.Common.{rules, arith}
use Rattle.lines.specs.Text.{number_short}
use Rattle.lines.specs.Lines.{source_low, impls_few, line_done}
use Rattle.lines.proofs.list_line.Goals as goal

pub put_number-colon-requires : goal.put_number-colon-requires
put_number-colon-requires c = let h = source_low _ _ c.requires.0 c.requires.2 in (omega arith, search rules)

pub put-impls-requires : goal.put-impls-requires
put-impls-requires c = let h = source_low _ _ c.requires.0 c.requires.2 in omega (arith, c.put_number-colon.ensures.0.ends, number_short c.args.d (omega arith))

pub put_impls-end-requires : goal.put_impls-end-requires
put_impls-end-requires c = let h = source_low _ _ c.requires.0 c.requires.2 in (c.build.ensures.indexes, omega arith, impls_few _ c.requires.0, omega (arith, c.put-impls.ensures.0.ends, c.put_number-colon.ensures.0.ends, number_short c.args.d (omega arith)))

pub put-requires : goal.put-requires
put-requires c = let h = source_low _ _ c.requires.0 c.requires.2 in omega (arith, c.put_impls-end.ensures.1, c.put-impls.ensures.0.ends, c.put_number-colon.ensures.0.ends, number_short c.args.d (omega arith))

pub returns : goal.returns
returns c = (line_done _ _ _ _ _ _ _ _ _ _ _ _ c.requires.0 c.requires.2 c.build.ensures c.put_number-colon.ensures.0 c.put-impls.ensures.0 c.put_impls-end.ensures.0 c.put.ensures.0, search rules)
