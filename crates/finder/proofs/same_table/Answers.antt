-- `same_table`: the words of the nodes are compared.
use Rattle.std.proofs.Common.{rules, sym, arith, length-take-le}
use Rattle.table.specs.Nodes.{types_length}
use Rattle.finder.specs.Recalling.{same_words}
use Rattle.finder.proofs.same_table.Goals as goal

pub shared_ref_as_front-eq : goal.shared_ref_as_front-eq
shared_ref_as_front-eq c = omega (arith, c.count.ensures, types_length c.args.a.now, c.requires.few)

pub slice_bounds-eq-end : goal.slice_bounds-eq-end
slice_bounds-eq-end c = sym (length-take-le _ c.args.a.now (omega (arith, c.count.ensures, types_length c.args.a.now, c.requires)))

pub returns : goal.returns
returns c = search (rules, same_words)
