-- A known node, with the children that its cells are.
use Rattle.std.proofs.Common.{refl, rules}
use Rattle.loading.specs.Nodes.{cells_few, cells-words, cells-above, known_low, known_pushed}
use Rattle.loading.proofs.load_known.Goals as goal

pub read_cells-m-requires-clause-head_len_bound : goal.read_cells-m-requires-clause-head_len_bound
read_cells-m-requires-clause-head_len_bound c = search (rules, cells_few)

pub invariant_of-known-clause-kinds : goal.invariant_of-known-clause-kinds
invariant_of-known-clause-kinds c = search (rules, known_low)

pub invariant_of-known-clause-above : goal.invariant_of-known-clause-above
invariant_of-known-clause-above c = cells-above _ _ _ c.requires.node_fits c.requires.kind _ _ c.offset-head.ensures refl _ _ c.read_cells-m.ensures _ c.offset-2.ensures

pub invariant_of-known-clause-type_words : goal.invariant_of-known-clause-type_words
invariant_of-known-clause-type_words c = cells-words _ _ _ c.requires.node_fits c.requires.kind _ _ c.offset-head.ensures refl _ _ c.read_cells-m.ensures

pub returns : goal.returns
returns c = search (rules, known_pushed)
