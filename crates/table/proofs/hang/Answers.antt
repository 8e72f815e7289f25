-- `hang`: relabelled, and then the root's node.
use Rattle.table.specs.Joins.{low_in, low_root, high_low, moved_high, moved_low, hang_done}
use borrow.Author.Rules.{rules}
use Rattle.table.proofs.hang.Goals as goal

pub type_of-t-requires : goal.type_of-t-requires
type_of-t-requires c = search (rules, high_low)

pub relabel_members-requires-clause-lo_in_bounds : goal.relabel_members-requires-clause-lo_in_bounds
relabel_members-requires-clause-lo_in_bounds c = search (rules, low_in, low_root)

pub relabel_members-requires-clause-lo_value : goal.relabel_members-requires-clause-lo_value
relabel_members-requires-clause-lo_value c = search (rules, low_in, low_root)

pub set_root-requires-clause-n_in_bounds : goal.set_root-requires-clause-n_in_bounds
set_root-requires-clause-n_in_bounds c =
    let w = c.relabel_members.ensures in
    moved_high _ _ _ c.requires.packed c.requires.roots _ _ w

pub set_root-requires-clause-m_in_bounds : goal.set_root-requires-clause-m_in_bounds
set_root-requires-clause-m_in_bounds c =
    let w = c.relabel_members.ensures in
    moved_low _ _ _ c.requires.packed c.requires.roots _ _ w

pub returns : goal.returns
returns c = search (rules, hang_done)
