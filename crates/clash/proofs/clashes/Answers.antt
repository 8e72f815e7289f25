-- `clashes`: the table's records are indexed.
use Rattle.std.proofs.Common.{rules}
use Rattle.clash.specs.Signatures.{clash_found, args_few, index_few, index_length, index_room}
use Rattle.clash.proofs.clashes.Goals as goal

pub index_chain-m-requires : goal.index_chain-m-requires
index_chain-m-requires c = search (rules, index_room)

pub slice_bounds-sides-end : goal.slice_bounds-sides-end
slice_bounds-sides-end c = search (rules, index_few)

pub slice_bounds-sides-end-2 : goal.slice_bounds-sides-end-2
slice_bounds-sides-end-2 c = search (rules, index_length)

pub clash_at-requires-clause-p_len_bound : goal.clash_at-requires-clause-p_len_bound
clash_at-requires-clause-p_len_bound c = search (rules, args_few)

pub returns : goal.returns
returns c = clash_found _ c.requires.sound _ c.requires.i_bound _ c.impl_place-p.ensures _ c.offset-head.ensures _ c.requires.sheet_len_bound _ _ c.index_chain-m.ensures (search rules) _ _ c.requires.neat c.requires.all_in c.requires.n_bound _ c.requires.signature_takes (c.has_room.ensures.room (search rules)) _ c.clash_at.ensures
