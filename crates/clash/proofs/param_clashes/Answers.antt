-- `param_clashes`: the table's records are indexed.
use Rattle.std.proofs.Common.{rules}
use Rattle.clash.specs.Params.{param-found, param-length, param_few, param_room}
use Rattle.clash.proofs.param_clashes.Goals as goal

pub index_chain-m-requires : goal.index_chain-m-requires
index_chain-m-requires c = search (rules, param_room)

pub slice_bounds-sides-end : goal.slice_bounds-sides-end
slice_bounds-sides-end c = search (rules, param_few)

pub slice_bounds-sides-end-2 : goal.slice_bounds-sides-end-2
slice_bounds-sides-end-2 c = search (rules, param-length)

pub returns : goal.returns
returns c = param-found _ _ c.requires.calling _ c.word_of-head.ensures _ c.requires.sheet_len_bound _ _ c.index_chain-m.ensures (search rules) _ _ _ c.requires.neat c.requires.all_in c.requires.n_bound c.requires.all_in_2 (search rules) _ c.requires.param_takes (c.has_room.ensures.room (search rules)) _ c.clash.ensures
