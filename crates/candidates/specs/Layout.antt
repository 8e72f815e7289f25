-- What stands where in the part of the workspace that belongs to a source. Word d says whether definition d is an ancestor of the source; then come rows of 12 words for each of 384 nodes, and indexes of chains.
use Rattle.std.specs.Prelude.{ℕ}

-- Rows: to which nodes edges lead, to which open edges lead, which nodes are reached, which impls a set has; and where the rows end.
abbrev pub rows_links : ℕ
rows_links = 128

abbrev pub rows_open : ℕ
rows_open = 4736

abbrev pub rows_reach : ℕ
rows_reach = 9344

abbrev pub rows_sets : ℕ
rows_sets = 13952

abbrev pub rows_end : ℕ
rows_end = 18560

-- How far what spreads along a relation is behind the relation: reach behind links, sets behind open edges.
abbrev pub rows_behind : ℕ
rows_behind = 9216

-- The indexes: the count of a chain's records, then the place of each.
abbrev pub index_definitions : ℕ
index_definitions = 18560

abbrev pub index_impls : ℕ
index_impls = 22657

abbrev pub index_traits : ℕ
index_traits = 26754

abbrev pub index_imports : ℕ
index_imports = 30851

-- The words in all.
abbrev pub candidates_length : ℕ
candidates_length = 34948
