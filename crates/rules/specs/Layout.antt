-- Where the words of a sheet and of a question stand: document 01, "The sheet". Header words, record lengths, field places, flags and kinds by name.
-- `record·field` is the place of a field in its record, and `record·length` the record's words.
use Rattle.std.specs.Prelude.{ℕ}

-- Header, words 0 to 15: edition; heads of ten chains; prelude?, fork?, drop?, duplicate?, erase?.
abbrev pub header_edition : ℕ
header_edition = 0

abbrev pub header_definitions : ℕ
header_definitions = 1

abbrev pub header_generics : ℕ
header_generics = 2

abbrev pub header_traits : ℕ
header_traits = 3

abbrev pub header_impls : ℕ
header_impls = 4

abbrev pub header_opaques : ℕ
header_opaques = 5

abbrev pub header_structs : ℕ
header_structs = 6

abbrev pub header_enums : ℕ
header_enums = 7

abbrev pub header_unions : ℕ
header_unions = 8

abbrev pub header_closures : ℕ
header_closures = 9

abbrev pub header_imports : ℕ
header_imports = 10

abbrev pub header_prelude : ℕ
header_prelude = 11

abbrev pub header_fork : ℕ
header_fork = 12

abbrev pub header_drop : ℕ
header_drop = 13

abbrev pub header_duplicate : ℕ
header_duplicate = 14

abbrev pub header_erase : ℕ
header_erase = 15

-- Records start behind it, and no head but zero is lower.
abbrev pub header_length : ℕ
header_length = 16

-- The only edition.
abbrev pub edition_1 : ℕ
edition_1 = 1

-- definition: next, parent?, trait vis, trait?, impl bindings, named members, implicit members (three heads)
abbrev pub definition_parent : ℕ
definition_parent = 1

abbrev pub definition_trait_vis : ℕ
definition_trait_vis = 2

abbrev pub definition_trait : ℕ
definition_trait = 3

abbrev pub definition_bindings : ℕ
definition_bindings = 4

abbrev pub definition_named : ℕ
definition_named = 5

abbrev pub definition_implicit : ℕ
definition_implicit = 6

abbrev pub definition_length : ℕ
definition_length = 7

-- binding: next, vis, impl
abbrev pub binding_vis : ℕ
binding_vis = 1

abbrev pub binding_impl : ℕ
binding_impl = 2

abbrev pub binding_length : ℕ
binding_length = 3

-- member: next, vis, 0 child or 1 import, id
abbrev pub member_vis : ℕ
member_vis = 1

abbrev pub member_import : ℕ
member_import = 2

abbrev pub member_id : ℕ
member_id = 3

abbrev pub member_length : ℕ
member_length = 4

-- import: next, definition? (0 unless resolved)
abbrev pub import_definition : ℕ
import_definition = 1

abbrev pub import_length : ℕ
import_length = 2

-- generics: next, type parameter count, table head, impl parameter head
abbrev pub generics_type_params : ℕ
generics_type_params = 1

abbrev pub generics_table_word : ℕ
generics_table_word = 2

abbrev pub generics_impl_params : ℕ
generics_impl_params = 3

abbrev pub generics_length : ℕ
generics_length = 4

-- impl parameter: next, trait?, argument head
abbrev pub impl_param_trait : ℕ
impl_param_trait = 1

abbrev pub impl_param_args : ℕ
impl_param_args = 2

abbrev pub impl_param_length : ℕ
impl_param_length = 3

-- trait: next, definition, arity, inherent count
abbrev pub trait_definition : ℕ
trait_definition = 1

abbrev pub trait_arity_word : ℕ
trait_arity_word = 2

abbrev pub trait_inherent : ℕ
trait_inherent = 3

abbrev pub trait_length : ℕ
trait_length = 4

-- impl: next, generics, flags, trait?, table head, argument head
abbrev pub impl_generics_word : ℕ
impl_generics_word = 1

abbrev pub impl_flags : ℕ
impl_flags = 2

abbrev pub impl_trait_word : ℕ
impl_trait_word = 3

abbrev pub impl_table_word : ℕ
impl_table_word = 4

abbrev pub impl_args_word : ℕ
impl_args_word = 5

abbrev pub impl_length : ℕ
impl_length = 6

-- The flags of an impl: 1 manual, 2 basic, 4 unsafe, 8 named; all of them together are 15.
abbrev pub flag_manual : ℕ
flag_manual = 1

abbrev pub flag_basic : ℕ
flag_basic = 2

abbrev pub flag_unsafe : ℕ
flag_unsafe = 4

abbrev pub flag_named : ℕ
flag_named = 8

abbrev pub flag_all : ℕ
flag_all = 15

-- opaque, enum: next, definition. Struct, union: next, definition, self-dual 0/1
abbrev pub owner_definition : ℕ
owner_definition = 1

abbrev pub owner_self_dual : ℕ
owner_self_dual = 2

abbrev pub opaque_length : ℕ
opaque_length = 2

abbrev pub struct_length : ℕ
struct_length = 3

abbrev pub enum_length : ℕ
enum_length = 2

abbrev pub union_length : ℕ
union_length = 3

-- closure: next, flex (0 none, 1 fork, 2 drop, 3 both)
abbrev pub closure_flex : ℕ
closure_flex = 1

abbrev pub closure_length : ℕ
closure_length = 2

abbrev pub flex_fork : ℕ
flex_fork = 1

abbrev pub flex_drop : ℕ
flex_drop = 2

abbrev pub flex_both : ℕ
flex_both = 3

-- type node: next, kind, inverted 0/1, id, child head
abbrev pub node_kind : ℕ
node_kind = 1

abbrev pub node_inverted : ℕ
node_inverted = 2

abbrev pub node_id : ℕ
node_id = 3

abbrev pub node_children : ℕ
node_children = 4

abbrev pub node_length : ℕ
node_length = 5

-- child or argument cell: next, type word
abbrev pub cell_type : ℕ
cell_type = 1

abbrev pub cell_length : ℕ
cell_length = 2

-- The question: table head, then trait? and argument head (impl) or type word and 0 (flex), records from 3
abbrev pub question_table : ℕ
question_table = 0

abbrev pub question_trait : ℕ
question_trait = 1

abbrev pub question_args : ℕ
question_args = 2

abbrev pub question_type : ℕ
question_type = 1

abbrev pub question_zero : ℕ
question_zero = 2

abbrev pub question_length : ℕ
question_length = 3

-- The answer: tree head, drop tree head, table head, words used, inverted, self-inverse; records from 6
abbrev pub answer_length : ℕ
answer_length = 6

-- tree record: next sibling, kind, id, child head
abbrev pub tree_length : ℕ
tree_length = 4

-- the kinds of a tree record
abbrev pub tree_param : ℕ
tree_param = 1

abbrev pub tree_def : ℕ
tree_def = 2

abbrev pub tree_fork_closure : ℕ
tree_fork_closure = 3

abbrev pub tree_drop_closure : ℕ
tree_drop_closure = 4

-- Kinds of type nodes
abbrev pub kind_unknown : ℕ
kind_unknown = 0

abbrev pub kind_param : ℕ
kind_param = 1

abbrev pub kind_tuple : ℕ
kind_tuple = 2

abbrev pub kind_opaque : ℕ
kind_opaque = 3

abbrev pub kind_struct : ℕ
kind_struct = 4

abbrev pub kind_enum : ℕ
kind_enum = 5

abbrev pub kind_union : ℕ
kind_union = 6

abbrev pub kind_fn : ℕ
kind_fn = 7

abbrev pub kind_closure : ℕ
kind_closure = 8

abbrev pub kind_ref : ℕ
kind_ref = 9

abbrev pub kind_key : ℕ
kind_key = 10

abbrev pub kind_never : ℕ
kind_never = 11

abbrev pub kind_default : ℕ
kind_default = 12

abbrev pub kind_error : ℕ
kind_error = 13

-- how many kinds there are
abbrev pub kind_count : ℕ
kind_count = 14
