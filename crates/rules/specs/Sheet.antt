-- Document 01, "The sheet": words, chains of records, the fields of each record by its id, and the kind table.
-- A sheet (document 01's term) is a chart as u32 words; a chain is a list of records, each of which begins with the index of the next.
use Rattle.std.specs.Prelude.{ℕ, zero, suc, ◌+◌, ◌*◌, ◌/◌, ◌%◌, Bool, true, false, [], ◌∷◌, eqb, leb, length, get_or, take, drop}
use Rattle.rules.specs.Lists.{Words}
use Rattle.rules.specs.Layout.{header_definitions, header_generics, header_traits, header_impls, header_structs, header_unions, header_imports, definition_parent, definition_trait_vis, definition_trait, definition_bindings, definition_named, definition_implicit, import_definition, generics_type_params, generics_table_word, generics_impl_params, trait_definition, trait_arity_word, trait_inherent, impl_generics_word, impl_flags, impl_trait_word, impl_table_word, impl_args_word, owner_self_dual, kind_struct, kind_union}

-- The word at a place; 0 past the end.
abbrev pub at : Words → ℕ → ℕ
at s i = get_or s i 0

-- The words of a record: from its index for its length; none where it passes the end.
unfoldable pub record_words : Words → ℕ → ℕ → Words
record_words s p len = elim (leb (p + len) (length s)) [ true ↦ take len (drop p s) | false ↦ [] ]

-- The places of the records on the chain from a head, at most k of them.
unfoldable pub chain_of : ℕ → Words → ℕ → Words
chain_of zero s i = []
chain_of (suc k) s zero = []
chain_of (suc k) s (suc i) = suc i ∷ chain_of k s (at s (suc i))

-- The places of the records on the chain from a head. A slice has no more records than words.
unfoldable pub chain : Words → ℕ → Words
chain s i = chain_of (length s) s i

-- The records of one kind, by id: h is the header word that heads their chain.
unfoldable pub records : Words → ℕ → Words
records s h = chain s (at s h)

-- How many there are.
unfoldable pub many : Words → ℕ → ℕ
many s h = length (records s h)

-- Word k of record id of the chain that header word h heads.
unfoldable pub field : Words → ℕ → ℕ → ℕ → ℕ
field s h id k = at s (at (records s h) id + k)

-- Of a definition: parent?.
unfoldable pub parent : Words → ℕ → ℕ
parent s d = field s header_definitions d definition_parent

-- Of a definition: the vis of its trait.
unfoldable pub trait_vis : Words → ℕ → ℕ
trait_vis s d = field s header_definitions d definition_trait_vis

-- Of a definition: trait?.
unfoldable pub def_trait : Words → ℕ → ℕ
def_trait s d = field s header_definitions d definition_trait

-- Of a definition: the records of its impl bindings.
unfoldable pub bindings : Words → ℕ → Words
bindings s d = chain s (field s header_definitions d definition_bindings)

-- Of a definition: the records of its named members.
unfoldable pub named_members : Words → ℕ → Words
named_members s d = chain s (field s header_definitions d definition_named)

-- Of a definition: the records of its implicit members.
unfoldable pub implicit_members : Words → ℕ → Words
implicit_members s d = chain s (field s header_definitions d definition_implicit)

-- Of an import: definition?.
unfoldable pub import_def : Words → ℕ → ℕ
import_def s i = field s header_imports i import_definition

-- Of generics: the type parameter count.
unfoldable pub type_params : Words → ℕ → ℕ
type_params s g = field s header_generics g generics_type_params

-- Of generics: the head of their table.
unfoldable pub generics_table : Words → ℕ → ℕ
generics_table s g = field s header_generics g generics_table_word

-- Of generics: the records of their impl parameters.
unfoldable pub impl_param_records : Words → ℕ → Words
impl_param_records s g = chain s (field s header_generics g generics_impl_params)

-- Of a trait: its definition.
unfoldable pub trait_def : Words → ℕ → ℕ
trait_def s t = field s header_traits t trait_definition

-- Of a trait: its arity.
unfoldable pub trait_arity : Words → ℕ → ℕ
trait_arity s t = field s header_traits t trait_arity_word

-- Of a trait: its inherent count, `inherent_params`.
unfoldable pub inherent_params : Words → ℕ → ℕ
inherent_params s t = field s header_traits t trait_inherent

-- Of an impl: its generics.
unfoldable pub impl_generics : Words → ℕ → ℕ
impl_generics s i = field s header_impls i impl_generics_word

-- Of an impl: flag n (1 manual, 2 basic, 4 unsafe, 8 named).
unfoldable pub impl_flag : Words → ℕ → ℕ → Bool
impl_flag s n i = eqb ((field s header_impls i impl_flags / n) % 2) 1

-- Of an impl: trait?.
unfoldable pub impl_trait : Words → ℕ → ℕ
impl_trait s i = field s header_impls i impl_trait_word

-- Of an impl: the head of its table.
unfoldable pub impl_table : Words → ℕ → ℕ
impl_table s i = field s header_impls i impl_table_word

-- Of an impl: the head of its arguments.
unfoldable pub impl_args : Words → ℕ → ℕ
impl_args s i = field s header_impls i impl_args_word

-- The kind table: a row for each kind, of least children, most children, own inverse, may meet inverted.
-- Struct and Union have the last two flags only where the record says self-dual.
unfoldable pub kinds : Words
kinds =
    0 ∷ 0 ∷ 0 ∷ 0 ∷  -- 0 unknown
    0 ∷ 0 ∷ 0 ∷ 0 ∷  -- 1 Param
    0 ∷ 8 ∷ 1 ∷ 1 ∷  -- 2 Tuple
    0 ∷ 8 ∷ 0 ∷ 0 ∷  -- 3 Opaque
    0 ∷ 8 ∷ 1 ∷ 1 ∷  -- 4 Struct
    0 ∷ 8 ∷ 0 ∷ 0 ∷  -- 5 Enum
    0 ∷ 8 ∷ 1 ∷ 1 ∷  -- 6 Union
    0 ∷ 0 ∷ 0 ∷ 0 ∷  -- 7 Fn
    1 ∷ 8 ∷ 0 ∷ 0 ∷  -- 8 Closure
    1 ∷ 1 ∷ 0 ∷ 0 ∷  -- 9 Ref
    0 ∷ 0 ∷ 0 ∷ 0 ∷  -- 10 Key
    0 ∷ 0 ∷ 0 ∷ 0 ∷  -- 11 Never
    0 ∷ 0 ∷ 1 ∷ 0 ∷  -- 12 Default
    0 ∷ 0 ∷ 1 ∷ 0 ∷ []  -- 13 Error

-- The columns of a row: least children,
abbrev pub row_least : ℕ
row_least = 0

-- most children,
abbrev pub row_most : ℕ
row_most = 1

-- own inverse,
abbrev pub row_own_inverse : ℕ
row_own_inverse = 2

-- may meet inverted;
abbrev pub row_may_meet : ℕ
row_may_meet = 3

-- and how many there are.
abbrev pub row_length : ℕ
row_length = 4

-- Column j of the row of kind k.
abbrev pub kind_row : ℕ → ℕ → ℕ
kind_row k j = at kinds (row_length * k + j)

-- What a Struct or a Union needs beside its row's flag: self-dual; 1 for other kinds.
unfoldable pub self_dual : Words → ℕ → ℕ → ℕ
self_dual s k id =
    elim (eqb k kind_struct) [
      | true ↦ field s header_structs id owner_self_dual
      | false ↦ elim (eqb k kind_union) [ true ↦ field s header_unions id owner_self_dual | false ↦ 1 ]
    ]

-- Flag j (own inverse or may meet) of a type of kind k and an id.
unfoldable pub kind_flag : Words → ℕ → ℕ → ℕ → Bool
kind_flag s j k id = elim (eqb (kind_row k j) 1) [ true ↦ eqb (self_dual s k id) 1 | false ↦ false ]
