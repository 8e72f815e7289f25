-- Small sheets and questions written by what they hold, for the witnesses: one definition, which binds every impl, publicly and unnamed.
use Rattle.std.specs.Prelude.{ℕ, suc, ◌+◌, false, List, [], ◌∷◌, ◌++◌, map, length}
use Rattle.rules.specs.Lists.{Words}
use Rattle.rules.specs.Layout.{header_length, definition_length, trait_length, struct_length, closure_length, generics_length, impl_length, binding_length, impl_param_length, question_length, kind_param, kind_tuple, kind_struct}
use Rattle.rules.specs.Types.{Ty, TypeState, known, ImplType}
use Rattle.rules.specs.Transfer.{new_nodes}
use Rattle.rules.specs.Answer.{head_or_zero, word_of_type, pack_cells, pack_nodes}

-- An impl: its trait, its count of type parameters, its table, its arguments, and what it needs (traits with arguments, over the same table).
pub record Impl : Type 0 where
  pub trait : ℕ
  pub params : ℕ
  pub types : List TypeState
  pub args : List Ty
  pub needs : List ImplType

-- Records of len words from place p, linked: the words behind each next.
unfoldable pub rows : ℕ → ℕ → List Words → Words
rows p len [] = []
rows p len (r ∷ rs) = head_or_zero (p + len) rs ∷ r ++ rows (p + len) len rs

-- Impl parameters from place p, each followed by its arguments.
unfoldable pub pack_needs : ℕ → List ImplType → Words
pack_needs p [] = []
pack_needs p (n ∷ ns) =
    let args_at = p + impl_param_length in
    let args = pack_cells args_at n.1 in
    let next = args_at + length args in
    (head_or_zero next ns ∷ suc n.0 ∷ head_or_zero args_at args ∷ []) ++ args ++ pack_needs next ns

-- Impls from place p and id i: generics (one id higher), impl, binding, then the table, the arguments and the needs.
unfoldable pub pack_impls : ℕ → ℕ → List Impl → Words
pack_impls p i [] = []
pack_impls p i (m ∷ ms) =
    let impl_at = p + generics_length in
    let binding-at = impl_at + impl_length in
    let types_at = binding-at + binding_length in
    let types = pack_nodes types_at (new_nodes 0 m.types) in
    let args_at = types_at + length types in
    let args = pack_cells args_at m.args in
    let needs-at = args_at + length args in
    let needs = pack_needs needs-at m.needs in
    let next = needs-at + length needs in
    (head_or_zero next ms ∷ m.params ∷ head_or_zero types_at types ∷ head_or_zero needs-at needs ∷ [])
    ++ (head_or_zero (next + generics_length) ms ∷ suc i ∷ 0 ∷ suc m.trait ∷ head_or_zero types_at types ∷ head_or_zero args_at args ∷ [])
    ++ (head_or_zero (next + generics_length + impl_length) ms ∷ 0 ∷ i ∷ [])
    ++ types
    ++ args
    ++ needs
    ++ pack_impls next (suc i) ms

-- A sheet: traits by arity and inherent count, structs by self-dual, closures by flex, impls; prelude?, fork?, drop?, duplicate?, erase?. Generics 0 are plain.
unfoldable pub sheet_of : List (ℕ × ℕ) → Words → Words → List Impl → Words → Words
sheet_of traits structs closures impls builtins =
    let traits-at = header_length + definition_length in
    let ts = rows traits-at trait_length (map (λ t. 0 ∷ t.0 ∷ t.1 ∷ []) traits) in
    let structs-at = traits-at + length ts in
    let ss = rows structs-at struct_length (map (λ d. 0 ∷ d ∷ []) structs) in
    let closures-at = structs-at + length ss in
    let cs = rows closures-at closure_length (map (λ f. f ∷ []) closures) in
    let generics-at = closures-at + length cs in
    let impls-at = generics-at + generics_length in
    (1 ∷ header_length ∷ generics-at ∷ head_or_zero traits-at ts ∷ head_or_zero (impls-at + generics_length) impls ∷ 0 ∷ head_or_zero structs-at ss ∷ 0 ∷ 0 ∷ head_or_zero closures-at cs ∷ 0 ∷ [])
    ++ builtins
    ++ (0 ∷ 0 ∷ 0 ∷ 0 ∷ head_or_zero (impls-at + generics_length + impl_length) impls ∷ 0 ∷ 0 ∷ [])
    ++ ts
    ++ ss
    ++ cs
    ++ (head_or_zero impls-at impls ∷ 0 ∷ 0 ∷ 0 ∷ [])
    ++ pack_impls impls-at 0 impls

-- No prelude, fork, drop, duplicate or erase.
unfoldable pub no_builtins : Words
no_builtins = 0 ∷ 0 ∷ 0 ∷ 0 ∷ 0 ∷ []

-- An impl question: a trait, a table and arguments.
unfoldable pub impl_question : ℕ → List TypeState → List Ty → Words
impl_question t types args =
    let nodes = pack_nodes question_length (new_nodes 0 types) in
    let args_at = question_length + length nodes in
    (head_or_zero question_length nodes ∷ suc t ∷ head_or_zero args_at args ∷ []) ++ nodes ++ pack_cells args_at args

-- A flex question: a table and a type.
unfoldable pub flex_question : List TypeState → Ty → Words
flex_question types t =
    let nodes = pack_nodes question_length (new_nodes 0 types) in
    (head_or_zero question_length nodes ∷ word_of_type t ∷ 0 ∷ []) ++ nodes

-- Node n, upright.
abbrev pub node : ℕ → Ty
node n = (false, n)

-- A type parameter.
abbrev pub param : ℕ → TypeState
param n = known false kind_param n []

-- A tuple.
abbrev pub tuple : List Ty → TypeState
tuple cs = known false kind_tuple 0 cs

-- A struct.
abbrev pub struct : ℕ → List Ty → TypeState
struct d cs = known false kind_struct d cs
