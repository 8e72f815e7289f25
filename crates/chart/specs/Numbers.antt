-- The number of each kind, and what tells kinds apart.
use Rattle.std.specs.Prelude.{ℕ, ◌≡◌, ◌≢◌, ◌<◌, List, [], ◌∷◌, Some, slice_get}
use Rattle.std.proofs.Common.{refl, sym, ◌∙◌, ap, lit<}
use Rattle.std.proofs.lemmas.Option.{same_Some}
use Rattle.rules.specs.Layout.{kind_unknown, kind_param, kind_tuple, kind_opaque, kind_struct, kind_enum, kind_union, kind_fn, kind_closure, kind_ref, kind_key, kind_never, kind_default, kind_error, kind_count}
use Rattle.chart.specs.declared.kinds.Kind.{Kind}
use Rattle.chart.specs.declared.kinds.Kind.TheVariants.{Unknown, Param, Tuple, Opaque, Struct, Enum, Union, Fn, Closure, Ref, Key, Never, Default, Error}

abbrev pub number_of : Kind → ℕ
number_of Unknown = kind_unknown
number_of Param = kind_param
number_of Tuple = kind_tuple
number_of Opaque = kind_opaque
number_of Struct = kind_struct
number_of Enum = kind_enum
number_of Union = kind_union
number_of Fn = kind_fn
number_of Closure = kind_closure
number_of Ref = kind_ref
number_of Key = kind_key
number_of Never = kind_never
number_of Default = kind_default
number_of Error = kind_error

-- The kinds, each at its number.
in_order : List Kind
in_order = Unknown ∷ Param ∷ Tuple ∷ Opaque ∷ Struct ∷ Enum ∷ Union ∷ Fn ∷ Closure ∷ Ref ∷ Key ∷ Never ∷ Default ∷ Error ∷ []

at_number : (k : Kind) → slice_get in_order (number_of k) ≡ Some k
unfolding in_order
at_number Unknown = refl
at_number Param = refl
at_number Tuple = refl
at_number Opaque = refl
at_number Struct = refl
at_number Enum = refl
at_number Union = refl
at_number Fn = refl
at_number Closure = refl
at_number Ref = refl
at_number Key = refl
at_number Never = refl
at_number Default = refl
at_number Error = refl

-- Two kinds have two numbers.
pub kind_apart : (k j : Kind) (w : ℕ) → number_of k ≡ w → k ≢ j → w ≢ number_of j
kind_apart k j w e n = λ f. n (same_Some k j (sym (at_number k) ∙ ap (slice_get in_order) (e ∙ f) ∙ at_number j))

-- There are so many.
pub number_below : (k : Kind) → number_of k < kind_count
number_below Unknown = lit< tt
number_below Param = lit< tt
number_below Tuple = lit< tt
number_below Opaque = lit< tt
number_below Struct = lit< tt
number_below Enum = lit< tt
number_below Union = lit< tt
number_below Fn = lit< tt
number_below Closure = lit< tt
number_below Ref = lit< tt
number_below Key = lit< tt
number_below Never = lit< tt
number_below Default = lit< tt
number_below Error = lit< tt
