-- What is known of a sheet, for one read each: the count of each kind of record, in words 0 to 15 of the workspace, and the place of each trait's record, in its second plane.
use Prim.Native.Nat.{ℕ, zero, suc, ◌+◌, ◌*◌, ◌-◌, ◌≤◌, ◌<◌}
use Rattle.std.specs.Prelude.{◌≡◌, Bool, true, false, [], ◌∷◌, ◌≢◌, eqb, length, Option, MatchOption}
use Rattle.std.proofs.Math.Path.{refl, ap}
use Rattle.std.proofs.Common.{sym, ◌∙◌}
use native.Mathlib.Omega.{arith}
use native.Mathlib.Nat.{ℕ_set}
use borrow.Author.Tests.{eq-eqb, ne_eqb, lt-leb, le-leb}
use Rattle.std.proofs.Math.Dec.{ltb, leb}
use Rattle.rules.specs.Lists.{Words, holds}
use Rattle.rules.specs.Limits.{limit_sheet}
use Rattle.rules.specs.Layout.{header_definitions, header_impls, header_traits, header_imports, header_length, binding_vis, binding_impl, member_vis, member_import, member_id, trait_arity_word, kind_param, kind_fn, kind_key}
use Rattle.rules.specs.Sheet.{at, records, many, field, trait_arity}
use Rattle.rules.specs.Values.{is_id, is_optional, is_vis, binding_ok, member_ok, arity}
use Rattle.chart.specs.Index.{many-within}
use Rattle.chart.specs.Numbers.{number_of}
use Rattle.chart.specs.declared.kinds.Kind.{Kind}
use Rattle.chart.specs.declared.kinds.Kind.TheVariants.{Unknown, Param, Tuple, Opaque, Struct, Enum, Union, Fn, Closure, Ref, Key, Never, Default, Error}
use Rattle.values.specs.NodeLaws.{owners, owner, id_fits, word_most, args_core}

-- The id of a member, of a child or an import.
unfoldable pub is_member_id : Words → ℕ → ℕ → Bool
is_member_id s i x = elim (eqb i 0) [ true ↦ is_id s header_definitions x | false ↦ is_id s header_imports x ]

last : (x : Bool) → x ≡ holds (x ∷ [])
unfolding holds
last true = refl
last false = refl

-- What is known.
pub record Known (s ws : Words) : Type 0 where
  pub count : (h : ℕ) → h < header_length → at ws h ≡ many s h
  pub trait : (i : ℕ) → i < many s header_traits → at ws (limit_sheet + i) ≡ at (records s header_traits) i

-- At most one proof of it.
pub known_prop : (s ws : Words) → IsProp (Known s ws)
known_prop s ws a b = λ i. record { count = λ h m. ℕ_set _ _ (a.count h m) (b.count h m) i; trait = λ j m. ℕ_set _ _ (a.trait j m) (b.trait j m) i }

-- It stays known in a workspace that agrees on its first two planes.
pub known_same : (s ws us : Words) (to : ℕ) → length s ≤ limit_sheet → 2 * limit_sheet ≤ to → ((j : ℕ) → j < to → at us j ≡ at ws j) → Known s ws → Known s us
known_same s ws us to small l same k = record {
  count = λ h m. same h (omega arith) ∙ k.count h m;
  trait = λ i m. same (limit_sheet + i) (omega (arith, many-within s header_traits)) ∙ k.trait i m;
}

owner_in : (k : ℕ) → owner k < header_length
unfolding owners
owner_in zero = omega arith
owner_in (suc zero) = omega arith
owner_in (suc (suc zero)) = omega arith
owner_in (suc (suc (suc zero))) = omega arith
owner_in (suc (suc (suc (suc zero)))) = omega arith
owner_in (suc (suc (suc (suc (suc zero))))) = omega arith
owner_in (suc (suc (suc (suc (suc (suc zero)))))) = omega arith
owner_in (suc (suc (suc (suc (suc (suc (suc zero))))))) = omega arith
owner_in (suc (suc (suc (suc (suc (suc (suc (suc zero)))))))) = omega arith
owner_in (suc (suc (suc (suc (suc (suc (suc (suc (suc k))))))))) = omega arith

-- Other kinds' ids name none.
pub owner_none : (kind : Kind) → kind ≢ Opaque → kind ≢ Struct → kind ≢ Enum → kind ≢ Union → kind ≢ Closure → owner (number_of kind) ≡ 0
unfolding owners
owner_none Unknown a b c d e = refl
owner_none Param a b c d e = refl
owner_none Tuple a b c d e = refl
owner_none Opaque a b c d e = absurd (a refl)
owner_none Struct a b c d e = absurd (b refl)
owner_none Enum a b c d e = absurd (c refl)
owner_none Union a b c d e = absurd (d refl)
owner_none Fn a b c d e = refl
owner_none Closure a b c d e = absurd (e refl)
owner_none Ref a b c d e = refl
owner_none Key a b c d e = refl
owner_none Never a b c d e = refl
owner_none Default a b c d e = refl
owner_none Error a b c d e = refl

-- The header word that heads the records which ids of kind k name, where there is one.
abbrev pub Owner : Option ℕ → ℕ → Type 0
Owner o k = MatchOption o (owner k ≡ 0) (λ h. (h ≡ owner k) × (0 < h))

-- An id names a record of its kind, or is 0 where the kind names none.
unfoldable pub owned : Words → ℕ → ℕ → Bool
owned s k id = elim (eqb (owner k) 0) [ true ↦ eqb id 0 | false ↦ ltb id (many s (owner k)) ]

-- An unused id.
pub owned_none : (s : Words) (k id : ℕ) → owner k ≡ 0 → eqb id 0 ≡ owned s k id
unfolding owned
owned_none s k id e = rw (eq-eqb (owner k) 0 e, owned) refl

-- An id of a record.
pub owned_some : (s ws : Words) (k id h c : ℕ) → Known s ws → (h ≡ owner k) × (0 < h) → c ≡ at ws h → ltb id c ≡ owned s k id
unfolding owned
owned_some s ws k id h c kn q g = rw (ne_eqb (owner k) 0 (λ z. absurd (omega (arith, q.0, q.1, z))), owned) (ap (ltb id) (g ∙ ap (at ws) q.0 ∙ kn.count (owner k) (owner_in k)))

module _ (s : Words) (k id : ℕ) where
  -- The id of a Param.
  pub id_param : k ≡ kind_param → ltb id word_most ≡ id_fits s k id
  unfolding id_fits
  id_param e = sym (ap (λ x. id_fits s x id) e)

  -- The id of an Fn.
  pub id_fn : k ≡ kind_fn → true ≡ id_fits s k id
  unfolding id_fits
  id_fn e = sym (ap (λ x. id_fits s x id) e)

  -- The id of a Key.
  pub id_key : k ≡ kind_key → true ≡ id_fits s k id
  unfolding id_fits
  id_key e = sym (ap (λ x. id_fits s x id) e)

  -- Another.
  pub id_owned : (r : Bool) → k ≢ kind_param → k ≢ kind_fn → k ≢ kind_key → r ≡ owned s k id → r ≡ id_fits s k id
  unfolding id_fits owned
  id_owned r n m o e = e ∙ rw (ne_eqb k kind_param n, ne_eqb k kind_fn m, ne_eqb k kind_key o, id_fits) refl

module _ (s ws : Words) (kn : Known s ws) where
  -- A binding: vis and impl.
  pub binding_known : (p v c i d : ℕ) (r : Bool) → v ≡ at s (p + binding_vis) → c ≡ at ws header_definitions → i ≡ at s (p + binding_impl) → d ≡ at ws header_impls → r ≡ holds (leb v c ∷ ltb i d ∷ []) → r ≡ binding_ok s p
  unfolding binding_ok is_vis is_id
  binding_known p v c i d r a b e f g = g ∙ λ t. holds (leb (a t) ((b ∙ kn.count header_definitions (omega arith)) t) ∷ ltb (e t) ((f ∙ kn.count header_impls (omega arith)) t) ∷ [])

  -- A member: vis, child or import, id.
  pub member_known : (p v c i x : ℕ) (y r : Bool) → v ≡ at s (p + member_vis) → c ≡ at ws header_definitions → i ≡ at s (p + member_import) →
      x ≡ at s (p + member_id) → y ≡ is_member_id s i x → r ≡ holds (leb v c ∷ leb i 1 ∷ y ∷ []) → r ≡ member_ok s p
  unfolding member_ok is_vis is_member_id
  member_known p v c i x y r a b e f g h = h ∙ λ t. holds (leb (a t) ((b ∙ kn.count header_definitions (omega arith)) t) ∷ leb (e t) 1 ∷ (g ∙ λ u. is_member_id s (e u) (f u)) t ∷ [])

  -- The id of a child.
  pub member_child : (i x c : ℕ) → i ≡ 0 → c ≡ at ws header_definitions → ltb x c ≡ is_member_id s i x
  unfolding is_member_id is_id
  member_child i x c e f = rw (eq-eqb i 0 e, is_member_id) (ap (ltb x) (f ∙ kn.count header_definitions (omega arith)))

  -- The id of an import.
  pub member_import_lem : (i x c : ℕ) → i ≢ 0 → c ≡ at ws header_imports → ltb x c ≡ is_member_id s i x
  unfolding is_member_id is_id
  member_import_lem i x c e f = rw (ne_eqb i 0 e, is_member_id) (ap (ltb x) (f ∙ kn.count header_imports (omega arith)))

  -- A trait? and so many arguments.
  pub args_past : (t n c : ℕ) → c ≡ at ws header_traits → c < t → false ≡ args_core s t n
  unfolding args_core is_optional holds
  args_past t n c e l = rw (lt-leb t (many s header_traits) (omega (arith, e ∙ kn.count header_traits (omega arith))), holds) refl

  -- There is no trait.
  pub args_none : (t n c : ℕ) → c ≡ at ws header_traits → t ≤ c → t ≡ 0 → eqb n 0 ≡ args_core s t n
  unfolding args_core is_optional holds arity
  args_none zero n c e l z = rw (le-leb 0 (many s header_traits) (omega arith)) (last (eqb n 0))
  args_none (suc t) n c e l z = absurd (omega arith)

  -- There is a trait: its record's place is known.
  pub args_some : (t n c o p a : ℕ) → c ≡ at ws header_traits → t ≤ c → t ≢ 0 → o ≡ at ws (limit_sheet + (t - 1)) → p ≡ o → a ≡ at s (p + trait_arity_word) → eqb n a ≡ args_core s t n
  unfolding args_core is_optional holds arity trait_arity field
  args_some zero n c o p a e l z f' f'' g = absurd (z refl)
  args_some (suc t) n c o p a e l z f' f'' g =
      let f = f'' ∙ f' in
      rw (le-leb (suc t) (many s header_traits) (omega (arith, e ∙ kn.count header_traits (omega arith))))
      (ap (eqb n) (g ∙ ap (λ x. at s (x + trait_arity_word)) (f ∙ ap (λ x. at ws (limit_sheet + x)) (let q : suc t - 1 ≡ t = omega arith in q) ∙ kn.trait t (omega (arith, e ∙ kn.count header_traits (omega arith))))) ∙ last _)
