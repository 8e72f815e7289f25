-- `get_mod`: the module of a type, looked for through Ref, as the loop has it.
use Rattle.std.specs.Prelude.{ℕ, suc, ◌+◌, ◌-◌, ◌/◌, ◌≤◌, ◌≡◌, Bool, true, false, [], ◌∷◌, map, ◌≢◌, length, Option, Some, None, Result, Ok, Err}
use Rattle.std.proofs.Math.Path.{refl, sym, ap, ap₂}
use Rattle.std.proofs.Common.{◌∙◌, arith}
use Rattle.std.proofs.Math.Dec.{eqb}
use Rattle.std.proofs.Math.ListN.{get_or}
use borrow.Author.Tests.{eq-eqb, ne_eqb}
use Rattle.rules.specs.Lists.{Words}
use Rattle.rules.specs.Layout.{header_opaques, header_structs, header_enums, header_unions, owner_definition, kind_opaque, kind_struct, kind_enum, kind_union, kind_ref, kind_error}
use Rattle.rules.specs.Sheet.{field}
use Rattle.rules.specs.Types.{Ty, TypeState, unknown, known, Types, invert_if, invert_state, find, state_at, kind}
use Rattle.rules.specs.Acyclic.{children}
use Rattle.rules.specs.AcyclicLaws.{children_at}
use Rattle.rules.specs.Candidates.{within_def}
use Rattle.rules.specs.Run.{Run, done, stop}
use Rattle.rules.specs.Search.{get_mod_in, get_mod}
use Rattle.rules.specs.Transfer.{type_of_word}
use Rattle.rules.specs.Answer.{word_of_type}
use Rattle.rules.specs.Solutions.{rep}
use Rattle.table.specs.Packing.{types_of, kind_in, id_in, kind_at, id_at}
use Rattle.table.specs.Nodes.{type_word}
use Rattle.refusals.specs.declared.Refusal.{Refusal}
use Rattle.refusals.specs.declared.Refusal.TheVariants.{ErrorType}
use Rattle.refusals.specs.Numbers.{number_of}

-- What a result of the code is: no module, the module of a definition, or a refusal by its number.
unfoldable pub module_of : Result (Option ℕ) Refusal → Run Words
module_of (Ok None) = done []
module_of (Ok (Some d)) = done (within_def d ∷ [])
module_of (Err refusal) = stop (number_of refusal)

-- The chain of the records that say where a kind's types are defined.
unfoldable pub owner_chain : ℕ → Words
owner_chain k =
    elim (eqb k kind_opaque) [
      | true ↦ header_opaques ∷ []
      | false ↦ elim (eqb k kind_struct) [
        | true ↦ header_structs ∷ []
        | false ↦ elim (eqb k kind_enum) [ true ↦ header_enums ∷ [] | false ↦ elim (eqb k kind_union) [ true ↦ header_unions ∷ [] | false ↦ [] ] ]
      ]
    ]

-- The module of a type of kind k, neither Error nor Ref, and an id.
unfoldable pub own_module : Words → ℕ → ℕ → Run Words
own_module s k id = done (map (λ h. within_def (field s h id owner_definition)) (owner_chain k))

-- One level, by the state of the root.
module _ (s : Words) (ts : Types) (k : ℕ) where
  at_state : (b : Bool) (st : TypeState) → eqb (kind_in st) kind_error ≡ false → eqb (kind_in st) kind_ref ≡ false
      → ◌≡◌ {A = Run Words} (elim (invert_state b st) [ unknown ↦ done [] | known inv kd id cs ↦ elim (eqb kd kind_error) [ true ↦ stop 19 | false ↦ elim (eqb kd kind_ref) [ true ↦ get_mod_in k s ts (get_or cs 0 (false, 0)) | false ↦ done (map (λ h. within_def (field s h id owner_definition)) (owner_chain kd)) ] ] ]) (own_module s (kind_in st) (id_in st))
  unfolding invert_state kind_in id_in own_module owner_chain
  at_state b unknown e f = refl
  at_state b (known i kd d cs) e f = rw (e, f)

  other : (t : Ty) → eqb (kind_in (state_at ts (rep ts t.1))) kind_error ≡ false → eqb (kind_in (state_at ts (rep ts t.1))) kind_ref ≡ false → get_mod_in (suc k) s ts t ≡ own_module s (kind_in (state_at ts (rep ts t.1))) (id_in (state_at ts (rep ts t.1)))
  unfolding get_mod_in kind find invert_if rep owner_chain
  other t e f = at_state (find ts t).0 (state_at ts (rep ts t.1)) e f

  error_state : (b : Bool) (st : TypeState) → kind_in st ≡ kind_error → ◌≡◌ {A = Run Words} (elim (invert_state b st) [ unknown ↦ done [] | known inv kd id cs ↦ elim (eqb kd kind_error) [ true ↦ stop 19 | false ↦ elim (eqb kd kind_ref) [ true ↦ get_mod_in k s ts (get_or cs 0 (false, 0)) | false ↦ done (map (λ h. within_def (field s h id owner_definition)) (owner_chain kd)) ] ] ]) (stop 19)
  unfolding invert_state kind_in
  error_state b unknown e = absurd (omega arith)
  error_state b (known i kd d cs) e = rw (eq-eqb kd kind_error e)

  ref_state : (b : Bool) (st : TypeState) → kind_in st ≡ kind_ref → ◌≡◌ {A = Run Words} (elim (invert_state b st) [ unknown ↦ done [] | known inv kd id cs ↦ elim (eqb kd kind_error) [ true ↦ stop 19 | false ↦ elim (eqb kd kind_ref) [ true ↦ get_mod_in k s ts (get_or cs 0 (false, 0)) | false ↦ done (map (λ h. within_def (field s h id owner_definition)) (owner_chain kd)) ] ] ]) (get_mod_in k s ts (get_or (children st) 0 (false, 0)))
  unfolding invert_state kind_in children
  ref_state b unknown e = absurd (omega arith)
  ref_state b (known i kd d cs) e = rw (ne_eqb kd kind_error (omega arith), eq-eqb kd kind_ref e)

  error_level : (t : Ty) → kind_in (state_at ts (rep ts t.1)) ≡ kind_error → get_mod_in (suc k) s ts t ≡ stop 19
  unfolding get_mod_in kind find invert_if rep owner_chain
  error_level t e = error_state (find ts t).0 (state_at ts (rep ts t.1)) e

  ref_level : (t : Ty) → kind_in (state_at ts (rep ts t.1)) ≡ kind_ref → get_mod_in (suc k) s ts t ≡ get_mod_in k s ts (get_or (children (state_at ts (rep ts t.1))) 0 (false, 0))
  unfolding get_mod_in kind find invert_if rep owner_chain
  ref_level t e = ref_state (find ts t).0 (state_at ts (rep ts t.1)) e

-- The loop, at type word t with `left` levels to go towards x: n is its root, k the kind of that.
pub record Seeking (s : Words) (ts : Types) (left t : ℕ) (x : Run Words) : Type 0 where
  pub rest : get_mod_in left s ts (type_of_word t) ≡ x

pub seek_start : (s ws : Words) (c left t : ℕ) → c ≡ length (types_of ws) → left ≡ c + 1 → Seeking s (types_of ws) left t (get_mod s (types_of ws) (type_of_word t))
unfolding get_mod
seek_start s ws c left t e el = record { rest = ap (λ k. get_mod_in k s (types_of ws) (type_of_word t)) (let q : left ≡ suc (length (types_of ws)) = omega arith in q) }

pub seek_spent : (s : Words) (ts : Types) (left t : ℕ) (x : Run Words) → left ≡ 0 → Seeking s ts left t x → module_of (Ok None) ≡ x
unfolding module_of get_mod_in
seek_spent s ts left t x e p = sym (ap (λ k. get_mod_in k s ts (type_of_word t)) e) ∙ p.rest

module _ (s : Words) (ts : Types) (left t n k : ℕ) (x : Run Words) (nz : left ≢ 0) (p : Seeking s ts left t x) (en : n ≡ rep ts (t / 2)) (ek : k ≡ kind_at ts n) where
  more : get_mod_in (suc (left - 1)) s ts (type_of_word t) ≡ x
  more = sym (ap (λ j. get_mod_in j s ts (type_of_word t)) (let q : left ≡ suc (left - 1) = omega arith in q)) ∙ p.rest

  here : kind_in (state_at ts (rep ts (t / 2))) ≡ k
  unfolding kind_at
  here = sym (ek ∙ ap (λ r. kind_in (state_at ts r)) en)

  pub seek_error : k ≡ 13 → module_of (Err ErrorType) ≡ x
  unfolding module_of type_of_word
  seek_error z = sym (error_level s ts (left - 1) (type_of_word t) (here ∙ z)) ∙ more

  pub seek_on : (c after : ℕ) → k ≡ 9 → c ≡ word_of_type (get_or (children_at ts n) 0 (false, 0)) → after ≡ left - 1 → Seeking s ts after c x
  unfolding type_of_word children_at
  seek_on c after z ec ea = record { rest = ap (λ j. get_mod_in j s ts (type_of_word c)) ea ∙ ap (get_mod_in (left - 1) s ts) (ap type_of_word ec ∙ type_word (get_or (children_at ts n) 0 (false, 0)) ∙ ap (λ r. get_or (children (state_at ts r)) 0 (false, 0)) en) ∙ sym (ref_level s ts (left - 1) (type_of_word t) (here ∙ z)) ∙ more }

  pub seek_own : (o : Option ℕ) (d : ℕ) → k ≢ 13 → k ≢ 9 → d ≡ id_at ts n → module_of (Ok o) ≡ own_module s k d → module_of (Ok o) ≡ x
  unfolding type_of_word id_at
  seek_own o d a b ed e = e ∙ ap₂ (own_module s) (sym here) (ed ∙ ap (λ m. id_in (state_at ts m)) en) ∙ sym (other s ts (left - 1) (type_of_word t) (ap (λ j. eqb j kind_error) here ∙ ne_eqb k kind_error a) (ap (λ j. eqb j kind_ref) here ∙ ne_eqb k kind_ref b)) ∙ more

-- Where a kind's types are defined: d is the definition that the record of the id names.
module _ (s : Words) (k id : ℕ) where
  pub in_opaques : (d : ℕ) → k ≡ 3 → d ≡ field s header_opaques id owner_definition → module_of (Ok (Some d)) ≡ own_module s k id
  unfolding module_of own_module owner_chain
  in_opaques d e ed = ap {B = Run Words} (λ j. done (within_def j ∷ [])) ed ∙ sym (ap (λ j. own_module s j id) e)

  pub in_structs : (d : ℕ) → k ≡ 4 → d ≡ field s header_structs id owner_definition → module_of (Ok (Some d)) ≡ own_module s k id
  unfolding module_of own_module owner_chain
  in_structs d e ed = ap {B = Run Words} (λ j. done (within_def j ∷ [])) ed ∙ sym (ap (λ j. own_module s j id) e)

  pub in_enums : (d : ℕ) → k ≡ 5 → d ≡ field s header_enums id owner_definition → module_of (Ok (Some d)) ≡ own_module s k id
  unfolding module_of own_module owner_chain
  in_enums d e ed = ap {B = Run Words} (λ j. done (within_def j ∷ [])) ed ∙ sym (ap (λ j. own_module s j id) e)

  pub in_unions : (d : ℕ) → k ≡ 6 → d ≡ field s header_unions id owner_definition → module_of (Ok (Some d)) ≡ own_module s k id
  unfolding module_of own_module owner_chain
  in_unions d e ed = ap {B = Run Words} (λ j. done (within_def j ∷ [])) ed ∙ sym (ap (λ j. own_module s j id) e)

  pub in_none : k ≢ 3 → k ≢ 4 → k ≢ 5 → k ≢ 6 → module_of (Ok None) ≡ own_module s k id
  unfolding module_of own_module owner_chain
  in_none a b c d = sym (rw (ne_eqb k 3 a, ne_eqb k 4 b, ne_eqb k 5 c, ne_eqb k 6 d, owner_chain))

-- A word that numbers no kind.
pub seek_strange : (s : Words) (ts : Types) (left t n k : ℕ) (x : Run Words) → left ≢ 0 → Seeking s ts left t x → n ≡ rep ts (t / 2) → k ≡ kind_at ts n → 14 ≤ k → module_of (Ok None) ≡ x
seek_strange s ts left t n k x nz p en ek h = seek_own s ts left t n k x nz p en ek None (id_at ts n) (λ e. omega (arith, h, e)) (λ e. omega (arith, h, e)) refl (in_none s k (id_at ts n) (λ e. omega (arith, h, e)) (λ e. omega (arith, h, e)) (λ e. omega (arith, h, e)) (λ e. omega (arith, h, e)))
