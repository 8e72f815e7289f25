-- 8 and 12 for a chain as a whole: every node of a table, every argument, binding and member is in range if the most that one of them asks for is.
use Rattle.std.specs.Prelude.{ℕ, zero, suc, ◌+◌, ◌/◌, ◌≤◌, ◌<◌, ◌≡◌, refl, Bool, true, false, not, ◌||◌, List, [], ◌∷◌, map}
use Rattle.std.proofs.Common.{sym, ◌∙◌, ap, arith, lt-ltb, le-ltb}
use Rattle.std.proofs.Math.Decide.{dec_lt}
use Rattle.std.proofs.Math.Dec.{T, eqb, ltb, leb, leb→le, leb-zero, leb-suc-zero, leb-suc-suc, eqb-suc-zero}
use Rattle.std.proofs.Math.ListN.{length}
use Rattle.std.proofs.lemmas.List.{length-map}
use Rattle.rules.specs.Lists.{Words, all, holds, bit}
use Rattle.rules.specs.Layout.{header_opaques, header_structs, header_enums, header_unions, header_closures, header_traits, impl_param_trait, impl_param_args, node_kind, node_inverted, node_id, node_children, cell_type, kind_unknown, kind_param, kind_fn, kind_key, kind_count}
use Rattle.rules.specs.Sheet.{at, chain, many, kind_row, row_least, row_most}
use Rattle.rules.specs.Types.{Ty}
use Rattle.rules.specs.Transfer.{type_of_word, cell_types}
use Rattle.rules.specs.Values.{in_table, is_optional, id_bound, node_fits, node_ok, table_ok, arity, args_ok}
use Rattle.values.specs.Folds.{most, most_leb}

-- The largest word.
abbrev pub word_most : ℕ
word_most = 4294967295

-- 1 where a test fails: so all records pass it if the most of these is 0.
abbrev pub bad : (ℕ → Bool) → ℕ → ℕ
bad ok p = bit (not (ok p))

bad_leb : (b : Bool) → b ≡ leb (bit (not b)) 0
bad_leb true = sym (leb-zero 0)
bad_leb false = sym (leb-suc-zero 0)

all_same : {A : Type 0} (f g : A → Bool) → ((x : A) → f x ≡ g x) → (xs : List A) → all f xs ≡ all g xs
unfolding all
all_same f g h [] = refl
all_same f g h (x ∷ xs) = λ t. elim (h x t) as (λ b. Bool) [ true ↦ all_same f g h xs t | false ↦ false ]

-- All records of a chain pass a test.
pub all-bad : (ok : ℕ → Bool) (ps : Words) → all ok ps ≡ leb (most (bad ok) ps) 0
all-bad ok ps = all_same ok (λ p. leb (bad ok p) 0) (λ p. bad_leb (ok p)) ps ∙ most_leb (bad ok) 0 ps

-- Two tests, and three, of every record.
all_two : (a b : ℕ → Bool) (ps : Words) → all (λ p. holds (a p ∷ b p ∷ [])) ps ≡ holds (all a ps ∷ all b ps ∷ [])
unfolding all holds
all_two a b [] = refl
all_two a b (p ∷ ps) = go (a p) (b p) (all a ps) (all b ps) (all_two a b ps)
  where
    go : (x y xs ys : Bool) → all (λ q. holds (a q ∷ b q ∷ [])) ps ≡ holds (xs ∷ ys ∷ []) →
        ◌≡◌ {A = Bool} (elim (holds (x ∷ y ∷ [])) as (λ c. Bool) [ true ↦ all (λ q. holds (a q ∷ b q ∷ [])) ps | false ↦ false ])
        (holds (elim x as (λ c. Bool) [ true ↦ xs | false ↦ false ] ∷ elim y as (λ c. Bool) [ true ↦ ys | false ↦ false ] ∷ []))
    go false y xs ys e = refl
    go true false true ys e = refl
    go true false false ys e = refl
    go true true xs ys e = e

all_three : (a b c : ℕ → Bool) (ps : Words) → all (λ p. holds (a p ∷ b p ∷ c p ∷ [])) ps ≡ holds (all a ps ∷ all b ps ∷ all c ps ∷ [])
unfolding all holds
all_three a b c [] = refl
all_three a b c (p ∷ ps) = go (a p) (b p) (c p) (all a ps) (all b ps) (all c ps) (all_three a b c ps)
  where
    go : (x y z xs ys zs : Bool) → all (λ q. holds (a q ∷ b q ∷ c q ∷ [])) ps ≡ holds (xs ∷ ys ∷ zs ∷ []) →
        ◌≡◌ {A = Bool} (elim (holds (x ∷ y ∷ z ∷ [])) as (λ d. Bool) [ true ↦ all (λ q. holds (a q ∷ b q ∷ c q ∷ [])) ps | false ↦ false ])
        (holds (elim x as (λ d. Bool) [ true ↦ xs | false ↦ false ] ∷ elim y as (λ d. Bool) [ true ↦ ys | false ↦ false ] ∷ elim z as (λ d. Bool) [ true ↦ zs | false ↦ false ] ∷ []))
    go false y z xs ys zs e = refl
    go true false z true ys zs e = refl
    go true false z false ys zs e = refl
    go true true false true true zs e = refl
    go true true false true false zs e = refl
    go true true false false ys zs e = refl
    go true true true xs ys zs e = e

-- What a cell asks for: a table with its node. And the cells of a chain.
unfoldable pub cell_need : Words → ℕ → ℕ
cell_need w c = suc (at w (c + cell_type) / 2)

-- What the cells of a chain ask for.
unfoldable pub bound : Words → ℕ → ℕ
bound w h = most (cell_need w) (chain w h)

all_map : (f : Ty → Bool) (g : ℕ → Ty) (xs : Words) → all f (map g xs) ≡ all (λ x. f (g x)) xs
unfolding all
all_map f g [] = refl
all_map f g (x ∷ xs) = λ t. elim (f (g x)) as (λ b. Bool) [ true ↦ all_map f g xs t | false ↦ false ]

-- A table of n nodes has all that the cells of a chain name.
pub table-holds : (n : ℕ) (w : Words) (h : ℕ) → in_table n (cell_types w h) ≡ leb (bound w h) n
unfolding cell_types type_of_word bound cell_need
table-holds n w h = all_map (λ t. ltb t.1 n) (λ c. type_of_word (at w (c + cell_type))) (chain w h) ∙ most_leb (cell_need w) n (chain w h)

-- There are as many types as cells.
pub cells-many : (w : Words) (h : ℕ) → length (cell_types w h) ≡ length (chain w h)
unfolding cell_types
cells-many w h = length-map (chain w h) (λ c. type_of_word (at w (c + cell_type)))

-- The header word that heads the records which a kind's id names; 0 for other kinds.
unfoldable pub owners : Words
owners = 0 ∷ 0 ∷ 0 ∷ header_opaques ∷ header_structs ∷ header_enums ∷ header_unions ∷ 0 ∷ header_closures ∷ []

-- The header word of kind k.
abbrev pub owner : ℕ → ℕ
owner k = at owners k

-- The id of a node is in range, but for a Param's, which is only some word's below the largest.
unfoldable pub id_fits : Words → ℕ → ℕ → Bool
id_fits s k id =
    elim (eqb k kind_param) [
      | true ↦ ltb id word_most
      | false ↦ elim (eqb k kind_fn || eqb k kind_key) [ true ↦ true | false ↦ elim (eqb (owner k) 0) [ true ↦ eqb id 0 | false ↦ ltb id (many s (owner k)) ] ]
    ]

-- What a node asks of the count of type parameters.
unfoldable pub param_need : ℕ → ℕ → ℕ
param_need k id = elim (eqb k kind_param) [ true ↦ elim (ltb id word_most) [ true ↦ suc id | false ↦ 0 ] | false ↦ 0 ]

if_so : (b x : Bool) → x ≡ true → b ≡ elim b as (λ c. Bool) [ true ↦ x | false ↦ false ]
if_so true x e = sym e
if_so false x e = refl

only_zero : (id : ℕ) → ltb id 1 ≡ eqb id 0
only_zero zero = leb-suc-suc 0 0 ∙ leb-zero 0
only_zero (suc id) = leb-suc-suc (suc id) 0 ∙ leb-suc-zero id ∙ sym (eqb-suc-zero id)

-- The id of a node is in range: the two together.
id_split : (s : Words) (params k id : ℕ) → k < kind_count → params ≤ word_most → ltb id (id_bound s params id k) ≡ elim (id_fits s k id) as (λ b. Bool) [ true ↦ leb (param_need k id) params | false ↦ false ]
unfolding id_bound id_fits param_need owners
id_split s params zero id h l = only_zero id ∙ if_so (eqb id 0) (leb 0 params) (leb-zero params)
id_split s params (suc zero) id h l = go (dec_lt id word_most)
  where
    go : Dec (id < word_most) → ◌≡◌ {A = Bool} (ltb id params) (elim (ltb id word_most) as (λ b. Bool) [ true ↦ leb (elim (ltb id word_most) as (λ b. ℕ) [ true ↦ suc id | false ↦ 0 ]) params | false ↦ false ])
    go (yes m) = sym (ap (λ x. elim x as (λ b. Bool) [ true ↦ leb (elim x as (λ b. ℕ) [ true ↦ suc id | false ↦ 0 ]) params | false ↦ false ]) (lt-ltb id word_most m))
    go (no m) = rw (le-ltb id word_most (omega arith)) (le-ltb id params (omega arith))
id_split s params (suc (suc zero)) id h l = only_zero id ∙ if_so (eqb id 0) (leb 0 params) (leb-zero params)
id_split s params (suc (suc (suc zero))) id h l = if_so (ltb id (many s header_opaques)) (leb 0 params) (leb-zero params)
id_split s params (suc (suc (suc (suc zero)))) id h l = if_so (ltb id (many s header_structs)) (leb 0 params) (leb-zero params)
id_split s params (suc (suc (suc (suc (suc zero))))) id h l = if_so (ltb id (many s header_enums)) (leb 0 params) (leb-zero params)
id_split s params (suc (suc (suc (suc (suc (suc zero)))))) id h l = if_so (ltb id (many s header_unions)) (leb 0 params) (leb-zero params)
id_split s params (suc (suc (suc (suc (suc (suc (suc zero))))))) id h l = lt-ltb id (suc id) (omega arith) ∙ sym (leb-zero params)
id_split s params (suc (suc (suc (suc (suc (suc (suc (suc zero)))))))) id h l = if_so (ltb id (many s header_closures)) (leb 0 params) (leb-zero params)
id_split s params (suc (suc (suc (suc (suc (suc (suc (suc (suc zero))))))))) id h l = only_zero id ∙ if_so (eqb id 0) (leb 0 params) (leb-zero params)
id_split s params (suc (suc (suc (suc (suc (suc (suc (suc (suc (suc zero)))))))))) id h l = lt-ltb id (suc id) (omega arith) ∙ sym (leb-zero params)
id_split s params (suc (suc (suc (suc (suc (suc (suc (suc (suc (suc (suc zero))))))))))) id h l = only_zero id ∙ if_so (eqb id 0) (leb 0 params) (leb-zero params)
id_split s params (suc (suc (suc (suc (suc (suc (suc (suc (suc (suc (suc (suc zero)))))))))))) id h l = only_zero id ∙ if_so (eqb id 0) (leb 0 params) (leb-zero params)
id_split s params (suc (suc (suc (suc (suc (suc (suc (suc (suc (suc (suc (suc (suc zero))))))))))))) id h l = only_zero id ∙ if_so (eqb id 0) (leb 0 params) (leb-zero params)
id_split s params (suc (suc (suc (suc (suc (suc (suc (suc (suc (suc (suc (suc (suc (suc k)))))))))))))) id h l = absurd (omega arith)

-- A node with so many children is in range, but for its Param and its children.
unfoldable pub core : Words → ℕ → ℕ → ℕ → ℕ → Bool
core s k inv id n = holds (
    ltb k kind_count
    ∷ leb inv 1
    ∷ (ltb kind_unknown k || eqb inv 0)
    ∷ id_fits s k id
    ∷ leb (kind_row k row_least) n
    ∷ leb n (kind_row k row_most)
    ∷ [])

regroup : (a b c d e f g x d' : Bool) → (T a → d' ≡ elim d as (λ y. Bool) [ true ↦ x | false ↦ false ]) → holds (a ∷ b ∷ c ∷ d' ∷ e ∷ f ∷ g ∷ []) ≡ holds (holds (a ∷ b ∷ c ∷ d ∷ e ∷ f ∷ []) ∷ x ∷ g ∷ [])
unfolding holds
regroup false b c d e f g x d' h = refl
regroup true false c d e f g x d' h = refl
regroup true true false d e f g x d' h = refl
regroup true true true d e f g x d' h = ap (λ y. holds (y ∷ e ∷ f ∷ g ∷ [])) (h tt) ∙ go d x e f
  where
    go : (d x e f : Bool) → holds (elim d as (λ y. Bool) [ true ↦ x | false ↦ false ] ∷ e ∷ f ∷ g ∷ []) ≡ holds (holds (d ∷ e ∷ f ∷ []) ∷ x ∷ g ∷ [])
    go false x e f = refl
    go true true true true = refl
    go true true true false = refl
    go true true false f = refl
    go true false true true = refl
    go true false true false = refl
    go true false false f = refl

-- A node of a slice w: whether it is out of range by itself, and what it asks of the type parameters and of its table.
unfoldable pub node_core : Words → Words → ℕ → Bool
node_core s w p = core s (at w (p + node_kind)) (at w (p + node_inverted)) (at w (p + node_id)) (length (chain w (at w (p + node_children))))

-- What it asks of the type parameters.
unfoldable pub node_need : Words → ℕ → ℕ
node_need w p = param_need (at w (p + node_kind)) (at w (p + node_id))

-- What its children ask of the table.
unfoldable pub node_child : Words → ℕ → ℕ
node_child w p = bound w (at w (p + node_children))

module _ (s w : Words) (params : ℕ) (l : params ≤ word_most) where
  node_split : (n p : ℕ) → node_ok s w params n p ≡ holds (node_core s w p ∷ leb (node_need w p) params ∷ leb (node_child w p) n ∷ [])
  unfolding node_ok node_fits node_core node_need node_child core
  node_split n p =
      let k = at w (p + node_kind) in
      let id = at w (p + node_id) in
      let cs = cell_types w (at w (p + node_children)) in
      (λ t. holds (
      ltb k kind_count
      ∷ leb (at w (p + node_inverted)) 1
      ∷ (ltb kind_unknown k || eqb (at w (p + node_inverted)) 0)
      ∷ ltb id (id_bound s params id k)
      ∷ leb (kind_row k row_least) (cells-many w (at w (p + node_children)) t)
      ∷ leb (cells-many w (at w (p + node_children)) t) (kind_row k row_most)
      ∷ table-holds n w (at w (p + node_children)) t
      ∷ []))
      ∙ regroup (ltb k kind_count) _ _ (id_fits s k id) _ _ _ (leb (param_need k id) params) (ltb id (id_bound s params id k)) (λ t. id_split s params k id (lt k t) l)
    where
      lt : (k : ℕ) → T (ltb k kind_count) → k < kind_count
      lt k t = leb→le (suc k) kind_count t

  -- A table: every node of it.
  pub table-whole : (h : ℕ) → table_ok s w params h ≡ holds (leb (most (bad (node_core s w)) (chain w h)) 0 ∷ leb (most (node_need w) (chain w h)) params ∷ leb (most (node_child w) (chain w h)) (length (chain w h)) ∷ [])
  unfolding table_ok
  table-whole h =
      let ps = chain w h in
      let n = length ps in
      all_same (node_ok s w params n) (λ p. holds (node_core s w p ∷ leb (node_need w p) params ∷ leb (node_child w p) n ∷ [])) (node_split n) ps
      ∙ all_three (node_core s w) (λ p. leb (node_need w p) params) (λ p. leb (node_child w p) n) ps
      ∙ (λ t. holds (all-bad (node_core s w) ps t ∷ most_leb (node_need w) params ps t ∷ most_leb (node_child w) n ps t ∷ []))

-- A trait? with so many arguments, but for what they ask of the table.
unfoldable pub args_core : Words → ℕ → ℕ → Bool
args_core s t n = holds (is_optional s header_traits t ∷ eqb n (arity s t) ∷ [])

two_of_three : (a b c : Bool) → holds (a ∷ b ∷ c ∷ []) ≡ holds (holds (a ∷ b ∷ []) ∷ c ∷ [])
unfolding holds
two_of_three true true c = refl
two_of_three true false c = refl
two_of_three false b c = refl

-- A trait? and its arguments: what they ask of the table, and the rest.
pub args_whole : (s w : Words) (h t args : ℕ) → args_ok s w h t args ≡ holds (args_core s t (length (chain w args)) ∷ leb (bound w args) (length (chain w h)) ∷ [])
unfolding args_ok args_core
args_whole s w h t args =
    (λ i. holds (is_optional s header_traits t ∷ eqb (cells-many w args i) (arity s t) ∷ table-holds (length (chain w h)) w args i ∷ []))
    ∙ two_of_three (is_optional s header_traits t) (eqb (length (chain w args)) (arity s t)) (leb (bound w args) (length (chain w h)))

-- An impl parameter, and all of a chain.
unfoldable pub param_core : Words → ℕ → Bool
param_core s p = args_core s (at s (p + impl_param_trait)) (length (chain s (at s (p + impl_param_args))))

-- What the arguments of an impl parameter ask of the table.
unfoldable pub param_child : Words → ℕ → ℕ
param_child s p = bound s (at s (p + impl_param_args))

-- All impl parameters of a chain.
pub params-whole : (s : Words) (h : ℕ) (ps : Words) → all (λ i. args_ok s s h (at s (i + impl_param_trait)) (at s (i + impl_param_args))) ps ≡ holds (leb (most (bad (param_core s)) ps) 0 ∷ leb (most (param_child s) ps) (length (chain s h)) ∷ [])
unfolding param_core param_child
params-whole s h ps =
    let n = length (chain s h) in
    all_same (λ i. args_ok s s h (at s (i + impl_param_trait)) (at s (i + impl_param_args))) (λ i. holds (param_core s i ∷ leb (param_child s i) n ∷ [])) (λ i. args_whole s s h (at s (i + impl_param_trait)) (at s (i + impl_param_args))) ps
    ∙ all_two (param_core s) (λ i. leb (param_child s i) n) ps
    ∙ (λ t. holds (all-bad (param_core s) ps t ∷ most_leb (param_child s) n ps t ∷ []))
