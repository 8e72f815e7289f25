-- Laws of the kind table, as its readers ask for them.
use Rattle.std.specs.Prelude.{ℕ, zero, suc, ◌+◌, ◌*◌, ◌-◌, ◌/◌, ◌%◌, ◌≤◌, ◌<◌, ◌≡◌, refl, Bool, List, [], ◌∷◌, ◌++◌, ◌≢◌, T, eqb, length, get_or, take, drop}
use Rattle.std.proofs.Common.{sym, ◌∙◌, ap, arith, eqb→eq, get_or-append-add, eq-eqb, ne_eqb}
use Rattle.std.proofs.Math.ListN.{get_or-append}
use Rattle.rules.specs.Lists.{Words, all}
use Rattle.rules.specs.Layout.{header_structs, header_unions, owner_self_dual, kind_count, kind_struct, kind_union}
use Rattle.rules.specs.Sheet.{at, field, kinds, kind_row, row_length, self_dual, kind_flag}
use Rattle.rules.specs.Members.{all_cons}
use Rattle.rules.specs.WordLaws.{word_past}
use Rattle.chart.specs.declared.kinds.Kind.{Kind}
use Rattle.chart.specs.declared.kinds.Kind.TheVariants.{Struct, Union}
use Rattle.chart.specs.Numbers.{number_of, kind_apart}

-- Rows one after the other.
unfoldable flat : List Words → Words
flat [] = []
flat (r ∷ rs) = r ++ flat rs

-- A row of the rule's length.
abbrev full_row : Words → Bool
full_row r = eqb (length r) row_length

row_at : (rows : List Words) → T (all full_row rows) → (n c : ℕ) → c < row_length → get_or (get_or rows n []) c 0 ≡ at (flat rows) (row_length * n + c)
unfolding flat
row_at [] t n c h = refl
row_at (r ∷ rs) t zero c h =
    let e : length r ≡ row_length = eqb→eq (length r) row_length ((all_cons full_row r rs).0 t).0 in
    sym (get_or-append r (flat rs) 0 c (omega arith)) ∙ ap (at (r ++ flat rs)) (let q : c ≡ row_length * 0 + c = omega arith in q)
row_at (r ∷ rs) t (suc n) c h =
    let e : length r ≡ row_length = eqb→eq (length r) row_length ((all_cons full_row r rs).0 t).0 in
    row_at rs ((all_cons full_row r rs).0 t).1 n c h
    ∙ sym (get_or-append-add r (flat rs) (row_length * n + c) 0)
    ∙ ap (at (r ++ flat rs)) (let q : length r + (row_length * n + c) ≡ row_length * suc n + c = omega arith in q)

-- The rule's table in rows, one for each kind.
unfoldable pub cut : ℕ → Words → List Words
cut zero ws = []
cut (suc n) ws = take row_length ws ∷ cut n (drop row_length ws)

-- One row for each kind.
abbrev pub kind_rows : List Words
kind_rows = cut kind_count kinds

-- They read as the rule does.
pub row_in : (k j : ℕ) → get_or (get_or kind_rows (k + j / row_length) []) (j % row_length) 0 ≡ kind_row k j
unfolding kinds cut flat all
row_in k j =
    row_at kind_rows tt (k + j / row_length) (j % row_length) (omega arith) ∙ ap (at kinds) (let q : row_length * (k + j / row_length) + j % row_length ≡ row_length * k + j = omega arith in q)

-- Past the table's end there is 0.
pub row_past : (k j : ℕ) → kind_count ≤ k → 0 ≡ kind_row k j
unfolding kinds
row_past k j h = word_past kinds (row_length * k + j) (omega arith)

-- Past the end from a row that is in the table.
pub row_long : (k j : ℕ) → kind_count - k ≤ j / row_length → 0 ≡ kind_row k j
unfolding kinds
row_long k j h = word_past kinds (row_length * k + j) (omega arith)

-- Self-dual, kind by kind.
pub of_struct : (s : Words) (k id r : ℕ) → k ≡ kind_struct → r ≡ field s header_structs id owner_self_dual → r ≡ self_dual s k id
unfolding self_dual
of_struct s k id r e f = rw (eq-eqb k kind_struct e, self_dual) f

-- Of a Union its record's.
pub of_union : (s : Words) (k id r : ℕ) → k ≢ kind_struct → k ≡ kind_union → r ≡ field s header_unions id owner_self_dual → r ≡ self_dual s k id
unfolding self_dual
of_union s k id r n e f = rw (ne_eqb k kind_struct n, eq-eqb k kind_union e, self_dual) f

-- Of other kinds 1.
pub of_other : (s : Words) (k id : ℕ) → k ≢ kind_struct → k ≢ kind_union → 1 ≡ self_dual s k id
unfolding self_dual
of_other s k id n m = rw (ne_eqb k kind_struct n, ne_eqb k kind_union m, self_dual) refl

-- What numbers no kind is none of the two.
pub of_none : (s : Words) (k id : ℕ) → kind_count ≤ k → 1 ≡ self_dual s k id
of_none s k id h = of_other s k id (λ e. absurd (omega arith)) (λ e. absurd (omega arith))

-- Nor is another kind.
pub of_kind : (s : Words) (k id : ℕ) (kind : Kind) → number_of kind ≡ k → kind ≢ Struct → kind ≢ Union → 1 ≡ self_dual s k id
of_kind s k id kind e n m = of_other s k id (kind_apart kind Struct k e n) (kind_apart kind Union k e m)

-- A flag needs its row's and self-dual.
pub flag_on : (s : Words) (j k id w r : ℕ) → w ≡ kind_row k j → w ≡ 1 → r ≡ self_dual s k id → eqb r 1 ≡ kind_flag s j k id
unfolding kind_flag
flag_on s j k id w r e f g = rw (eq-eqb (kind_row k j) 1 (sym e ∙ f), kind_flag) (ap (λ x. eqb x 1) g)

-- The row's flag is not set.
pub flag_off : (s : Words) (j k id w : ℕ) → w ≡ kind_row k j → w ≢ 1 → eqb w 1 ≡ kind_flag s j k id
unfolding kind_flag
flag_off s j k id w e f = rw (ne_eqb w 1 f, ne_eqb (kind_row k j) 1 (λ q. f (e ∙ q)), kind_flag) refl
