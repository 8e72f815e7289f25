-- Laws of lists counted up, of type words, and of the nodes of a table by the words that they stand in.
use Rattle.std.specs.Prelude.{ℕ, zero, suc, ◌+◌, ◌*◌, ◌/◌, ◌%◌, ◌≤◌, ◌<◌, min, ◌≡◌, refl, Bool, true, false, [], ◌∷◌, ◌≢◌, ◌⊎◌, eqb, length, get_or, set}
use Rattle.std.proofs.Common.{sym, ◌∙◌, ap₂, ⊎_elim, eq-or-lt_of_le, arith, length-set, length-append, ext_get_or, get_or-set_same, get_or-set_other, eq-eqb, ne_eqb, eqb-true}
use Rattle.std.proofs.Math.Decide.{ℕ_discrete}
use Rattle.std.proofs.Math.ListN.{get_or-append, get_or-eq_default}
use Rattle.std.proofs.lemmas.List.{get_or_at}
use Rattle.std.proofs.lemmas.Bool.{eqb-false}
use Rattle.rules.specs.Lists.{Words, bit}
use Rattle.rules.specs.Limits.{limit_nodes}
use Rattle.rules.specs.Sheet.{at}
use Rattle.rules.specs.Types.{Ty, unknown, Types, new_node, node_at}
use Rattle.rules.specs.Transfer.{type_of_word}
use Rattle.rules.specs.Answer.{word_of_type}
use Rattle.table.specs.Packing.{up_to, node_of, types_of}

pub up_to-length : {A : Type 0} (f : ℕ → A) (n : ℕ) → length (up_to f n) ≡ n
unfolding up_to
up_to-length f zero = refl
up_to-length f (suc n) = simp (length-append, up_to-length f n) (omega arith)

pub up_to_at : {A : Type 0} (f : ℕ → A) (n i : ℕ) (d : A) → i < n → get_or (up_to f n) i d ≡ f i
unfolding up_to
up_to_at f zero i d h = absurd (omega arith)
up_to_at f (suc n) i d h = ⊎_elim
    (λ e. rw e (get_or_at (up_to f n) (f n) [] d n (up_to-length f n)))
    (λ l. get_or-append (up_to f n) (f n ∷ []) d i (omega (arith, up_to-length f n)) ∙ up_to_at f n i d l)
    (last i n h)
  where
    last : (i n : ℕ) → i < suc n → (i ≡ n) ⊎ (i < n)
    last i n h = eq-or-lt_of_le (omega arith)

pub up_to-same : {A : Type 0} (f g : ℕ → A) (n : ℕ) → ((i : ℕ) → i < n → f i ≡ g i) → up_to f n ≡ up_to g n
unfolding up_to
up_to-same f g zero h = refl
up_to-same f g (suc n) h = cc (up_to-same f g n (λ i l. h i (omega arith)), h n (omega arith))

pub up_to-set : {A : Type 0} (d : A) (f g : ℕ → A) (c n : ℕ) → n < c → ((i : ℕ) → i ≢ n → g i ≡ f i) → up_to g c ≡ set (up_to f c) n (g n)
up_to-set d f g c n l h = ext_get_or d (up_to g c) (set (up_to f c) n (g n)) (simp (length-set, up_to-length)) (λ i k. one i (omega (arith, up_to-length g c)))
  where
    one : (i : ℕ) → i < c → get_or (up_to g c) i d ≡ get_or (set (up_to f c) n (g n)) i d
    one i k = elim (ℕ_discrete i n) [
      | yes e ↦ up_to_at g c i d k ∙ rw e (sym (get_or-set_same (up_to f c) n (g n) d (omega (arith, up_to-length f c))))
      | no e ↦ up_to_at g c i d k ∙ h i e ∙ sym (get_or-set_other (up_to f c) n i (g n) d e ∙ up_to_at f c i d k)
    ]

-- A type word and the type that it is.
pub word_type : (w : ℕ) → word_of_type (type_of_word w) ≡ w
unfolding word_of_type type_of_word
word_type w = go (eqb (w % 2) 1) refl
  where
    go : (b : Bool) → eqb (w % 2) 1 ≡ b → 2 * (w / 2) + bit (eqb (w % 2) 1) ≡ w
    go true e = rw e (omega (arith, eqb-true (w % 2) 1 e))
    go false e = let n : w % 2 ≢ 1 = eqb-false (w % 2) 1 e in rw e (omega arith)

pub type_word : (t : Ty) → type_of_word (word_of_type t) ≡ t
unfolding word_of_type type_of_word
type_word (true, n) =
    let a : (2 * n + 1) % 2 ≡ 1 = omega arith in
    let b : (2 * n + 1) / 2 ≡ n = omega arith in
    ap₂ {C = Ty} (λ (b : Bool) (m : ℕ). (b, m)) (eq-eqb ((2 * n + 1) % 2) 1 a) b
type_word (false, n) =
    let a : (2 * n + 0) % 2 ≢ 1 = λ (e : (2 * n + 0) % 2 ≡ 1). omega arith in
    let b : (2 * n + 0) / 2 ≡ n = omega arith in
    ap₂ {C = Ty} (λ (b : Bool) (m : ℕ). (b, m)) (ne_eqb ((2 * n + 0) % 2) 1 a) b

pub types_length : (ws : Words) → length (types_of ws) ≡ min (at ws 0) limit_nodes
unfolding types_of
types_length ws = up_to-length (node_of ws) (min (at ws 0) limit_nodes)

pub types_few : (ws : Words) → length (types_of ws) ≤ limit_nodes
types_few ws = omega (arith, types_length ws)

-- A node of the table is what its words are; past the end it is a new unknown.
pub node_in : (ws : Words) (n : ℕ) → n < length (types_of ws) → node_at (types_of ws) n ≡ node_of ws n
unfolding node_at types_of
node_in ws n h = up_to_at (node_of ws) (min (at ws 0) limit_nodes) n (new_node 0 unknown) (omega (arith, types_length ws))

pub node_past : (ts : Types) (n : ℕ) → length ts ≤ n → node_at ts n ≡ new_node 0 unknown
unfolding node_at
node_past ts n h = get_or-eq_default ts (new_node 0 unknown) h
