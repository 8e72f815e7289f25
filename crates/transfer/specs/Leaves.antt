-- Laws of the functions that a transfer calls and that call none: parameters, the mapping, a new node, the children of a source's node.
use Rattle.std.specs.Prelude.{ℕ, zero, suc, ◌+◌, ◌-◌, ◌*◌, ◌/◌, ◌%◌, ◌≤◌, ◌<◌, min, ◌≡◌, ◌≢◌, Bool, eqb, length, get_or, set, take}
use Rattle.std.proofs.Math.Path.{refl, sym, subst}
use Rattle.std.proofs.Common.{◌∙◌, ap, ap₂, not-suc-le-zero, add-one, arith, Fits, length-set, length-take, get_or-set_same, get_or-set_other, get_or-take, ext_get_or, eq-eqb, ne_eqb, eqb-true}
use Rattle.std.proofs.Math.Bool.{true, false}
use mathlib.Core.List.{List, [], ◌∷◌, map}
use Rattle.std.proofs.Math.Option.{Option, none, some}
use Rattle.std.proofs.Math.Decide.{ℕ_discrete}
use Rattle.std.specs.Int.{w32}
use Rattle.std.proofs.lemmas.Bool.{eqb-false}
use Rattle.rules.specs.Lists.{Words, bit}
use Rattle.rules.specs.Sheet.{at}
use Rattle.rules.specs.Types.{Ty, TypeState, unknown, known, Types, new_node, xor, invert_if, state_at}
use Rattle.rules.specs.Slim.{Slim, SlimState, slim_at}
use Rattle.rules.specs.Acyclic.{children}
use Rattle.rules.specs.AcyclicLaws.{children_at}
use Rattle.rules.specs.Transfer.{param_for, type_of_word}
use Rattle.transfer.specs.Records.{mapped-length}
use Rattle.rules.specs.Answer.{word_of_type}
use Rattle.table.specs.Packing.{types_of, Pushes, Becomes, kind_in, id_in, kind_at, inverted_at, id_at, Above, TypeWords}
use Rattle.table.specs.Nodes.{type_word}
use Rattle.transfer.specs.Moving.{params_of, entry, Mapping, param_as, Param, Gone, Settles, Enters, Typed, Read, Fills, Known, Alike}
use Rattle.transfer.specs.Steps.{known_parts, settled-mapped, settled_else, param-none}

-- A type word below 512 stays below, inverted or not.
invert_small : (b : Bool) (t u : ℕ) → t < 512 → u ≡ word_of_type (invert_if b (type_of_word t)) → u < 512
unfolding word_of_type invert_if type_of_word
invert_small b t u h e = go (xor b (eqb (t % 2) 1)) refl
  where
    go : (c : Bool) → xor b (eqb (t % 2) 1) ≡ c → u < 512
    go c q = omega (arith, e, bit-most (xor b (eqb (t % 2) 1)))
      where
        bit-most : (c : Bool) → bit c ≤ 1
        bit-most true = omega arith
        bit-most false = omega arith

-- A word of a type, and 1.
entry_type : (v : ℕ) (t : Ty) → v ≡ word_of_type t → entry (v + 1) ≡ some t
unfolding entry
entry_type v t e = ap entry (add-one v) ∙ ap {B = Option Ty} (λ (x : ℕ). some (type_of_word x)) e ∙ ap some (type_word t)

pub entry_of : (q : ℕ) → q ≢ 0 → entry q ≡ some (type_of_word (q - 1))
unfolding entry
entry_of zero z = absurd (z refl)
entry_of (suc q) z = ap {B = Option Ty} (λ (x : ℕ). some (type_of_word x)) (omega arith)

pub entry-none : (q : ℕ) → q ≡ 0 → entry q ≡ none
unfolding entry
entry-none q e = ap entry e

-- A type by its number; past the end it is type word 0.
pub type_at : (ps : Words) (d : ℕ) → get_or (map type_of_word ps) d (false, 0) ≡ type_of_word (at ps d)
unfolding type_of_word
type_at [] d = refl
type_at (p ∷ ps) zero = refl
type_at (p ∷ ps) (suc d) = type_at ps d

-- No parameter stands for root type r: b says whether there are any.
module _ (src : Types) (b : Bool) (ps : Words) (r : ℕ) where
  pub param_not : b ≡ false → Param src (params_of b ps) r 0
  unfolding params_of param_for entry type_of_word
  param_not e = record { small = omega arith; is = sym (param-none src (params_of b ps) [] (type_of_word r) (ap (λ c. param_for (params_of c ps) (state_at src (r / 2))) e)) }

  pub param_other : (k : ℕ) → k ≡ kind_at src (r / 2) → k ≢ 1 → Param src (params_of b ps) r 0
  unfolding entry kind_at params_of param_for kind_in type_of_word
  param_other k e z = record { small = omega arith; is = sym (param-none src (params_of b ps) [] (type_of_word r) (go b (state_at src (r / 2)) (λ q. z (e ∙ q)))) }
    where
      go : (b : Bool) (st : TypeState) → kind_in st ≢ 1 → param_for (params_of b ps) st ≡ none
      go false st z = refl
      go true unknown z = refl
      go true (known i k d cs) z = rw (ne_eqb k 1 z, param_for)

-- p is a parameter, u what a Param stands for there, v that type as its use is inverted.
module _ (ps : Words) (p w : ℕ) (s : TypeWords ps) (ep : p ≡ at ps w) where
  pub param_fits : p < 4294967294
  param_fits = omega (arith, s.small w)

  module _ (u : ℕ) (i : Bool) (eu : u ≡ word_of_type (invert_if i (type_of_word p))) where
    low : u < 512
    low = invert_small i p u (omega (arith, s.small w)) eu

    pub param-turned : u < 4294967294
    param-turned = omega (arith, low)

    module _ (v : ℕ) (c : Bool) (ev : v ≡ word_of_type (invert_if c (type_of_word u))) where
      pub param_adds : Fits w32 (v + 1)
      param_adds = omega (arith, invert_small c u v low ev)

      -- d, i and k are id, inversion and kind of the root.
      pub param_is : (src : Types) (b : Bool) (r k d : ℕ) → b ≡ true → k ≡ kind_at src (r / 2) → k ≡ 1 → d ≡ id_at src (r / 2) → w ≡ d → i ≡ inverted_at src (r / 2) → c ≡ (type_of_word r).0 → Param src (params_of b ps) r (v + 1)
      unfolding param_as params_of param_for type_of_word
      param_is src b r k d eb ek z ed ew ei ec = record {
        small = omega (arith, invert_small c u v low ev);
        is = entry_type v (invert_if c (type_of_word u)) ev ∙ sym (whole b eb);
      }
        where
          parts : state_at src (r / 2) ≡ known (inverted_at src (r / 2)) (kind_at src (r / 2)) (id_at src (r / 2)) (children_at src (r / 2))
          parts = known_parts src (r / 2) (λ q. omega arith)

          there : param_for (params_of true ps) (state_at src (r / 2)) ≡ some (invert_if i (type_of_word p))
          there = ap (param_for (params_of true ps)) parts ∙ rw (eq-eqb (kind_at src (r / 2)) 1 (sym ek ∙ z), param_for) (ap₂ {C = Option Ty} (λ (x : Bool) (y : Ty). some (invert_if x y)) (sym ei) (type_at ps (id_at src (r / 2)) ∙ ap type_of_word (sym (ep ∙ ap (at ps) (ew ∙ ed)))))

          whole : (b : Bool) → b ≡ true → param_as src (params_of b ps) (type_of_word r) ≡ some (invert_if c (type_of_word u))
          whole b e = ap (λ x. param_as src (params_of x ps) (type_of_word r)) e ∙ rw (there, param_as) (ap₂ {C = Option Ty} (λ (x : Bool) (y : Ty). some (invert_if x y)) (sym ec) (sym (ap type_of_word eu ∙ type_word (invert_if i (type_of_word p)))))

-- The mapping. q is the word of the root of root type r.
module _ (ms : Words) (r w q : ℕ) (l : at ms (r / 2) ≤ 512) (ew : w ≡ r / 2) (eq : q ≡ at ms w) where
  here : q ≡ at ms (r / 2)
  here = eq ∙ ap (at ms) ew

  pub map_fits : q - 1 < 4294967294
  map_fits = omega (arith, here)

  pub gone_nowhere : q ≡ 0 → Gone ms r 0
  gone_nowhere z = record { small = omega arith; none = λ e. sym here ∙ z; there = λ e. absurd (e refl); is = λ e. absurd (e refl) }

  module _ (z : q ≢ 0) (v : ℕ) (c : Bool) (ev : v ≡ word_of_type (invert_if c (type_of_word (q - 1)))) where
    low_type : v < 512
    low_type = invert_small c (q - 1) v (omega (arith, here)) ev

    pub map_adds : Fits w32 (v + 1)
    map_adds = omega (arith, low_type)

    pub gone_there : c ≡ (type_of_word r).0 → Gone ms r (v + 1)
    gone_there ec = record {
      small = omega (arith, low_type);
      none = λ e. absurd (omega arith);
      there = λ e q. z (here ∙ q);
      is = λ e. entry_type v (invert_if c (type_of_word (q - 1))) ev ∙ ap₂ {C = Option Ty} (λ (x : Bool) (y : ℕ). some (invert_if x (type_of_word (y - 1)))) ec here;
    }

module _ (N : ℕ) (ms : Words) (r : ℕ) (g : Mapping N ms) (h : r / 2 < N) where
  pub map_long : r / 2 < length ms
  map_long = omega (arith, g.long)

  pub map_small : at ms (r / 2) ≤ 512
  map_small = g.small (r / 2) h

-- Where root type r went says what stands for it.
module _ (src : Types) (ps : Option (List Ty)) (ms : Words) (r : ℕ) (g : Mapping (length src) ms) (h : r / 2 < length src) where
  module _ (q : ℕ) (e : Gone ms r q) where
    pub settles_there : q ≢ 0 → Settles src ps ms r q
    unfolding type_of_word
    settles_there z = record { small = e.small; is = λ m k. e.is z ∙ sym (settled-mapped src ps m (type_of_word r) (type_of_word (at ms (r / 2) - 1)) (sym (k.is (r / 2) h) ∙ entry_of (at ms (r / 2)) (e.there z))) }

    pub settles_else : (v : ℕ) → q ≡ 0 → Param src ps r v → Settles src ps ms r v
    unfolding type_of_word
    settles_else v z p = record { small = p.small; is = λ m k. p.is ∙ sym (settled_else src ps m (type_of_word r) (sym (k.is (r / 2) h) ∙ entry-none (at ms (r / 2)) (e.none z))) }

-- A new node is entered: w is the root.
pub enters_room : (ws us ms : Words) (r n w : ℕ) → Pushes ws us unknown n → n < 256 → w ≡ r / 2 → Enters ws ms us (set ms w (2 * n + 1)) r n
enters_room ws us ms r n w p h e = record { pushes = p; room = λ l. ap (λ x. set ms x (2 * n + 1)) e; full = λ l. absurd (omega arith) }

pub enters_full : (ws us ms : Words) (r n : ℕ) → Pushes ws us unknown n → 256 ≤ n → Enters ws ms us ms r n
enters_full ws us ms r n p h = record { pushes = p; room = λ l. absurd (omega arith); full = λ l. refl }

turned : (b : Bool) (n : ℕ) → word_of_type (b, n) ≡ 2 * n + bit b
unfolding word_of_type
turned b n = refl

-- The type of a node.
pub typed : (r n : ℕ) → n < 256 → Typed r n (2 * n + r % 2 + 1)
unfolding type_of_word
typed r n h = record {
  small = omega arith;
  some_type = λ e. omega arith;
  is = entry_type (2 * n + r % 2) (eqb (r % 2) 1, n) (go (eqb (r % 2) 1) refl);
}
  where
    go : (b : Bool) → eqb (r % 2) 1 ≡ b → 2 * n + r % 2 ≡ word_of_type (eqb (r % 2) 1, n)
    go true e = rw e (omega (arith, eqb-true (r % 2) 1 e, turned true n))
    go false e = let z : r % 2 ≢ 1 = eqb-false (r % 2) 1 e in rw e (omega (arith, turned false n))

-- No node has over 8 children.
pub few_children : (src : Types) (n : ℕ) → Slim src → length (children_at src n) ≤ 8
unfolding children_at children
few_children src n s = go (state_at src n) refl (slim_at src s n)
  where
    go : (st : TypeState) → state_at src n ≡ st → SlimState (state_at src n) → length (children (state_at src n)) ≤ 8
    go unknown e h = rw e (omega arith)
    go (known i k d cs) e h = rw e (rw e at h).few

-- The first j of the m children of node n are read.
pub record Reading (src : Types) (n : ℕ) (cs : Words) (m j : ℕ) : Type 0 where
  pub within : j ≤ m
  pub few : m ≤ 8
  pub long : 8 ≤ length cs
  pub count : m ≡ length (children_at src n)
  pub each : (i : ℕ) → i < j → type_of_word (at cs i) ≡ get_or (children_at src n) i (false, 0)

pub reading_start : (src : Types) (n : ℕ) (cs : Words) (m : ℕ) → Slim src → 8 ≤ length cs → m ≡ length (children_at src n) → Reading src n cs m 0
reading_start src n cs m s l e = record { within = omega arith; few = omega (arith, few_children src n s); long = l; count = e; each = λ i h. absurd (not-suc-le-zero h) }

module _ (src : Types) (n : ℕ) (cs : Words) (m j : ℕ) (g : Reading src n cs m j) where
  pub reading_next : (w : ℕ) → j < m → w ≡ word_of_type (get_or (children_at src n) j (false, 0)) → Reading src n (set cs j w) m (j + 1)
  reading_next w l e = record {
    within = omega arith;
    few = g.few;
    long = omega (arith, length-set cs j w, g.long);
    count = g.count;
    each = λ i h. elim (ℕ_discrete i j) [
      | yes q ↦ ap type_of_word (ap (at (set cs j w)) q ∙ get_or-set_same cs j w 0 (omega (arith, g.few, g.long)) ∙ e) ∙ type_word (get_or (children_at src n) j (false, 0)) ∙ ap (λ x. get_or (children_at src n) x (false, 0)) (sym q)
      | no q ↦ ap type_of_word (get_or-set_other cs j i w 0 q) ∙ g.each i (omega arith)
    ];
  }

  pub reading_done : m ≤ j → Read src n cs m
  reading_done l = record {
    long = g.long;
    count = g.count;
    is = ext_get_or (false, 0) (map type_of_word (take m cs)) (children_at src n) (mapped-length type_of_word (take m cs) ∙ length-take m cs ∙ size) (λ i h. one i (omega (arith, mapped-length type_of_word (take m cs), length-take m cs)));
  }
    where
      size : min m (length cs) ≡ length (children_at src n)
      size = omega (arith, g.few, g.long, g.count)

      one : (i : ℕ) → i < m → get_or (map type_of_word (take m cs)) i (false, 0) ≡ get_or (children_at src n) i (false, 0)
      one i h = type_at (take m cs) i ∙ ap type_of_word (get_or-take m cs i 0 h) ∙ g.each i (omega (arith, g.within))

-- A node is filled in.
pub kind_there : (src : Types) (n k : ℕ) → Known src n → k ≡ kind_at src n → k ≢ 0
kind_there src n k z e q = z.is (sym e ∙ q)

-- What is written of it fits a node of a table: n has m children.
low_state : (st : TypeState) → SlimState st → kind_in st < 16
unfolding kind_in
low_state unknown h = omega arith
low_state (known i k d cs) h = h.low

small_state : (st : TypeState) → SlimState st → 0 < length (children st) → id_in st < 4096
unfolding id_in children
small_state unknown h l = omega arith
small_state (known i k d cs) h l = h.small l

module _ (src : Types) (n m : ℕ) (a : Alike src n m) where
  pub alike_few : m ≤ 8
  alike_few = omega (arith, a.count, few_children src n a.slim)

  pub kind_low : (k : ℕ) → k ≡ kind_at src n → k < 16
  unfolding kind_at
  kind_low k e = subst (λ x. x < 16) (sym e) (low_state (state_at src n) (slim_at src a.slim n))

  pub id_above : (d : ℕ) → d ≡ id_at src n → Above d m
  unfolding id_at children_at
  id_above d e = record { small = λ h. subst (λ x. x < 4096) (sym e) (small_state (state_at src n) (slim_at src a.slim n) (subst (λ x. 0 < x) a.count h)) }

pub kind_known : (src : Types) (n k : ℕ) → k ≡ kind_at src n → k ≢ 0 → Known src n
kind_known src n k e z = record { is = λ q. z (e ∙ q) }

pub fills : (src : Types) (ws us cs : Words) (r n q k d : ℕ) (i : Bool) → i ≡ inverted_at src (r / 2) → k ≡ kind_at src (r / 2) → d ≡ id_at src (r / 2) → Becomes us (set (types_of ws) n (new_node n (known i k d (map type_of_word cs)))) → Typed r n q → Fills src ws us cs r n q
fills src ws us cs r n q k d i ei ek ed b t = record { becomes = subst (λ (st : TypeState). Becomes us (set (types_of ws) n (new_node n st))) (cc) b; typed = t }
