-- Laws of the functions that move a type: one for each way through them.
use Rattle.std.specs.Prelude.{ℕ, zero, suc, ◌+◌, ◌-◌, ◌*◌, ◌/◌, ◌%◌, ◌≤◌, ◌<◌, refl, ◌≢◌, Bool, true, false, eqb, get_or, take}
use Rattle.std.proofs.Math.Path.{◌≡◌, sym, ap, ap₂, subst}
use Rattle.std.proofs.Common.{◌∙◌, ⊎_elim, true≢false, le_trans, le_of_suc-le-suc, not-suc-le-zero, length-take, length-append, get_or-set_same, get_or-set_other, get_or-take, take-suc-set, take-suc, eq-eqb, ne_eqb}
use mathlib.Core.List.{List, [], ◌∷◌, ◌++◌, map, map-append}
use Rattle.std.proofs.Math.Option.{Option, some, some-injective}
use Rattle.std.proofs.Math.Decide.{ℕ_discrete}
use Rattle.std.proofs.Math.Numerals.{add-one}
use native.Mathlib.Omega.{arith}
use Rattle.std.proofs.Math.ListN.{length, set, length-set, get_or-eq_default}
use Rattle.rules.specs.Lists.{Words}
use Rattle.rules.specs.Limits.{limit_nodes}
use Rattle.rules.specs.Sheet.{at}
use Rattle.rules.specs.Types.{Ty, TypeState, unknown, known, TypeNode, Types, new_node, node_at, find, state_at, size_at}
use Rattle.rules.specs.Solutions.{rep}
use Rattle.rules.specs.AcyclicLaws.{children_at}
use Rattle.rules.specs.Transfer.{Transfer, mapped, transfer_each, transfer_in, type_of_word}
use Rattle.rules.specs.Answer.{word_of_type}
use Rattle.rules.specs.Carried.{pushed}
use Rattle.rules.specs.Pigeonholes.{lt_or}
use Rattle.rules.specs.Neat.{Neat}
use Rattle.table.specs.Packing.{types_of, Packed, kind_at, inverted_at, id_at, TypeWords}
use Rattle.table.specs.Nodes.{type_word}
use Rattle.table.specs.Classes.{push_last, push_before, set_there, set_beside}
use Rattle.transfer.specs.Moving.{entry, Maps, Mapping, Level, Levels, Rooted, Own, Known, Alike, Keeps, settled, filled, fresh, Moved, Moves, Transfers, AllMoved, TransfersAll, Settles, Enters, Typed, Read, Fills}
use Rattle.transfer.specs.Steps.{fresh_unknown, fresh_known, in_settled, in_fresh, each_append, each_grows, in_grows, fresh_grows, level_root, root_child}
use Rattle.transfer.specs.Records.{mapped-length}
use Rattle.transfer.specs.Leaves.{type_at, entry_of, entry-none, few_children}

-- Tables that keep their nodes.
keeps_same : (ts : Types) → Keeps ts ts
keeps_same ts = record { long = omega arith; roots = λ n h. refl; sizes = λ n h. refl }

keeps_on : (ts us vs : Types) → Keeps ts us → Keeps us vs → Keeps ts vs
keeps_on ts us vs a b = record { long = le_trans a.long b.long; roots = λ n h. b.roots n (le_trans h a.long) ∙ a.roots n h; sizes = λ n h. b.sizes n (le_trans h a.long) ∙ a.sizes n h }

rep_of : (ts us : Types) (n m : ℕ) → node_at us n ≡ node_at ts m → rep us n ≡ rep ts m
unfolding rep
rep_of ts us n m e = ap (λ (nd : TypeNode). nd.up.1) e

size_of : (ts us : Types) (n m : ℕ) → node_at us n ≡ node_at ts m → size_at us n ≡ size_at ts m
unfolding size_at
size_of ts us n m e = ap (λ (nd : TypeNode). nd.size) e

keeps_push : (ts : Types) (nd : TypeNode) → Keeps ts (ts ++ (nd ∷ []))
keeps_push ts nd = record { long = omega (arith, length-append ts (nd ∷ [])); roots = λ n h. rep_of ts (ts ++ (nd ∷ [])) n n (push_before ts nd n h); sizes = λ n h. size_of ts (ts ++ (nd ∷ [])) n n (push_before ts nd n h) }

own_last : (ts : Types) (st : TypeState) (n : ℕ) → n ≡ length ts → Own (ts ++ (new_node n st ∷ [])) n
unfolding rep size_at new_node
own_last ts st n e = record { inside = omega (arith, length-append ts (new_node n st ∷ [])); root = ap (λ (nd : TypeNode). nd.up.1) (push_last ts (new_node n st) n e); alone = ap (λ (nd : TypeNode). nd.size) (push_last ts (new_node n st) n e) }

keeps_set : (ts : Types) (n : ℕ) (st : TypeState) → Own ts n → Keeps ts (set ts n (new_node n st))
unfolding rep size_at new_node
keeps_set ts n st o = record {
  long = omega (arith, length-set ts n (new_node n st));
  roots = λ k h. elim (ℕ_discrete k n) [
    | yes q ↦ ap (λ (nd : TypeNode). nd.up.1) (set_there ts (new_node n st) n k o.inside q) ∙ sym (ap (rep ts) q ∙ o.root)
    | no q ↦ rep_of ts (set ts n (new_node n st)) k k (set_beside ts (new_node n st) n k q)
  ];
  sizes = λ k h. elim (ℕ_discrete k n) [
    | yes q ↦ ap (λ (nd : TypeNode). nd.size) (set_there ts (new_node n st) n k o.inside q) ∙ sym (ap (size_at ts) q ∙ o.alone)
    | no q ↦ size_of ts (set ts n (new_node n st)) k k (set_beside ts (new_node n st) n k q)
  ];
}

-- Types that go first leave no more nodes than all.
longer : (f : Ty → Transfer → Ty × Transfer) → ((t : Ty) (m : Transfer) → length m.1 ≤ length (f t m).1.1) → (ts : Words) (i n : ℕ) → i ≤ n → (m : Transfer) → length (transfer_each f (map type_of_word (take i ts)) m).1.1 ≤ length (transfer_each f (map type_of_word (take n ts)) m).1.1
unfolding transfer_each
longer f g ts zero n h m = each_grows f g (map type_of_word (take n ts)) m
longer f g [] (suc i) n h m = each_grows f g (map type_of_word (take n [])) m
longer f g (t ∷ ts) (suc i) zero h m = absurd (not-suc-le-zero h)
longer f g (t ∷ ts) (suc i) (suc n) h m = longer f g ts i n (le_of_suc-le-suc h) (f (type_of_word t) m).1

-- A list of words whose first n are type words of a table.
small_words : (vs : Words) (n : ℕ) → ((j : ℕ) → j < n → at vs j < 512) → TypeWords (take n vs)
small_words vs n h = record { small = λ j. ⊎_elim (λ l. rw (get_or-take n vs j 0 l) (h j l)) (λ l. omega (arith, get_or-eq_default (take n vs) 0 {n = j} (omega (arith, length-take n vs)))) (lt_or j n) }

-- `transfer_type`: r is the root type of type word t.
module _ (src : Types) (t r : ℕ) (er : r ≡ word_of_type (find src (type_of_word t))) where
  root_type : type_of_word r ≡ find src (type_of_word t)
  root_type = ap type_of_word er ∙ type_word (find src (type_of_word t))

  pub root_level : (k : ℕ) → Neat src → Level src (type_of_word t) k → Rooted src (r / 2) k
  unfolding type_of_word
  root_level k g l = subst (λ x. Rooted src x k) (sym (ap (λ (u : Ty). u.1) root_type)) (level_root src g.proper (type_of_word t) k l)

  pub root_inside : (k : ℕ) → Neat src → Level src (type_of_word t) k → r / 2 < length src
  root_inside k g l = (root_level k g l).inside

  module _ (ps : Option (List Ty)) (ms : Words) (q : ℕ) (s : Settles src ps ms r q) where
    stands : (m : List (ℕ × Ty)) → Maps (length src) m ms → settled src ps m (find src (type_of_word t)) ≡ entry q
    stands m k = ap (settled src ps m) (sym root_type) ∙ sym (s.is m k)

    pub type_settled : (left : ℕ) (ws : Words) → Packed ws → Mapping (length src) ms → q ≢ 0 → Transfers src (transfer_in (suc left) src ps (type_of_word t)) ws ms ws ms q
    type_settled left ws p g z = record {
      packed = p;
      mapping = g;
      keeps = keeps_same (types_of ws);
      small = s.small;
      moves = λ m k.
          let e = in_settled left src ps (type_of_word t) (m, types_of ws) (type_of_word (q - 1)) (stands m k ∙ entry_of q z) in
          record {
            full = λ f. absurd (z f);
            done = λ f. rw e (record { is = refl; maps = k; type = entry_of q z });
          };
    }

    pub type_fresh : (left : ℕ) (ws us ns : Words) (v : ℕ) → q ≡ 0 → Transfers src (fresh left src ps (type_of_word r)) ws ms us ns v → Transfers src (transfer_in (suc left) src ps (type_of_word t)) ws ms us ns v
    type_fresh left ws us ns v z f = record {
      packed = f.packed;
      mapping = f.mapping;
      keeps = f.keeps;
      small = f.small;
      moves = λ m k. subst (λ (o : Ty × Transfer). Moves (length src) us ns o v) (sym (in_fresh left src ps (type_of_word t) (m, types_of ws) (stands m k ∙ entry-none q z) ∙ ap (λ (x : Ty). fresh left src ps x (m, types_of ws)) (sym root_type))) (f.moves m k);
    }

-- `transfer_root`: n is the node that root type r becomes.
pub root_room : (src : Types) (ms : Words) (r k : ℕ) → Rooted src r k → Mapping (length src) ms → r < length ms
root_room src ms r k h g = omega (arith, h.inside, g.long)

pub entered_own : (ws ms us ns : Words) (r n : ℕ) → Enters ws ms us ns r n → n < 256 → Own (types_of us) n
entered_own ws ms us ns r n e h = subst (λ (ts : Types). Own ts n) (sym (e.pushes.room h)) (own_last (types_of ws) unknown n e.pushes.number)

module _ (src : Types) (ws ms us ns : Words) (r n : ℕ) (e : Enters ws ms us ns r n) where
  pub root_full : (k : ℕ) (ps : Option (List Ty)) → Packed ws → Mapping (length src) ms → 256 ≤ n → Transfers src (fresh k src ps (type_of_word r)) ws ms us ns 0
  root_full k ps p g h = record {
    packed = e.pushes.packed;
    mapping = subst (Mapping (length src)) (sym (e.full h)) g;
    keeps = subst (λ (x : Words). Keeps (types_of ws) (types_of x)) (sym (e.pushes.full h)) (keeps_same (types_of ws));
    small = omega arith;
    moves = λ m l. record { full = λ f. omega (arith, e.pushes.number, fresh_grows k src ps (type_of_word r) (m, types_of ws)); done = λ f. absurd (f refl) };
  }

  module _ (h : n < 256) where
    now_has : types_of us ≡ types_of ws ++ (new_node n unknown ∷ [])
    now_has = e.pushes.room h

    entered_keeps : Keeps (types_of ws) (types_of us)
    entered_keeps = subst (Keeps (types_of ws)) (sym now_has) (keeps_push (types_of ws) (new_node n unknown))

    entered_at : (j : ℕ) → r / 2 < length ms → j ≡ r / 2 → at ns j ≡ 2 * n + 1
    entered_at j l q = ap (λ (x : Words). at x j) (e.room h) ∙ ap (at (set ms (r / 2) (2 * n + 1))) q ∙ get_or-set_same ms (r / 2) (2 * n + 1) 0 l

    entered_off : (j : ℕ) → j ≢ r / 2 → at ns j ≡ at ms j
    entered_off j q = ap (λ (x : Words). at x j) (e.room h) ∙ get_or-set_other ms (r / 2) j (2 * n + 1) 0 q

    pub entered_mapping : (k : ℕ) → Rooted src (r / 2) k → Mapping (length src) ms → Mapping (length src) ns
    entered_mapping k d g = record {
      long = omega (arith, ap length (e.room h), length-set ms (r / 2) (2 * n + 1), g.long);
      small = λ j l. elim (ℕ_discrete j (r / 2)) [
        | yes q ↦ omega (arith, entered_at j (omega (arith, d.inside, g.long)) q)
        | no q ↦ omega (arith, entered_off j q, g.small j l)
      ];
    }

    entered_maps : (m : List (ℕ × Ty)) → r / 2 < length ms → Maps (length src) m ms → Maps (length src) ((r / 2, (false, n)) ∷ m) ns
    unfolding mapped entry type_of_word
    entered_maps m l k = record {
      is = λ j b. elim (ℕ_discrete j (r / 2)) [
        | yes q ↦ ap entry (entered_at j l q ∙ add-one (2 * n)) ∙ ap some (even n) ∙ sym (rw (eq-eqb (r / 2) j (sym q), mapped))
        | no q ↦ ap entry (entered_off j q) ∙ k.is j b ∙ sym (rw (ne_eqb (r / 2) j (λ z. q (sym z)), mapped))
      ];
    }
      where
        even : (n : ℕ) → ◌≡◌ {A = Ty} (eqb (2 * n % 2) 1, 2 * n / 2) (false, n)
        even n =
            let a : 2 * n % 2 ≢ 1 = λ (e : 2 * n % 2 ≡ 1). omega arith in
            let b : 2 * n / 2 ≡ n = omega arith in
            ap₂ {C = Ty} (λ (b : Bool) (m : ℕ). (b, m)) (ne_eqb (2 * n % 2) 1 a) b

    -- What is there after the push, in the terms of the rule.
    pushed_is : (m : List (ℕ × Ty)) → ((r / 2, (false, n)) ∷ m, types_of us) ≡ pushed (m, types_of ws) (r / 2)
    pushed_is m = cc (now_has, e.pushes.number)

    module _ (k : ℕ) (ps : Option (List Ty)) (d : Rooted src (r / 2) (suc k)) (g : Mapping (length src) ms) where
      pub root_unknown : (q : ℕ) → state_at src (r / 2) ≡ unknown → Typed r n q → Transfers src (fresh k src ps (type_of_word r)) ws ms us ns q
      unfolding type_of_word
      root_unknown q st t = record {
        packed = e.pushes.packed;
        mapping = entered_mapping (suc k) d g;
        keeps = entered_keeps;
        small = t.small;
        moves = λ m l. record {
          full = λ f. absurd (t.some_type f);
          done = λ f. subst (λ (o : Ty × Transfer). Moved (length src) us ns o q) (sym (fresh_unknown k src ps (type_of_word r) (m, types_of ws) st ∙ ap₂ {C = Ty × Transfer} (λ (x : ℕ) (y : Transfer). (((type_of_word r).0, x), y)) (sym e.pushes.number) (sym (pushed_is m))))
              (record { is = refl; maps = entered_maps m (omega (arith, d.inside, g.long)) l; type = t.is });
        };
      }

      pub root_known : (vs ls : Words) (q : ℕ) → Known src (r / 2) → Transfers src (filled k src ps (type_of_word r) n) us ns vs ls q → Transfers src (fresh k src ps (type_of_word r)) ws ms vs ls q
      unfolding type_of_word
      root_known vs ls q z f = record {
        packed = f.packed;
        mapping = f.mapping;
        keeps = keeps_on (types_of ws) (types_of us) (types_of vs) entered_keeps f.keeps;
        small = f.small;
        moves = λ m l. subst (λ (o : Ty × Transfer). Moves (length src) vs ls o q) (sym (fresh_known k src ps (type_of_word r) (m, types_of ws) z.is ∙ ap₂ (λ (x : ℕ) (y : Transfer). filled k src ps (type_of_word r) x y) (sym e.pushes.number) (sym (pushed_is m))))
            (f.moves ((r / 2, (false, n)) ∷ m) (entered_maps m (omega (arith, d.inside, g.long)) l));
      }

-- `transfer_known`: the m children of root type r are in cs, and vs is where they went.
read_few : (src : Types) (n : ℕ) (cs : Words) (m : ℕ) → Neat src → Read src n cs m → m ≤ 8
read_few src n cs m g d = omega (arith, d.count, few_children src n g.slim)

pub read_room : (src : Types) (n : ℕ) (cs : Words) (m : ℕ) → Neat src → Read src n cs m → m ≤ length cs
read_room src n cs m g d = omega (arith, d.long, read_few src n cs m g d)

pub read_levels : (src : Types) (n : ℕ) (cs : Words) (m k : ℕ) → Neat src → Rooted src n (suc k) → Read src n cs m → Levels src (take m cs) k
read_levels src n cs m k g h d = record {
  each = λ j l. subst (λ (t : Ty). Level src t k) (sym (sym (type_at (take m cs) j) ∙ ap (λ (xs : List Ty). get_or xs j (false, 0)) d.is)) (root_child src g.proper n k h j (omega (arith, sym (ap (λ (xs : List Ty). length xs) d.is), mapped-length type_of_word (take m cs))));
}

own_kept : (ts us : Types) (n : ℕ) → Own ts n → Keeps ts us → Own us n
own_kept ts us n o k = record { inside = omega (arith, o.inside, k.long); root = k.roots n o.inside ∙ o.root; alone = k.sizes n o.inside ∙ o.alone }

module _ (src : Types) (f : Transfer → List Ty × Transfer) (ws ms us ns cs vs : Words) (m : ℕ) (b : Bool) (a : TransfersAll src f ws ms us ns cs vs m b) where
  pub children_own : (n : ℕ) → Own (types_of ws) n → Own (types_of us) n
  children_own n o = own_kept (types_of ws) (types_of us) n o a.keeps

  pub children_small : b ≡ true → TypeWords (take m vs)
  children_small e = a.small e

  module _ (n : ℕ) (g : Neat src) (d : Read src n cs m) where
    pub children_room : m ≤ length vs
    children_room = omega (arith, a.len, read_room src n cs m g d)

    pub children-count : m ≡ length (take m vs)
    children-count = omega (arith, children_room, length-take m vs)

    pub children_alike : Alike src n (length (take m vs))
    children_alike = record { slim = g.slim; count = sym children-count ∙ d.count }

module _ (src : Types) (ps : Option (List Ty)) (k : ℕ) (ws ms us ns cs vs : Words) (m r n : ℕ) (b : Bool) (a : TransfersAll src (transfer_each (transfer_in k src ps) (map type_of_word (take m cs))) ws ms us ns cs vs m b) where
  module _ (d : Read src (r / 2) cs m) where
    all_of : (l : List (ℕ × Ty)) → transfer_each (transfer_in k src ps) (map type_of_word (take m cs)) (l, types_of ws) ≡ transfer_each (transfer_in k src ps) (children_at src (r / 2)) (l, types_of ws)
    all_of l = ap (λ (xs : List Ty). transfer_each (transfer_in k src ps) xs (l, types_of ws)) d.is

    pub known_full : b ≡ false → Transfers src (filled k src ps (type_of_word r) n) ws ms us ns 0
    unfolding filled type_of_word
    known_full e = record {
      packed = a.packed;
      mapping = a.mapping;
      keeps = a.keeps;
      small = omega arith;
      moves = λ l f. record { full = λ z. simp length-set (subst (λ (o : List Ty × Transfer). limit_nodes < length o.1.1) (all_of l) ((a.moves l f).full e)); done = λ z. absurd (z refl) };
    }

    pub known_done : (xs : Words) (q : ℕ) → b ≡ true → Own (types_of ws) n → Fills src us xs (take m vs) r n q → Transfers src (filled k src ps (type_of_word r) n) ws ms xs ns q
    unfolding filled type_of_word
    known_done xs q e o f = record {
      packed = f.becomes.packed;
      mapping = a.mapping;
      keeps = keeps_on (types_of ws) (types_of us) (types_of xs) a.keeps (subst (Keeps (types_of us)) (sym f.becomes.is) (keeps_set (types_of us) n (known (inverted_at src (r / 2)) (kind_at src (r / 2)) (id_at src (r / 2)) (map type_of_word (take m vs))) (own_kept (types_of ws) (types_of us) n o a.keeps)));
      small = f.typed.small;
      moves = λ l p. record { full = λ z. absurd (f.typed.some_type z); done = λ z. one l (subst (λ (o : List Ty × Transfer). AllMoved (length src) us ns (take m vs) o) (all_of l) ((a.moves l p).done e)) };
    }
      where
        one : (l : List (ℕ × Ty)) → AllMoved (length src) us ns (take m vs) (transfer_each (transfer_in k src ps) (children_at src (r / 2)) (l, types_of ws)) → Moved (length src) xs ns (filled k src ps (type_of_word r) n (l, types_of ws)) q
        one l p = record {
          is = f.becomes.is ∙ ap₂ (λ (x : Types) (y : List Ty). set x n (new_node n (known (inverted_at src (r / 2)) (kind_at src (r / 2)) (id_at src (r / 2)) y))) p.is p.types;
          maps = p.maps;
          type = f.typed.is;
        }

-- `transfer_each`: the first i of ts have gone, and stand in vs.
pub record Going (src : Types) (f : Ty → Transfer → Ty × Transfer) (ws ms us ns ts vs : Words) (m i : ℕ) : Type 0 where
  pub within : i ≤ m
  pub room : m ≤ length ts
  pub len : length vs ≡ length ts
  pub packed : Packed us
  pub mapping : Mapping (length src) ns
  pub keeps : Keeps (types_of ws) (types_of us)
  pub rest : (j : ℕ) → i ≤ j → at vs j ≡ at ts j
  pub small : (j : ℕ) → j < i → at vs j < 512
  pub moves : (l : List (ℕ × Ty)) → Maps (length src) l ms → AllMoved (length src) us ns (take i vs) (transfer_each f (map type_of_word (take i ts)) (l, types_of ws))

pub going_start : (src : Types) (f : Ty → Transfer → Ty × Transfer) (ws ms ts : Words) (m : ℕ) → Packed ws → Mapping (length src) ms → m ≤ length ts → Going src f ws ms ws ms ts ts m 0
unfolding transfer_each
going_start src f ws ms ts m p g h = record {
  within = omega arith;
  room = h;
  len = refl;
  packed = p;
  mapping = g;
  keeps = keeps_same (types_of ws);
  rest = λ j l. refl;
  small = λ j l. absurd (not-suc-le-zero l);
  moves = λ l k. record { is = refl; maps = k; types = refl };
}

pub going_level : (src : Types) (f : Ty → Transfer → Ty × Transfer) (ws ms us ns ts vs : Words) (m i left : ℕ) → Going src f ws ms us ns ts vs m i → i < m → Levels src (take m ts) left → Level src (type_of_word (at vs i)) left
going_level src f ws ms us ns ts vs m i left g h d = subst (λ x. Level src (type_of_word x) left) (get_or-take m ts i 0 h ∙ sym (g.rest i (omega arith))) (d.each i (omega (arith, length-take m ts, g.room)))

pub going_left : (src : Types) (f : Ty → Transfer → Ty × Transfer) (ws ms us ns ts vs : Words) (m i left : ℕ) → Going src f ws ms us ns ts vs m i → i < m → Levels src (take m ts) left → 1 ≤ left
going_left src f ws ms us ns ts vs m i left g h d = omega (arith, (going_level src f ws ms us ns ts vs m i left g h d).low)

pub going_down : (src : Types) (f : Ty → Transfer → Ty × Transfer) (ws ms us ns ts vs : Words) (m i left : ℕ) → Going src f ws ms us ns ts vs m i → i < m → Levels src (take m ts) left → Level src (type_of_word (at vs i)) (suc (left - 1))
going_down src f ws ms us ns ts vs m i left g h d = let l = going_level src f ws ms us ns ts vs m i left g h d in record { inside = l.inside; low = omega (arith, l.low) }

-- Fewer steps are left.
pub going_falls : (src : Types) (f : Ty → Transfer → Ty × Transfer) (ws ms us ns ts vs : Words) (m i left t : ℕ) → Going src f ws ms us ns ts vs m i → i < m → Levels src (take m ts) left → 4 * left ≡ t → 4 * (left - 1) + 3 < t
going_falls src f ws ms us ns ts vs m i left t g h d e = omega (arith, going_left src f ws ms us ns ts vs m i left g h d)

module _ (src : Types) (ps : Option (List Ty)) (left : ℕ) (ws ms us ns ts vs : Words) (m i : ℕ) (g : Going src (transfer_in left src ps) ws ms us ns ts vs m i) where
  pub going_done : m ≤ i → TransfersAll src (transfer_each (transfer_in left src ps) (map type_of_word (take m ts))) ws ms us ns ts vs m true
  going_done h = record {
    packed = g.packed;
    mapping = g.mapping;
    keeps = g.keeps;
    small = λ e. small_words vs m (λ j l. g.small j (omega (arith, h)));
    len = g.len;
    rest = λ j l. g.rest j (omega (arith, g.within));
    moves = λ l k. record { full = λ e. absurd (true≢false e); done = λ e. subst (λ x. AllMoved (length src) us ns (take x vs) (transfer_each (transfer_in left src ps) (map type_of_word (take x ts)) (l, types_of ws))) all (g.moves l k) };
  }
    where
      all : i ≡ m
      all = omega (arith, g.within)

  module _ (h : i < m) (d : Levels src (take m ts) left) (xs ys : Words) (q : ℕ) (t : Transfers src (transfer_in (suc (left - 1)) src ps (type_of_word (at vs i))) us ns xs ys q) where
    -- The type at i, in the terms of the rule.
    same : transfer_in (suc (left - 1)) src ps (type_of_word (at vs i)) ≡ transfer_in left src ps (type_of_word (at ts i))
    same = ap₂ (λ (x y : ℕ). transfer_in x src ps (type_of_word y)) (let z : suc (left - 1) ≡ left = omega (arith, going_left src (transfer_in left src ps) ws ms us ns ts vs m i left g h d) in z) (g.rest i (omega arith))

    abbrev before : List (ℕ × Ty) → List Ty × Transfer
    before l = transfer_each (transfer_in left src ps) (map type_of_word (take i ts)) (l, types_of ws)

    step : (l : List (ℕ × Ty)) → Maps (length src) l ms → Moves (length src) xs ys (transfer_in left src ps (type_of_word (at ts i)) (before l).1) q
    step l k =
        let a = g.moves l k in
        subst (λ (o : Ty × Transfer). Moves (length src) xs ys o q) (ap (λ (f : Transfer → Ty × Transfer). f ((before l).1.0, types_of us)) same ∙ ap (λ (x : Types). transfer_in left src ps (type_of_word (at ts i)) ((before l).1.0, x)) a.is) (t.moves (before l).1.0 a.maps)

    one_more : map type_of_word (take (i + 1) ts) ≡ map type_of_word (take i ts) ++ (type_of_word (at ts i) ∷ [])
    one_more = ap (λ x. map type_of_word (take x ts)) (add-one i) ∙ ap (map type_of_word) (take-suc ts i 0 (omega (arith, g.room))) ∙ map-append type_of_word (take i ts) (at ts i ∷ [])

    after : (l : List (ℕ × Ty)) → transfer_each (transfer_in left src ps) (map type_of_word (take (i + 1) ts)) (l, types_of ws) ≡ ((before l).0 ++ ((transfer_in left src ps (type_of_word (at ts i)) (before l).1).0 ∷ []), (transfer_in left src ps (type_of_word (at ts i)) (before l).1).1)
    unfolding transfer_each
    after l = ap (λ (zs : List Ty). transfer_each (transfer_in left src ps) zs (l, types_of ws)) one_more ∙ each_append (transfer_in left src ps) (map type_of_word (take i ts)) (type_of_word (at ts i) ∷ []) (l, types_of ws)

    pub going_full : q ≡ 0 → TransfersAll src (transfer_each (transfer_in left src ps) (map type_of_word (take m ts))) ws ms xs ys ts vs m false
    going_full z = record {
      packed = t.packed;
      mapping = t.mapping;
      keeps = keeps_on (types_of ws) (types_of us) (types_of xs) g.keeps t.keeps;
      small = λ e. absurd (true≢false (sym e));
      len = g.len;
      rest = λ j l. g.rest j (omega (arith, g.within));
      moves = λ l k. record {
        full = λ e. le_trans ((step l k).full z) (le_trans (omega (arith, ap (λ (o : List Ty × Transfer). length o.1.1) (after l))) (longer (transfer_in left src ps) (in_grows left src ps) ts (i + 1) m (omega arith) (l, types_of ws)));
        done = λ e. absurd (true≢false (sym e));
      };
    }

    pub going_next : q ≢ 0 → Going src (transfer_in left src ps) ws ms xs ys ts (set vs i (q - 1)) m (i + 1)
    going_next z = record {
      within = omega arith;
      room = g.room;
      len = length-set vs i (q - 1) ∙ g.len;
      packed = t.packed;
      mapping = t.mapping;
      keeps = keeps_on (types_of ws) (types_of us) (types_of xs) g.keeps t.keeps;
      rest = λ j l. get_or-set_other vs i j (q - 1) 0 (λ e. not-suc-le-zero {n = 0} (omega arith)) ∙ g.rest j (omega arith);
      small = λ j l. elim (ℕ_discrete j i) [
        | yes e ↦ omega (arith, ap (at (set vs i (q - 1))) e, get_or-set_same vs i (q - 1) 0 (omega (arith, g.len, g.room)), t.small)
        | no e ↦ omega (arith, get_or-set_other vs i j (q - 1) 0 e, g.small j (omega arith))
      ];
      moves = λ l k.
          let a = g.moves l k in
          let b = (step l k).done z in
          subst (λ (o : List Ty × Transfer). AllMoved (length src) xs ys (take (i + 1) (set vs i (q - 1))) o) (sym (after l)) (record {
            is = b.is;
            maps = b.maps;
            types = gone ∙ ap₂ (λ (u : List Ty) (v : Ty). u ++ (v ∷ [])) a.types (some-injective _ _ (sym (entry_of q z) ∙ b.type));
          });
    }
      where
        gone : map type_of_word (take (i + 1) (set vs i (q - 1))) ≡ map type_of_word (take i vs) ++ (type_of_word (q - 1) ∷ [])
        gone = ap (λ x. map type_of_word (take x (set vs i (q - 1)))) (add-one i) ∙ ap (map type_of_word) (take-suc-set vs i (q - 1) (omega (arith, g.len, g.room))) ∙ map-append type_of_word (take i vs) ((q - 1) ∷ [])
