-- The records of a question's table as nodes: what the code is told of them, and the laws that it cites.
use Prim.Native.Nat.{ℕ, ◌+◌, ◌≤◌, ◌<◌}
use Rattle.std.specs.Prelude.{◌≡◌, [], ◌∷◌, ◌++◌, map, ◌≢◌, ◌⊎◌, eqb, set, take}
use Rattle.std.proofs.Math.Path.{sym, ap, ap₂}
use Rattle.std.proofs.Common.{◌∙◌, subst, inl, inr, arith, append_assoc, append-nil, length-append, length-set, eq-eqb, ne_eqb}
use Rattle.std.proofs.lemmas.List.{map-append, take_more_set}
use mathlib.Core.List.{map-map}
use Rattle.std.proofs.Math.ListN.{length, length-take, length-map, get_or-eq_default}
use Rattle.rules.specs.Lists.{Words}
use Rattle.rules.specs.Limits.{limit_nodes}
use Rattle.rules.specs.Sheet.{at, chain}
use Rattle.rules.specs.Types.{Ty, TypeState, unknown, known, Types, new_node}
use Rattle.rules.specs.Solutions.{AllIn, ChildrenIn}
use Rattle.rules.specs.Pigeonholes.{lt_or}
use Rattle.rules.specs.RootRank.{child_in}
use Rattle.rules.specs.Slim.{SlimState}
use Rattle.rules.specs.Transfer.{type_of_word, cell_types, node_state}
use Rattle.rules.specs.Neat.{Neat}
use Rattle.table.specs.Packing.{types_of, Pushes, Becomes, Above, TypeWords}
use Rattle.transfer.specs.Leaves.{type_at}

-- A table that words can hold: neat, and of at most 256 nodes.
pub record Fitting (ts : Types) : Type 0 where
  pub neat : Neat ts
  pub few : length ts ≤ limit_nodes

-- So is the node of the record at p: at most eight children, each a type of such a table.
pub record NodeFits (q : Words) (p : ℕ) : Type 0 where
  pub slim : SlimState (node_state q p)
  pub inside : ChildrenIn limit_nodes (node_state q p)

-- The record at p is of a kind that is known.
pub record Kind (q : Words) (p k : ℕ) : Type 0 where
  pub is : k ≡ at q (p + 1)
  pub some : k ≢ 0

-- The first m of cs are the type words of the cells from a head.
pub record Cells (q : Words) (h : ℕ) (cs : Words) (m : ℕ) : Type 0 where
  pub few : m ≤ 8
  pub room : m ≤ length cs
  pub is : map type_of_word (take m cs) ≡ cell_types q h

-- The cells at `done` are read; those at `left` are to come.
pub record Reading (q : Words) (h : ℕ) (cs done left : Words) (m : ℕ) : Type 0 where
  pub all : done ++ left ≡ chain q h
  pub few : length (chain q h) ≤ 8
  pub long : 8 ≤ length cs
  pub count : m ≡ length done
  pub is : take m cs ≡ map (λ c. at q (c + 1)) done

-- p is the place of the next cell, and w its type word.
module _ (q : Words) (h : ℕ) (cs done rest left : Words) (m p : ℕ) (g : Reading q h cs done rest m) (e : rest ≡ p ∷ left) where
  pub reading_room : m < 8
  reading_room = omega (arith, g.few, g.count, ap (λ (l : Words). length l) g.all, ap (λ (l : Words). length l) e, length-append done rest)

  pub reading_next : (w : ℕ) → w ≡ at q (p + 1) → Reading q h (set cs m w) (done ++ (p ∷ [])) left (m + 1)
  reading_next w ew = record {
    all = append_assoc done (p ∷ []) left ∙ ap (λ (l : Words). done ++ l) (sym e) ∙ g.all;
    few = g.few;
    long = omega (arith, length-set cs m w, g.long);
    count = omega (arith, g.count, length-append done (p ∷ []));
    is = take_more_set cs m w (omega (arith, reading_room, g.long)) ∙ ap₂ (λ (l : Words) (x : ℕ). l ++ (x ∷ [])) g.is ew ∙ sym (map-append (λ c. at q (c + 1)) done (p ∷ []));
  }

pub reading_done : (q : Words) (h : ℕ) (cs done rest : Words) (m : ℕ) → Reading q h cs done rest m → rest ≡ [] → Cells q h cs m
unfolding cell_types
reading_done q h cs done rest m g e = record {
  few = omega (arith, g.few, g.count, ap (λ (l : Words). length l) g.all, length-append done rest);
  room = omega (arith, g.few, g.long, g.count, ap (λ (l : Words). length l) g.all, length-append done rest);
  is = ap (map type_of_word) g.is ∙ map-map type_of_word (λ c. at q (c + 1)) done ∙ ap (map (λ c. type_of_word (at q (c + 1)))) (sym (append-nil done) ∙ ap (λ (l : Words). done ++ l) (sym e) ∙ g.all);
}

-- The words that are read.
pub cells-length : (q : Words) (h : ℕ) (cs : Words) (m : ℕ) → Cells q h cs m → m ≡ length (take m cs)
cells-length q h cs m c = omega (arith, length-take m cs, c.room)

-- What a record is, by its kind.
state_unknown : (q : Words) (p : ℕ) → at q (p + 1) ≡ 0 → node_state q p ≡ unknown
unfolding node_state
state_unknown q p e = rw (eq-eqb (at q (p + 1)) 0 e, node_state)

state_known : (q : Words) (p : ℕ) → at q (p + 1) ≢ 0 → node_state q p ≡ known (eqb (at q (p + 2)) 1) (at q (p + 1)) (at q (p + 3)) (cell_types q (at q (p + 4)))
unfolding node_state
state_known q p e = rw (ne_eqb (at q (p + 1)) 0 e, node_state)

module _ (q : Words) (p k : ℕ) (f : NodeFits q p) (d : Kind q p k) where
  known_here : node_state q p ≡ known (eqb (at q (p + 2)) 1) (at q (p + 1)) (at q (p + 3)) (cell_types q (at q (p + 4)))
  known_here = state_known q p (λ e. d.some (d.is ∙ e))

  few_cells : length (cell_types q (at q (p + 4))) ≤ 8
  few_cells = (subst SlimState known_here f.slim).few

  pub known_low : k < 16
  known_low = subst (λ x. x < 16) (sym d.is) (subst SlimState known_here f.slim).low

  low_cells : AllIn limit_nodes (cell_types q (at q (p + 4)))
  low_cells = subst (ChildrenIn limit_nodes) known_here f.inside

  -- w is the word of its children's head, h that as an index.
  module _ (w h : ℕ) (ew : w ≡ at q (p + 4)) (eh : h ≡ w) where
    pub cells_few : length (chain q h) ≤ 8
    unfolding cell_types
    cells_few = omega (arith, ap (λ x. length (chain q x)) (eh ∙ ew), length-map (chain q (at q (p + 4))) (λ c. type_of_word (at q (c + 1))), few_cells)

    module _ (cs : Words) (m : ℕ) (c : Cells q h cs m) where
      cells_here : map type_of_word (take m cs) ≡ cell_types q (at q (p + 4))
      cells_here = c.is ∙ ap (cell_types q) (eh ∙ ew)

      pub cells-words : TypeWords (take m cs)
      unfolding type_of_word
      cells-words = record { small = λ j. go j (lt_or j (length (take m cs))) }
        where
          go : (j : ℕ) → (j < length (take m cs)) ⊎ (length (take m cs) ≤ j) → at (take m cs) j < 512
          go j (inl l) = omega (arith, ap (λ (t : Ty). t.1) (type_at (take m cs) j), child_in limit_nodes (map type_of_word (take m cs)) j (subst (AllIn limit_nodes) (sym cells_here) low_cells) (omega (arith, length-map (take m cs) type_of_word)))
          go j (inr l) = omega (arith, get_or-eq_default (take m cs) 0 l)

      pub cells-above : (id : ℕ) → id ≡ at q (p + 3) → Above id (length (take m cs))
      cells-above id e = record { small = λ l. subst (λ x. x < 4096) (sym e) ((subst SlimState known_here f.slim).small (omega (arith, ap length cells_here, length-map (take m cs) type_of_word))) }

      -- i and d are inversion word and id, and the node is pushed.
      pub known_pushed : (ws us : Words) (i id r : ℕ) → length (types_of ws) < 256 → i ≡ at q (p + 2) → id ≡ at q (p + 3) → Pushes ws us (known (eqb i 1) k id (map type_of_word (take m cs))) r → Becomes us (types_of ws ++ (new_node (length (types_of ws)) (node_state q p) ∷ []))
      known_pushed ws us i id r l ei ed u = record {
        packed = u.packed;
        is = u.room (omega (arith, u.number)) ∙ ap (λ (st : TypeState). types_of ws ++ (new_node r st ∷ [])) same ∙ ap (λ n. types_of ws ++ (new_node n (node_state q p) ∷ [])) u.number;
      }
        where
          same : known (eqb i 1) k id (map type_of_word (take m cs)) ≡ node_state q p
          same = sym (known_here ∙ cc (cells_here, d.is))

pub unknown_pushed : (q ws us : Words) (p k r : ℕ) → k ≡ at q (p + 1) → k ≡ 0 → length (types_of ws) < 256 → Pushes ws us unknown r → Becomes us (types_of ws ++ (new_node (length (types_of ws)) (node_state q p) ∷ []))
unknown_pushed q ws us p k r ek z l u = record {
  packed = u.packed;
  is = u.room (omega (arith, u.number)) ∙ ap (λ (st : TypeState). types_of ws ++ (new_node r st ∷ [])) (sym (state_unknown q p (sym ek ∙ z))) ∙ ap (λ n. types_of ws ++ (new_node n (node_state q p) ∷ [])) u.number;
}
