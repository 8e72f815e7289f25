-- The words of a type node with its cells, and the laws of the loop that writes the nodes of a table.
use Rattle.std.specs.Prelude.{ℕ, zero, suc, ◌+◌, ◌-◌, ◌*◌, ◌≤◌, ◌<◌, ◌≡◌, Bool, get_or, drop, take}
use Rattle.std.proofs.Math.Path.{refl, ap}
use Rattle.std.proofs.Common.{sym, ◌∙◌, ap₂, ⊎_elim, arith, length-drop, length-take}
use mathlib.Core.List.{[], ◌∷◌, ◌++◌}
use Rattle.std.proofs.Math.ListN.{length}
use Rattle.rules.specs.Lists.{Words, bit}
use Rattle.rules.specs.Sheet.{at}
use Rattle.rules.specs.Types.{TypeState, unknown, known, TypeNode, Types, new_node, node_at, state_at}
use Rattle.rules.specs.Acyclic.{children}
use Rattle.rules.specs.AcyclicLaws.{children_at}
use Rattle.rules.specs.Pigeonholes.{lt_or}
use Rattle.rules.specs.Answer.{head_or_zero, pack_cells, pack_nodes}
use Rattle.table.specs.Packing.{types_of, node_of, node_from, state_of, id_from, eight, head_kind, head_arity, head_inverted, kind_in, inverted_in, id_in, kind_at, inverted_at, id_at}
use Rattle.table.specs.Nodes.{node_in, node_past, types_few}
use Rattle.answer.specs.Writing.{Wrote, Left, link_of, link_head, wrote_then, wrote_as, left_start, left_more, left_done, left_as}
use Rattle.answer.specs.Cells.{cells-length, drop-one, drop_all}

-- A node's record and its cells; ns are the nodes behind it.
unfoldable pub node_part : ℕ → TypeState → Types → Words
node_part p st ns = head_or_zero (p + 5 + 2 * length (children st)) ns ∷ kind_in st ∷ bit (inverted_in st) ∷ id_in st ∷ head_or_zero (p + 5) (children st) ∷ pack_cells (p + 5) (children st)

-- Node n of a table is written from place p on, up to place r.
pub record Noded (ts : Types) (ws us : Words) (n p r : ℕ) : Type 0 where
  pub wrote : Wrote ws us p (node_part p (state_at ts n) (drop (n + 1) ts))
  pub next : r ≡ p + 5 + 2 * length (children_at ts n)
  pub near : r ≤ p + 21

-- The nodes of a table are written from place p on, up to place r.
pub record Nodes (ts : Types) (ws us : Words) (p r : ℕ) : Type 0 where
  pub wrote : Wrote ws us p (pack_nodes p ts)
  pub next : r ≡ p + length (pack_nodes p ts)
  pub near : r ≤ p + 5376

part_length : (p : ℕ) (st : TypeState) (ns : Types) → length (node_part p st ns) ≡ 5 + 2 * length (children st)
unfolding node_part
part_length p st ns = omega (arith, cells-length (p + 5) (children st))

nodes_step : (p : ℕ) (nd : TypeNode) (ns : Types) → pack_nodes p (nd ∷ ns) ≡ node_part p nd.state ns ++ pack_nodes (p + 5 + 2 * length (children nd.state)) ns
unfolding pack_nodes node_part children kind_in inverted_in id_in head_or_zero pack_cells
nodes_step p nd ns = go nd.state refl
  where
    go : (st : TypeState) → nd.state ≡ st → pack_nodes p (nd ∷ ns) ≡ node_part p nd.state ns ++ pack_nodes (p + 5 + 2 * length (children nd.state)) ns
    go unknown e = rw (e, pack_nodes) (let z : p + 5 ≡ p + 5 + 2 * 0 = omega arith in ap (λ q. head_or_zero q ns ∷ 0 ∷ 0 ∷ 0 ∷ 0 ∷ pack_nodes q ns) z)
    go (known i k d cs) e = rw (e, pack_nodes) refl

few_eight : (m a b c : ℕ) → length (take m (eight a b c)) ≤ 8
unfolding eight
few_eight m a b c = omega (arith, length-take m (eight a b c))

few_state : (k : ℕ) (i : Bool) (d m a b c : ℕ) → length (children (state_of k i d (take m (eight a b c)))) ≤ 8
unfolding state_of children
few_state zero i d m a b c = omega arith
few_state (suc k) i d m a b c = few_eight m a b c

-- No node has over eight children.
pub few_children : (ws : Words) (n : ℕ) → length (children_at (types_of ws) n) ≤ 8
unfolding children_at state_at node_of node_from new_node children
few_children ws n = ⊎_elim here past (lt_or n (length (types_of ws)))
  where
    here : n < length (types_of ws) → length (children (node_at (types_of ws) n).state) ≤ 8
    here h = rw (node_in ws n h) (few_state (head_kind (at ws (4 * n + 1))) (head_inverted (at ws (4 * n + 1))) (id_from (head_arity (at ws (4 * n + 1))) (at ws (4 * n + 4))) (head_arity (at ws (4 * n + 1))) (at ws (4 * n + 2)) (at ws (4 * n + 3)) (at ws (4 * n + 4)))

    past : length (types_of ws) ≤ n → length (children (node_at (types_of ws) n).state) ≤ 8
    past h = rw (node_past (types_of ws) n h) (omega arith)

pub child_count_few : (ws : Words) (n k : ℕ) → k ≡ length (children_at (types_of ws) n) → k ≤ 8
child_count_few ws n k e = omega (arith, few_children ws n)

-- A record and its cells.
pub noded : (ts : Types) (ws us vs : Words) (n left k p : ℕ) → left ≡ length ts - (n + 1) → k ≡ length (children_at ts n) → k ≤ 8 → Wrote ws us p (link_of left (p + 5 + 2 * k) ∷ kind_at ts n ∷ bit (inverted_at ts n) ∷ id_at ts n ∷ link_of k (p + 5) ∷ []) → Wrote us vs (p + 5) (pack_cells (p + 5) (children_at ts n)) → Noded ts ws vs n p (p + 5 + 2 * k)
unfolding node_part kind_at inverted_at id_at children_at
noded ts ws us vs n left k p el ek few a b = record {
  wrote = wrote_as ws vs p p _ (node_part p (state_at ts n) (drop (n + 1) ts)) refl
      (ap₂ (λ (x y : ℕ). x ∷ kind_at ts n ∷ bit (inverted_at ts n) ∷ id_at ts n ∷ y ∷ pack_cells (p + 5) (children_at ts n)) next_is child_is)
      (wrote_then ws us vs p (p + 5) (link_of left (p + 5 + 2 * k) ∷ kind_at ts n ∷ bit (inverted_at ts n) ∷ id_at ts n ∷ link_of k (p + 5) ∷ []) (pack_cells (p + 5) (children_at ts n)) refl a b);
  next = ap (λ m. p + 5 + 2 * m) ek;
  near = omega arith;
}
  where
    next_is : link_of left (p + 5 + 2 * k) ≡ head_or_zero (p + 5 + 2 * length (children_at ts n)) (drop (n + 1) ts)
    next_is = ap (λ m. link_of left (p + 5 + 2 * m)) ek ∙ link_head (p + 5 + 2 * length (children_at ts n)) (drop (n + 1) ts) left (omega (arith, length-drop (n + 1) ts))

    child_is : link_of k (p + 5) ≡ head_or_zero (p + 5) (children_at ts n)
    child_is = link_head (p + 5) (children_at ts n) k ek

pub left_nodes : (ts : Types) (n c w : ℕ) → c ≡ length ts → w ≡ c - (n + 1) → w ≡ length ts - (n + 1)
left_nodes ts n c w e f = omega arith

-- The loop over the nodes.
module _ (ts : Types) (ws : Words) (p : ℕ) where
  pub nodes_start : Left ws ws p p (pack_nodes p ts) (pack_nodes p (drop 0 ts))
  nodes_start = left_start ws p (pack_nodes p ts)

  pub nodes_more : (us vs : Words) (n c q r : ℕ) → c ≡ length ts → n < c → Left ws us p q (pack_nodes p ts) (pack_nodes q (drop n ts)) → Noded ts us vs n q r → Left ws vs p r (pack_nodes p ts) (pack_nodes r (drop (n + 1) ts))
  unfolding children_at state_at node_at
  nodes_more us vs n c q r e h l nd =
      left_more ws us vs p q r (pack_nodes p ts) (node_part q (state_at ts n) (drop (n + 1) ts)) (pack_nodes r (drop (n + 1) ts))
      (omega (arith, nd.next, part_length q (state_at ts n) (drop (n + 1) ts)))
      (left_as ws us p q q (pack_nodes p ts) (pack_nodes q (drop n ts)) (node_part q (state_at ts n) (drop (n + 1) ts) ++ pack_nodes r (drop (n + 1) ts)) refl split l)
      nd.wrote
    where
      split : pack_nodes q (drop n ts) ≡ node_part q (state_at ts n) (drop (n + 1) ts) ++ pack_nodes r (drop (n + 1) ts)
      split =
          ap (pack_nodes q) (drop-one ts n (new_node 0 unknown) (omega arith))
          ∙ nodes_step q (get_or ts n (new_node 0 unknown)) (drop (n + 1) ts)
          ∙ ap (λ m. node_part q (state_at ts n) (drop (n + 1) ts) ++ pack_nodes m (drop (n + 1) ts)) (sym nd.next)

  pub nodes_done : (us : Words) (n c q : ℕ) → c ≡ length ts → n ≤ c → c ≤ n → c ≤ 256 → q ≤ p + 21 * n → p + 5376 ≤ length ws → length us ≡ length ws → Left ws us p q (pack_nodes p ts) (pack_nodes q (drop n ts)) → Nodes ts ws us p q
  unfolding pack_nodes
  nodes_done us n c q e h g few near room len l =
      let none : pack_nodes q (drop n ts) ≡ [] = ap (pack_nodes q) (drop_all ts n (omega arith)) in
      record {
        wrote = left_done ws us p q (pack_nodes p ts) (omega arith) (left_as ws us p q q (pack_nodes p ts) (pack_nodes q (drop n ts)) [] refl none l);
        next = omega (arith, l.far, ap length none);
        near = omega arith;
      }

pub count_few : (ws : Words) (c : ℕ) → c ≡ length (types_of ws) → c ≤ 256
count_few ws c e = omega (arith, types_few ws)
