-- A question's table, node by node: so many records are pushed, and the others are to come.
use Rattle.std.specs.Prelude.{ℕ, suc, ◌≤◌, ◌<◌, ◌≡◌, [], ◌∷◌, ◌++◌}
use Rattle.std.proofs.Math.Path.{sym, ap}
use Rattle.std.proofs.Common.{◌∙◌, subst, arith, append_assoc, length-append, length-take, take-suc}
use Rattle.std.proofs.Math.ListN.{length, take}
use Rattle.std.proofs.Math.Seq.{get_or-append_seam, take_all}
use Rattle.rules.specs.Lists.{Words}
use Rattle.rules.specs.Limits.{limit_nodes}
use Rattle.rules.specs.Layout.{question_table}
use Rattle.rules.specs.Sheet.{at, chain}
use Rattle.rules.specs.Types.{TypeState, unknown, known, Types, new_node, node_at, state_at}
use Rattle.rules.specs.Solutions.{ChildrenIn}
use Rattle.rules.specs.Slim.{SlimState, slim_at}
use Rattle.rules.specs.Transfer.{node_state, table}
use Rattle.rules.specs.CheckedTables.{table_length_lem, table-node, table_state, table-flat}
use Rattle.rules.specs.Neat.{in_more}
use Rattle.rules.specs.Calls.{question_types}
use Rattle.table.specs.Packing.{types_of, Packed, Becomes}
use Rattle.loading.specs.Nodes.{Fitting, NodeFits}

children_more : (n m : ℕ) → n ≤ m → (st : TypeState) → ChildrenIn n st → ChildrenIn m st
children_more n m h unknown c = tt
children_more n m h (known i k d cs) c = in_more n m h cs c

node_fits : (q : Words) (h j : ℕ) → Fitting (table q h) → j < length (chain q h) → NodeFits q (at (chain q h) j)
node_fits q h j f l =
    let k : j < length (table q h) = omega (arith, table_length_lem q h) in
    let e = table_state q h j k in
    record {
      slim = subst SlimState e (slim_at (table q h) f.neat.slim j);
      inside = children_more (length (table q h)) limit_nodes f.few (node_state q (at (chain q h) j)) (subst (ChildrenIn (length (table q h))) (ap (state_at (table q h)) (table-flat q h j k) ∙ e) (f.neat.proper.formed j k).2);
    }

-- The nodes of the records `done` are there; those of `left` are to come.
pub record Loading (q us done left : Words) : Type 0 where
  pub all : done ++ left ≡ chain q (at q question_table)
  pub fits : Fitting (question_types q)
  pub packed : Packed us
  pub is : types_of us ≡ take (length done) (question_types q)

-- The record at p is the next.
module _ (q us done rest left : Words) (p : ℕ) (g : Loading q us done rest) (e : rest ≡ p ∷ left) where
  abbrev head : ℕ
  head = at q question_table

  all : done ++ (p ∷ left) ≡ chain q head
  all = ap (λ (l : Words). done ++ l) (sym e) ∙ g.all

  inside : length done < length (table q head)
  inside = omega (arith, table_length_lem q head, ap (λ (l : Words). length l) all, length-append done (p ∷ left))

  place : p ≡ at (chain q head) (length done)
  place = sym (get_or-append_seam done p left 0) ∙ ap (λ (l : Words). at l (length done)) all

  loaded : length (types_of us) ≡ length done
  unfolding question_types
  loaded = ap (λ (ts : Types). length ts) g.is ∙ length-take (length done) (table q head) ∙ omega (arith, inside)

  pub loading_fits : NodeFits q p
  unfolding question_types
  loading_fits = subst (NodeFits q) (sym place) (node_fits q head (length done) g.fits (omega (arith, inside, table_length_lem q head)))

  pub loading_room : length (types_of us) < 256
  unfolding question_types
  loading_room = omega (arith, loaded, inside, g.fits.few)

  pub loading_next : (vs : Words) → Becomes vs (types_of us ++ (new_node (length (types_of us)) (node_state q p) ∷ [])) → Loading q vs (done ++ (p ∷ [])) left
  unfolding node_at question_types
  loading_next vs b = record {
    all = append_assoc done (p ∷ []) left ∙ all;
    fits = g.fits;
    packed = b.packed;
    is = b.is ∙ cc (g.is, here) ∙ sym (take-suc (table q head) (length done) (new_node 0 unknown) inside) ∙ ap (λ k. take k (table q head)) (let z : suc (length done) ≡ length (done ++ (p ∷ [])) = omega (arith, length-append done (p ∷ [])) in z);
  }
    where
      here : node_at (table q head) (length done) ≡ new_node (length (types_of us)) (node_state q p)
      here = table-node q head (length done) inside ∙ cc (loaded, place)

pub loading_done : (q us done rest : Words) → Loading q us done rest → rest ≡ [] → Becomes us (question_types q)
unfolding question_types
loading_done q us done rest g e = record {
  packed = g.packed;
  is = g.is ∙ take_all (length done) (table q (at q question_table)) (omega (arith, table_length_lem q (at q question_table), ap (λ (l : Words). length l) g.all, ap (λ (l : Words). length l) e, length-append done rest));
}
