-- Steps of a walk down a well-formed, acyclic table: from a type to its root, and from a root to its children, which are of lower rank.
use Rattle.std.specs.Prelude.{ℕ, ◌+◌, ◌*◌, ◌/◌, ◌<◌, ◌≡◌, false, get_or}
use Rattle.std.proofs.Math.Path.{refl, ap}
use Rattle.std.proofs.Common.{sym, ◌∙◌, subst, arith}
use Rattle.std.proofs.Math.ListN.{length}
use Rattle.rules.specs.Lists.{Words}
use Rattle.rules.specs.Types.{Ty, TypeState, unknown, known, state_at}
use Rattle.rules.specs.Acyclic.{children}
use Rattle.rules.specs.AcyclicLaws.{children_at}
use Rattle.rules.specs.Transfer.{type_of_word}
use Rattle.rules.specs.Answer.{word_of_type}
use Rattle.rules.specs.Solutions.{rep, ChildrenIn}
use Rattle.rules.specs.RootRank.{rank, child_in}
use Rattle.rules.specs.Readings.{rank_root}
use Rattle.table.specs.Packing.{types_of, Good}
use Rattle.table.specs.Nodes.{type_word}

-- n is the root of type word t.
module _ (ws : Words) (t n : ℕ) (g : Good ws) (h : t / 2 < length (types_of ws)) (e : n ≡ rep (types_of ws) (t / 2)) where
  pub root_in : n < length (types_of ws)
  root_in = omega (arith, (g.formed (t / 2) h).0)

  pub root_own : rep (types_of ws) n ≡ n
  root_own = ap (rep (types_of ws)) e ∙ (g.formed (t / 2) h).1 ∙ sym e

  -- The measure: among the types within it the walk goes on no higher.
  pub among_lower : (x : ℕ) → 2 * rank (types_of ws) (t / 2) + 1 ≡ x → 2 * rank (types_of ws) n < x
  among_lower x q = omega (arith, ap (rank (types_of ws)) e, rank_root (types_of ws) g.formed (t / 2) h)

-- c is child i of root n.
module _ (ws : Words) (n m i c : ℕ) (g : Good ws) (h : n < length (types_of ws)) (own : rep (types_of ws) n ≡ n) (e : m ≡ length (children_at (types_of ws) n)) (l : i < m) (ec : c ≡ word_of_type (get_or (children_at (types_of ws) n) i (false, 0))) where
  is_child : type_of_word c ≡ get_or (children_at (types_of ws) n) i (false, 0)
  is_child = ap type_of_word ec ∙ type_word (get_or (children_at (types_of ws) n) i (false, 0))

  half : c / 2 ≡ (get_or (children_at (types_of ws) n) i (false, 0)).1
  unfolding type_of_word
  half = ap (λ (t : Ty). t.1) is_child

  child_of : (st : TypeState) → state_at (types_of ws) n ≡ st → ((get_or (children st) i (false, 0)).1 < length (types_of ws)) × (rank (types_of ws) (get_or (children st) i (false, 0)).1 < rank (types_of ws) n)
  unfolding children_at children
  child_of unknown q = absurd (omega (arith, ap (λ st. length (children st)) q))
  child_of (known j kd d cs) q =
      let q' : state_at (types_of ws) (rep (types_of ws) n) ≡ known j kd d cs = ap (state_at (types_of ws)) own ∙ q in
      let long : i < length cs = omega (arith, ap (λ st. length (children st)) q) in
      (child_in (length (types_of ws)) cs i (subst (ChildrenIn (length (types_of ws))) q' (g.formed n h).2) long, g.acyclic.falls n h j kd d cs q' i long)

  whole : ((get_or (children_at (types_of ws) n) i (false, 0)).1 < length (types_of ws)) × (rank (types_of ws) (get_or (children_at (types_of ws) n) i (false, 0)).1 < rank (types_of ws) n)
  unfolding children_at
  whole = child_of (state_at (types_of ws) n) refl

  pub child-in_table : c / 2 < length (types_of ws)
  child-in_table = omega (arith, half, whole.0)

  pub child_lower : (x : ℕ) → 2 * rank (types_of ws) n ≡ x → 2 * rank (types_of ws) (c / 2) + 1 < x
  child_lower x q = omega (arith, ap (rank (types_of ws)) half, whole.1)
