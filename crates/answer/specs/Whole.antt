-- The answer put together: trees, nodes and type words one after the other from place 6 on, and the six words before them.
use Rattle.std.specs.Prelude.{ℕ, ◌+◌, ◌*◌, ◌≤◌, ◌≡◌, refl, Bool, false, List, [], ◌∷◌, ◌++◌, map, length, drop}
use Rattle.std.proofs.Common.{◌∙◌, ap, ap₂, arith, length-append}
use Rattle.rules.specs.Lists.{Words, range, bit}
use Rattle.rules.specs.Sheet.{at}
use Rattle.rules.specs.Types.{Ty, TypeState, unknown, known, Types}
use Rattle.rules.specs.Transfer.{export_types}
use Rattle.rules.specs.Run.{got}
use Rattle.rules.specs.Search.{Trees, end, tree, tree_size}
use Rattle.rules.specs.Answer.{head_or_zero, pack_trees, word_of_type, pack_nodes, answer}
use Rattle.rules.specs.Calls.{answer_after}
use Rattle.table.specs.Packing.{types_of}
use Rattle.trees.specs.Forests.{Holds}
use Rattle.answer.specs.Writing.{Wrote, link_of, wrote_then, wrote_before, wrote_whole, wrote_as}
use Rattle.answer.specs.Nodes.{Nodes}
use Rattle.answer.specs.Records.{trees_length_lem}

-- The trees of a buffer are written from place p on, up to place r.
pub record Treed (ws : Words) (b : ℕ) (out us : Words) (p r : ℕ) : Type 0 where
  pub trees : (t : Trees) → Holds ws b t → Wrote out us p (pack_trees p t)
  pub next : r ≡ p + 4 * at ws b

-- The words of a slice are written from place p on, up to place r.
pub record Typed (types out us : Words) (p r : ℕ) : Type 0 where
  pub wrote : Wrote out us p types
  pub next : r ≡ p + length types

-- The answer behind its first six words: trees, nodes, type words.
unfoldable pub body_of : Trees → Trees → Types → Words → Words
body_of t u ts row = pack_trees 6 t ++ pack_trees (6 + length (pack_trees 6 t)) u ++ pack_nodes (6 + length (pack_trees 6 t) + length (pack_trees (6 + length (pack_trees 6 t)) u)) ts ++ row

-- It is written, up to place r.
pub record Body (fork : Words) (a : ℕ) (drop : Words) (b : ℕ) (ts : Types) (row out us : Words) (r : ℕ) : Type 0 where
  pub wrote : (t u : Trees) → Holds fork a t → Holds drop b u → Wrote out us 6 (body_of t u ts row)
  pub next : (t u : Trees) → Holds fork a t → Holds drop b u → r ≡ 6 + length (body_of t u ts row)
  pub near : r ≤ 7686

pub bodied : (fork drop row out us vs xs ys : Words) (a b p q e r : ℕ) (ts : Types) → at fork a ≤ 256 → at drop b ≤ 256 → length row ≤ 256 → Treed fork a out us 6 p → Treed drop b us vs p q → Nodes ts vs xs q e → Typed row xs ys e r → Body fork a drop b ts row out ys r
unfolding body_of
bodied fork drop row out us vs xs ys a b p q e r ts ha hb hr f g h k = record {
  wrote = λ t u ht hu. (whole t u ht hu).0;
  next = λ t u ht hu. (whole t u ht hu).1;
  near = omega (arith, f.next, g.next, h.near, k.next);
}
  where
    whole : (t u : Trees) → Holds fork a t → Holds drop b u → Wrote out ys 6 (body_of t u ts row) × (r ≡ 6 + length (body_of t u ts row))
    whole t u ht hu =
        let forks = pack_trees 6 t in
        let p' = 6 + length forks in
        let drops = pack_trees p' u in
        let q' = 6 + length forks + length drops in
        let nodes = pack_nodes q' ts in
        let ep : p ≡ p' = omega (arith, f.next, ht.count, trees_length_lem 6 t) in
        let eq : q ≡ q' = omega (arith, g.next, hu.count, trees_length_lem p' u) in
        let w₁ = f.trees t ht in
        let w₂ = wrote_as us vs p p' (pack_trees p u) drops ep (ap (λ i. pack_trees i u) ep) (g.trees u hu) in
        let w₃ = wrote_as vs xs q q' (pack_nodes q ts) nodes eq (ap (λ i. pack_nodes i ts) eq) h.wrote in
        let l₁ = length-append forks drops in
        let l₂ = length-append (forks ++ drops) nodes in
        let l₃ = length-append (forks ++ drops ++ nodes) row in
        let en : e ≡ q' + length nodes = h.next ∙ ap (λ i. i + length (pack_nodes i ts)) eq in
        let two = wrote_then out us vs 6 p' forks drops refl w₁ w₂ in
        let three = wrote_then out vs xs 6 q' (forks ++ drops) nodes (omega arith) two w₃ in
        (wrote_then out xs ys 6 e (forks ++ drops ++ nodes) row (omega arith) three k.wrote, omega (arith, k.next))

-- The six words before it, as they are made: n and m are the counts of nodes of the two trees, c that of the type nodes.
abbrev pub heads_of : ℕ → ℕ → ℕ → ℕ → Bool → Bool → Words
heads_of n m c used inv self = link_of n 6 ∷ link_of m (6 + 4 * n) ∷ link_of c (6 + 4 * n + 4 * m) ∷ used ∷ bit inv ∷ bit self ∷ []

-- A list of records is empty where there is nothing to pack.
trees_head : (p q : ℕ) (t : Trees) → link_of (tree_size t) p ≡ head_or_zero p (pack_trees q t)
unfolding link_of tree_size head_or_zero pack_trees
trees_head p q end = refl
trees_head p q (tree k i c n) = refl

nodes_head : (p q : ℕ) (ts : Types) → link_of (length ts) p ≡ head_or_zero p (pack_nodes q ts)
unfolding link_of head_or_zero pack_nodes
nodes_head p q [] = refl
nodes_head p q (nd ∷ ns) = go nd.state refl
  where
    go : (st : TypeState) → nd.state ≡ st → p ≡ head_or_zero p (pack_nodes q (nd ∷ ns))
    go unknown e = rw (e, pack_nodes) refl
    go (known i k d cs) e = rw (e, pack_nodes) refl

-- What `export` gives for nodes 0, 1, 2 and on of a table, n of them: their types, and the table that these are of.
abbrev pub exported : Types → ℕ → List Ty × Types
exported ts n = export_types ts (map (λ k. (false, k)) (range 0 n))

-- The answer buffer after a call, and how many of its words are the answer's.
-- fork and drop hold the two trees, at a and b; table and types are what is exported of the caller's types for the question's nodes: the table, and a type word for each.
pub record Answers (fork : Words) (a : ℕ) (drop : Words) (b : ℕ) (inv self : Bool) (table types out us : Words) (r : ℕ) : Type 0 where
  pub after : (t u : Trees) (n : ℕ) (ts : Types) → Holds fork a t → Holds drop b u → types_of table ≡ (exported ts n).1 → types ≡ map word_of_type (exported ts n).0 → us ≡ answer_after (got (answer t u inv self n ts)) out
  pub used : (t u : Trees) (n : ℕ) (ts : Types) → Holds fork a t → Holds drop b u → types_of table ≡ (exported ts n).1 → types ≡ map word_of_type (exported ts n).0 → r ≡ length (answer t u inv self n ts)

pub answered : (fork : Words) (a : ℕ) (drop : Words) (b : ℕ) (inv self : Bool) (table types out us vs : Words) (n m c r : ℕ) → n ≡ at fork a → m ≡ at drop b → c ≡ length (types_of table) → Body fork a drop b (types_of table) types out us r → Wrote us vs 0 (heads_of n m c r inv self) → Answers fork a drop b inv self table types out vs r
unfolding body_of answer answer_after
answered fork a drop b inv self table types out us vs n m c r en em ec body w = record {
  after = λ t u k ts ht hu e f. (wrote_whole out vs _ (wrote_before out us vs 0 6 (heads_of n m c r inv self) (body_of t u (types_of table) types) refl (body.wrote t u ht hu) w)) ∙ ap (λ (xs : Words). answer_after (got xs) out) (words t u k ts ht hu e f);
  used = λ t u k ts ht hu e f. let g = ap length (words t u k ts ht hu e f) in omega (arith, body.next t u ht hu);
}
  where
    words : (t u : Trees) (k : ℕ) (ts : Types) → Holds fork a t → Holds drop b u → types_of table ≡ (exported ts k).1 → types ≡ map word_of_type (exported ts k).0 → heads_of n m c r inv self ++ body_of t u (types_of table) types ≡ answer t u inv self k ts
    words t u k ts ht hu e f =
        let forks = pack_trees 6 t in
        let p = 6 + length forks in
        let drops = pack_trees p u in
        let q = p + length drops in
        let ep : 6 + 4 * n ≡ p = omega (arith, ht.count, trees_length_lem 6 t) in
        let eq : 6 + 4 * n + 4 * m ≡ q = omega (arith, ht.count, hu.count, trees_length_lem 6 t, trees_length_lem p u) in
        let h₁ : link_of n 6 ≡ head_or_zero 6 forks = ap (λ i. link_of i 6) (en ∙ ht.count) ∙ trees_head 6 6 t in
        let h₂ : link_of m (6 + 4 * n) ≡ head_or_zero p drops = ap₂ link_of (em ∙ hu.count) ep ∙ trees_head p p u in
        let h₃ : link_of c (6 + 4 * n + 4 * m) ≡ head_or_zero q (pack_nodes q (types_of table)) = ap₂ link_of ec eq ∙ nodes_head q q (types_of table) in
        let h₄ = body.next t u ht hu in
        cc (h₁, h₂, h₃, h₄, e, f)
