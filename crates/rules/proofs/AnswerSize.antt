-- An answer has at most 10,240 words, so that entry check 3 is enough for every answer.
-- Six words, two trees of at most 256 records of 4 words (17), at most 256 nodes of 5 words and 8 cells of 2 (14, 8 and 12), and a type word for each node asked: 6 + 2,048 + 5,376 + 256 = 7,686.
use Prim.Native.Nat.{ℕ, zero, suc, ◌+◌, ◌*◌, ◌≤◌}
use Rattle.std.specs.Prelude.{◌≡◌, Bool, ◌&&◌, ◌||◌, T, eqb, length}
use Rattle.std.proofs.Math.Path.{refl}
use Rattle.std.proofs.Common.{sym, ap, subst, le_refl, le_trans, arith, nltb→le, length-append}
use Rattle.std.proofs.Math.Bool.{true, false, not}
use mathlib.Core.List.{List, [], ◌∷◌, ◌++◌, map}
use Rattle.std.proofs.Math.Option.{Option, none, some, some-ne-none}
use Rattle.std.proofs.Math.Dec.{ltb}
use Rattle.std.proofs.Math.ListN.{get_or}
use Rattle.rules.specs.Lists.{Words, any, range}
use Rattle.rules.specs.Limits.{limit_sheet, limit_answer, limit_nodes, limit_tree_nodes, limit_depth}
use Rattle.rules.specs.Layout.{header_length, header_fork, header_drop, question_type, answer_length, tree_length, node_length, cell_length}
use Rattle.rules.specs.Sheet.{at}
use Rattle.rules.specs.Types.{Ty, TypeState, unknown, known, Types, UnifyResult, success, failure, indeterminate, Unified, ImplType, invert_if, self_inverse, unify_impl_type}
use Rattle.rules.specs.Transfer.{transfer_in, transfer_types, import_types, import_impl_type, export_types, export_impl_type, type_of_word}
use Rattle.rules.specs.Run.{Out, got, refused, free, within}
use Rattle.rules.specs.Search.{Finder, Trees, end, tree, tree_size, Result, question}
use Rattle.rules.specs.Answer.{pack_trees, word_of_type, pack_cells, pack_nodes, answer}
use Rattle.rules.specs.Check.{Checks, refusal, of_length, entry, impl_checks, flex_checks}
use Rattle.rules.specs.Calls.{question_types, impl_query, impl_search, impl_outcome, impl_free, impl_within, in_turn, flex_searches, first_tree, is_found, import_result, unify_first, flex_results, flex_outcome, unset, plainly, flex_free, flex_within, free_find_impl, free_find_flex, try_find_impl, find_flex}
use Rattle.rules.specs.AcyclicLaws.{map-length}
use Rattle.rules.specs.CheckLaws.{unrefused}
use Rattle.rules.specs.Yields.{Every, every_at, Yields, yields_both, yields_free, Comes, came}
use Rattle.rules.proofs.Yields.{yields_within}
use Rattle.rules.specs.Carried.{each_length}
use Rattle.rules.specs.TransferCount.{export_most}
use Rattle.rules.specs.Slim.{Slim, SlimState, most_children}
use Rattle.rules.specs.Neat.{Neat, Brought, Joined, range_in, types_exported}
use Rattle.rules.specs.SearchKeeps.{AllKept}
use Rattle.rules.specs.ResultLimits.{Few, few_none}
use Rattle.rules.proofs.ResultLimits.{question_few}
use Rattle.rules.proofs.CallKeeps.{impl_search_keeps, impl_last, impl_closed, in_turn_comes, flex_searches_keep, fork_brought, drop-brought, flex_joined, flex_closed}

-- Words of trees, cells and nodes.
trees_words : (p : ℕ) (t : Trees) → length (pack_trees p t) ≡ tree_length * tree_size t
unfolding pack_trees tree_size
trees_words p end = refl
trees_words p (tree k i c n) =
    let inner = p + tree_length in
    let next = inner + tree_length * tree_size c in
    omega (arith, length-append (pack_trees inner c) (pack_trees next n), trees_words inner c, trees_words next n)

cells-words : (p : ℕ) (ts : List Ty) → length (pack_cells p ts) ≡ cell_length * length ts
unfolding pack_cells
cells-words p [] = refl
cells-words p (t ∷ ts) = omega (arith, cells-words (p + cell_length) ts)

-- a node with as many cells as it can have
abbrev node_words : ℕ
node_words = node_length + cell_length * most_children

nodes_words : (p : ℕ) (ns : Types) → Slim ns → length (pack_nodes p ns) ≤ node_words * length ns
unfolding pack_nodes Slim
nodes_words p [] h = le_refl 0
nodes_words p (n ∷ ns) h = go n.state refl (nodes_words (p + node_length) ns h.1) (λ cs. nodes_words (p + node_length + cell_length * length cs) ns h.1)
  where
    go : (st : TypeState) → n.state ≡ st → length (pack_nodes (p + node_length) ns) ≤ node_words * length ns → ((cs : List Ty) → length (pack_nodes (p + node_length + cell_length * length cs) ns) ≤ node_words * length ns) → length (pack_nodes p (n ∷ ns)) ≤ node_words * suc (length ns)
    go unknown e ih ik = rw (e, pack_nodes) (omega arith)
    go (known i k d cs) e ih ik =
        rw (e, pack_nodes)
        (omega (arith, length-append (pack_cells (p + node_length) cs) (pack_nodes (p + node_length + cell_length * length cs) ns), cells-words (p + node_length) cs, ik cs, (subst SlimState e h.0).few))

range_length : (i n : ℕ) → length (range i n) ≡ n
unfolding range
range_length i zero = refl
range_length i (suc n) = ap suc (range_length (suc i) n)

exported-length : (src : Types) (ts : List Ty) → length (export_types src ts).0 ≡ length ts
unfolding export_types import_types transfer_types
exported-length src ts = each_length (transfer_in (suc (length src)) src none) ts ([], [])

-- An answer that has the types of a neat table of at most 256 nodes, and trees of at most 256 each.
answer-words : (t u : Trees) (inv self : Bool) (n : ℕ) (ts : Types) → Neat ts → n ≤ length ts → length ts ≤ limit_nodes → tree_size t ≤ limit_tree_nodes → tree_size u ≤ limit_tree_nodes → length (answer t u inv self n ts) ≤ limit_answer
unfolding answer
answer-words t u inv self n ts neat h l ht hu =
    let row : List Ty = map (λ k. (false, k)) (range 0 n) in
    let w = export_types ts row in
    let a = range_in 0 n (length ts) (omega arith) in
    let forks = pack_trees answer_length t in
    let drops = pack_trees (answer_length + length forks) u in
    let p = answer_length + length forks + length drops in
    let nodes = pack_nodes p w.1 in
    omega (
      arith,
      length-append (forks ++ drops ++ nodes) (map word_of_type w.0),
      length-append (forks ++ drops) nodes,
      length-append forks drops,
      trees_words answer_length t,
      trees_words (answer_length + length forks) u,
      nodes_words p w.1 (types_exported ts neat row a).neat.slim,
      export_most ts neat.proper.formed row a,
      map-length word_of_type w.0,
      exported-length ts row,
      map-length {B = Ty} (λ k. (false, k)) (range 0 n),
      range_length 0 n,
    )

small_end : tree_size end ≤ limit_tree_nodes
unfolding tree_size
small_end = omega arith

-- At most 10,240 words.
abbrev Sized : Words → Type 0
Sized ws = length ws ≤ limit_answer

within_nodes : (N : ℕ) → ltb limit_nodes N ≡ false → N ≤ limit_nodes
within_nodes N e = nltb→le limit_nodes N (subst (λ b. T (not b)) (sym e) tt)

-- The impl call.
module _ (a : Finder) (basic : ℕ) (q : Words) (short : length a.sheet ≤ limit_sheet) (passed : refusal (impl_checks a basic q) ≡ none) where
  -- What its search comes to.
  abbrev ImplFound : List Result → Type 0
  ImplFound fs = AllKept (export_impl_type (question_types q) (impl_query q)).1 fs × Few fs

  impl_found : (b : Bool) → Yields ImplFound (impl_search a b q)
  unfolding impl_search
  impl_found b = yields_both _ Few (impl_search a b q) (impl_search_keeps a basic q short passed b) (question_few limit_depth a b _ _)

  impl_sized : (o : Out (List Result)) → Comes ImplFound o → Comes Sized (impl_outcome a.sheet q o)
  unfolding impl_outcome
  impl_sized (refused n) h = tt
  impl_sized (got []) h = tt
  impl_sized (got (r ∷ (r' ∷ rs))) h = tt
  impl_sized (got (r ∷ [])) h = go (ltb limit_nodes (length w.1)) refl
    where
      w : ImplType × Types
      w = import_impl_type r.0 none (export_impl_type (question_types q) (impl_query q)).0 (question_types q)

      go : (b : Bool) → ltb limit_nodes (length w.1) ≡ b → Comes Sized (impl_outcome a.sheet q (got (r ∷ [])))
      go true e = rw (e, impl_outcome) tt
      go false e =
          let c = impl_closed a basic q short passed r h.0.0 in
          rw (e, impl_outcome)
          (answer-words r.1 end false false (length (question_types q)) (unify_impl_type a.sheet w.1 (impl_query q) w.0).1 c.neat
          (omega (arith, c.len, (impl_last a basic q short passed r h.0.0).grown)) (omega (arith, c.len, within_nodes (length w.1) e)) h.1.small.0 small_end)

  impl_free_sized : (b : Bool) → Comes Sized (impl_free a b q)
  unfolding impl_free
  impl_free_sized b = impl_sized (free (impl_search a b q)) (yields_free ImplFound (impl_search a b q) (impl_found b))

  impl_within_sized : (over : ℕ → Bool) (b : Bool) (c : ℕ) → Comes Sized (impl_within over a b q c).0
  unfolding impl_within
  impl_within_sized over b c = impl_sized (within over (impl_search a b q) c).0 (yields_within ImplFound over (impl_search a b q) c (impl_found b))

-- The flex call.
module _ (a : Finder) (q : Words) (short : length a.sheet ≤ limit_sheet) (passed : refusal (flex_checks a q) ≡ none) where
  abbrev asked_type : Ty
  asked_type = type_of_word (at q question_type)

  abbrev exported : List Ty × Types
  exported = export_types (question_types q) (asked_type ∷ [])

  -- What each of its searches comes to.
  abbrev FlexFound : List Result → Type 0
  FlexFound fs = AllKept exported.1 fs × Few fs

  flex_found : Every (Yields FlexFound) (flex_searches a q)
  unfolding flex_searches
  flex_found =
      let k = flex_searches_keep a q short passed in
      (one header_fork false k.0, (one header_drop false k.1.0, (one header_fork true k.1.1.0, (one header_drop true k.1.1.1.0, tt))))
    where
      one : (h : ℕ) (inv : Bool) → let r = question limit_depth a false exported.1 (at a.sheet h, map (invert_if inv) exported.0) in Yields (AllKept exported.1) r → Yields FlexFound r
      one h inv k = yields_both (AllKept exported.1) Few (question limit_depth a false exported.1 (at a.sheet h, map (invert_if inv) exported.0)) k (question_few limit_depth a false exported.1 (at a.sheet h, map (invert_if inv) exported.0))

  first_small : (fs : List Result) → FlexFound fs → tree_size (first_tree fs) ≤ limit_tree_nodes
  unfolding first_tree
  first_small [] h = small_end
  first_small (f ∷ fs) h = h.1.small.0

  -- The tests after the search.
  tested : (many two : Bool) (N : ℕ) (v : UnifyResult) (ws : Words) → (N ≤ limit_nodes → Sized ws) →
      Comes Sized (elim many as (λ b. Out Words) [
        | true ↦ refused 21
        | false ↦ elim two [
          | true ↦ refused 25
          | false ↦ elim (ltb limit_nodes N) [
            | true ↦ refused 14
            | false ↦ elim v [ failure ↦ refused 26 | success ↦ got ws | indeterminate ↦ got ws ]
          ]
        ]
      ])
  tested true two N v ws f = tt
  tested false true N v ws f = tt
  tested false false N v ws f = go (ltb limit_nodes N) refl v
    where
      go : (b : Bool) → ltb limit_nodes N ≡ b → (v : UnifyResult) → Comes Sized (elim b as (λ b. Out Words) [ true ↦ refused 14 | false ↦ elim v [ failure ↦ refused 26 | success ↦ got ws | indeterminate ↦ got ws ] ])
      go true e v = tt
      go false e success = f (within_nodes N e)
      go false e failure = tt
      go false e indeterminate = f (within_nodes N e)

  either : (inv : Bool) (xs ys : List Result) → FlexFound xs → FlexFound ys → FlexFound (elim inv as (λ b. List Result) [ true ↦ xs | false ↦ ys ])
  either true xs ys h k = h
  either false xs ys h k = k

  flex_sized : (rs : List (List Result)) → Every FlexFound rs → Comes Sized (flex_results a.sheet q rs)
  unfolding flex_results
  flex_sized rs h = tested (any (λ fs. ltb 1 (length fs)) rs) ((is_found (r 0) || is_found (r 1)) && (is_found (r 2) || is_found (r 3)) && not self) (length v.1) m.0 words
      (λ l. answer-words (first_tree fork) (first_tree drop) inv self (length (question_types q)) _ c.neat (omega (arith, c.len, j.len, y.grown, x.grown)) (omega (arith, c.len, j.len)) (first_small fork f) (first_small drop g))
    where
      r : ℕ → List Result
      r k = get_or rs k []

      found : (k : ℕ) → FlexFound (r k)
      found k = every_at FlexFound rs k [] h (tt, few_none)

      inv : Bool
      inv = not (is_found (r 0) || is_found (r 1)) && (is_found (r 2) || is_found (r 3))

      fork : List Result
      fork = elim inv as (λ b. List Result) [ true ↦ r 2 | false ↦ r 0 ]

      drop : List Result
      drop = elim inv as (λ b. List Result) [ true ↦ r 3 | false ↦ r 1 ]

      f : FlexFound fork
      f = either inv (r 2) (r 0) (found 2) (found 0)

      g : FlexFound drop
      g = either inv (r 3) (r 1) (found 3) (found 1)

      w : List Ty × Types
      w = import_result fork exported.0 (question_types q)

      v : List Ty × Types
      v = import_result drop exported.0 w.1

      m : Unified
      m = unify_first a.sheet v.1 w.0 v.0

      self : Bool
      self = self_inverse a.sheet (question_types q) asked_type

      words : Words
      words = answer (first_tree fork) (first_tree drop) inv self (length (question_types q)) (unify_first a.sheet m.1 (asked_type ∷ []) (w.0 ++ v.0)).1

      x : Brought (question_types q) w.0 w.1
      x = fork_brought a q short passed fork drop f.0 g.0

      y : Brought w.1 v.0 v.1
      y = drop-brought a q short passed fork drop f.0 g.0

      j : Joined v.1 m.1
      j = flex_joined a q short passed fork drop f.0 g.0

      c : Joined m.1 (unify_first a.sheet m.1 (asked_type ∷ []) (w.0 ++ v.0)).1
      c = flex_closed a q short passed fork drop f.0 g.0

  outcome_sized : (over : Bool) (o : Out (List (List Result))) → Comes (Every FlexFound) o → Comes Sized (flex_outcome a.sheet q over o)
  unfolding flex_outcome
  outcome_sized over (refused n) h = tt
  outcome_sized true (got rs) h = tt
  outcome_sized false (got rs) h = flex_sized rs h

  flex_free_sized : Comes Sized (flex_free a q)
  unfolding flex_free
  flex_free_sized = go (unset a.sheet) refl
    where
      go : (o : Option ℕ) → unset a.sheet ≡ o → Comes Sized (flex_free a q)
      go (some n) e = rw (e, flex_free) tt
      go none e = rw (e, flex_free) (outcome_sized false (in_turn plainly (flex_searches a q) tt).0 (in_turn_comes FlexFound (tt, few_none) plainly (λ r c h. yields_free FlexFound r h) (flex_searches a q) flex_found tt))

  flex_within_sized : (over : ℕ → Bool) (c : ℕ) → Comes Sized (flex_within over a q c).0
  unfolding flex_within
  flex_within_sized over c = go (unset a.sheet) refl
    where
      go : (o : Option ℕ) → unset a.sheet ≡ o → Comes Sized (flex_within over a q c).0
      go (some n) e = rw (e, flex_within) tt
      go none e = rw (e, flex_within) (outcome_sized _ (in_turn (within over) (flex_searches a q) c).0 (in_turn_comes FlexFound (tt, few_none) (within over) (λ r d h. yields_within FlexFound over r d h) (flex_searches a q) flex_found c))

-- An answer of the search without a step limit, of a sheet that passes 1, has at most 10,240 words: of impl,
pub free_impl_answer : (a : Finder) (basic : ℕ) (q ws : Words) → length a.sheet ≤ limit_sheet → free_find_impl a basic q ≡ got ws → length ws ≤ limit_answer
unfolding free_find_impl
free_impl_answer a basic q ws short = came Sized (free_find_impl a basic q) ws (go (refusal (impl_checks a basic q)) refl)
  where
    go : (o : Option ℕ) → refusal (impl_checks a basic q) ≡ o → Comes Sized (free_find_impl a basic q)
    go (some n) e = rw (e, free_find_impl) tt
    go none e = rw (e, free_find_impl) (impl_free_sized a basic q short e (eqb basic 1))

-- and of flex.
pub free_flex_answer : (a : Finder) (q ws : Words) → length a.sheet ≤ limit_sheet → free_find_flex a q ≡ got ws → length ws ≤ limit_answer
unfolding free_find_flex
free_flex_answer a q ws short = came Sized (free_find_flex a q) ws (go (refusal (flex_checks a q)) refl)
  where
    go : (o : Option ℕ) → refusal (flex_checks a q) ≡ o → Comes Sized (free_find_flex a q)
    go (some n) e = rw (e, free_find_flex) tt
    go none e = rw (e, free_find_flex) (flex_free_sized a q short e)

-- Checks in a row refuse if and only if some of them do.
refusal-rest : (xs ys : Checks) → refusal (xs ++ ys) ≡ none → (refusal xs ≡ none) × (refusal ys ≡ none)
unfolding refusal
refusal-rest [] ys e = (refl, e)
refusal-rest (x ∷ xs) ys e = go x.1 refl e (refusal-rest xs ys)
  where
    go : (b : Bool) → x.1 ≡ b → refusal ((x ∷ xs) ++ ys) ≡ none → (refusal (xs ++ ys) ≡ none → (refusal xs ≡ none) × (refusal ys ≡ none)) → (refusal (x ∷ xs) ≡ none) × (refusal ys ≡ none)
    go true q f ih = absurd (some-ne-none x.0 (rw (q, refusal) at f))
    go false q f ih = rw (q, refusal) (ih (rw (q, refusal) at f))

buffer_holds : (s q : Words) (answer work c : ℕ) → refusal (entry s q answer work c) ≡ none → limit_answer ≤ answer
unfolding entry of_length
buffer_holds s q answer work c e = nltb→le answer limit_answer (unrefused (entry s q answer work c) e 2)

pub sheet_short : (s q : Words) (answer work c : ℕ) → refusal (entry s q answer work c) ≡ none → length s ≤ limit_sheet
unfolding entry of_length
sheet_short s q answer work c e = nltb→le limit_sheet (length s) (nor (ltb (length s) header_length) (ltb limit_sheet (length s)) (unrefused (entry s q answer work c) e 0))
  where
    nor : (a b : Bool) → T (not (a || b)) → T (not b)
    nor true b t = absurd t
    nor false b t = t

fitting : (answer : ℕ) → limit_answer ≤ answer → (o : Out Words) → Comes Sized o → Comes (λ (ws : Words). (length ws ≤ limit_answer) × (length ws ≤ answer)) o
fitting answer h (got ws) k = (k, le_trans k h)
fitting answer h (refused n) k = tt

-- The whole calls, under any step limit: an answer has at most 10,240 words, and fits into every answer buffer that entry check 3 lets pass. Of impl,
pub impl_answer : (L : ℕ) (a : Finder) (basic : ℕ) (q : Words) (answer work c : ℕ) (ws : Words) → (try_find_impl L a basic q answer work c).0 ≡ got ws → (length ws ≤ limit_answer) × (length ws ≤ answer)
unfolding try_find_impl
impl_answer L a basic q answer work c ws = came (λ (ws : Words). (length ws ≤ limit_answer) × (length ws ≤ answer)) (try_find_impl L a basic q answer work c).0 ws (go (refusal (entry a.sheet q answer work c ++ impl_checks a basic q)) refl)
  where
    go : (o : Option ℕ) → refusal (entry a.sheet q answer work c ++ impl_checks a basic q) ≡ o → Comes (λ (ws : Words). (length ws ≤ limit_answer) × (length ws ≤ answer)) (try_find_impl L a basic q answer work c).0
    go (some n) e = rw (e, try_find_impl) tt
    go none e =
        let p = refusal-rest (entry a.sheet q answer work c) (impl_checks a basic q) e in
        rw (e, try_find_impl) (fitting answer (buffer_holds a.sheet q answer work c p.0) (impl_within (ltb L) a (eqb basic 1) q c).0 (impl_within_sized a basic q (sheet_short a.sheet q answer work c p.0) p.1 (ltb L) (eqb basic 1) c))

-- and of flex.
pub flex_answer : (L : ℕ) (a : Finder) (q : Words) (answer work c : ℕ) (ws : Words) → (find_flex L a q answer work c).0 ≡ got ws → (length ws ≤ limit_answer) × (length ws ≤ answer)
unfolding find_flex
flex_answer L a q answer work c ws = came (λ (ws : Words). (length ws ≤ limit_answer) × (length ws ≤ answer)) (find_flex L a q answer work c).0 ws (go (refusal (entry a.sheet q answer work c ++ flex_checks a q)) refl)
  where
    go : (o : Option ℕ) → refusal (entry a.sheet q answer work c ++ flex_checks a q) ≡ o → Comes (λ (ws : Words). (length ws ≤ limit_answer) × (length ws ≤ answer)) (find_flex L a q answer work c).0
    go (some n) e = rw (e, find_flex) tt
    go none e =
        let p = refusal-rest (entry a.sheet q answer work c) (flex_checks a q) e in
        rw (e, find_flex) (fitting answer (buffer_holds a.sheet q answer work c p.0) (flex_within (ltb L) a q c).0 (flex_within_sized a q (sheet_short a.sheet q answer work c p.0) p.1 (ltb L) c))
