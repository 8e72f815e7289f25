-- Labels of refs are labels of the question's table and of the signature's: a reading by terms that a candidate and the question have in common is one in which what is loose is not its own inverse.
use Rattle.std.specs.Prelude.{ℕ, suc, ◌+◌, ◌-◌, ◌/◌, ◌%◌, ◌≤◌, ◌<◌, ◌≡◌, Bool, false, ◌≢◌, length, get_or}
use Rattle.std.proofs.Math.Path.{refl, sym, ap, ap₂, subst}
use Rattle.std.proofs.Common.{◌∙◌, arith}
use mathlib.Core.List.{List, [], ◌∷◌, map}
use Rattle.std.proofs.Math.Decide.{ℕ_discrete}
use Rattle.rules.specs.Lists.{Words}
use Rattle.rules.specs.Layout.{kind_param}
use Rattle.rules.specs.Sheet.{at, chain}
use Rattle.rules.specs.Types.{Ty, TypeState, unknown, known, state_at, invert_if, find}
use Rattle.rules.specs.Acyclic.{children}
use Rattle.rules.specs.AcyclicLaws.{children_at}
use Rattle.rules.specs.Transfer.{type_of_word, cell_types, node_state, table}
use Rattle.rules.specs.Answer.{word_of_type}
use Rattle.rules.specs.Solutions.{rep, AllIn, ChildrenIn, WellFormed, known≢}
use Rattle.rules.specs.CheckedTables.{table_length_lem, table_state, table-flat}
use Rattle.rules.specs.SignedTerms.{inverse}
use Rattle.rules.specs.Labels.{labels}
use Rattle.rules.specs.Loose.{Alike, Loose, SignedLoose}
use Rattle.table.specs.Packing.{types_of, kind_in, id_in, kind_at}
use Rattle.table.specs.Nodes.{types_few, word_type}
use Rattle.table.specs.Reads.{unknown_here}
use Rattle.table.specs.ChildTypes.{type_in, type_there}
use Rattle.queries.specs.declared.Query.{Query}
use Rattle.queries.specs.Queries.{query_of}
use Rattle.refs.specs.Refs.{place, place_at}
use Rattle.loose.specs.Loose.{labelled, kids, kids_low, kids_high, Labelling, LooseMeaning}
use Rattle.clash.specs.Readings.{names, node_term, reading-node, reading_record, unknown_state, known_state, query_length, query_type, query_in, word_node, record_word, common_meaning}

-- Labels that are alike one by one.
labels_each : (g f : ℕ → ℕ) (xs ys : List Ty) → length xs ≡ length ys → ((k : ℕ) → k < length xs → g (get_or xs k (false, 0)).1 ≡ f (get_or ys k (false, 0)).1) → labels g xs ≡ labels f ys
unfolding labels
labels_each g f [] [] n e = refl
labels_each g f [] (y ∷ ys) n e = absurd (omega arith)
labels_each g f (x ∷ xs) [] n e = absurd (omega arith)
labels_each g f (x ∷ xs) (y ∷ ys) n e = ap₂ ◌∷◌ (e 0 (omega arith)) (labels_each g f xs ys (omega arith) (λ k h. e (suc k) (omega arith)))

-- The words of a known node's record.
record Recorded (s : Words) (p : ℕ) (k d : ℕ) (cs : List Ty) : Type 0 where
  kind : at s (p + 1) ≡ k
  some-kind : at s (p + 1) ≢ 0
  id : at s (p + 3) ≡ d
  cells : cell_types s (at s (p + 4)) ≡ cs

recorded : (s : Words) (p : ℕ) (i : Bool) (k d : ℕ) (cs : List Ty) → node_state s p ≡ known i k d cs → Recorded s p k d cs
unfolding kind_in id_in children
recorded s p i k d cs e = go (ℕ_discrete (at s (p + 1)) 0)
  where
    go : Dec (at s (p + 1) ≡ 0) → Recorded s p k d cs
    go (yes z) = absurd (known≢ (sym e ∙ unknown_state s p z))
    go (no z) =
        let q = sym (known_state s p z) ∙ e in
        record { kind = ap kind_in q; some-kind = z; id = ap id_in q; cells = ap children q }

module _ (s ws : Words) (h : ℕ) (short : length (chain s h) ≤ 1024) (formed : WellFormed (table s h)) (whole : WellFormed (types_of ws)) (p q : Query) (en : p.n ≡ q.n) (few : q.n ≤ 4) (ax : AllIn (length (table s h)) (query_of p).1) (ay : AllIn (length (types_of ws)) (query_of q).1) where
  size : length (table s h) ≡ length (chain s h)
  size = table_length_lem s h

  module _ (ls : Words) (l : ℕ) (k : Labelling s (chain s h) ws ls p q l) where
    -- The labels of the nodes of both tables, and of parameters.
    abbrev f : ℕ → ℕ
    f n = at ls (rep (types_of ws) n)

    abbrev g : ℕ → ℕ
    g n = at ls (1024 + n)

    abbrev π : ℕ → ℕ
    π d = at ls (256 + d)

    node-label : (t : Ty) → t.1 < length (types_of ws) → at ls (word_of_type (find (types_of ws) t) / 2 % 2048) ≡ f t.1
    unfolding find invert_if rep
    node-label t b =
        let r : rep (types_of ws) t.1 < 256 = omega (arith, (whole t.1 b).0, types_few ws) in
        ap (λ n. at ls (n % 2048)) (word_node (find (types_of ws) t)) ∙ ap (at ls) (let z : rep (types_of ws) t.1 % 2048 ≡ rep (types_of ws) t.1 = omega (arith, r) in z)

    node-labels : (cs : List Ty) → AllIn (length (types_of ws)) cs → labelled ls (map (λ (t : Ty). word_of_type (type_in ws t)) cs) ≡ labels f cs
    unfolding labelled labels
    node-labels [] a = refl
    node-labels (t ∷ cs) a = ap₂ ◌∷◌ (ap (λ (u : Ty). at ls (word_of_type u / 2 % 2048)) (type_there ws t a.0) ∙ node-label t a.0) (node-labels cs a.1)

    record_label : (t : Ty) → t.1 < length (table s h) → at ls ((2048 + word_of_type t % 2048) / 2 % 2048) ≡ g t.1
    record_label t b =
        ap (λ n. at ls (n / 2 % 2048)) (record_word t (omega (arith, size)))
        ∙ ap (λ n. at ls (n % 2048)) (word_node (t.0, 1024 + t.1))
        ∙ ap (at ls) (let z : (1024 + t.1) % 2048 ≡ 1024 + t.1 = omega (arith, size) in z)

    record_labels : (cs : List Ty) → AllIn (length (table s h)) cs → labelled ls (map (λ (t : Ty). 2048 + word_of_type t % 2048) cs) ≡ labels g cs
    unfolding labelled labels
    record_labels [] a = refl
    record_labels (t ∷ cs) a = ap₂ ◌∷◌ (record_label t a.0) (record_labels cs a.1)

    -- A known root of the question's table: its children have the labels that those of its label have, and its label is not l.
    known_kind : (n : ℕ) (i : Bool) (kd d : ℕ) (cs : List Ty) → state_at (types_of ws) n ≡ known i kd d cs → kind_at (types_of ws) n ≢ 0
    known_kind n i kd d cs e z = known≢ (sym e ∙ unknown_here ws n (kind_at (types_of ws) n) refl z)

    module _ (n : ℕ) (b : n < length (types_of ws)) (r : rep (types_of ws) n ≡ n) (i : Bool) (kd d : ℕ) (cs : List Ty) (e : state_at (types_of ws) n ≡ known i kd d cs) where
      node-kids : labels f cs ≡ labelled ls (kids s (chain s h) ws (f n - 1))
      unfolding children_at children
      node-kids =
          sym (node-labels cs (subst (ChildrenIn (length (types_of ws))) (ap (state_at (types_of ws)) r ∙ e) (whole n b).2))
          ∙ ap (λ (st : TypeState). labelled ls (map (λ (t : Ty). word_of_type (type_in ws t)) (children st))) (sym e)
          ∙ ap (labelled ls) (sym (kids_low s (chain s h) ws n (omega (arith, types_few ws))))
          ∙ (k.nodes.each n b (known_kind n i kd d cs e) r).same
          ∙ ap (λ v. labelled ls (kids s (chain s h) ws (at ls v - 1))) (sym r)

      node_other : f n ≢ l
      node_other y = (k.nodes.each n b (known_kind n i kd d cs e) r).other (ap (at ls) (sym r) ∙ y)

    -- A known node of the signature's that is no Param.
    module _ (n : ℕ) (b : n < length (table s h)) (i : Bool) (kd d : ℕ) (cs : List Ty) (e : state_at (table s h) n ≡ known i kd d cs) where
      its_record : Recorded s (at (chain s h) n) kd d cs
      its_record = recorded s (at (chain s h) n) i kd d cs (sym (table_state s h n b) ∙ e)

      in_chain : n < length (chain s h)
      in_chain = omega (arith, size)

      its_place : place (chain s h) (1024 + n) ≡ at (chain s h) n
      its_place = place_at (chain s h) (1024 + n) (omega arith) ∙ ap (at (chain s h)) (let z : 1024 + n - 1024 ≡ n = omega arith in z)

      record_kids : kd ≢ kind_param → labels g cs ≡ labelled ls (kids s (chain s h) ws (g n - 1))
      record_kids np =
          sym (record_labels cs (subst (ChildrenIn (length (table s h))) (ap (state_at (table s h)) (table-flat s h n b) ∙ e) (formed n b).2))
          ∙ ap (λ (xs : List Ty). labelled ls (map (λ (t : Ty). 2048 + word_of_type t % 2048) xs)) (sym its_record.cells)
          ∙ ap (λ v. labelled ls (map (λ (t : Ty). 2048 + word_of_type t % 2048) (cell_types s (at s (v + 4))))) (sym its_place)
          ∙ ap (labelled ls) (sym (kids_high s (chain s h) ws (1024 + n) (omega arith)))
          ∙ ((k.records.each n in_chain).plain its_record.some-kind (λ z. np (sym its_record.kind ∙ z))).same

      record_other : kd ≢ kind_param → g n ≢ l
      record_other np = ((k.records.each n in_chain).plain its_record.some-kind (λ z. np (sym its_record.kind ∙ z))).other

      record_param : kd ≡ kind_param → g n ≡ π d
      record_param z = (k.records.each n in_chain).param (its_record.kind ∙ z) ∙ ap π its_record.id

    args_alike : labels g (query_of p).1 ≡ labels f (query_of q).1
    args_alike = labels_each g f (query_of p).1 (query_of q).1 (query_length p (omega arith) ∙ en ∙ sym (query_length q few)) one
      where
        one : (j : ℕ) → j < length (query_of p).1 → g (get_or (query_of p).1 j (false, 0)).1 ≡ f (get_or (query_of q).1 j (false, 0)).1
        one j b =
            let i : j < q.n = omega (arith, query_length p (omega arith)) in
            let x = type_of_word (at p.args j) in
            let y = type_of_word (at q.args j) in
            ap (λ (t : Ty). g t.1) (query_type p (omega arith) j (omega arith))
            ∙ sym (record_label x (query_in p (omega arith) (length (table s h)) j ax (omega arith)))
            ∙ ap (λ v. at ls ((2048 + v % 2048) / 2 % 2048)) (word_type (at p.args j))
            ∙ k.args.each j i
            ∙ node-label y (query_in q few (length (types_of ws)) j ay i)
            ∙ ap (λ (t : Ty). f t.1) (sym (query_type q few j i))

    alike : Alike (types_of ws) (table s h) (query_of p).1 (query_of q).1 f g π
    alike = record {
      nodes = record {
        up = λ n b. ap (at ls) (sym (whole n b).1);
        closed = λ a b ha hb ra rb e i j kd d kd' d' cs ds ea eb. node-kids a ha ra i kd d cs ea ∙ ap (λ v. labelled ls (kids s (chain s h) ws (v - 1))) e ∙ sym (node-kids b hb rb j kd' d' ds eb);
      };
      param = λ r i d cs b e. record_param r b i kind_param d cs e refl;
      source = λ a b ha hb e i j kd d kd' d' cs ds na nb ea eb. record_kids a ha i kd d cs ea na ∙ ap (λ v. labelled ls (kids s (chain s h) ws (v - 1))) e ∙ sym (record_kids b hb j kd' d' ds eb nb);
      both = λ a b ha hb rb e i j kd d kd' d' cs ds na ea eb. record_kids a ha i kd d cs ea na ∙ ap (λ v. labelled ls (kids s (chain s h) ws (v - 1))) e ∙ sym (node-kids b hb rb j kd' d' ds eb);
      args = args_alike;
    }

    loose : Loose (types_of ws) (table s h) f g l
    loose = record {
      table = record { at = λ n b r e. at_node n b r e (state_at (types_of ws) n) refl };
      source = λ r b e i kd d cs q. at_record r b e i kd d cs q (ℕ_discrete kd kind_param);
    }
      where
        at_node : (n : ℕ) → n < length (types_of ws) → rep (types_of ws) n ≡ n → f n ≡ l → (st : TypeState) → state_at (types_of ws) n ≡ st → state_at (types_of ws) n ≡ unknown
        at_node n b r e unknown z = z
        at_node n b r e (known i kd d cs) z = absurd (node_other n b r i kd d cs z e)

        at_record : (r : ℕ) → r < length (table s h) → g r ≡ l → (i : Bool) (kd d : ℕ) (cs : List Ty) → state_at (table s h) r ≡ known i kd d cs → Dec (kd ≡ kind_param) → kd ≡ kind_param
        at_record r b e i kd d cs z (yes y) = y
        at_record r b e i kd d cs z (no y) = absurd (record_other r b i kd d cs z y e)

  pub loose_meaning : (n : ℕ) (c : SignedLoose s (types_of ws) (table s h) n (query_of p).1 (query_of q).1) → LooseMeaning s (chain s h) ws p q (common_meaning s ws (query_of p).1 (query_of q).1 (table s h) c.common)
  unfolding common_meaning node_term
  loose_meaning n c = record {
    node = λ ls r k b z own.
        let o = c.common in
        let term = reading-node s ws (names ws o.name o.called) o.σ o.π o.τ r (omega (arith, types_few ws)) ∙ ap (node_term s (names ws o.name o.called) o.σ r) (unknown_here ws r (kind_at (types_of ws) r) refl z) in
        subst (λ t. inverse s t ≢ t) (sym term)
        (c.node (f ls (at ls r) k) (g ls (at ls r) k) (π ls (at ls r) k) (alike ls (at ls r) k) r b (subst (Loose (types_of ws) (table s h) (f ls (at ls r) k) (g ls (at ls r) k)) (ap (at ls) (sym own)) (loose ls (at ls r) k)));
    own = λ ls r k b.
        let o = c.common in
        subst (λ t. inverse s t ≢ t) (sym (reading_record s ws (names ws o.name o.called) o.σ o.π o.τ r))
        (c.source (f ls (at ls (1024 + r)) k) (g ls (at ls (1024 + r)) k) (π ls (at ls (1024 + r)) k) (alike ls (at ls (1024 + r)) k) r (omega (arith, size)) (loose ls (at ls (1024 + r)) k));
  }
