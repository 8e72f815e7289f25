-- What the walk over one table comes to: a number of nodes that an import does not pass.
use Rattle.std.specs.Prelude.{ℕ, zero, suc, ◌+◌, ◌*◌, ◌/◌, ◌≤◌, ◌<◌, ◌≡◌, Bool, ◌≢◌, ◌⊎◌, length, get_or, take}
use Rattle.std.proofs.Math.Path.{refl}
use Rattle.std.proofs.Common.{sym, ◌∙◌, ap, subst, inl, inr, le_of_suc-le-suc, not-suc-le-zero, arith, length-take-le}
use Rattle.std.proofs.Math.Bool.{true, false}
use mathlib.Core.List.{List, [], ◌∷◌, map}
use Rattle.std.proofs.Math.Option.{Option, some}
use Rattle.std.proofs.Math.Dec.{eqb}
use Rattle.rules.specs.Lists.{Words}
use Rattle.rules.specs.Layout.{node_kind, node_inverted, node_id, kind_unknown}
use Rattle.rules.specs.Sheet.{at, chain, chain_of}
use Rattle.rules.specs.Types.{Ty, TypeState, known, Types, invert_if, state_at}
use Rattle.rules.specs.Transfer.{param_for, import_types, type_of_word, cell_types, node_state, table}
use Rattle.rules.specs.Solutions.{AllIn, ChildrenIn, WellFormed, eqb_true, eqb_false}
use Rattle.rules.specs.Acyclic.{children}
use Rattle.rules.specs.Members.{In, first, later}
use Rattle.rules.specs.TransferCount.{import_most}
use Rattle.rules.specs.CheckedTables.{table_length_lem, table_state, table-flat}
use Rattle.chart.specs.Index.{Indexed}
use Rattle.transfer.specs.Callers.{places-chain}
use Rattle.reach.specs.Within.{marked, marked-none, Covered, AllCovered, import_within}
use Rattle.reach.specs.Walk.{Reached, CellsReached, Walking, Went, Waits, EntersCells, Ends}

-- Parameters, where they are said to be given.
abbrev pub Gives : Bool → Option (List Ty) → Type 0
Gives w ps = w ≡ true → (xs : List Ty) × (ps ≡ some xs)

-- An import of the arguments from a head into any table makes at most n nodes.
pub record Makes (s : Words) (head args : ℕ) (w : Bool) (n : ℕ) : Type 0 where
  pub most : (ps : Option (List Ty)) → Gives w ps → (dst : Types) → length (import_types (table s head) ps (cell_types s args) dst).1 ≤ length dst + n

-- The same of a table that passed its checks.
abbrev pub Bounds : Words → ℕ → ℕ → Bool → ℕ → Type 0
Bounds s head args w n = WellFormed (table s head) → AllIn (length (table s head)) (cell_types s args) → Makes s head args w n

-- The number r is told of the table whose records are at the places ws.
pub record Tells (s : Words) (w : Bool) (ws : Words) (args r : ℕ) : Type 0 where
  pub few : (head : ℕ) → ws ≡ chain s head → r ≤ 256 + length ws
  pub bounds : (head : ℕ) → ws ≡ chain s head → Bounds s head args w r

-- All its nodes.
pub tells_all : (s : Words) (w : Bool) (ws : Words) (args n : ℕ) → n ≡ length ws → Tells s w ws args n
tells_all s w ws args n e = record {
  few = λ head q. omega arith;
  bounds = λ head q formed a. record { most = λ ps g dst. omega (arith, import_most (table s head) formed ps (cell_types s args) dst a, table_length_lem s head, ap length q) };
}

-- No place of a record is 0.
of_places : (k : ℕ) (s : Words) (i j : ℕ) → j < length (chain_of k s i) → at (chain_of k s i) j ≢ 0
unfolding chain_of
of_places zero s i j h = absurd (not-suc-le-zero h)
of_places (suc k) s zero j h = absurd (not-suc-le-zero h)
of_places (suc k) s (suc i) zero h = λ e. absurd (omega arith)
of_places (suc k) s (suc i) (suc j) h = of_places k s (at s (suc i)) j (le_of_suc-le-suc h)

places_are : (s : Words) (head j : ℕ) → j < length (chain s head) → at (chain s head) j ≢ 0
unfolding chain
places_are s head = of_places (length s) s head

-- At the start nothing is marked.
walk_start : (s : Words) (head : ℕ) (w : Bool) (qs : Words) → length qs ≡ 256 → Walking s (chain s head) w (chain s head) qs 0 0
walk_start s head w qs e = record {
  long = refl;
  room = e;
  few = omega arith;
  passed = omega arith;
  count = marked-none (chain s head) (length (chain s head)) (places_are s head);
  place = λ j. inr refl;
  closed = λ j l z. absurd (places_are s head j l z);
}

-- A Param stands for its parameter.
known_is : (s : Words) (p : ℕ) → at s (p + 1) ≢ 0 → node_state s p ≡ known (eqb (at s (p + node_inverted)) 1) (at s (p + 1)) (at s (p + node_id)) (cell_types s (at s (p + 4)))
unfolding node_state
known_is s p z = rw (eqb_false (at s (p + 1)) 0 z, node_state)

param_is : (xs : List Ty) (i : Bool) (k d : ℕ) (cs : List Ty) → k ≡ 1 → param_for (some xs) (known i k d cs) ≡ some (invert_if i (get_or xs d (false, 0)))
unfolding param_for
param_is xs i k d cs e = rw (eqb_true k 1 e, param_for)

given_is : (s : Words) (xs : List Ty) (p : ℕ) → at s (p + 1) ≡ 1 → (u : Ty) × (param_for (some xs) (node_state s p) ≡ some u)
given_is s xs p e = (invert_if (eqb (at s (p + node_inverted)) 1) (get_or xs (at s (p + node_id)) (false, 0)), ap (param_for (some xs)) (known_is s p (λ z. absurd (omega arith))) ∙ param_is xs _ (at s (p + 1)) (at s (p + node_id)) (cell_types s (at s (p + 4))) e)

module _ (s : Words) (head : ℕ) (w : Bool) (ws : Words) (ps : Option (List Ty)) (g : Gives w ps) where
  covered : (m : ℕ) → m < length (table s head) → Reached s (chain s head) w ws m → Covered (table s head) ps ws m
  covered m h (inl e) = inl e
  covered m h (inr e) =
      let xs = g e.0 in
      let u = given_is s xs.0 (at (chain s head) m) e.1 in
      inr (u.0, (λ t. param_for (xs.1 t) (table_state s head m h t)) ∙ u.1)

  all_covered : (l : Words) → ((c : ℕ) → In c l → Reached s (chain s head) w ws (at s (c + 1) / 2)) → AllIn (length (table s head)) (map (λ c. type_of_word (at s (c + 1))) l) → AllCovered (table s head) ps ws (map (λ c. type_of_word (at s (c + 1))) l)
  unfolding type_of_word
  all_covered [] r a = tt
  all_covered (c ∷ l) r a = (covered (at s (c + 1) / 2) a.0 (r c first), all_covered l (λ x i. r x (later i)) a.1)

  cells_covered : (h : ℕ) → CellsReached s (chain s head) w ws h → AllIn (length (table s head)) (cell_types s h) → AllCovered (table s head) ps ws (cell_types s h)
  unfolding cell_types
  cells_covered h r a = all_covered (chain s h) r a

  node_covered : (p : ℕ) → CellsReached s (chain s head) w ws (at s (p + 4)) → ChildrenIn (length (table s head)) (node_state s p) → AllCovered (table s head) ps ws (children (node_state s p))
  unfolding node_state children
  node_covered p r a = go (eqb (at s (p + node_kind)) kind_unknown) refl
    where
      go : (b : Bool) → eqb (at s (p + node_kind)) kind_unknown ≡ b → AllCovered (table s head) ps ws (children (node_state s p))
      go true e = rw (e, node_state) tt
      go false e = rw (e, node_state) (cells_covered (at s (p + 4)) r (rw (e, node_state) at a))

  -- Where the queue is worked off, the marks are closed.
  children_covered : (qs : Words) (r : ℕ) → Walking s (chain s head) w ws qs r r → WellFormed (table s head) → (n : ℕ) → n < length (table s head) → at ws n ≡ 0 → AllCovered (table s head) ps ws (children (state_at (table s head) n))
  children_covered qs r k formed n h z =
      let a = subst (λ x. ChildrenIn (length (table s head)) (state_at (table s head) x)) (table-flat s head n h) (formed n h).2 in
      subst (λ (st : TypeState). AllCovered (table s head) ps ws (children st)) (sym (table_state s head n h))
      (node_covered (at (chain s head) n) (cells (k.closed n (omega (arith, table_length_lem s head)) z)) (subst (ChildrenIn (length (table s head))) (table_state s head n h) a))
    where
      cells : Waits qs r r (at (chain s head) n) ⊎ CellsReached s (chain s head) w ws (at s (at (chain s head) n + 4)) → CellsReached s (chain s head) w ws (at s (at (chain s head) n + 4))
      cells (inl o) = absurd (omega (arith, o.from, o.low))
      cells (inr o) = o

-- The nodes that are marked.
module _ (s : Words) (w : Bool) (ws qs us rs vs ts : Words) (e r args : ℕ) (long : length qs ≡ 256) (c : EntersCells s w ws qs 0 args us rs e) (d : Ends s w us rs e vs ts r) where
  module _ (head : ℕ) (q : ws ≡ chain s head) where
    entered : Went s (chain s head) w ws qs us rs 0 0 e × CellsReached s (chain s head) w us args
    entered = c.goes (chain s head) 0 (subst (λ (x : Words). Walking s (chain s head) w x qs 0 0) (sym q) (walk_start s head w qs long))

    ended : Went s (chain s head) w us rs vs ts r e r
    ended = d.goes (chain s head) entered.0.walking

    args_reached : CellsReached s (chain s head) w vs args
    args_reached x i = still x (entered.1 x i)
      where
        still : (x : ℕ) → Reached s (chain s head) w us (at s (x + 1) / 2) → Reached s (chain s head) w vs (at s (x + 1) / 2)
        still x (inl o) = inl (ended.kept (at s (x + 1) / 2) o)
        still x (inr o) = inr o

    makes : Bounds s head args w r
    makes formed a = record {
      most = λ ps g dst. omega (
        arith,
        import_within (table s head) formed (table-flat s head) ps vs (children_covered s head w vs ps g ts r ended.walking formed) (cell_types s args) dst a (cells_covered s head w vs ps g args args_reached a),
        ended.walking.count,
        ap (marked vs) (table_length_lem s head),
      );
    }

  pub tells_walked : Tells s w ws args r
  tells_walked = record { few = λ head q. omega (arith, (ended head q).walking.few); bounds = makes }

-- The number r is told of the table from a head.
pub record Counts (s : Words) (head args : ℕ) (w : Bool) (r : ℕ) : Type 0 where
  pub few : r ≤ 1080
  pub bounds : Bounds s head args w r

-- The places of the records of a table whose records fit into the sheet.
module _ (s : Words) (head : ℕ) (few : 5 * length (chain s head) ≤ length s) (ws : Words) (l : length s ≤ 5 * length ws) where
  pub places_room : 0 + length (chain s head) ≤ length ws
  places_room = omega (arith, few)

  module _ (us : Words) (n : ℕ) (x : Indexed s head ws us 0 n) (long : length us ≡ length ws) where
    pub places_few : n ≤ length us
    places_few = omega (arith, x.count, few)

    pub places-length : n ≡ length (take n us)
    places-length = sym (length-take-le n us places_few)

    listed : take n us ≡ chain s head
    listed = places-chain s head us 0 n x.count x.place (omega (arith, places_few))

    pub counts_told : length s ≤ 4096 → (w : Bool) (args r : ℕ) → Tells s w (take n us) args r → Counts s head args w r
    counts_told short w args r t = record { few = omega (arith, t.few head listed, places-length, x.count, few); bounds = t.bounds head listed }
