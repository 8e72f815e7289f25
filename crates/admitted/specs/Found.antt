-- `find_impl_candidates`: the sets that candidates come from are those of the rules, and the ids that are found one after the other are the rules' list.
use Prim.Native.Nat.{ℕ, zero, suc, ◌+◌, ◌*◌, ◌-◌, ◌≤◌, ◌<◌}
use Rattle.std.specs.Prelude.{◌≡◌, Bool, true, false, ◌≢◌, ◌↔◌, T, eqb, ltb, leb, length, min, Option, Some, None, Result, Ok, Err, IfOk}
use Rattle.std.proofs.Math.Path.{refl, sym, ap, ap₂}
use Rattle.std.proofs.Common.{take_all, ◌∙◌, subst, ltb→lt, lt→ltb, le→leb, eq-eqb, ne_eqb}
use Rattle.std.proofs.Math.Option.{some}
use mathlib.Core.List.{List, [], ◌∷◌, ◌++◌, map}
use native.Mathlib.Omega.{arith}
use Rattle.std.proofs.Math.ListN.{take}
use Rattle.std.proofs.Math.Seq.{length-take-le, take-length}
use Rattle.rules.specs.Lists.{Words, select, optional}
use Rattle.rules.specs.Layout.{header_definitions, header_impls}
use Rattle.rules.specs.Sheet.{many, trait_def, inherent_params}
use Rattle.rules.specs.Types.{Ty, Types, ImplType}
use Rattle.rules.specs.Transfer.{type_of_word}
use Rattle.rules.specs.CheckLaws.{Checked}
use Rattle.rules.proofs.CheckLaws.{passed}
use Rattle.rules.specs.CheckedSheet.{valid}
use Rattle.rules.specs.Members.{In, in_empty, select_in, rising_unique}
use Rattle.rules.specs.Candidates.{within_def, within_ancestors, node_count, get_candidates}
use Rattle.rules.proofs.AdmissionLaws.{candidates, candidates_rise}
use Rattle.rules.specs.Run.{Run, done, stop, asks, ◌>>=◌}
use Rattle.rules.specs.Search.{Finder, inherent_mods, find_impl_candidates}
use Rattle.candidates.specs.Index.{Indexes}
use Rattle.candidates.specs.Build.{Candidates}
use Rattle.candidates.specs.Find.{Standing, CandidateFrom, from_on}
use Rattle.refusals.specs.declared.Refusal.{Refusal}
use Rattle.refusals.specs.Numbers.{number_of}
use Rattle.admitted.specs.declared.Nodes.{Nodes}
use Rattle.admitted.specs.declared.Found.{Found}
use Rattle.admitted.specs.Modules.{listed, Puts, Gathers, behind, kept, nodes_run, bind_assoc, bind_same, kept_append, kept-one, list_of, IsDone, IsStop}

-- The sets of a source stand in the workspace.
pub record Stands (s : Words) (src : ℕ) (ws : Words) : Type 0 where
  pub checked : Checked s
  pub source : src < many s header_definitions
  pub sets : Candidates s src ws

pub stands-indexed : (s : Words) (src : ℕ) (ws : Words) → Stands s src ws → Indexes s ws
stands-indexed s src ws p = p.sets.indexes

pub few_definitions : (s : Words) (src : ℕ) (ws : Words) (count : ℕ) → Stands s src ws → count ≡ many s header_definitions → count ≤ 128
few_definitions s src ws count p e = omega (arith, e, (valid s (passed s p.checked).values).definition_count)

pub source_small : (s : Words) (src : ℕ) (ws : Words) → Stands s src ws → src < 128
source_small s src ws p = omega (arith, p.source, (valid s (passed s p.checked).values).definition_count)

-- The arguments that are inherent, of those that there are.
pub front_same : (args : Words) (j : ℕ) → take (min j (length args)) args ≡ take j args
front_same args j = go (j - length args) refl
  where
    go : (d : ℕ) → j - length args ≡ d → take (min j (length args)) args ≡ take j args
    go zero e = ap (λ n. take n args) (let q : min j (length args) ≡ j = omega arith in q)
    go (suc d) e = ap (λ n. take n args) (let q : min j (length args) ≡ length args = omega arith in q) ∙ take-length args ∙ sym (take_all j args (omega arith))

-- What the rules take the candidates of a trait from, behind the modules of the inherent arguments.
abbrev pub places : Words → ℕ → ℕ → Words → Words
places s src t ns = within_ancestors src ∷ within_def (trait_def s t) ∷ ns

unfoldable pub places_run : Words → ℕ → Types → ℕ → Words → Run Words
places_run s src ts t args = inherent_mods s ts (take (inherent_params s t) (map type_of_word args)) >>= λ ns. done (places s src t ns)

-- They are put behind no nodes.
abbrev pub no_nodes : Nodes
no_nodes = record { n = 0; words = [] }

abbrev pub Sets : Words → ℕ → Types → ℕ → Words → Result Nodes Refusal → Type 0
Sets s src ts t args r = Gathers (places_run s src ts t args) (many s header_definitions) 6 no_nodes r

map-take : (k : ℕ) (xs : Words) → map type_of_word (take k xs) ≡ take k (map type_of_word xs)
map-take zero xs = refl
map-take (suc k) [] = refl
map-take (suc k) (x ∷ xs) = ap (λ (l : List Ty). type_of_word x ∷ l) (map-take k xs)

behind_places : (count : ℕ) (s : Words) (src t : ℕ) (x : Run Words) → behind count (kept count (within_ancestors src ∷ within_def (trait_def s t) ∷ [])) x ≡ behind count [] (x >>= λ ns. done (places s src t ns))
unfolding behind ◌>>=◌
behind_places count s src t x =
    bind_same x _ _ (λ ns. ap {B = Run Words} done (sym (kept_append count (within_ancestors src ∷ within_def (trait_def s t) ∷ []) ns)))
    ∙ sym (bind_assoc x (λ ns. done (places s src t ns)) (λ ns. done ([] ++ kept count ns)))

module _ (s : Words) (src : ℕ) (ts : Types) (t : ℕ) (args cs : Words) (none own two : Nodes) (count v w j k : ℕ) (r : Result Nodes Refusal) (p : Stands s src cs) (ec : count ≡ many s header_definitions) (en : listed none ≡ []) (eo : listed own ≡ listed none ++ v ∷ []) (ev : v ≡ 3 * src + 2)
    (ew : w ≡ trait_def s t) (ej : j ≡ inherent_params s t) (ek : k ≡ min j (length args)) (few : length args ≤ 4) where
  written_two : Puts count w own two → listed two ≡ kept count (within_ancestors src ∷ within_def (trait_def s t) ∷ [])
  unfolding kept select
  written_two q =
      q.row
      ∙ ap₂ (λ (a b : Words). a ++ b) (eo ∙ ap (λ (l : Words). l ++ v ∷ []) en ∙ ap (λ (y : ℕ). y ∷ []) ev ∙ sym (kept-one count (within_ancestors src) [] (omega (arith, p.source)))) (ap (λ y. kept count (within_def y ∷ [])) ew)
      ∙ sym (kept_append count (within_ancestors src ∷ []) (within_def (trait_def s t) ∷ []))

  pub sets_written : own.n ≡ 1 → Puts count w own two → Gathers (inherent_mods s ts (map type_of_word (take k args))) count (length (take k args)) two r → Sets s src ts t args r
  unfolding places_run
  sets_written h q g = record {
    is =
        g.is ∙ ap (λ (l : List Ty). behind count (listed two) (inherent_mods s ts l)) (ap (map type_of_word) (ap (λ n. take n args) ek ∙ front_same args j ∙ ap (λ y. take y args) ej) ∙ map-take (inherent_params s t) args)
        ∙ ap (λ (l : Words). behind count l mods) (written_two q) ∙ behind_places count s src t mods ∙ ap (λ c. behind c [] (mods >>= λ ns. done (places s src t ns))) ec;
    few = small r g.few;
  }
    where
      mods : Run Words
      mods = inherent_mods s ts (take (inherent_params s t) (map type_of_word args))

      small : (r : Result Nodes Refusal) → IfOk r (λ b. b.n ≤ two.n + length (take k args)) → IfOk r (λ b. b.n ≤ 6)
      small (Err e) l = tt
      small (Ok b) l = omega (arith, l, q.up, length-take-le k args (omega (arith, ek)))

-- The nodes of what is found.
abbrev pub nodes_of : Found → Words
nodes_of f = listed f.nodes

-- The candidates that it stands for.
unfoldable pub ids : Words → ℕ → Found → Words
ids s src f = elim (eqb f.tr 0) [ true ↦ [] | false ↦ get_candidates s src (nodes_of f) (f.tr - 1) f.basic ]

-- What it is of the rules.
unfoldable pub found_run : Words → ℕ → Result Found Refusal → Run Words
found_run s src (Ok f) = done (ids s src f)
found_run s src (Err refusal) = stop (number_of refusal)

abbrev pub finder : Words → ℕ → ℕ → Finder
finder s src g = record { sheet = s; source = src; generics = g }

-- The candidates of a question are found, or it is refused: `find_impl_candidates`, whatever the generics.
pub record Finds (s : Words) (src : ℕ) (ts : Types) (q : ImplType) (basic : ℕ) (r : Result Found Refusal) : Type 0 where
  pub is : (g : ℕ) → found_run s src r ≡ find_impl_candidates (finder s src g) ts q (eqb basic 1)
  pub few : IfOk r (λ f. f.nodes.n ≤ 6)
  pub flag : IfOk r (λ f. f.basic ≡ eqb basic 1)
  pub nodes_in : IfOk r (λ f. (x : ℕ) → In x (nodes_of f) → x < node_count s)

-- Nodes that are none of the sheet's have no candidates.
kept_in : (count : ℕ) (xs : Words) (x : ℕ) → In x (kept count xs) ↔ (In x xs × (x < 3 * count))
unfolding kept
kept_in count xs x =
    let a = select_in (λ y. ltb y (3 * count)) xs x in
    (λ h. let r = a.0 h in (r.0, ltb→lt x (3 * count) r.1), λ h. a.1 (h.0, lt→ltb x (3 * count) h.1))

kept_candidates : (s : Words) → Checked s → (src : ℕ) → src < many s header_definitions → (nodes : Words) (t : ℕ) (b : Bool) → get_candidates s src (kept (many s header_definitions) nodes) t b ≡ get_candidates s src nodes t b
unfolding node_count
kept_candidates s c src h nodes t b = rising_unique _ _ (candidates_rise s src (kept (many s header_definitions) nodes) t b) (candidates_rise s src nodes t b) (λ i. (there i, back i))
  where
    there : (i : ℕ) → In i (get_candidates s src (kept (many s header_definitions) nodes) t b) → In i (get_candidates s src nodes t b)
    there i m =
        let r = (candidates s c src h (kept (many s header_definitions) nodes) t b i).0 m in
        (candidates s c src h nodes t b i).1 ((r.0.0, ((kept_in (many s header_definitions) nodes r.0.0).0 r.0.1).0, r.0.2, r.0.3), r.1, r.2)

    back : (i : ℕ) → In i (get_candidates s src nodes t b) → In i (get_candidates s src (kept (many s header_definitions) nodes) t b)
    back i m =
        let r = (candidates s c src h nodes t b i).0 m in
        (candidates s c src h (kept (many s header_definitions) nodes) t b i).1 ((r.0.0, (kept_in (many s header_definitions) nodes r.0.0).1 (r.0.1, r.0.2), r.0.2, r.0.3), r.1, r.2)

-- No trait: no candidates.
pub found_error : (s : Words) (src : ℕ) (ts : Types) (args : List Ty) (tr basic : ℕ) (nodes : Nodes) → (1 ≤ tr → ⊥) → listed nodes ≡ [] → nodes.n ≤ 6 → Finds s src ts (tr, args) basic (Ok (record { tr = tr; basic = eqb basic 1; nodes = nodes }))
unfolding found_run ids find_impl_candidates optional
found_error s src ts args tr basic nodes z e few = record {
  is = λ g. rw (eq-eqb tr 0 (omega arith), found_run, ids) (sym (ap (λ k. find_impl_candidates (finder s src g) ts (k, args) (eqb basic 1)) (let q : tr ≡ 0 = omega arith in q)));
  few = few;
  flag = refl;
  nodes_in = λ x i. absurd (in_empty (subst (In x) e i));
}

module _ (s : Words) (src : ℕ) (cs : Words) (ts : Types) (args : Words) (tr t basic : ℕ) (r : Result Nodes Refusal) (p : Stands s src cs) (z : 1 ≤ tr) (e : t ≡ tr - 1) (g : Sets s src ts t args r) where
  mods : Run Words
  mods = inherent_mods s ts (take (inherent_params s t) (map type_of_word args))

  some_trait : (n : ℕ) → n ≢ 0 → optional n ≡ some (n - 1)
  unfolding optional
  some_trait zero h = absurd (h refl)
  some_trait (suc n) h = ap some (let q : n ≡ suc n - 1 = omega arith in q)

  -- By what the modules come to.
  asked : (h b : ℕ) → find_impl_candidates (finder s src h) ts (tr, map type_of_word args) (eqb b 1) ≡ (mods >>= λ ns. done (get_candidates s src (places s src t ns) t (eqb b 1)))
  unfolding find_impl_candidates mods
  asked h b = rw (some_trait tr (omega arith) ∙ ap some (let q : tr - 1 ≡ t = omega arith in q), find_impl_candidates) refl

  refused_mods : (x : Run Words) (n : ℕ) (f : Words → Words) → stop n ≡ behind (many s header_definitions) [] (x >>= λ ns. done (places s src t ns)) → stop n ≡ (x >>= λ ns. done (f ns))
  unfolding behind ◌>>=◌ IsStop
  refused_mods (done ns) n f q = absurd (subst IsStop q tt)
  refused_mods (asks x) n f q = absurd (subst IsStop q tt)
  refused_mods (stop k) n f q = q

  written_mods : (x : Run Words) (nodes : Words) (b : Bool) → done nodes ≡ behind (many s header_definitions) [] (x >>= λ ns. done (places s src t ns)) → ◌≡◌ {A = Run Words} (done (get_candidates s src nodes t b)) (x >>= λ ns. done (get_candidates s src (places s src t ns) t b))
  unfolding behind ◌>>=◌ IsDone list_of
  written_mods (stop n) nodes b q = absurd (subst IsDone q tt)
  written_mods (asks x) nodes b q = absurd (subst IsDone q tt)
  written_mods (done ns) nodes b q = ap {B = Run Words} done (ap (λ l. get_candidates s src l t b) (ap list_of q) ∙ kept_candidates s p.checked src p.source (places s src t ns) t b)

  inside : (x : Run Words) (nodes : Words) → done nodes ≡ behind (many s header_definitions) [] (x >>= λ ns. done (places s src t ns)) → (y : ℕ) → In y nodes → y < node_count s
  unfolding behind ◌>>=◌ IsDone list_of node_count
  inside (stop n) nodes q y i = absurd (subst IsDone q tt)
  inside (asks x) nodes q y i = absurd (subst IsDone q tt)
  inside (done ns) nodes q y i = ((kept_in (many s header_definitions) (places s src t ns) y).0 (subst (In y) (ap list_of q) i)).1

  pub found_refused : (refusal : Refusal) → r ≡ Err refusal → Finds s src ts (tr, map type_of_word args) basic (Err refusal)
  unfolding found_run nodes_run places_run mods
  found_refused refusal er = record {
    is = λ h. refused_mods mods (number_of refusal) (λ ns. get_candidates s src (places s src t ns) t (eqb basic 1)) (sym (ap nodes_run er) ∙ g.is) ∙ sym (asked h basic);
    few = tt;
    flag = tt;
    nodes_in = tt;
  }

  pub found_among : (nodes : Nodes) → r ≡ Ok nodes → Finds s src ts (tr, map type_of_word args) basic (Ok (record { tr = tr; basic = eqb basic 1; nodes = nodes }))
  unfolding found_run ids nodes_run places_run mods
  found_among nodes er = record {
    is = λ h.
        rw (ne_eqb tr 0 (omega arith), found_run, ids)
        (ap {B = Run Words} done (ap (λ k. get_candidates s src (listed nodes) k (eqb basic 1)) (let q : tr - 1 ≡ t = omega arith in q)) ∙ written_mods mods (listed nodes) (eqb basic 1) row ∙ sym (asked h basic));
    few = subst (λ q. IfOk q (λ b. b.n ≤ 6)) er g.few;
    flag = refl;
    nodes_in = λ x i. inside mods (listed nodes) row x i;
  }
    where
      row : done (listed nodes) ≡ behind (many s header_definitions) [] (mods >>= λ ns. done (places s src t ns))
      row = sym (ap nodes_run er) ∙ g.is

-- The next candidate from an id on, or none is left.
pub record Gives (s ws : Words) (f : Found) (from : ℕ) (r : Option ℕ) : Type 0 where
  pub up : (id : ℕ) → r ≡ Some id → (from ≤ id) × (id < many s header_impls)
  pub found : (id : ℕ) → r ≡ Some id → (src : ℕ) → Standing s src ws (nodes_of f) → from_on from (ids s src f) ≡ id ∷ from_on (id + 1) (ids s src f)
  pub none : r ≡ None → (src : ℕ) → Standing s src ws (nodes_of f) → from_on from (ids s src f) ≡ []

ids-none : (s : Words) (src : ℕ) (f : Found) → f.tr ≡ 0 → ids s src f ≡ []
unfolding ids
ids-none s src f z = rw (eq-eqb f.tr 0 z, ids) refl

ids-some : (s : Words) (src : ℕ) (f : Found) → f.tr ≢ 0 → ids s src f ≡ get_candidates s src (nodes_of f) (f.tr - 1) f.basic
unfolding ids
ids-some s src f z = rw (ne_eqb f.tr 0 z, ids) refl

some_same : {a b : ℕ} → Some a ≡ Some b → a ≡ b
some_same e = cc

not_some : {a : ℕ} → None ≡ Some a → ⊥
not_some e = cc

pub next_error : (s ws : Words) (f : Found) (from : ℕ) → (1 ≤ f.tr → ⊥) → Gives s ws f from None
unfolding from_on select
next_error s ws f from z = record { up = λ i e. absurd (not_some e); found = λ i e. absurd (not_some e); none = λ e src d. ap (from_on from) (ids-none s src f (omega arith)) }

module _ (s ws : Words) (f : Found) (from t : ℕ) (z : 1 ≤ f.tr) (et : t ≡ f.tr - 1) where
  same-ids : (src : ℕ) → get_candidates s src (nodes_of f) t f.basic ≡ ids s src f
  same-ids src = ap (λ k. get_candidates s src (nodes_of f) k f.basic) et ∙ sym (ids-some s src f (omega arith))

  pub next_found : (o : Option ℕ) → CandidateFrom s ws (nodes_of f) t f.basic from o → Gives s ws f from o
  next_found None c = record {
    up = λ j e. absurd (not_some e);
    found = λ j e. absurd (not_some e);
    none = λ e src d. ap (from_on from) (sym (same-ids src)) ∙ c.next.none src d (omega arith);
  }
  next_found (Some i) c = record {
    up = λ j e. let q : i ≡ j = some_same e in (omega (arith, c.next.up, q), omega (arith, c.impl, q));
    found = λ j e src d.
        ap (from_on from) (sym (same-ids src)) ∙ c.next.found src d c.impl ∙ ap (λ l. i ∷ from_on (i + 1) l) (same-ids src) ∙ ap (λ k. k ∷ from_on (k + 1) (ids s src f)) (some_same e);
    none = λ e. absurd (not_some (sym e));
  }

all-kept : (xs : Words) → from_on 0 xs ≡ xs
unfolding from_on select
all-kept [] = refl
all-kept (x ∷ xs) = go (leb 0 x) refl (all-kept xs)
  where
    go : (b : Bool) → leb 0 x ≡ b → from_on 0 xs ≡ xs → from_on 0 (x ∷ xs) ≡ x ∷ xs
    go true e h = rw (e, from_on, select) (ap (λ (l : Words). x ∷ l) h)
    go false e h = absurd (subst T e (le→leb 0 x (omega arith)))

-- For the search: a refusal; the whole list, from id 0 on; and one candidate after the other.
module _ (s : Words) (src : ℕ) (ws : Words) (ts : Types) (q : ImplType) (basic : ℕ) (p : Stands s src ws) where
  pub found_stops : (r : Result Found Refusal) (refusal : Refusal) → Finds s src ts q basic r → r ≡ Err refusal → (g : ℕ) → find_impl_candidates (finder s src g) ts q (eqb basic 1) ≡ stop (number_of refusal)
  unfolding found_run
  found_stops r refusal d e g = sym (d.is g) ∙ ap (found_run s src) e

  module _ (f : Found) (d : Finds s src ts q basic (Ok f)) where
    pub found_goes : (g : ℕ) → find_impl_candidates (finder s src g) ts q (eqb basic 1) ≡ done (from_on 0 (ids s src f))
    unfolding found_run
    found_goes g = sym (d.is g) ∙ ap {B = Run Words} done (sym (all-kept (ids s src f)))

    pub found-standing : Standing s src ws (nodes_of f)
    found-standing = record { checked = p.checked; source = p.source; sets = p.sets; nodes_in = d.nodes_in }

    module _ (from : ℕ) (r : Option ℕ) (g : Gives s ws f from r) where
      pub next_is : (id : ℕ) → r ≡ Some id → from_on from (ids s src f) ≡ id ∷ from_on (id + 1) (ids s src f)
      next_is id e = g.found id e src found-standing

      pub next_low : (id : ℕ) → r ≡ Some id → (from ≤ id) × (id < 384)
      next_low id e = let u = g.up id e in (u.0, omega (arith, u.1, (valid s (passed s p.checked).values).impl_count))

      pub next_over : r ≡ None → from_on from (ids s src f) ≡ []
      next_over e = g.none e src found-standing
