-- Laws of `transfer_type` on tables, whatever form they have: the ways that it goes, that tables only grow, and that lists go in parts.
use Rattle.std.specs.Prelude.{ℕ, zero, suc, ◌≤◌, ◌<◌, ◌≡◌, ◌≢◌, Bool, false, get_or, set}
use Rattle.std.proofs.Math.Path.{refl, ap, subst}
use Rattle.std.proofs.Common.{sym, ◌∙◌, le_refl, le_trans, arith, length-set, length-append}
use mathlib.Core.List.{List, [], ◌∷◌, ◌++◌}
use Rattle.std.proofs.Math.Option.{Option, none, some}
use Rattle.std.proofs.Math.ListN.{length}
use Rattle.rules.specs.Types.{Ty, TypeState, unknown, known, Types, new_node, invert_if, find, state_at}
use Rattle.rules.specs.Solutions.{rep, ChildrenIn}
use Rattle.rules.specs.RootRank.{child_in}
use Rattle.rules.specs.Readings.{readable_ranked, rank_root}
use Rattle.rules.specs.Acyclic.{children}
use Rattle.rules.specs.AcyclicLaws.{children_at}
use Rattle.rules.specs.Transfer.{Transfer, mapped, param_for, transfer_each, transfer_in}
use Rattle.rules.specs.Carried.{pushed}
use Rattle.rules.specs.FreshKeeps.{Proper}
use Rattle.table.specs.Packing.{kind_in, inverted_in, id_in, kind_at, inverted_at, id_at}
use Rattle.transfer.specs.Moving.{param_as, settled, filled, fresh, Level, Rooted}

-- A known node is what its parts are.
pub known_parts : (ts : Types) (n : ℕ) → kind_at ts n ≢ 0 → state_at ts n ≡ known (inverted_at ts n) (kind_at ts n) (id_at ts n) (children_at ts n)
unfolding kind_at inverted_at id_at children_at kind_in inverted_in id_in children
known_parts ts n z = go (state_at ts n) z
  where
    go : (st : TypeState) → kind_in st ≢ 0 → st ≡ known (inverted_in st) (kind_in st) (id_in st) (children st)
    go unknown z = absurd (z refl)
    go (known i k d cs) z = refl

known_fills : (k : ℕ) (src : Types) (ps : Option (List Ty)) (r : Ty) (n : ℕ) (m : Transfer) (i : Bool) (kd d : ℕ) (cs : List Ty) → state_at src r.1 ≡ known i kd d cs →
    ((r.0, n), ((transfer_each (transfer_in k src ps) cs m).1.0, set (transfer_each (transfer_in k src ps) cs m).1.1 n (new_node n (known i kd d (transfer_each (transfer_in k src ps) cs m).0)))) ≡ filled k src ps r n m
unfolding filled kind_at inverted_at id_at children_at kind_in inverted_in id_in children
known_fills k src ps r n m i kd d cs e = sym (ap {B = Ty × Transfer} (λ (st : TypeState). ((r.0, n), ((transfer_each (transfer_in k src ps) (children st) m).1.0, set (transfer_each (transfer_in k src ps) (children st) m).1.1 n (new_node n (known (inverted_in st) (kind_in st) (id_in st) (transfer_each (transfer_in k src ps) (children st) m).0))))) e)

pub fresh_unknown : (k : ℕ) (src : Types) (ps : Option (List Ty)) (r : Ty) (m : Transfer) → state_at src r.1 ≡ unknown → fresh k src ps r m ≡ ((r.0, length m.1), pushed m r.1)
unfolding fresh
fresh_unknown k src ps r m q = rw (q, fresh)

fresh_is : (k : ℕ) (src : Types) (ps : Option (List Ty)) (r : Ty) (m : Transfer) (i : Bool) (kd d : ℕ) (cs : List Ty) → state_at src r.1 ≡ known i kd d cs → fresh k src ps r m ≡ filled k src ps r (length m.1) (pushed m r.1)
unfolding fresh
fresh_is k src ps r m i kd d cs q = rw (q, fresh)

pub fresh_known : (k : ℕ) (src : Types) (ps : Option (List Ty)) (r : Ty) (m : Transfer) → kind_at src r.1 ≢ 0 → fresh k src ps r m ≡ filled k src ps r (length m.1) (pushed m r.1)
fresh_known k src ps r m z = fresh_is k src ps r m _ _ _ _ (known_parts src r.1 z)

module _ (src : Types) (ps : Option (List Ty)) (m : List (ℕ × Ty)) (r : Ty) where
  pub settled-mapped : (u : Ty) → mapped m r.1 ≡ some u → settled src ps m r ≡ some (invert_if r.0 u)
  unfolding settled
  settled-mapped u e = rw (e, settled)

  pub settled_else : mapped m r.1 ≡ none → settled src ps m r ≡ param_as src ps r
  unfolding settled
  settled_else e = rw (e, settled)

  param-some : (u : Ty) → param_for ps (state_at src r.1) ≡ some u → param_as src ps r ≡ some (invert_if r.0 u)
  unfolding param_as
  param-some u e = rw (e, param_as)

  pub param-none : param_for ps (state_at src r.1) ≡ none → param_as src ps r ≡ none
  unfolding param_as
  param-none e = rw (e, param_as)

-- The type that is there already, or else a new one.
unfoldable or_new : Option Ty → Transfer → Ty × Transfer → Ty × Transfer
or_new none m o = o
or_new (some u) m o = (u, m)

-- The ways of `transfer_type`.
module _ (k : ℕ) (src : Types) (ps : Option (List Ty)) (t : Ty) (m : Transfer) where
  ways : transfer_in (suc k) src ps t m ≡ or_new (settled src ps m.0 (find src t)) m (fresh k src ps (find src t) m)
  unfolding transfer_in or_new
  ways = go (mapped m.0 (find src t).1) refl (param_for ps (state_at src (find src t).1)) refl (state_at src (find src t).1) refl
    where
      there : (u : Ty) → settled src ps m.0 (find src t) ≡ some u → or_new (settled src ps m.0 (find src t)) m (fresh k src ps (find src t) m) ≡ (u, m)
      there u e = ap (λ (o : Option Ty). or_new o m (fresh k src ps (find src t) m)) e

      anew : settled src ps m.0 (find src t) ≡ none → or_new (settled src ps m.0 (find src t)) m (fresh k src ps (find src t) m) ≡ fresh k src ps (find src t) m
      anew e = ap (λ (o : Option Ty). or_new o m (fresh k src ps (find src t) m)) e

      go : (o₁ : Option Ty) → mapped m.0 (find src t).1 ≡ o₁ → (o₂ : Option Ty) → param_for ps (state_at src (find src t).1) ≡ o₂ → (st : TypeState) → state_at src (find src t).1 ≡ st → transfer_in (suc k) src ps t m ≡ or_new (settled src ps m.0 (find src t)) m (fresh k src ps (find src t) m)
      go (some u) e w f st q = rw (e, transfer_in) (sym (there _ (settled-mapped src ps m.0 (find src t) u e)))
      go none e (some u) f st q = rw (e, f, transfer_in) (sym (there _ (settled_else src ps m.0 (find src t) e ∙ param-some src ps m.0 (find src t) u f)))
      go none e none f unknown q = rw (e, f, q, transfer_in) (sym (anew (settled_else src ps m.0 (find src t) e ∙ param-none src ps m.0 (find src t) f) ∙ fresh_unknown k src ps (find src t) m q))
      go none e none f (known i kd d cs) q = rw (e, f, q, transfer_in) (known_fills k src ps (find src t) (length m.1) (pushed m (find src t).1) i kd d cs q ∙ sym (anew (settled_else src ps m.0 (find src t) e ∙ param-none src ps m.0 (find src t) f) ∙ fresh_is k src ps (find src t) m i kd d cs q))

  pub in_settled : (u : Ty) → settled src ps m.0 (find src t) ≡ some u → transfer_in (suc k) src ps t m ≡ (u, m)
  unfolding or_new
  in_settled u e = ways ∙ ap (λ (o : Option Ty). or_new o m (fresh k src ps (find src t) m)) e

  pub in_fresh : settled src ps m.0 (find src t) ≡ none → transfer_in (suc k) src ps t m ≡ fresh k src ps (find src t) m
  unfolding or_new
  in_fresh e = ways ∙ ap (λ (o : Option Ty). or_new o m (fresh k src ps (find src t) m)) e

-- Lists go in parts.
pub each_append : (f : Ty → Transfer → Ty × Transfer) (xs ys : List Ty) (m : Transfer) →
    transfer_each f (xs ++ ys) m ≡ ((transfer_each f xs m).0 ++ (transfer_each f ys (transfer_each f xs m).1).0, (transfer_each f ys (transfer_each f xs m).1).1)
unfolding transfer_each
each_append f [] ys m = refl
each_append f (x ∷ xs) ys m = ap (λ (r : List Ty × Transfer). ((f x m).0 ∷ r.0, r.1)) (each_append f xs ys (f x m).1)

-- Tables only grow.
pub each_grows : (f : Ty → Transfer → Ty × Transfer) → ((t : Ty) (m : Transfer) → length m.1 ≤ length (f t m).1.1) → (ts : List Ty) (m : Transfer) → length m.1 ≤ length (transfer_each f ts m).1.1
unfolding transfer_each
each_grows f g [] m = le_refl _
each_grows f g (t ∷ ts) m = le_trans (g t m) (each_grows f g ts (f t m).1)

pushed_grows : (m : Transfer) (r : ℕ) → length m.1 < length (pushed m r).1
pushed_grows m r = omega (arith, length-append m.1 (new_node (length m.1) unknown ∷ []))

pub in_grows : (k : ℕ) (src : Types) (ps : Option (List Ty)) (t : Ty) (m : Transfer) → length m.1 ≤ length (transfer_in k src ps t m).1.1
unfolding transfer_in
in_grows zero src ps t m = le_refl _
in_grows (suc k) src ps t m = go (mapped m.0 (find src t).1) refl (param_for ps (state_at src (find src t).1)) refl (state_at src (find src t).1) refl (in_grows k src ps)
  where
    go : (o₁ : Option Ty) → mapped m.0 (find src t).1 ≡ o₁ → (o₂ : Option Ty) → param_for ps (state_at src (find src t).1) ≡ o₂ → (st : TypeState) → state_at src (find src t).1 ≡ st → ((t : Ty) (m : Transfer) → length m.1 ≤ length (transfer_in k src ps t m).1.1) → length m.1 ≤ length (transfer_in (suc k) src ps t m).1.1
    go (some u) e w f st q ih = rw (e, transfer_in) (le_refl _)
    go none e (some u) f st q ih = rw (e, f, transfer_in) (le_refl _)
    go none e none f unknown q ih = rw (e, f, q, transfer_in) (omega (arith, pushed_grows m (find src t).1))
    go none e none f (known i kd d cs) q ih = rw (e, f, q, transfer_in) (simp length-set (omega (arith, pushed_grows m (find src t).1, each_grows (transfer_in k src ps) ih cs (pushed m (find src t).1))))

pub filled_grows : (k : ℕ) (src : Types) (ps : Option (List Ty)) (r : Ty) (n : ℕ) (m : Transfer) → length m.1 ≤ length (filled k src ps r n m).1.1
unfolding filled
filled_grows k src ps r n m = simp length-set (each_grows (transfer_in k src ps) (in_grows k src ps) (children_at src r.1) m)

pub fresh_grows : (k : ℕ) (src : Types) (ps : Option (List Ty)) (r : Ty) (m : Transfer) → length m.1 < length (fresh k src ps r m).1.1
unfolding fresh
fresh_grows k src ps r m = go (state_at src r.1) refl
  where
    go : (st : TypeState) → state_at src r.1 ≡ st → length m.1 < length (fresh k src ps r m).1.1
    go unknown q = rw (q, fresh) (pushed_grows m r.1)
    go (known i kd d cs) q = rw (q, fresh) (omega (arith, pushed_grows m r.1, filled_grows k src ps r (length m.1) (pushed m r.1)))

-- A type's root is at its level, and a root's children are below it.
module _ (src : Types) (p : Proper src) where
  pub level_root : (t : Ty) (k : ℕ) → Level src t k → Rooted src (find src t).1 k
  unfolding find invert_if rep
  level_root t k l = record {
    inside = (p.formed t.1 l.inside).0;
    root = (p.formed t.1 l.inside).1;
    low = omega (arith, l.low, rank_root src p.formed t.1 l.inside);
  }

  pub root_child : (r k : ℕ) → Rooted src r (suc k) → (j : ℕ) → j < length (children_at src r) → Level src (get_or (children_at src r) j (false, 0)) k
  unfolding children_at children
  root_child r k h j l = go (state_at src r) refl l
    where
      go : (st : TypeState) → state_at src r ≡ st → j < length (children st) → Level src (get_or (children (state_at src r)) j (false, 0)) k
      go unknown q b = absurd (omega arith)
      go (known i kd d cs) q b =
          let e : state_at src (rep src r) ≡ known i kd d cs = ap (state_at src) h.root ∙ q in
          subst (λ (xs : List Ty). Level src (get_or xs j (false, 0)) k) (sym (ap children q)) (record {
            inside = child_in (length src) cs j (subst (ChildrenIn (length src)) e (p.formed r h.inside).2) b;
            low = omega (arith, h.low, (readable_ranked src p.formed p.kept).falls r h.inside i kd d cs e j b);
          })
