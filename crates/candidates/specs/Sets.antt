-- The rows of what each node binds itself: row x at rows·sets, a bit for each impl.
use Prim.Native.Nat.{ℕ, zero, suc, ◌+◌, ◌*◌, ◌-◌, ◌/◌, ◌%◌, ◌≤◌, ◌<◌}
use Rattle.std.specs.Prelude.{◌≡◌, refl, Bool, ◌||◌, ◌&&◌, [], ◌∷◌, ◌++◌, ◌⊎◌, ◌≢◌, length}
use Rattle.std.proofs.Math.Path.{sym, ap, subst}
use Rattle.std.proofs.Common.{◌∙◌, ap₂, inl, inr, not-suc-le-zero, arith}
use Rattle.std.proofs.Math.Bool.{true, false, not}
use Rattle.std.proofs.Math.Logic.{⊎_elim}
use Rattle.std.proofs.Math.Dec.{eqb}
use borrow.Author.Tests.{eqb-true, eqb-false, eq-eqb, ne_eqb}
use Rattle.rules.specs.Lists.{Words, any}
use Rattle.rules.specs.Layout.{header_definitions, header_impls, binding_vis, binding_impl, flag_manual, flag_unsafe, flag_named}
use Rattle.rules.specs.Sheet.{at, chain, field, bindings, impl_flag, impl_trait}
use Rattle.rules.specs.Candidates.{may_enter}
use Rattle.rules.specs.Admission.{binding_node}
use Rattle.candidates.specs.Layout.{rows_sets, rows_end, candidates_length}
use Rattle.candidates.specs.Bits.{on, with_bit}
use Rattle.candidates.specs.Index.{Indexes, indexes_keep}
use Rattle.candidates.specs.Source.{seen}
use Rattle.candidates.specs.Links.{set_other, set-row, set_elsewhere, seen_same, any_append, any_same, off_clear}

-- Binding b of definition d enters impl i into the set of node x.
unfoldable pub entry : Words → (ℕ → Bool) → ℕ → ℕ → ℕ → ℕ → Bool
entry s sees d b x i = ((eqb (at s (b + binding_impl)) i && sees (at s (b + binding_vis))) && may_enter s i) && eqb x (binding_node (impl_flag s flag_named i) d)

-- There are rows, and the indexes stand in the workspace.
pub record Binding (d : ℕ) (s ws : Words) : Type 0 where
  pub low : d < 128
  pub short : length s ≤ 4096
  pub fits : candidates_length ≤ length ws
  pub indexes : Indexes s ws

-- The impls of some bindings of definition d were entered, and nothing else was changed.
pub record Enters (s : Words) (d : ℕ) (bs ws us : Words) : Type 0 where
  pub sets : (x i : ℕ) → x < 384 → i < 384 → on us (rows_sets + 12 * x) i ≡ (on ws (rows_sets + 12 * x) i || any (λ b. entry s (seen ws) d b x i) bs)
  pub others : (p : ℕ) → (p < rows_sets) ⊎ (rows_end ≤ p) → at us p ≡ at ws p

or_false : (b : Bool) → b ≡ (b || false)
or_false true = refl
or_false false = refl

or_true : (b : Bool) → true ≡ (b || true)
or_true true = refl
or_true false = refl

or_assoc : (a b c : Bool) → ((a || b) || c) ≡ (a || (b || c))
or_assoc true b c = refl
or_assoc false b c = refl

and_false : (b : Bool) → (b && false) ≡ false
and_false true = refl
and_false false = refl

equal_or : (z x : ℕ) → (z ≡ x) ⊎ (z ≢ x)
equal_or z x = go (eqb z x) refl
  where
    go : (b : Bool) → eqb z x ≡ b → (z ≡ x) ⊎ (z ≢ x)
    go true e = inl (eqb-true z x e)
    go false e = inr (eqb-false z x e)

-- "Manual, unsafe and Error impls never enter."
module _ (s : Words) (i w : ℕ) (e : w ≡ field s header_impls i 2) where
  pub enter_manual : w % 2 ≡ 1 → false ≡ may_enter s i
  unfolding may_enter impl_flag
  enter_manual h = sym (ap (λ b. (not b && not (impl_flag s flag_unsafe i)) && not (eqb (impl_trait s i) 0)) (ap (λ c. eqb (c / 1 % 2) 1) (sym e) ∙ eq-eqb (w / 1 % 2) 1 (omega (arith, h))))

  pub enter_unsafe : w / 4 % 2 ≡ 1 → false ≡ may_enter s i
  unfolding may_enter impl_flag
  enter_unsafe h = sym (ap (λ b. (not (impl_flag s flag_manual i) && not b) && not (eqb (impl_trait s i) 0)) (ap (λ c. eqb (c / 4 % 2) 1) (sym e) ∙ eq-eqb (w / 4 % 2) 1 h) ∙ ap (λ b. b && not (eqb (impl_trait s i) 0)) (and_false (not (impl_flag s flag_manual i))))

  pub enter_trait : (t : ℕ) → w % 2 ≢ 1 → w / 4 % 2 ≢ 1 → t ≡ field s header_impls i 3 → not (eqb t 0) ≡ may_enter s i
  unfolding may_enter impl_flag impl_trait
  enter_trait t h k f =
      sym (ap₂ (λ a b. (not a && not b) && not (eqb (impl_trait s i) 0)) (ap (λ c. eqb (c / 1 % 2) 1) (sym e) ∙ ne_eqb (w / 1 % 2) 1 (λ q. h (omega (arith, q)))) (ap (λ c. eqb (c / 4 % 2) 1) (sym e) ∙ ne_eqb (w / 4 % 2) 1 k) ∙ ap (λ c. not (eqb c 0)) (sym f))

  pub node_named : (d : ℕ) → w / 8 % 2 ≡ 1 → 3 * d ≡ binding_node (impl_flag s flag_named i) d
  unfolding impl_flag
  node_named d h = ap (λ b. binding_node b d) (sym (ap (λ c. eqb (c / 8 % 2) 1) (sym e) ∙ eq-eqb (w / 8 % 2) 1 h))

  pub node_unnamed : (d : ℕ) → w / 8 % 2 ≢ 1 → 3 * d + 1 ≡ binding_node (impl_flag s flag_named i) d
  unfolding impl_flag
  node_unnamed d h = ap (λ b. binding_node b d) (sym (ap (λ c. eqb (c / 8 % 2) 1) (sym e) ∙ ne_eqb (w / 8 % 2) 1 h))

-- One binding.
any-one : (p : ℕ → Bool) (b : ℕ) → any p (b ∷ []) ≡ p b
unfolding any
any-one p b = go (p b) refl
  where
    go : (c : Bool) → p b ≡ c → any p (b ∷ []) ≡ c
    go true e = rw (e, any) refl
    go false e = rw (e, any) refl

enters_nothing : (s : Words) (d b : ℕ) (ws : Words) → ((x i : ℕ) → i < 384 → entry s (seen ws) d b x i ≡ false) → Enters s d (b ∷ []) ws ws
enters_nothing s d b ws h = record {
  sets = λ x i hx hi. or_false (on ws (rows_sets + 12 * x) i) ∙ ap (λ c. on ws (rows_sets + 12 * x) i || c) (sym (any-one (λ c. entry s (seen ws) d c x i) b ∙ h x i hi));
  others = λ p o. refl;
}

node_low : (f : Bool) (d : ℕ) → d < 128 → binding_node f d < 384
node_low true d h = omega arith
node_low false d h = omega arith

module _ (s : Words) (d b j i : ℕ) (ws : Words) (e : j ≡ at s (b + 2)) (f : i ≡ j) where
  impl_is : (k : ℕ) → eqb (at s (b + 2)) k ≡ eqb i k
  impl_is k = ap (λ c. eqb c k) (sym (f ∙ e))

  pub bind_past : 384 ≤ i → Enters s d (b ∷ []) ws ws
  unfolding entry
  bind_past h = enters_nothing s d b ws (λ x k hk. ap (λ c. ((c && seen ws (at s (b + 1))) && may_enter s k) && eqb x (binding_node (impl_flag s flag_named k) d)) (impl_is k ∙ ne_eqb i k (λ q. omega arith)))

  pub bind_shut : (v : ℕ) (r : Bool) → v ≡ at s (b + 1) → r ≡ seen ws v → r ≡ false → Enters s d (b ∷ []) ws ws
  unfolding entry
  bind_shut v r g o z = enters_nothing s d b ws (λ x k hk.
      ap (λ c. ((eqb (at s (b + 2)) k && c) && may_enter s k) && eqb x (binding_node (impl_flag s flag_named k) d)) (ap (seen ws) (sym g) ∙ sym o ∙ z)
      ∙ ap (λ c. (c && may_enter s k) && eqb x (binding_node (impl_flag s flag_named k) d)) (and_false (eqb (at s (b + 2)) k)))

  pub bind_kept : (m : Bool) → m ≡ may_enter s i → m ≡ false → Enters s d (b ∷ []) ws ws
  unfolding entry
  bind_kept m g z = enters_nothing s d b ws (λ x k hk. go x k (eqb i k) refl)
    where
      go : (x k : ℕ) (c : Bool) → eqb i k ≡ c → entry s (seen ws) d b x k ≡ false
      go x k true q =
          ap (λ c. ((eqb (at s (b + 2)) k && seen ws (at s (b + 1))) && c) && eqb x (binding_node (impl_flag s flag_named k) d)) (ap (may_enter s) (sym (eqb-true i k q)) ∙ sym g ∙ z)
          ∙ ap (λ c. c && eqb x (binding_node (impl_flag s flag_named k) d)) (and_false (eqb (at s (b + 2)) k && seen ws (at s (b + 1))))
      go x k false q = ap (λ c. ((c && seen ws (at s (b + 1))) && may_enter s k) && eqb x (binding_node (impl_flag s flag_named k) d)) (impl_is k ∙ q)

  pub bind_entered : (v y : ℕ) (r m : Bool) (us : Words) → Binding d s ws → i < 384 → v ≡ at s (b + 1) → r ≡ seen ws v → r ≡ true → m ≡ may_enter s i → m ≡ true → y ≡ binding_node (impl_flag s flag_named i) d
      → us ≡ with_bit ws (rows_sets + 12 * y) i → Enters s d (b ∷ []) ws us
  unfolding entry
  bind_entered v y r m us l hi g o z n t k u = record {
    sets = λ x c hx hc. ap (λ w. on w (rows_sets + 12 * x) c) u ∙ row x c hx hc (equal_or x y);
    others = λ p q. ap (λ w. at w p) u ∙ set_other ws (rows_sets + 12 * y) i (omega (arith, l.fits, low)) p (λ a. ⊎_elim (λ h. omega (arith, h, a)) (λ h. omega (arith, h, a, low)) q);
  }
    where
      low : y < 384
      low = subst (λ c. c < 384) (sym k) (node_low (impl_flag s flag_named i) d l.low)

      same : (x c : ℕ) (q : Bool) → eqb i c ≡ q → eqb x y ≡ true → eqb c i ≡ entry s (seen ws) d b x c
      same x c true q h =
          eq-eqb c i (sym (eqb-true i c q))
          ∙ sym (ap₂ (λ a w. ((a && w) && may_enter s c) && eqb x (binding_node (impl_flag s flag_named c) d)) (impl_is c ∙ q) (ap (seen ws) (sym g) ∙ sym o ∙ z)
          ∙ ap₂ (λ a w. a && w) (ap (may_enter s) (sym (eqb-true i c q)) ∙ sym n ∙ t) (ap (λ w. eqb x w) (ap (λ w. binding_node (impl_flag s flag_named w) d) (sym (eqb-true i c q)) ∙ sym k) ∙ h))
      same x c false q h =
          ne_eqb c i (λ a. eqb-false i c q (sym a)) ∙ sym (ap (λ a. ((a && seen ws (at s (b + 1))) && may_enter s c) && eqb x (binding_node (impl_flag s flag_named c) d)) (impl_is c ∙ q))

      other : (x c : ℕ) (q : Bool) → eqb i c ≡ q → eqb x y ≡ false → false ≡ entry s (seen ws) d b x c
      other x c true q h =
          sym (ap (λ w. ((eqb (at s (b + 2)) c && seen ws (at s (b + 1))) && may_enter s c) && w) (ap (λ w. eqb x w) (ap (λ w. binding_node (impl_flag s flag_named w) d) (sym (eqb-true i c q)) ∙ sym k) ∙ h)
          ∙ and_false ((eqb (at s (b + 2)) c && seen ws (at s (b + 1))) && may_enter s c))
      other x c false q h = sym (ap (λ a. ((a && seen ws (at s (b + 1))) && may_enter s c) && eqb x (binding_node (impl_flag s flag_named c) d)) (impl_is c ∙ q))

      row : (x c : ℕ) → x < 384 → c < 384 → (x ≡ y) ⊎ (x ≢ y) → on (with_bit ws (rows_sets + 12 * y) i) (rows_sets + 12 * x) c ≡ (on ws (rows_sets + 12 * x) c || any (λ a. entry s (seen ws) d a x c) (b ∷ []))
      row x c hx hc (inl q) =
          ap (λ w. on (with_bit ws (rows_sets + 12 * y) i) (rows_sets + 12 * w) c) q ∙ set-row ws (rows_sets + 12 * y) i (omega (arith, l.fits, low)) c
          ∙ ap₂ (λ w a. on ws (rows_sets + 12 * w) c || a) (sym q) (same x c (eqb i c) refl (eq-eqb x y q) ∙ sym (any-one (λ a. entry s (seen ws) d a x c) b))
      row x c hx hc (inr q) =
          set_elsewhere ws (rows_sets + 12 * y) i (omega (arith, l.fits, low)) (rows_sets + 12 * x) c (apart (y - x) refl) hi hc ∙ or_false (on ws (rows_sets + 12 * x) c)
          ∙ ap (λ a. on ws (rows_sets + 12 * x) c || a) (other x c (eqb i c) refl (ne_eqb x y q) ∙ sym (any-one (λ a. entry s (seen ws) d a x c) b))
        where
          apart : (w : ℕ) → y - x ≡ w → (rows_sets + 12 * x + 12 ≤ rows_sets + 12 * y) ⊎ (rows_sets + 12 * y + 12 ≤ rows_sets + 12 * x)
          apart zero a = inr (omega (arith, q))
          apart (suc w) a = inl (omega arith)

-- Bindings one after the other.
pub enters_none : (s : Words) (d : ℕ) (ws : Words) → Enters s d [] ws ws
unfolding any
enters_none s d ws = record { sets = λ x i hx hi. or_false (on ws (rows_sets + 12 * x) i); others = λ p o. refl }

enters_seen : (s : Words) (d : ℕ) (bs ws us : Words) → Enters s d bs ws us → (v : ℕ) → seen us v ≡ seen ws v
enters_seen s d bs ws us a = seen_same ws us (λ p h. a.others p (inl (omega arith)))

entry-same : (s : Words) (sees views : ℕ → Bool) (d b x i : ℕ) → ((v : ℕ) → sees v ≡ views v) → entry s sees d b x i ≡ entry s views d b x i
unfolding entry
entry-same s sees views d b x i h = ap (λ c. ((eqb (at s (b + binding_impl)) i && c) && may_enter s i) && eqb x (binding_node (impl_flag s flag_named i) d)) (h (at s (b + binding_vis)))

enters_on : (s : Words) (d : ℕ) (bs cs ws us vs : Words) → Enters s d bs ws us → Enters s d cs us vs → Enters s d (bs ++ cs) ws vs
enters_on s d bs cs ws us vs a b = record {
  sets = λ x i hx hi.
      b.sets x i hx hi
      ∙ ap₂ (λ p q. p || q) (a.sets x i hx hi) (any_same (λ c. entry s (seen us) d c x i) (λ c. entry s (seen ws) d c x i) cs (λ c. entry-same s (seen us) (seen ws) d c x i (enters_seen s d bs ws us a)))
      ∙ or_assoc (on ws (rows_sets + 12 * x) i) (any (λ c. entry s (seen ws) d c x i) bs) (any (λ c. entry s (seen ws) d c x i) cs)
      ∙ ap (λ q. on ws (rows_sets + 12 * x) i || q) (sym (any_append (λ c. entry s (seen ws) d c x i) bs cs));
  others = λ p o. b.others p o ∙ a.others p o;
}

pub binding_on : (d : ℕ) (s bs ws us : Words) → length us ≡ length ws → Binding d s ws → Enters s d bs ws us → Binding d s us
binding_on d s bs ws us e l a = record { low = l.low; short = l.short; fits = omega (arith, l.fits); indexes = indexes_keep s ws us l.short (λ p h. a.others p (inr h)) l.indexes }

pub enters_more : (s : Words) (d : ℕ) (bs : Words) (b : ℕ) (ws us vs : Words) → Enters s d bs ws us → Enters s d (b ∷ []) us vs → Enters s d (bs ++ b ∷ []) ws vs
enters_more s d bs b ws us vs h k = enters_on s d bs (b ∷ []) ws us vs h k

pub definition_bound : (s : Words) (d h₀ h : ℕ) (ws us : Words) → h₀ ≡ field s header_definitions d 4 → h ≡ h₀ → Enters s d (chain s h) ws us → Enters s d (bindings s d) ws us
unfolding bindings
definition_bound s d h₀ h ws us e f a = subst (λ c. Enters s d (chain s c) ws us) (f ∙ e) a

-- There are rows for the nodes of n definitions, all of them clear.
pub record BindingAll (n : ℕ) (s ws : Words) : Type 0 where
  pub few : n ≤ 128
  pub short : length s ≤ 4096
  pub fits : candidates_length ≤ length ws
  pub indexes : Indexes s ws
  pub clear : (p : ℕ) → rows_sets ≤ p → p < rows_end → at ws p ≡ 0

-- The rows of the nodes of the first n definitions hold what those bind; those of the others are clear.
pub record Bound (s : Words) (n : ℕ) (ws us : Words) : Type 0 where
  pub sets : (x i : ℕ) → x < 3 * n → i < 384 → on us (rows_sets + 12 * x) i ≡ any (λ b. entry s (seen ws) (x / 3) b x i) (bindings s (x / 3))
  pub fresh : (x i : ℕ) → 3 * n ≤ x → x < 384 → i < 384 → on us (rows_sets + 12 * x) i ≡ false
  pub others : (p : ℕ) → (p < rows_sets) ⊎ (rows_end ≤ p) → at us p ≡ at ws p

pub bound_start : (n : ℕ) (s ws : Words) → BindingAll n s ws → Bound s 0 ws ws
bound_start n s ws l = record {
  sets = λ x i h. absurd (not-suc-le-zero h);
  fresh = λ x i h k j. off_clear ws (rows_sets + 12 * x) i (l.clear (rows_sets + 12 * x + i / 32) (omega arith) (omega arith));
  others = λ p o. refl;
}

any_none : (p : ℕ → Bool) (bs : Words) → ((b : ℕ) → p b ≡ false) → any p bs ≡ false
unfolding any
any_none p [] h = refl
any_none p (b ∷ bs) h = rw (h b, any) (any_none p bs h)

node_of : (f : Bool) (x d : ℕ) → x ≡ binding_node f d → x / 3 ≡ d
node_of true x d e = omega arith
node_of false x d e = omega arith

elsewhere : (s : Words) (sees : ℕ → Bool) (d b x i : ℕ) → x / 3 ≢ d → entry s sees d b x i ≡ false
unfolding entry
elsewhere s sees d b x i h =
    ap (λ c. ((eqb (at s (b + binding_impl)) i && sees (at s (b + binding_vis))) && may_enter s i) && c) (ne_eqb x (binding_node (impl_flag s flag_named i) d) (λ e. h (node_of (impl_flag s flag_named i) x d e)))
    ∙ and_false ((eqb (at s (b + binding_impl)) i && sees (at s (b + binding_vis))) && may_enter s i)

pub bound_more : (s : Words) (n d : ℕ) (ws us vs : Words) → n ≤ 128 → d < n → Bound s d ws us → Enters s d (bindings s d) us vs → Bound s (d + 1) ws vs
bound_more s n d ws us vs l h b a = record {
  sets = λ x i k j. go x i k j (equal_or (x / 3) d);
  fresh = λ x i k m j. a.sets x i m j ∙ ap₂ (λ p q. p || q) (b.fresh x i (omega arith) m j) (any_none (λ c. entry s (seen us) d c x i) (bindings s d) (λ c. elsewhere s (seen us) d c x i (λ q. omega (arith, q))));
  others = λ p o. a.others p o ∙ b.others p o;
}
  where
    marks : (v : ℕ) → seen us v ≡ seen ws v
    marks = seen_same ws us (λ p k. b.others p (inl (omega arith)))

    go : (x i : ℕ) → x < 3 * (d + 1) → i < 384 → (x / 3 ≡ d) ⊎ (x / 3 ≢ d) → on vs (rows_sets + 12 * x) i ≡ any (λ c. entry s (seen ws) (x / 3) c x i) (bindings s (x / 3))
    go x i k j (inl q) =
        a.sets x i (omega arith) j
        ∙ ap₂ (λ p r. p || r) (b.fresh x i (omega arith) (omega arith) j) (any_same (λ c. entry s (seen us) d c x i) (λ c. entry s (seen ws) d c x i) (bindings s d) (λ c. entry-same s (seen us) (seen ws) d c x i marks))
        ∙ ap (λ e. any (λ c. entry s (seen ws) e c x i) (bindings s e)) (sym q)
    go x i k j (inr q) =
        a.sets x i (omega arith) j ∙ ap (λ p. on us (rows_sets + 12 * x) i || p) (any_none (λ c. entry s (seen us) d c x i) (bindings s d) (λ c. elsewhere s (seen us) d c x i q)) ∙ sym (or_false (on us (rows_sets + 12 * x) i))
        ∙ b.sets x i (omega (arith, q)) j

pub bound_done : (s : Words) (n d : ℕ) (ws us : Words) → d ≤ n → n ≤ d → Bound s d ws us → Bound s n ws us
bound_done s n d ws us h k b = subst (λ c. Bound s c ws us) (let z : d ≡ n = omega arith in z) b

pub bound_binding : (s : Words) (n d : ℕ) (ws us : Words) → length us ≡ length ws → d < n → BindingAll n s ws → Bound s d ws us → Binding d s us
bound_binding s n d ws us e h l b = record { low = omega (arith, l.few); short = l.short; fits = omega (arith, l.fits); indexes = indexes_keep s ws us l.short (λ p k. b.others p (inr k)) l.indexes }
