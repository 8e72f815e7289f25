-- The impl parameters of the caller's generics.
use Rattle.std.specs.Prelude.{◌∷◌, ℕ, ◌+◌, ◌*◌, ◌≤◌, ◌<◌, ◌≡◌, refl, true, [], ◌≢◌, get_or, set}
use Rattle.std.proofs.Common.{sym, ◌∙◌, ⊎_elim, eq-or-lt_of_le, arith, get_or-set_same, get_or-set_other}
use Rattle.std.proofs.Math.Path.{ap, subst}
use Rattle.std.proofs.Math.Bool.{false}
use Rattle.std.proofs.Math.Option.{none}
use Rattle.std.proofs.Math.ListN.{length, length-map}
use Rattle.rules.specs.Lists.{Words}
use Rattle.rules.specs.Layout.{header_generics, impl_param_trait, impl_param_args}
use Rattle.rules.specs.Sheet.{at, chain, field, generics_table, impl_param_records}
use Rattle.rules.specs.Types.{ImplType}
use Rattle.rules.specs.Transfer.{import_types, import_impl_type, cell_types}
use Rattle.rules.specs.Solutions.{AllIn}
use Rattle.rules.specs.Search.{Finder, impl_params}
use Rattle.rules.specs.CheckedTables.{Ready}
use Rattle.rules.specs.Yields.{every_at}
use Rattle.rules.specs.Neat.{impl_params_neat, impl_params_in}
use Rattle.queries.specs.Sizes.{generics_few}
use Rattle.queries.specs.Few.{map_at, few_params}
use Rattle.queries.specs.Takes.{ParamTakes}
use Rattle.reach.specs.Counts.{Bounds, Counts}
use Rattle.reach.specs.Steps.{Stepping, step_start, step_end, step_inside, step_here, step_on}
use Rattle.reach.specs.Impls.{Called, Generics}

never : false ≡ true → ⊥
never e = let z : ◌≡◌ {A = ℕ} 0 1 = cc in omega arith

pub called_short : (s : Words) (g : ℕ) → Called s g → length s ≤ 4096
called_short s g k = k.ready.short

-- Word 128 + k is written, for the impl parameter whose record is at p, over the table from a head.
pub record PutsParam (s : Words) (head p k : ℕ) (ws us : Words) : Type 0 where
  pub bounds : Bounds s head (at s (p + 2)) false (at us (128 + k))
  pub other : (j : ℕ) → j ≢ 128 + k → at us j ≡ at ws j

pub puts_param : (s : Words) (head p k : ℕ) (ws : Words) (args n : ℕ) → 128 + k < length ws → args ≡ at s (p + 2) → Counts s head args false n → PutsParam s head p k ws (set ws (128 + k) n)
puts_param s head p k ws args n l ea c = record {
  bounds = subst (Bounds s head (at s (p + 2)) false) (sym (get_or-set_same ws (128 + k) n 0 l)) (subst (λ a. Bounds s head a false n) ea c.bounds);
  other = λ j d. get_or-set_other ws (128 + k) j n 0 d;
}

-- Those of all impl parameters of a chain are.
pub record PutsParams (s : Words) (head first : ℕ) (ws us : Words) : Type 0 where
  pub each : (k : ℕ) → k < length (chain s first) → Bounds s head (at s (at (chain s first) k + 2)) false (at us (128 + k))
  pub low : (j : ℕ) → j < 128 → at us j ≡ at ws j

-- Those of the first k are, and the records at ps are left.
pub record Adding (s : Words) (head first : ℕ) (ws us : Words) (k : ℕ) (ps : Words) : Type 0 where
  pub steps : Stepping s first k ps
  pub done : (j : ℕ) → j < k → Bounds s head (at s (at (chain s first) j + 2)) false (at us (128 + j))
  pub low : (j : ℕ) → j < 128 → at us j ≡ at ws j

pub adding_start : (s : Words) (head first n : ℕ) (ws ps : Words) → n ≡ 0 → ps ≡ chain s first → Adding s head first ws ws n ps
adding_start s head first n ws ps en e = subst (λ x. Adding s head first ws ws x ps) (sym en) record { steps = step_start s first ps e; done = λ j h. absurd (omega arith); low = λ j h. refl }

module _ (s : Words) (head first : ℕ) (ws us : Words) (k : ℕ) (ps : Words) (t : Adding s head first ws us k ps) where
  pub adding_end : ps ≡ [] → PutsParams s head first ws us
  adding_end e = record { each = λ j h. t.done j (omega (arith, step_end s first k ps t.steps e)); low = t.low }

  module _ (p : ℕ) (qs : Words) (e : ps ≡ p ∷ qs) where
    pub adding_index : (j : ℕ) → j ≡ k → length (chain s first) ≤ 4 → 132 ≤ length ws → length us ≡ length ws → 128 + j < length us
    adding_index j o h m q = omega (arith, step_inside s first k ps t.steps p qs e)

    adding_next : (vs : Words) → PutsParam s head p k us vs → Adding s head first ws vs (k + 1) qs
    adding_next vs w = record {
      steps = step_on s first k ps t.steps p qs e;
      done = λ j h. ⊎_elim
          (λ q. subst (λ x. Bounds s head (at s (at (chain s first) x + 2)) false (at vs (128 + x))) (sym q) (subst (λ x. Bounds s head (at s (x + 2)) false (at vs (128 + k))) (step_here s first k ps t.steps p qs e) w.bounds))
          (λ q. subst (Bounds s head (at s (at (chain s first) j + 2)) false) (sym (w.other (128 + j) (λ o. absurd (omega arith)))) (t.done j q))
          (eq-or-lt_of_le (let o : j ≤ k = omega arith in o));
      low = λ j h. w.other j (λ o. absurd (omega arith)) ∙ t.low j h;
    }

    pub adding_on : (vs : Words) (j n : ℕ) → j ≡ k → n ≡ k + 1 → PutsParam s head p j us vs → Adding s head first ws vs n qs
    adding_on vs j n ej en w = subst (λ x. Adding s head first ws vs x qs) (sym en) (adding_next vs (subst (λ x. PutsParam s head p x us vs) ej w))

-- The words of the impl parameters of generics g.
pub record ParamsPut (s : Words) (g : ℕ) (ws us : Words) : Type 0 where
  pub each : (k : ℕ) → k < length (impl_params s g).1 → ParamTakes s g (get_or (impl_params s g).1 k (0, [])) (at us (128 + k))
  pub low : (j : ℕ) → j < 128 → at us j ≡ at ws j

module _ (s : Words) (g : ℕ) (c : Called s g) (gs : Words) (a : Generics s gs) (p : ℕ) (ep : p ≡ at gs g) where
  abbrev finder : Finder
  finder = record { sheet = s; source = c.source; generics = g }

  abbrev ready : Ready finder c.question
  ready = c.ready

  word : (n : ℕ) → at s (p + n) ≡ field s header_generics g n
  unfolding field
  word n = ap (λ x. at s (x + n)) (ep ∙ a.place g ready.generics)

  module _ (head : ℕ) (eh : head ≡ at s (p + 2)) where
    pub params_few : 5 * length (chain s head) ≤ length s
    params_few = subst (λ h. 5 * length (chain s h) ≤ length s) (sym (eh ∙ word 2)) (generics_few s ready.chains g ready.generics)

    module _ (first : ℕ) (ef : first ≡ at s (p + 3)) where
      its_records : chain s first ≡ impl_param_records s g
      unfolding impl_param_records
      its_records = ap (chain s) (ef ∙ word 3)

      its_many : length (impl_params s g).1 ≡ length (chain s first)
      unfolding impl_params
      its_many = length-map (impl_param_records s g) (λ x. (at s (x + impl_param_trait), cell_types s (at s (x + impl_param_args)))) ∙ ap (λ (l : Words). length l) (sym its_records)

      pub params_short : length (chain s first) ≤ 4
      params_short = omega (arith, its_many, (few_params finder c.question ready g ready.generics).many)

      its_args : (k : ℕ) → k < length (chain s first) → (get_or (impl_params s g).1 k (0, [])).1 ≡ cell_types s (at s (at (chain s first) k + 2))
      unfolding impl_params
      its_args k h =
          ap (λ (q : ImplType). q.1) (map_at (λ x. (at s (x + impl_param_trait), cell_types s (at s (x + impl_param_args)))) (0, []) (impl_param_records s g) k (subst (λ (l : Words). k < length l) its_records h))
          ∙ ap (λ (l : Words). cell_types s (at s (at l k + 2))) (sym its_records)

      takes : (k n : ℕ) → k < length (chain s first) → Bounds s head (at s (at (chain s first) k + 2)) false n → ParamTakes s g (get_or (impl_params s g).1 k (0, [])) n
      unfolding import_impl_type impl_params generics_table
      takes k n h b =
          let d : Bounds s (generics_table s g) (at s (at (chain s first) k + 2)) false n = subst (λ x. Bounds s x (at s (at (chain s first) k + 2)) false n) (eh ∙ word 2) b in
          let o : AllIn (length (impl_params s g).0) (get_or (impl_params s g).1 k (0, [])).1 = every_at (λ (q : ImplType). AllIn (length (impl_params s g).0) q.1) (impl_params s g).1 k (0, []) (impl_params_in finder c.question ready g ready.generics) tt in
          let m = d (impl_params_neat finder c.question ready g ready.generics).proper.formed (subst (AllIn (length (impl_params s g).0)) (its_args k h) o) in
          record { most = λ us. omega (arith, m.most none (λ e. absurd (never e)) us, ap (λ ts. length (import_types (impl_params s g).0 none ts us).1) (its_args k h)) }

      pub params-put : (ws us : Words) → PutsParams s head first ws us → ParamsPut s g ws us
      params-put ws us w = record { each = λ k h. let l : k < length (chain s first) = omega (arith, its_many) in takes k (at us (128 + k)) l (w.each k l); low = w.low }
