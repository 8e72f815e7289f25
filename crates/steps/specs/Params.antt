-- The generics' impl parameters, one after another: `from_impl_params` of the rules, and what the code leaves.
use Rattle.std.specs.Prelude.{ℕ, zero, suc, ◌+◌, ◌≤◌, ◌<◌, ◌≡◌, Bool, true, false, ◌≢◌, ltb, drop, Ok, Err}
use Rattle.std.specs.Prelude.{Result as Outcome}
use Rattle.std.proofs.Math.Path.{refl, ap, subst}
use Rattle.std.proofs.Common.{sym, ◌∙◌, add-one, get_or-drop}
use mathlib.Core.List.{List, [], ◌∷◌}
use native.Mathlib.Omega.{arith}
use borrow.Author.Tests.{lt-ltb, le-ltb}
use Rattle.std.proofs.Math.ListN.{length, get_or}
use Rattle.rules.specs.Lists.{Words}
use Rattle.rules.specs.Limits.{limit_nodes}
use Rattle.rules.specs.Layout.{tree_param}
use Rattle.rules.specs.Sheet.{at}
use Rattle.rules.specs.Types.{Ty, Types, UnifyResult, success, failure, indeterminate, Unified, ImplType, unify_impl_type, approx_eq}
use Rattle.rules.specs.Run.{Run, done, stop, asks, ◌>>=◌, refused, within}
use Rattle.rules.specs.Search.{leaf, Result, add_results, check_nodes, impl_params, from_impl_params}
use Rattle.rules.specs.Search as rules
use Rattle.rules.specs.Solutions.{AllIn}
use Rattle.rules.specs.Yields.{Every}
use Rattle.rules.specs.Neat.{QueriesIn, impl_params_in}
use Rattle.table.specs.Packing.{types_of, Packed}
use Rattle.table.specs.Nodes.{up_to_at}
use Rattle.refusals.specs.declared.Refusal.{Refusal}
use Rattle.refusals.specs.Numbers.{number_of}
use Rattle.refusals.specs.declared.Stopped.{Stopped}
use Rattle.slots.specs.declared.Results.{Results}
use Rattle.slots.specs.Slots.{slot_length, Slots, slots_kept}
use Rattle.slots.specs.Gathering.{Row}
use Rattle.slots.specs.Turns.{Asked, answers_refused, answers_found, answers_same, bind_assoc, Stepped}
use Rattle.queries.specs.declared.Query.{Query}
use Rattle.queries.specs.declared.Queries.{Queries}
use Rattle.queries.specs.Queries.{query_of, query_in, queries_of, queries_length, queries_next, queries_none}
use Rattle.queries.specs.Few.{Few, few_params}
use Rattle.queries.specs.Gathering.{WithinFour}
use Rattle.queries.specs.Takes.{ParamTakes, Taken}
use Rattle.clash.specs.Params.{ParamClashes}
use Rattle.steps.specs.declared.Finder.{Finder}
use Rattle.steps.specs.Asking.{finder_of, takes_of, Sound, Asking, Front, front_table, asking_table}
use Rattle.steps.specs.Loops.{Stepping, stepping_start, stepping_few, stepping_low, stepping_same, stepping_end, stepping_on, stepping_refused}
use Rattle.steps.specs.Built.{LeafStep}
use Rattle.steps.specs.Behind.{brought, Behind, ParamIn}

pub bind_done : {A : Type 0} (m : Run A) → (m >>= λ a. done a) ≡ m
unfolding ◌>>=◌
bind_done (done a) = refl
bind_done (stop n) = refl
bind_done (asks r) = ap asks (bind_done r)

module _ (a : rules.Finder) (ts : Types) (q : ImplType) where
  abbrev met_with : ImplType → Unified
  met_with p = unify_impl_type a.sheet (brought a ts p).1 (brought a ts p).0 q

  -- One impl parameter alone: it is of another trait,
  one_other : (k : ℕ) (p : ImplType) (fs : List Result) → approx_eq q p ≡ false → from_impl_params a ts q k (p ∷ []) fs ≡ done fs
  unfolding from_impl_params
  one_other k p fs e = rw (e, from_impl_params)

  -- or it is imported and met with the question.
  module _ (k : ℕ) (p : ImplType) (fs : List Result) (e : approx_eq q p ≡ true) where
    one_full : limit_nodes < length (brought a ts p).1 → from_impl_params a ts q k (p ∷ []) fs ≡ stop 14
    unfolding from_impl_params check_nodes
    one_full h = rw (e, lt-ltb limit_nodes (length (brought a ts p).1) h, from_impl_params, check_nodes)

    module _ (h : length (brought a ts p).1 ≤ limit_nodes) where
      one-failed : (met_with p).0 ≢ success → from_impl_params a ts q k (p ∷ []) fs ≡ done fs
      unfolding from_impl_params check_nodes
      one-failed n = go (met_with p).0 refl
        where
          go : (v : UnifyResult) → (met_with p).0 ≡ v → from_impl_params a ts q k (p ∷ []) fs ≡ done fs
          go success x = absurd (n x)
          go failure x = rw (e, le-ltb limit_nodes (length (brought a ts p).1) h, x, from_impl_params, check_nodes)
          go indeterminate x = rw (e, le-ltb limit_nodes (length (brought a ts p).1) h, x, from_impl_params, check_nodes)

      one-met : (met_with p).0 ≡ success → from_impl_params a ts q k (p ∷ []) fs ≡ add_results fs (((met_with p).1, leaf tree_param k) ∷ [])
      unfolding from_impl_params check_nodes
      one-met x = rw (e, le-ltb limit_nodes (length (brought a ts p).1) h, x, from_impl_params, check_nodes) (bind_done (add_results fs (((met_with p).1, leaf tree_param k) ∷ [])))

  -- One before others.
  params_next : (k : ℕ) (p : ImplType) (ps : List ImplType) (fs : List Result) → from_impl_params a ts q k (p ∷ ps) fs ≡ (from_impl_params a ts q k (p ∷ []) fs >>= λ gs. from_impl_params a ts q (k + 1) ps gs)
  unfolding from_impl_params check_nodes ◌>>=◌
  params_next k p ps fs = go (approx_eq q p) refl (ltb limit_nodes (length (brought a ts p).1)) refl (met_with p).0 refl
    where
      on : (gs : List Result) → from_impl_params a ts q (suc k) ps gs ≡ from_impl_params a ts q (k + 1) ps gs
      on gs = ap (λ m. from_impl_params a ts q m ps gs) (sym (add-one k))

      go : (b : Bool) → approx_eq q p ≡ b → (c : Bool) → ltb limit_nodes (length (brought a ts p).1) ≡ c → (v : UnifyResult) → (met_with p).0 ≡ v → from_impl_params a ts q k (p ∷ ps) fs ≡ (from_impl_params a ts q k (p ∷ []) fs >>= λ gs. from_impl_params a ts q (k + 1) ps gs)
      go false e c d v x = rw (e, from_impl_params) (on fs)
      go true e true d v x = rw (e, d, from_impl_params, check_nodes)
      go true e false d failure x = rw (e, d, x, from_impl_params, check_nodes) (on fs)
      go true e false d indeterminate x = rw (e, d, x, from_impl_params, check_nodes) (on fs)
      go true e false d success x =
          rw (e, d, x, from_impl_params, check_nodes)
          (ap (λ m. add_results fs (((met_with p).1, leaf tree_param k) ∷ []) >>= λ gs. from_impl_params a ts q m ps gs) (sym (add-one k))
          ∙ sym (bind_assoc (add_results fs (((met_with p).1, leaf tree_param k) ∷ [])) (λ gs. done gs) (λ gs. from_impl_params a ts q (k + 1) ps gs)))

-- The word that was read is what the impl parameter takes.
pub param_read : (s sets : Words) (g k n : ℕ) (p : ImplType) → ParamTakes s g p (at sets (35076 + k)) → n ≡ at sets (35076 + k) → ParamTakes s g p n
param_read s sets g k n p h e = subst (ParamTakes s g p) (sym e) h

-- Impl parameter k is looked at, and added behind those found where it unifies with the question.
pub record ParamStep (a : rules.Finder) (ws : Words) (q p : ImplType) (k : ℕ) (found : Results) (r : Asked) (out : Words) : Type 0 where
  pub front : Front ws out
  pub at : (L : ℕ) → Stepped L (λ fs. from_impl_params a (types_of ws) q k (p ∷ []) fs) found.n found.count ws r out

module _ (s ws : Words) (f : Finder) (q p : Query) (k : ℕ) (found : Results) where
  -- By the traits.
  module _ (same : Bool) (is : (xs ys : List Ty) → same ≡ approx_eq (q.tr, xs) (p.tr, ys)) where
    here : same ≡ approx_eq (query_of q) (query_of p)
    unfolding query_of
    here = is _ _

    pub param-same : same ≡ true → approx_eq (query_of q) (query_of p) ≡ true
    param-same e = sym here ∙ e

    pub param_other : same ≡ false → found.n ≤ 4 → found.count ≤ 4000000000 → ParamStep (finder_of s f) ws (query_of q) (query_of p) k found (Ok found) ws
    unfolding within
    param_other e few low = record {
      front = record { len = refl; at = λ i l. refl };
      at = λ L. record { at = λ fs z t. answers_found _ found fs ws (ap (λ (r : Run (List Result)). within (ltb L) r found.count) (one_other (finder_of s f) (types_of ws) (query_of q) k (query_of p) fs (sym here ∙ e))) low z few t };
    }

  -- One that clashes with the question is not opened: nothing changes.
  pub met_clash : (r : Bool) → approx_eq (query_of q) (query_of p) ≡ true → ParamClashes s f.generics (types_of ws) (query_of p) (query_of q) r → r ≡ true → found.n ≤ 4 → found.count ≤ 4000000000 → ParamStep (finder_of s f) ws (query_of q) (query_of p) k found (Ok found) ws
  unfolding within
  met_clash r e c x few low = record {
    front = record { len = refl; at = λ i l. refl };
    at = λ L. record { at = λ fs z t. answers_found _ found fs ws (ap (λ (y : Run (List Result)). within (ltb L) y found.count) (one-failed (finder_of s f) (types_of ws) (query_of q) k (query_of p) fs e (c.room x) (c.unfit x))) low z few t };
  }

  -- By what they come to.
  module _ (us : Words) (m : Outcome Bool Refusal) (e : approx_eq (query_of q) (query_of p) ≡ true) (b : Behind s ws (brought (finder_of s f) (types_of ws) (query_of p)) (query_of q) m us) where
    frame : Front ws us
    frame = record { len = b.opened.len; at = λ i l. b.opened.at i (omega arith) }

    still : found.n ≤ 4 → (fs : List Result) → length fs ≡ found.n → Slots ws slot_length fs → Slots us slot_length fs
    still few fs z t = slots_kept ws us slot_length fs b.opened.len (λ i l h. b.opened.at i (omega arith)) t

    pub met_full : (refusal : Refusal) → m ≡ Err refusal → ParamStep (finder_of s f) ws (query_of q) (query_of p) k found (Err (record { refusal = refusal; count = found.count })) us
    unfolding within
    met_full refusal x = let g = b.meets.full refusal x in record {
      front = frame;
      at = λ L. record { at = λ fs z t. answers_refused _ (record { refusal = refusal; count = found.count }) us (ap (λ (r : Run (List Result)). within (ltb L) r found.count) (one_full (finder_of s f) (types_of ws) (query_of q) k (query_of p) fs e g.1) ∙ ap (λ (y : Refusal). (refused (number_of y), found.count)) (sym g.0)) };
    }

    pub met_unfit : m ≡ Ok false → found.n ≤ 4 → found.count ≤ 4000000000 → ParamStep (finder_of s f) ws (query_of q) (query_of p) k found (Ok found) us
    unfolding within
    met_unfit x few low = let g = b.meets.unfit x in record {
      front = frame;
      at = λ L. record {
        at = λ fs z t. answers_found _ found fs us (ap (λ (r : Run (List Result)). within (ltb L) r found.count) (one-failed (finder_of s f) (types_of ws) (query_of q) k (query_of p) fs e g.room g.failed)) low z few (still few fs z t);
      };
    }

    pub met_packed : Packed (drop 6410 us)
    met_packed = b.meets.packed

    pub met_fits : m ≡ Ok true → found.n ≤ 4 → (r : Asked) (out : Words) → LeafStep us found 6410 1 k r out → ParamStep (finder_of s f) ws (query_of q) (query_of p) k found r out
    met_fits x few r out l = let g = b.meets.fits x in record {
      front = record { len = l.len ∙ b.opened.len; at = λ i h. l.low i h ∙ b.opened.at i (omega arith) };
      at = λ L. record {
        at = λ fs z t.
            answers_same _ (within (ltb L) (add_results fs ((types_of (drop 6410 us), leaf tree_param k) ∷ [])) found.count) r out
            (ap (λ (y : Run (List Result)). within (ltb L) y found.count) (one-met (finder_of s f) (types_of ws) (query_of q) k (query_of p) fs e g.room g.met ∙ ap (λ (ts : Types). add_results fs ((ts, leaf tree_param k) ∷ [])) (sym g.types)))
            ((l.at L).at fs z (still few fs z t));
      };
    }

-- All of them.
pub record ParamsStep (a : rules.Finder) (ws : Words) (q : ImplType) (found : Results) (r : Asked) (out : Words) : Type 0 where
  pub front : Front ws out
  pub at : (L : ℕ) → Stepped L (λ fs. from_impl_params a (types_of ws) q 0 (impl_params a.sheet a.generics).1 fs) found.n found.count ws r out

-- k of them are done: found₀ stood at first.
pub record ParamsDone (s : Words) (f : Finder) (q : Query) (ps : Queries) (found₀ : Results) (ws₀ ws : Words) (k : ℕ) (found : Results) : Type 0 where
  pub front : Front ws₀ ws
  pub asking : Asking ws q
  pub few : found.n ≤ 4
  pub low : found.count ≤ 4000000000
  pub going : (L : ℕ) → Stepping L (λ fs. from_impl_params (finder_of s f) (types_of ws₀) (query_of q) 0 (queries_of ps) fs) (λ fs. from_impl_params (finder_of s f) (types_of ws₀) (query_of q) k (drop k (queries_of ps)) fs) found₀.n found₀.count ws₀ found.n found.count ws

pub params_few : (s : Words) (f : Finder) → Sound (finder_of s f) → Few (impl_params s f.generics).1
params_few s f h = few_params (finder_of s f) h.question h.ready f.generics h.ready.generics

pub adding_start : (s : Words) (f : Finder) (q : Query) (ps : Queries) (found : Results) (ws : Words) → Asking ws q → Row ws 1282 found.n → found.n ≤ 4 → found.count ≤ 4000000000 → ParamsDone s f q ps found ws ws 0 found
adding_start s f q ps found ws a row few low = record {
  front = record { len = refl; at = λ i l. refl };
  asking = a;
  few = few;
  low = low;
  going = λ L. stepping_start L _ found.n found.count ws ws row few low (λ fs z t. t);
}

-- The one at k.
module _ (s : Words) (f : Finder) (ps : Queries) (k : ℕ) (p : Query) (sound : Sound (finder_of s f)) (is : queries_of ps ≡ (impl_params s f.generics).1) (within-four : WithinFour ps) (more : k < ps.n) (this : p ≡ query_in ps k) where
  every_get : (P : ImplType → Type 0) (xs : List ImplType) (j : ℕ) (d : ImplType) → Every P xs → j < length xs → P (get_or xs j d)
  every_get P [] j d h l = absurd (omega arith)
  every_get P (x ∷ xs) zero d h l = h.0
  every_get P (x ∷ xs) (suc j) d h l = every_get P xs j d h.1 (omega arith)

  place : get_or (queries_of ps) k (0, []) ≡ query_of p
  unfolding queries_of
  place = up_to_at (λ j. query_of (query_in ps j)) ps.n k (0, []) more ∙ ap query_of (sym this)

  pub param_in : ParamIn (finder_of s f) p
  param_in = record {
    few = subst (λ (x : Query). x.n ≤ 4) (sym this) (within-four.each k (omega (arith, within-four.many)));
    inside = subst (λ (x : ImplType). AllIn (length (impl_params s f.generics).0) x.1) place
        (every_get (λ (x : ImplType). AllIn (length (impl_params s f.generics).0) x.1) (queries_of ps) k (0, [])
        (subst (λ (xs : List ImplType). QueriesIn (length (impl_params s f.generics).0) xs) (sym is) (impl_params_in (finder_of s f) sound.question sound.ready f.generics sound.ready.generics))
        (omega (arith, queries_length ps)));
  }

  -- Its word, behind the candidate sets.
  pub param_takes : (sets : Words) → Taken s f.generics (takes_of sets) → ParamTakes s f.generics (query_of p) (at sets (35076 + k))
  unfolding takes_of
  param_takes sets t =
      subst (λ (x : ImplType). ParamTakes s f.generics x (at sets (35076 + k))) (ap (λ (xs : List ImplType). get_or xs k (0, [])) (sym is) ∙ place)
      (subst (ParamTakes s f.generics (get_or (impl_params s f.generics).1 k (0, [])))
      (get_or-drop 34948 sets (128 + k) 0 ∙ ap (at sets) (let z : 34948 + (128 + k) ≡ 35076 + k = omega arith in z))
      (t.params k (omega (arith, queries_length ps, ap length is))))

-- A turn of the loop, and its end.
module _ (s : Words) (f : Finder) (q : Query) (ps : Queries) (found₀ : Results) (ws₀ ws : Words) (k : ℕ) (found : Results) (packed : Packed ws₀) (g : ParamsDone s f q ps found₀ ws₀ ws k found) where
  abbrev whole : List Result → Run (List Result)
  whole fs = from_impl_params (finder_of s f) (types_of ws₀) (query_of q) 0 (queries_of ps) fs

  module _ (p : Query) (more : k < ps.n) (this : p ≡ query_in ps k) (r : Asked) (out : Words) (o : ParamStep (finder_of s f) ws (query_of q) (query_of p) k found r out) where
    abbrev turns : List Result → Run (List Result)
    turns fs = from_impl_params (finder_of s f) (types_of ws₀) (query_of q) k (query_of p ∷ []) fs

    abbrev rest : List Result → Run (List Result)
    rest fs = from_impl_params (finder_of s f) (types_of ws₀) (query_of q) (k + 1) (drop (k + 1) (queries_of ps)) fs

    one : (L : ℕ) → Stepped L turns found.n found.count ws r out
    one L = subst (λ (ts : Types). Stepped L (λ fs. from_impl_params (finder_of s f) ts (query_of q) k (query_of p ∷ []) fs) found.n found.count ws r out) (front_table ws₀ ws g.front.len g.front.at packed).is (o.at L)

    split : drop k (queries_of ps) ≡ query_of p ∷ drop (k + 1) (queries_of ps)
    split = queries_next ps k more ∙ ap (λ (x : Query). query_of x ∷ drop (k + 1) (queries_of ps)) (sym this)

    going : (L : ℕ) → Stepping L whole (λ fs. turns fs >>= rest) found₀.n found₀.count ws₀ found.n found.count ws
    going L = stepping_same L whole found₀.n found₀.count ws₀ _ found.n found.count ws (g.going L) (λ fs. turns fs >>= rest)
        (λ fs. ap (λ (l : List ImplType). from_impl_params (finder_of s f) (types_of ws₀) (query_of q) k l fs) split ∙ params_next (finder_of s f) (types_of ws₀) (query_of q) k (query_of p) (drop (k + 1) (queries_of ps)) fs)

    frame_on : Front ws₀ out
    frame_on = record { len = o.front.len ∙ g.front.len; at = λ i l. o.front.at i l ∙ g.front.at i l }

    pub adding_on : (h : Results) → r ≡ Ok h → ParamsDone s f q ps found₀ ws₀ out (k + 1) h
    adding_on h e =
        let on : (L : ℕ) → Stepping L whole rest found₀.n found₀.count ws₀ h.n h.count out = λ L. stepping_on L whole found₀.n found₀.count ws₀ turns rest found.n found.count ws (going L) r out (one L) h e in
        record {
          front = frame_on;
          asking = asking_table ws out q g.asking (front_table ws out o.front.len o.front.at g.asking.packed);
          few = stepping_few 0 whole found₀.n found₀.count ws₀ rest h.n h.count out (on 0);
          low = stepping_low 0 whole found₀.n found₀.count ws₀ rest h.n h.count out (on 0);
          going = on;
        }

    pub adding_refused : (h : Stopped) → r ≡ Err h → queries_of ps ≡ (impl_params s f.generics).1 → ParamsStep (finder_of s f) ws₀ (query_of q) found₀ (Err h) out
    adding_refused h e is = record {
      front = frame_on;
      at = λ L. subst (λ (l : List ImplType). Stepped L (λ fs. from_impl_params (finder_of s f) (types_of ws₀) (query_of q) 0 l fs) found₀.n found₀.count ws₀ (Err h) out) is (stepping_refused L whole found₀.n found₀.count ws₀ turns rest found.n found.count ws (going L) r out (one L) h e);
    }

  pub adding_end : ps.n ≤ k → queries_of ps ≡ (impl_params s f.generics).1 → ParamsStep (finder_of s f) ws₀ (query_of q) found₀ (Ok found) ws
  unfolding from_impl_params
  adding_end h is = record {
    front = g.front;
    at = λ L. subst (λ (l : List ImplType). Stepped L (λ fs. from_impl_params (finder_of s f) (types_of ws₀) (query_of q) 0 l fs) found₀.n found₀.count ws₀ (Ok found) ws) is
        (stepping_end L whole found₀.n found₀.count ws₀ _ found.n found.count ws (g.going L) (λ fs. ap (λ (l : List ImplType). from_impl_params (finder_of s f) (types_of ws₀) (query_of q) k l fs) (queries_none ps k h)));
  }
