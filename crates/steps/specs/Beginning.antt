-- How a question begins: built-in fork and drop, then the generics' impl parameters; a basic one has neither.
use Rattle.std.specs.Prelude.{ℕ, ◌≤◌, ◌≡◌, refl, true, ◌≢◌, eqb, ltb, Ok, Err}
use Rattle.std.proofs.Common.{◌∙◌, subst, arith, ne_eqb, eqb-true}
use Rattle.std.proofs.Math.Path.{ap}
use mathlib.Core.List.{List, [], ◌∷◌, map}
use Rattle.rules.specs.Lists.{Words}
use Rattle.rules.specs.Layout.{header_generics, generics_impl_params}
use Rattle.rules.specs.Sheet.{chain, chain_of, field}
use Rattle.rules.specs.Types.{Types, ImplType}
use Rattle.rules.specs.Run.{Run, ◌>>=◌, within}
use Rattle.rules.specs.Search.{Trees, Result, add_results, impl_params, find_auto_impls, from_impl_params, before_candidates}
use Rattle.table.specs.Packing.{types_of, Packed}
use Rattle.refusals.specs.declared.Stopped.{Stopped}
use Rattle.refusals.specs.Numbers.{number_of}
use Rattle.slots.specs.declared.Results.{Results}
use Rattle.slots.specs.Slots.{slots_none}
use Rattle.slots.specs.Gathering.{Row}
use Rattle.slots.specs.Turns.{Asked, Answers, answers_refused, answers_found, answers_same, then_got, then_refused}
use Rattle.queries.specs.declared.Query.{Query}
use Rattle.queries.specs.Queries.{query_of}
use Rattle.queries.specs.Gathering.{params_from, param_of, params_of_generics}
use Rattle.steps.specs.declared.Finder.{Finder}
use Rattle.steps.specs.Asking.{finder_of, Sound, Asking, Begins, front_table, asking_table}
use Rattle.steps.specs.Built.{SmallIds, Autos}
use Rattle.steps.specs.Params.{ParamsStep, bind_done}

-- Ids of impls and closures are small in a checked call.
pub small_ids : (s : Words) (f : Finder) (ws : Words) (q : Query) → Sound (finder_of s f) → Asking ws q → SmallIds s (types_of ws)
small_ids s f ws q h a = let v = h.ready.values in record { duplicate = omega (arith, v.duplicate, v.impl_count); erase = omega (arith, v.erase, v.impl_count); closures = a.neat.slim }

pub begins_basic : (s : Words) (f : Finder) (ws : Words) (q : Query) (basic count : ℕ) → basic ≡ 1 → count ≤ 4000000000 → Begins (finder_of s f) (eqb basic 1) ws (query_of q) count (Ok (record { n = 0; count = count })) ws
unfolding before_candidates within
begins_basic s f ws q basic count e low = record {
  front = record { len = refl; at = λ i l. refl };
  at = λ L. answers_found _ (record { n = 0; count = count }) [] ws (ap (λ (b : ℕ). within (ltb L) (before_candidates (finder_of s f) (eqb b 1) (types_of ws) (query_of q)) count) e) low refl (omega arith) (slots_none ws 1282);
}

-- Another: `first` is what the built-ins answered.
abbrev built : Words → Words → Query → Run (List Result)
built s ws q = add_results [] (map (λ (t : Trees). (types_of ws, t)) (find_auto_impls s (types_of ws) (query_of q)))

module _ (s ws us : Words) (q : Query) (count : ℕ) (first : Asked) (o : Autos s ws (query_of q) count first us) where
  answered : (L : ℕ) → Answers (within (ltb L) (built s ws q) count) first us
  answered L = (o.at L).at [] refl (slots_none ws 1282)

  pub autos_asking : Asking ws q → Asking us q
  autos_asking a = asking_table ws us q a (front_table ws us o.len o.low a.packed)

  module _ (found : Results) (e : first ≡ Ok found) where
    pub autos_few : found.n ≤ 4
    autos_few = ((answered 0).found found e).few

    pub autos_low : found.count ≤ 4000000000
    autos_low = ((answered 0).found found e).low

    pub autos_row : Row us 1282 found.n
    autos_row = let g = (answered 0).found found e in record { results = g.results; size = g.size; slots = g.stand }

module _ (s : Words) (f : Finder) (ws us : Words) (q : Query) (basic count : ℕ) (first : Asked) (other : basic ≢ 1) (o : Autos s ws (query_of q) count first us) where
  abbrev params : List Result → Run (List Result)
  params fs = from_impl_params (finder_of s f) (types_of ws) (query_of q) 0 (impl_params s f.generics).1 fs

  runs : before_candidates (finder_of s f) (eqb basic 1) (types_of ws) (query_of q) ≡ (built s ws q >>= params)
  unfolding before_candidates
  runs = rw (ne_eqb basic 1 other, before_candidates)

  -- A refusal ends it.
  pub begins_refused : (k : Stopped) → first ≡ Err k → Begins (finder_of s f) (eqb basic 1) ws (query_of q) count (Err k) us
  begins_refused k e = record {
    front = record { len = o.len; at = o.low };
    at = λ L. answers_refused _ k us (ap (λ (r : Run (List Result)). within (ltb L) r count) runs ∙ then_refused (ltb L) (built s ws q) params count (number_of k.refusal) k.count ((answered s ws us q count first o L).refuses k e));
  }

  -- Else the impl parameters follow.
  pub begins_params : (found : Results) → first ≡ Ok found → Packed ws → (r : Asked) (out : Words) → ParamsStep (finder_of s f) us (query_of q) found r out → Begins (finder_of s f) (eqb basic 1) ws (query_of q) count r out
  begins_params found e p r out x = record {
    front = record { len = x.front.len ∙ o.len; at = λ i l. x.front.at i l ∙ o.low i l };
    at = λ L. let g = (answered s ws us q count first o L).found found e in
        answers_same _ (within (ltb L) (params g.results) found.count) r out
        (ap (λ (m : Run (List Result)). within (ltb L) m count) runs ∙ then_got (ltb L) (built s ws q) params count found.count g.results g.is)
        (subst (λ (ts : Types). Answers (within (ltb L) (from_impl_params (finder_of s f) ts (query_of q) 0 (impl_params s f.generics).1 g.results) found.count) r out) (front_table ws us o.len o.low p).is ((x.at L).at g.results g.size g.stand));
  }

  -- Where there are none, nothing follows.
  pub begins_plain : (impl_params s f.generics).1 ≡ [] → Begins (finder_of s f) (eqb basic 1) ws (query_of q) count first us
  unfolding from_impl_params
  begins_plain e = record {
    front = record { len = o.len; at = o.low };
    at = λ L. answers_same _ (within (ltb L) (built s ws q) count) first us
        (ap (λ (m : Run (List Result)). within (ltb L) m count) (runs ∙ ap (λ (l : List ImplType). built s ws q >>= λ fs. from_impl_params (finder_of s f) (types_of ws) (query_of q) 0 l fs) e ∙ bind_done (built s ws q)))
        (answered s ws us q count first o L);
  }

chain-none : (s : Words) → chain s 0 ≡ []
unfolding chain chain_of
chain-none [] = refl
chain-none (w ∷ s) = refl

-- Generics whose head of impl parameters is 0 have none.
pub params_none : (s : Words) (g h : ℕ) → h ≡ field s header_generics g generics_impl_params → (eqb h 0 ≡ true → (impl_params s g).1 ≡ [])
unfolding params_from
params_none s g h e t =
    let z = eqb-true h 0 t in
    params_of_generics s g h e ∙ ap (λ (i : ℕ). params_from s i) z ∙ ap (λ (ps : Words). map (param_of s) ps) (chain-none s)
