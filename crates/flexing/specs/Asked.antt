-- What a flex call has behind its checks, and each of its four questions: the exported type, asked of a trait.
use Rattle.std.specs.Prelude.{ℕ, ◌/◌, ◌≤◌, ◌<◌, ◌≡◌, refl, Bool, true, ltb, length}
use Rattle.std.proofs.Math.Path.{sym, ap, subst}
use Rattle.std.proofs.Common.{◌∙◌, arith}
use Rattle.std.proofs.Math.Bool.{false}
use mathlib.Core.List.{List, [], ◌∷◌, map}
use Rattle.std.proofs.Math.Option.{none}
use Rattle.rules.specs.Lists.{Words}
use Rattle.rules.specs.Limits.{limit_sheet, limit_question, limit_count, limit_depth}
use Rattle.rules.specs.Layout.{header_fork, header_drop, question_type}
use Rattle.rules.specs.Sheet.{at}
use Rattle.rules.specs.Types.{Ty, Types, ImplType, invert_if}
use Rattle.rules.specs.Robinson.{flip_in}
use Rattle.rules.specs.Solutions.{AllIn}
use Rattle.rules.specs.Transfer.{type_of_word, export_types}
use Rattle.rules.specs.Run.{Run, within}
use Rattle.rules.specs.Search.{Result, question}
use Rattle.rules.specs.Search as rules
use Rattle.rules.specs.Neat.{Neat}
use Rattle.rules.specs.Check.{refusal, flex_checks}
use Rattle.rules.specs.Calls.{question_types, flex_searches}
use Rattle.table.specs.Packing.{types_of, Becomes}
use Rattle.slots.specs.Turns.{Asked, Answers, answers_same}
use Rattle.queries.specs.declared.Query.{Query}
use Rattle.queries.specs.Queries.{query_of}
use Rattle.steps.specs.declared.Finder.{Finder}
use Rattle.steps.specs.Asking.{finder_of, Searching, Asking}
use Rattle.loading.specs.Nodes.{Fitting}
use Rattle.loading.specs.Exports.{Reads, ExportsType}
use Rattle.loading.specs.Checked.{flex_fitting, flex_inside}

-- The call has passed its checks, the sets of its source stand, and its step limit is no higher than a count may be.
pub record Flexing (s sets q : Words) (f : Finder) : Type 0 where
  pub searching : Searching s sets f
  pub passed : refusal (flex_checks (finder_of s f) q) ≡ none
  pub sheet_short : length s ≤ limit_sheet
  pub short : length q ≤ limit_question
  pub low : f.limit ≤ limit_count

-- The type that is asked, exported, and its table.
unfoldable pub exported : Words → List Ty × Types
exported q = export_types (question_types q) (type_of_word (at q question_type) ∷ [])

-- One of the four questions.
unfoldable pub flex_question : rules.Finder → Words → ℕ → Bool → Run (List Result)
flex_question a q h inv = question limit_depth a false (exported q).1 (at a.sheet h, map (invert_if inv) (exported q).0)

pub the_searches : (a : rules.Finder) (q : Words) → flex_searches a q ≡ flex_question a q header_fork false ∷ flex_question a q header_drop false ∷ flex_question a q header_fork true ∷ flex_question a q header_drop true ∷ []
unfolding flex_searches flex_question exported
the_searches a q = refl

-- What the checks give.
module _ (s sets q : Words) (f : Finder) (k : Flexing s sets q f) where
  pub flexing_fitting : Fitting (question_types q)
  flexing_fitting = flex_fitting (finder_of s f) q k.passed k.sheet_short k.short

  pub flexing_inside : at q question_type / 2 < length (question_types q)
  flexing_inside = flex_inside (finder_of s f) q k.passed k.sheet_short k.short

-- The question's table is loaded: what its export asks for, and gives.
module _ (q us : Words) (b : Becomes us (question_types q)) where
  pub loaded_neat : Fitting (question_types q) → Neat (types_of us)
  loaded_neat f = subst Neat (sym b.is) f.neat

  pub loaded_inside : (t : ℕ) → t ≡ at q 1 → at q question_type / 2 < length (question_types q) → t / 2 < length (types_of us)
  loaded_inside t e h = omega (arith, ap (λ (ts : Types). length ts) b.is, h)

-- It is exported, and asked.
module _ (q ws : Words) (e : ℕ) (x : ExportsType (question_types q) (at q question_type) ws e) where
  pub export_small : e < 512
  export_small = x.small

  module _ (tr : ℕ) (inv : Bool) (r : Query) (k : Reads (tr, invert_if inv (type_of_word e) ∷ []) r) where
    pub export_asking : Asking ws r
    unfolding type_of_word
    export_asking = record {
      packed = x.packed;
      neat = x.neat;
      inside = subst (λ (i : ImplType). AllIn (length (types_of ws)) i.1) (sym k.is) (flip_in inv (length (types_of ws)) (type_of_word e ∷ []) (x.inside, tt));
      few = k.few;
    }

    pub export_asked : (s : Words) (f : Finder) (h count : ℕ) (a : Asked) (out : Words) → tr ≡ at s h → Answers (within (ltb f.limit) (question 16 (finder_of s f) false (types_of ws) (query_of r)) count) a out → Answers (within (ltb f.limit) (flex_question (finder_of s f) q h inv) count) a out
    unfolding flex_question exported
    export_asked s f h count a out et w = answers_same _ _ a out (ap (λ (o : Run (List Result)). within (ltb f.limit) o count) same) w
      where
        same : flex_question (finder_of s f) q h inv ≡ question 16 (finder_of s f) false (types_of ws) (query_of r)
        same = ap (λ (o : List Ty × Types). question 16 (finder_of s f) false o.1 (at s h, map (invert_if inv) o.0)) x.is
            ∙ ap (λ (i : ImplType). question 16 (finder_of s f) false (types_of ws) i) (ap {B = ImplType} (λ t. (t, invert_if inv (type_of_word e) ∷ [])) (sym et) ∙ sym k.is)
