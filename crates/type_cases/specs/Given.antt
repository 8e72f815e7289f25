-- Parameters that are given or not.
use Rattle.std.specs.Prelude.{◌≡◌, ℕ, Bool, true, false, Option, Some, None, refl, []}
use Rattle.std.proofs.Common.{Bor, subst}
use Rattle.rules.specs.Lists.{Words}
use Rattle.rules.specs.Transfer.{import_types}
use Rattle.table.specs.Packing.{types_of}
use Rattle.transfer.specs.Moving.{params_of}
use Rattle.transfer.specs.Outcomes.{params_in, GivenWords}
use Rattle.transfer.specs.Imports.{types_in, Imports}
use Rattle.type_cases.specs.Sound.{Sound, Fitting, Loaded}
use Rattle.type_cases.specs.Steps.{fitting_words, sound_import}

-- Whether they are given, and which.
abbrev pub given : Option (Bor Words) → Bool
given None = false
given (Some ps) = true

abbrev pub words_in : Option (Bor Words) → Words
words_in None = []
words_in (Some ps) = ps.now

-- What a test of them says.
abbrev pub FittingIn : Option (Bor Words) → Words → Bool → Type 0
FittingIn ps ds r = Fitting (given ps) (words_in ps) ds r

pub fitting_given : (ps : Option (Bor Words)) (ds : Words) → FittingIn ps ds true → GivenWords ps
fitting_given None ds f = tt
fitting_given (Some ps) ds f = fitting_words true ps.now ds f

params_given : (ps : Option (Bor Words)) → params_in ps ≡ params_of (given ps) (words_in ps)
params_given None = refl
params_given (Some ps) = refl

-- Moves from table ws, as `sound_import`.
pub sound_given : (ws ts ds us vs : Words) (m : ℕ) (ps : Option (Bor Words)) (r : Bool) → Sound ws → Loaded ws m ts true → Sound ds → FittingIn ps ds true → r ≡ true → Imports (import_types (types_of ws) (params_in ps) (types_in m ts) (types_of ds)) us ts vs m r → Sound us
sound_given ws ts ds us vs m ps r g l k f e i = sound_import ws ts m g l ds us (words_in ps) vs (given ps) r k f e (subst (λ qs. Imports (import_types (types_of ws) qs (types_in m ts) (types_of ds)) us ts vs m r) (params_given ps) i)
