-- What a Param stands for, by whether parameters are given.
use Rattle.std.proofs.Common.{ℕ, ◌≡◌, ◌≢◌, ◌+◌, ◌/◌, Bool, true, false, [], refl, sym, subst, Bor, Option, Some, None}
use Rattle.rules.specs.Lists.{Words}
use Rattle.rules.specs.Sheet.{at}
use Rattle.rules.specs.Types.{Types, invert_if}
use Rattle.rules.specs.Transfer.{type_of_word}
use Rattle.rules.specs.Answer.{word_of_type}
use Rattle.table.specs.Packing.{kind_at, inverted_at, id_at, TypeWords}
use Rattle.transfer.specs.Moving.{Param}
use Rattle.transfer.specs.Leaves.{param_not, param_other, param_is}
use Rattle.transfer.specs.Outcomes.{params_in}

module _ (src : Types) (o : Option (Bor Words)) (r : ℕ) where
  pub param_absent : o ≡ None → Param src (params_in o) r 0
  param_absent e = subst (λ x. Param src (params_in x) r 0) (sym e) (param_not src false [] r refl)

  module _ (ps : Bor Words) (e : o ≡ Some ps) where
    pub param_else : (k : ℕ) → k ≡ kind_at src (r / 2) → k ≢ 1 → Param src (params_in o) r 0
    param_else k ek z = subst (λ x. Param src (params_in x) r 0) (sym e) (param_other src true ps.now r k ek z)

    -- p is a parameter, u what a Param stands for there, v that type as its use is inverted; d, i and k are id, inversion and kind of the root.
    pub param_given : TypeWords ps.now → (p w u v k d : ℕ) (i c : Bool) → p ≡ at ps.now w → u ≡ word_of_type (invert_if i (type_of_word p)) → v ≡ word_of_type (invert_if c (type_of_word u)) → k ≡ kind_at src (r / 2) → k ≡ 1 → d ≡ id_at src (r / 2) → w ≡ d → i ≡ inverted_at src (r / 2) → c ≡ (type_of_word r).0 → Param src (params_in o) r (v + 1)
    param_given s p w u v k d i c ep eu ev ek z ed ew ei ec = subst (λ x. Param src (params_in x) r (v + 1)) (sym e) (param_is ps.now p w s ep u i eu v c ev src true r k d refl ek z ed ew ei ec)
