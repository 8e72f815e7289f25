-- Whether a verdict is a success, as the test of the code says.
use Rattle.std.proofs.Common.{ℕ, ◌≡◌, Bool, false, not, refl, sym, ◌∙◌, ap, subst, true≢false}
use Rattle.rules.specs.Lists.{Words}
use Rattle.rules.specs.Types.{Unified, join_on_success}
use Rattle.rules.specs.Transfer.{type_of_word}
use Rattle.table.specs.Packing.{types_of, Packed}
use Rattle.memo.specs.declared.verdict.UnifyResult.{UnifyResult}
use Rattle.memo.specs.declared.verdict.UnifyResult.TheVariants.{Success, Failure, Indeterminate}
use Rattle.memo.specs.contracts.verdict.UnifyResult.{the_type}
use Rattle.memo.specs.Verdicts.{result_of}
use Rattle.unify.specs.Results.{Joined, Joins, Stops}
use Rattle.unify.specs.Binding.{failure_stays, indeterminate_stays}
use Rattle.unify.specs.Trying.{Binds, stops_success, stops_failure, stops_indeterminate, joins_success, joins_failure, joins_indeterminate}
use denote.Enum.Bare.{sameb}

pub stops_told : (w : Bool) (v : UnifyResult) (r : Bool) → w ≡ false → r ≡ not (sameb the_type v Success) → Stops w v r
stops_told w Success r ew e = subst (Stops w Success) (sym e) (stops_success w Success refl)
stops_told w Failure r ew e = subst (Stops w Failure) (ap not ew ∙ sym e) (stops_failure w Failure refl)
stops_told w Indeterminate r ew e = subst (Stops w Indeterminate) (ap not ew ∙ sym e) (stops_indeterminate w Indeterminate refl)

pub other_stays : (ws ms : Words) (v : UnifyResult) (x y : ℕ) → sameb the_type v Success ≡ false → Packed ws → Binds (types_of ws) ms ws ms v (join_on_success (result_of v, types_of ws) (type_of_word x) (type_of_word y))
other_stays ws ms Success x y e g = absurd (true≢false e)
other_stays ws ms Failure x y e g = failure_stays ws Failure x y ms refl g
other_stays ws ms Indeterminate x y e g = indeterminate_stays ws Indeterminate x y ms refl g

pub joins_told : (us : Words) (v : UnifyResult) (m : Unified) (r : Bool) → Joined false us v m → r ≡ sameb the_type v Success → Joins m us r
joins_told us Success m r j e = subst (Joins m us) (sym e) (joins_success us Success m j refl)
joins_told us Failure m r j e = subst (Joins m us) (sym e) (joins_failure us Failure m j refl)
joins_told us Indeterminate m r j e = subst (Joins m us) (sym e) (joins_indeterminate us Indeterminate m j refl)
