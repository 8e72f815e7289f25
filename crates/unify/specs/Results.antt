-- What the functions of `unify` come to, in the words of the rules: a verdict, and the table that the words are.
use Rattle.std.specs.Prelude.{ℕ, ◌<◌, ◌≡◌, Bool, true, false, ◌≢◌, ◌⊎◌, length}
use Rattle.rules.specs.Lists.{Words}
use Rattle.rules.specs.Types.{Ty, Types, xor, success, Unified, unify_known}
use Rattle.rules.specs.AcyclicLaws.{children_at}
use Rattle.rules.specs.Solutions.{rep}
use Rattle.table.specs.Packing.{types_of, kind_at, inverted_at, id_at, Packed, Good}
use Rattle.memo.specs.declared.verdict.UnifyResult.{UnifyResult}
use Rattle.memo.specs.Verdicts.{result_of}

-- A verdict and a table: the words are packed, or good, still.
pub record Meets (us : Words) (v : UnifyResult) (m : Unified) : Type 0 where
  pub packed : Packed us
  pub is : ◌≡◌ {A = Unified} (result_of v, types_of us) m

pub record Unifies (us : Words) (v : UnifyResult) (m : Unified) : Type 0 where
  pub good : Good us
  pub is : ◌≡◌ {A = Unified} (result_of v, types_of us) m

-- Two roots, which may be one.
pub record TwoRoots (ts : Types) (x y : Ty) : Type 0 where
  pub left_in : x.1 < length ts
  pub right_in : y.1 < length ts
  pub left_root : rep ts x.1 ≡ x.1
  pub right_root : rep ts y.1 ≡ y.1

-- Whether two known roots meet inverted.
unfoldable pub met_inverted : Types → Ty → Ty → Bool
met_inverted ts x y = xor (xor (inverted_at ts x.1) x.0) (xor (inverted_at ts y.1) y.0)

-- Two known roots, by their fields.
unfoldable pub unify_fields : (Types → Ty → Ty → Unified) → Words → Types → Ty → Ty → Unified
unify_fields f s ts x y = unify_known f s ts (met_inverted ts x y) (kind_at ts x.1) (id_at ts x.1) (children_at ts x.1) (kind_at ts y.1) (id_at ts y.1) (children_at ts y.1)

-- Two known roots, by their nodes.
pub record KnownRoots (ts : Types) (x y : ℕ) : Type 0 where
  pub left_in : x < length ts
  pub right_in : y < length ts
  pub left_root : rep ts x ≡ x
  pub right_root : rep ts y ≡ y
  pub left_known : kind_at ts x ≢ 0
  pub right_known : kind_at ts y ≢ 0

-- Only the table is asked for.
pub record Leaves (us : Words) (m : Unified) : Type 0 where
  pub good : Good us
  pub is : types_of us ≡ m.1

-- Whether all pairs are tried (w is true), or none after the first that does not succeed. Verdict and table are the rule's if all are tried, or if it is success.
abbrev pub Exact : Bool → UnifyResult → Type 0
Exact w v = (w ≡ true) ⊎ (result_of v ≡ success)

-- What a join comes to either way: other than success only where the rule's is.
pub record Joined (w : Bool) (us : Words) (v : UnifyResult) (m : Unified) : Type 0 where
  pub packed : Packed us
  pub exact : Exact w v → Unifies us v m
  pub fails : result_of v ≢ success → m.0 ≢ success

-- Whether a join succeeds, with its table in out if it does.
pub record Joins (m : Unified) (out : Words) (r : Bool) : Type 0 where
  pub packed : Packed out
  pub failed : r ≡ false → m.0 ≢ success
  pub met : r ≡ true → m.0 ≡ success
  pub types : r ≡ true → types_of out ≡ m.1

-- Whether no further pair is tried after verdict v.
pub record Stops (w : Bool) (v : UnifyResult) (r : Bool) : Type 0 where
  pub goes : r ≡ false → Exact w v
  pub halts : r ≡ true → (w ≡ false) × (result_of v ≢ success)
