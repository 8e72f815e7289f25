-- How the functions of `unify` go together: what each asks of fuel and memo, what it leaves in the memo, and how one's result becomes another's.
use Rattle.std.specs.Prelude.{ℕ, ◌+◌, ◌-◌, ◌<◌, ◌≤◌, ◌≡◌, Bool, true, false, not, List, ◌++◌, ◌≢◌, ◌⊎◌, eqb, length, take, drop}
use Rattle.std.proofs.Math.Path.{refl, sym, ap}
use Rattle.std.proofs.Common.{◌∙◌, subst, true≢false, inl, arith, ne_eqb, length-drop, get_or-append-add, get_or-take, get_or-drop, length-take-le}
use Rattle.std.proofs.Math.Logic.{inr}
use Rattle.std.proofs.Math.ListN.{get_or-append}
use borrow.Rule.Slice.PartMut.{put_mid, post_of, same_len_mid}
use Rattle.rules.specs.Lists.{Words}
use Rattle.rules.specs.Sheet.{at}
use Rattle.rules.specs.Types.{Ty, Types, self_inverse, success, failure, indeterminate, Unified}
use Rattle.rules.specs.Types as rules
use Rattle.rules.specs.UnifyEnds.{Enough}
use Rattle.rules.specs.OwnInverse.{Later, own_later}
use Rattle.table.specs.Packing.{types_of, Packed}
use Rattle.table.specs.Nodes.{types_few}
use Rattle.walks.specs.Marking.{is_marked}
use Rattle.walks.specs.SelfInverse.{Own, Inverted}
use Rattle.memo.specs.Memo.{Memo, Forgets, Starts, Past, Aside, memo_none, memo_starts, memo_past, aside_past}
use Rattle.memo.specs.declared.verdict.UnifyResult.{UnifyResult}
use Rattle.memo.specs.declared.verdict.UnifyResult.TheVariants.{Success, Failure, Indeterminate}
use Rattle.memo.specs.Verdicts.{result_of, code_of}
use Rattle.unify.specs.Results.{Meets, Unifies, Leaves, Exact, Joined, Joins, Stops}

-- Where there is room for all marks, words 256 to 511 mark nodes that are their own inverse.
pub record OwnMarks (s : Words) (ts : Types) (ms : Words) : Type 0 where
  pub own : 512 ≤ length ms → (n : ℕ) → n < length ts → n < 256 → at ms (256 + n) ≢ 0 → self_inverse s ts (false, n) ≡ true

-- Room for marks, marks and a memo that hold.
pub record Ready (s : Words) (ts : Types) (ms : Words) : Type 0 where
  pub room : 256 ≤ length ms
  pub marks : OwnMarks s ts ms
  pub memo : Memo s ts ms

-- Fuel k is enough for types of a table.
pub record Fuelled (k : ℕ) (ts : Types) (xs : List Ty) : Type 0 where
  pub enough : Enough k ts xs

-- From table ts with marks and memo ms to table us with ns: they hold still, and say whether the table stands.
pub record Noted (s : Words) (ts : Types) (ms : Words) (us : Types) (ns : Words) : Type 0 where
  pub marks : OwnMarks s us ns
  pub memo : Memo s us ns
  pub stands : at ns 513 ≡ 1 → (at ms 513 ≡ 1) × (us ≡ ts)

pub noted_still : (s : Words) (ts : Types) (ms : Words) → Ready s ts ms → Noted s ts ms ts ms
noted_still s ts ms r = record { marks = r.marks; memo = r.memo; stands = λ q. (q, refl) }

pub noted_aside : (s : Words) (ts : Types) (ms ns : Words) → OwnMarks s ts ms → Memo s ts ms → Aside ms ns → Noted s ts ms ts ns
noted_aside s ts ms ns o m a = record {
  marks = record { own = λ l n h k z. o.own (omega (arith, a.len)) n h k (λ q. z (a.rest (256 + n) (omega arith) ∙ q)) };
  memo = memo_past s ts ms ns (aside_past ms ns a) m;
  stands = λ q. (sym (a.rest 513 (omega arith)) ∙ q, refl);
}

pub noted_then : (s : Words) (ts us vs : Types) (ms ns os : Words) → Noted s ts ms us ns → Noted s us ns vs os → Noted s ts ms vs os
noted_then s ts us vs ms ns os p q = record { marks = q.marks; memo = q.memo; stands = λ e. let z = q.stands e in let y = p.stands z.0 in (y.0, z.1 ∙ y.1) }

-- A step that may join: the table is as it was, or the memo is empty, on success.
pub record Moves (ts : Types) (ms : Words) (us : Types) (ns : Words) (v : UnifyResult) : Type 0 where
  pub either : ((us ≡ ts) × Aside ms ns) ⊎ (Forgets ms ns × (result_of v ≡ success))

pub moves_noted : (s : Words) (ts : Types) (ms : Words) (us : Types) (ns : Words) (v : UnifyResult) → OwnMarks s ts ms → Memo s ts ms → (result_of v ≡ success → Later ts us) → Moves ts ms us ns v → Noted s ts ms us ns
moves_noted s ts ms us ns v o m later p = go p.either
  where
    go : ((us ≡ ts) × Aside ms ns) ⊎ (Forgets ms ns × (result_of v ≡ success)) → Noted s ts ms us ns
    go (inl z) = subst (λ (l : Types). Noted s ts ms l ns) (sym z.0) (noted_aside s ts ms ns o m z.1)
    go (inr z) =
        let f = z.0 in
        let l = later z.1 in
        record {
          marks = record { own = λ j n h k q. own_later s ts us l (false, n) (omega (arith, l.len)) (o.own (omega (arith, f.len)) n (omega (arith, l.len)) k (λ e. q (f.marks (256 + n) (omega arith) (omega arith) ∙ e))) };
          memo = memo_none s us ms ns f;
          stands = λ q. absurd (omega (arith, f.moved));
        }

-- A step that may join, with what it comes to.
pub record Binds (ts : Types) (ms us ns : Words) (v : UnifyResult) (m : Unified) : Type 0 where
  pub meets : Meets us v m
  pub moves : Moves ts ms (types_of us) ns v

-- What two roots come to, and what two types come to: the words are packed, or good, still.
pub record Met (w : Bool) (s : Words) (ts : Types) (ms us ns : Words) (v : UnifyResult) (m : Unified) : Type 0 where
  pub packed : Packed us
  pub is : Exact w v → ◌≡◌ {A = Unified} (result_of v, types_of us) m
  pub fails : result_of v ≢ success → m.0 ≢ success
  pub noted : Noted s ts ms (types_of us) ns

pub record Went (w : Bool) (s : Words) (ts : Types) (ms us ns : Words) (v : UnifyResult) (m : Unified) : Type 0 where
  pub packed : Packed us
  pub exact : Exact w v → Unifies us v m
  pub fails : result_of v ≢ success → m.0 ≢ success
  pub noted : Noted s ts ms (types_of us) ns

-- Only the table is asked for, where all pairs are tried.
pub record Left (w : Bool) (s : Words) (ts : Types) (ms us ns : Words) (m : Unified) : Type 0 where
  pub packed : Packed us
  pub exact : w ≡ true → Leaves us m
  pub noted : Noted s ts ms (types_of us) ns

-- A verdict that is the rule's fails only where the rule's does.
pub exact_fails : (us : Words) (v : UnifyResult) (m : Unified) → ◌≡◌ {A = Unified} (result_of v, types_of us) m → result_of v ≢ success → m.0 ≢ success
exact_fails us v m e n q = n (ap (λ (z : Unified). z.0) e ∙ q)

module _ (w : Bool) (s : Words) (ts : Types) (ms us ns : Words) (v : UnifyResult) where
  -- One rule that comes to another.
  pub met_as : (m m' : Unified) → m ≡ m' → Met w s ts ms us ns v m → Met w s ts ms us ns v m'
  met_as m m' e p = record { packed = p.packed; is = λ x. p.is x ∙ e; fails = λ n. subst (λ (z : Unified). z.0 ≢ success) e (p.fails n); noted = p.noted }

  pub went_as : (m m' : Unified) → m ≡ m' → Went w s ts ms us ns v m → Went w s ts ms us ns v m'
  went_as m m' e p = record { packed = p.packed; exact = λ x. record { good = (p.exact x).good; is = (p.exact x).is ∙ e }; fails = λ n. subst (λ (z : Unified). z.0 ≢ success) e (p.fails n); noted = p.noted }

  -- What is exact either way.
  pub met-moved : (m : Unified) → Ready s ts ms → (result_of v ≡ success → Later ts (types_of us)) → Binds ts ms us ns v m → Met w s ts ms us ns v m
  met-moved m h later b = record { packed = b.meets.packed; is = λ x. b.meets.is; fails = exact_fails us v m b.meets.is; noted = moves_noted s ts ms (types_of us) ns v h.marks h.memo later b.moves }

pub went_still : (w : Bool) (s ws ms : Words) (v : UnifyResult) (m : Unified) → Ready s (types_of ws) ms → Unifies ws v m → Went w s (types_of ws) ms ws ms v m
went_still w s ws ms v m r u = record { packed = u.good.packed; exact = λ x. u; fails = exact_fails ws v m u.is; noted = noted_still s (types_of ws) ms r }

pub met_still : (w : Bool) (s ws ms : Words) (v : UnifyResult) (m : Unified) → Ready s (types_of ws) ms → Meets ws v m → Met w s (types_of ws) ms ws ms v m
met_still w s ws ms v m r u = record { packed = u.packed; is = λ x. u.is; fails = exact_fails ws v m u.is; noted = noted_still s (types_of ws) ms r }

pub met_noted : (w : Bool) (s ws ms ns : Words) (v : UnifyResult) (m : Unified) → Noted s (types_of ws) ms (types_of ws) ns → Meets ws v m → Met w s (types_of ws) ms ws ns v m
met_noted w s ws ms ns v m n u = record { packed = u.packed; is = λ x. u.is; fails = exact_fails ws v m u.is; noted = n }

pub left_still : (w : Bool) (s ws ms : Words) (m : Unified) → Ready s (types_of ws) ms → Leaves ws m → Left w s (types_of ws) ms ws ms m
left_still w s ws ms m r u = record { packed = u.good.packed; exact = λ x. u; noted = noted_still s (types_of ws) ms r }

-- Marks that were lent come back with the memo behind them.
pub marks_length : (ms : Words) → 256 ≤ length ms → 256 ≡ length (take 256 ms)
marks_length ms h = sym (length-take-le 256 ms h)

pub marks_enough : (ws ms : Words) → 256 ≤ length ms → length (types_of ws) ≤ length (take 256 ms)
marks_enough ws ms h = omega (arith, types_few ws, length-take-le 256 ms h)

pub marks_back : (ms ys : Words) → 256 ≤ length ms → length ys ≡ length (take 256 ms) → Aside ms (put_mid 0 256 ms ys)
marks_back ms ys h e = record { len = same_len_mid 0 256 ms ys e; rest = λ i l. ap (at (put_mid 0 256 ms ys)) (let q : i ≡ length ys + (i - 256) = omega (arith, length-take-le 256 ms h) in q) ∙ get_or-append-add ys (drop 256 ms) (i - 256) 0 ∙ get_or-drop 256 ms (i - 256) 0 ∙ ap (at ms) (let q : 256 + (i - 256) ≡ i = omega arith in q) }

pub aside_twice : (ms ns os : Words) → Aside ms ns → Aside ns os → Aside ms os
aside_twice ms ns os a b = record { len = b.len ∙ a.len; rest = λ i h. b.rest i h ∙ a.rest i h }

pub ready-after : (s : Words) (ts us : Types) (ms ns : Words) → Ready s ts ms → length ns ≡ length ms → Noted s ts ms us ns → Ready s us ns
ready-after s ts us ms ns r e n = record { room = omega (arith, r.room); marks = n.marks; memo = n.memo }

pub ready_first : (s : Words) (ts : Types) (ms ns : Words) → 256 ≤ length ms → Starts ms ns → Ready s ts ns
ready_first s ts ms ns h f = record { room = omega (arith, f.len); marks = record { own = λ l n j k z. absurd (z (f.clear l (256 + n) (omega arith) (omega arith))) }; memo = memo_starts s ts ms ns f }

-- The marks of types that are their own inverse are lent, and come back.
pub own_length : (ms : Words) → 512 ≤ length ms → 512 - 256 ≡ length (take (512 - 256) (drop 256 ms))
own_length ms h = sym (length-take-le (512 - 256) (drop 256 ms) (omega (arith, length-drop 256 ms)))

pub own_room : (ws ms : Words) → 512 ≤ length ms → length (types_of ws) ≤ length (take (512 - 256) (drop 256 ms))
own_room ws ms h = omega (arith, types_few ws, own_length ms h)

own_at : (ms : Words) (n : ℕ) → n < 256 → at (take (512 - 256) (drop 256 ms)) n ≡ at ms (256 + n)
own_at ms n h = get_or-take (512 - 256) (drop 256 ms) n 0 h ∙ get_or-drop 256 ms n 0

pub own_lent : (s ws ms : Words) → 512 ≤ length ms → Ready s (types_of ws) ms → Own s (types_of ws) (take (512 - 256) (drop 256 ms))
unfolding is_marked
own_lent s ws ms h r = record { all_own = λ n l e. let k : n < 256 = omega (arith, types_few ws) in r.marks.own h n l k (λ q. true≢false (sym e ∙ ap (λ z. not (eqb z 0)) (own_at ms n k ∙ q))) }

pub own_back : (s ws ms ys : Words) (t : ℕ) (r : Bool) → 512 ≤ length ms → Ready s (types_of ws) ms → length ys ≡ length (take (512 - 256) (drop 256 ms)) → Inverted s (types_of ws) t ys r → Noted s (types_of ws) ms (types_of ws) (put_mid 256 (512 - 256) ms ys)
unfolding is_marked
own_back s ws ms ys t r h rd e v = record {
  marks = record { own = λ l n j k z. v.own.all_own n j (marked (at ys n) (λ q. z (mid n k ∙ q))) };
  memo = memo_past s (types_of ws) ms (put_mid 256 (512 - 256) ms ys) past rd.memo;
  stands = λ q. (sym (past.rest 513 (omega arith)) ∙ q, refl);
}
  where
    front : length (take 256 ms) ≡ 256
    front = length-take-le 256 ms (omega arith)

    size : length ys ≡ 256
    size = e ∙ sym (own_length ms h)

    behind : (i : ℕ) → at (put_mid 256 (512 - 256) ms ys) (256 + i) ≡ at (ys ++ post_of 256 (512 - 256) ms) i
    behind i = ap (λ n. at (put_mid 256 (512 - 256) ms ys) (n + i)) (sym front) ∙ get_or-append-add (take 256 ms) (ys ++ post_of 256 (512 - 256) ms) i 0

    mid : (n : ℕ) → n < 256 → at (put_mid 256 (512 - 256) ms ys) (256 + n) ≡ at ys n
    mid n k = behind n ∙ get_or-append ys (post_of 256 (512 - 256) ms) 0 n (omega (arith, size))

    past : Past ms (put_mid 256 (512 - 256) ms ys)
    past = record {
      len = same_len_mid 256 (512 - 256) ms ys e;
      rest = λ i l.
          ap (at (put_mid 256 (512 - 256) ms ys)) (let q : i ≡ 256 + (256 + (i - 512)) = omega arith in q) ∙ behind (256 + (i - 512))
          ∙ ap (λ n. at (ys ++ post_of 256 (512 - 256) ms) (n + (i - 512))) (sym size) ∙ get_or-append-add ys (post_of 256 (512 - 256) ms) (i - 512) 0
          ∙ get_or-drop (512 - 256) (drop 256 ms) (i - 512) 0 ∙ get_or-drop 256 ms (256 + (i - 512)) 0 ∙ ap (at ms) (let q : 256 + (256 + (i - 512)) ≡ i = omega arith in q);
    }

    marked : (x : ℕ) → x ≢ 0 → not (eqb x 0) ≡ true
    marked x n = ap not (ne_eqb x 0 n)

-- Verdicts.
abbrev IsSuccess : rules.UnifyResult → Type 0
IsSuccess success = Unit {0}
IsSuccess failure = ⊥
IsSuccess indeterminate = ⊥

pub failure_not : failure ≢ success
failure_not e = subst IsSuccess (sym e) tt

pub indeterminate_not : indeterminate ≢ success
indeterminate_not e = subst IsSuccess (sym e) tt

module _ (w : Bool) (v : UnifyResult) where
  pub stops_success : v ≡ Success → Stops w v false
  unfolding result_of
  stops_success e = record { goes = λ q. inr (ap result_of e); halts = λ q. absurd (true≢false (sym q)) }

  stops_other : result_of v ≢ success → (b : Bool) → w ≡ b → Stops w v (not b)
  stops_other n true e = record { goes = λ q. inl e; halts = λ q. absurd (true≢false (sym q)) }
  stops_other n false e = record { goes = λ q. absurd (true≢false q); halts = λ q. (e, n) }

  pub stops_failure : v ≡ Failure → Stops w v (not w)
  unfolding result_of
  stops_failure e = stops_other (λ q. failure_not (sym (ap result_of e) ∙ q)) w refl

  pub stops_indeterminate : v ≡ Indeterminate → Stops w v (not w)
  unfolding result_of
  stops_indeterminate e = stops_other (λ q. indeterminate_not (sym (ap result_of e) ∙ q)) w refl

module _ (v : UnifyResult) where
  pub code_success : v ≡ Success → 0 ≡ code_of v
  code_success e = sym (ap code_of e)

  pub code_failure : v ≡ Failure → 1 ≡ code_of v
  code_failure e = sym (ap code_of e)

  pub code_indeterminate : v ≡ Indeterminate → 2 ≡ code_of v
  code_indeterminate e = sym (ap code_of e)

-- `unify` itself, with all pairs tried, and whether it succeeds.
pub joined-whole : (us : Words) (v : UnifyResult) (m : Unified) → Joined true us v m → Unifies us v m
joined-whole us v m j = j.exact (inl refl)

module _ (us : Words) (v : UnifyResult) (m : Unified) (j : Joined false us v m) where
  pub joins_success : v ≡ Success → Joins m us true
  unfolding result_of
  joins_success e =
      let u = j.exact (inr (ap result_of e)) in
      record { packed = j.packed; failed = λ q. absurd (true≢false q); met = λ q. sym (ap (λ (z : Unified). z.0) u.is) ∙ ap result_of e; types = λ q. ap (λ (z : Unified). z.1) u.is }

  joins_not : result_of v ≢ success → Joins m us false
  joins_not n = record { packed = j.packed; failed = λ q. j.fails n; met = λ q. absurd (true≢false (sym q)); types = λ q. absurd (true≢false (sym q)) }

  pub joins_failure : v ≡ Failure → Joins m us false
  unfolding result_of
  joins_failure e = joins_not (λ q. failure_not (sym (ap result_of e) ∙ q))

  pub joins_indeterminate : v ≡ Indeterminate → Joins m us false
  unfolding result_of
  joins_indeterminate e = joins_not (λ q. indeterminate_not (sym (ap result_of e) ∙ q))
