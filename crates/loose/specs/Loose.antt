-- Labels of refs: where they are closed under children, and alike for the arguments, what has a label that nothing known has is not its own inverse.
-- A label is 0, which is not set, or one more than the ref that stands for its class. Labels are set while they are tested: what is found of them holds for all in which those that are set stay.
use Rattle.std.specs.Prelude.{ℕ, zero, suc, ◌+◌, ◌-◌, ◌*◌, ◌/◌, ◌%◌, ◌≤◌, ◌<◌, ◌≡◌, refl, Bool, true, false, not, [], ◌∷◌, ◌≢◌, T, eqb, ltb, length, take, set}
use Rattle.std.proofs.Common.{sym, ◌∙◌, ap, ap₂, subst, ⊎_elim, le_of_suc-le-suc, not-suc-le-zero, eq-or-lt_of_le, arith, eqb→eq, ltb→lt, get_or-set_other, lt-ltb, le-ltb, eqb-true, eq-eqb}
use Rattle.rules.specs.Lists.{Words}
use Rattle.rules.specs.Sheet.{at}
use Rattle.rules.specs.Types.{Ty, invert_if, find}
use Rattle.rules.specs.Transfer.{type_of_word}
use Rattle.rules.specs.Answer.{word_of_type}
use Rattle.rules.specs.Solutions.{rep}
use Rattle.rules.specs.Pigeonholes.{lt_or}
use Rattle.rules.specs.SignedTerms.{SignedSol, inverse, turned}
use Rattle.table.specs.declared.Row.{Row}
use Rattle.table.specs.Packing.{types_of, kind_at}
use Rattle.table.specs.Nodes.{types_few, type_word}
use Rattle.table.specs.ChildTypes.{ChildTypes}
use Rattle.queries.specs.declared.Query.{Query}
use Rattle.refs.specs.Meaning.{odd, means, node_types, record_types, Meaning}
use Rattle.refs.specs.Refs.{place}
use Rattle.refs.specs.Children.{Cells, Below, below}
use Rattle.refs.specs.Links.{Linked, Finds}

never : false ≡ true → ⊥
never e = let z : ◌≡◌ {A = ℕ} 0 1 = cc in omega arith

pub held : (b : Bool) → not b ≡ false → b ≡ true
held true e = refl
held false e = absurd (never (sym e))

-- The type of argument k of a signature, in its own table, and of the question.
abbrev pub own_type : Query → ℕ → ℕ
own_type p k = 2048 + at p.args k % 2048

abbrev pub asked_type : Words → Query → ℕ → ℕ
asked_type ws q k = word_of_type (find (types_of ws) (type_of_word (at q.args k)))

-- The labels of some types.
unfoldable pub labelled : Words → Words → Words
labelled ls [] = []
labelled ls (t ∷ ts) = at ls (t / 2 % 2048) ∷ labelled ls ts

-- The types of the children of a ref, by its node or its record.
unfoldable pub kids : Words → Words → Words → ℕ → Words
kids s ps ws r = elim (ltb r 256) [ true ↦ node_types ws r | false ↦ record_types s (at s (place ps r + 4)) ]

pub kids_low : (s ps ws : Words) (r : ℕ) → r < 256 → kids s ps ws r ≡ node_types ws r
unfolding kids
kids_low s ps ws r h = rw (lt-ltb r 256 h, kids)

pub kids_high : (s ps ws : Words) (r : ℕ) → 256 ≤ r → kids s ps ws r ≡ record_types s (at s (place ps r + 4))
unfolding kids
kids_high s ps ws r h = rw (le-ltb r 256 h, kids)

-- Ref r has not label l, and its children are labelled as those of the ref that stands for its class are.
pub record Closed (s ps ws ls : Words) (l r : ℕ) : Type 0 where
  pub other : at ls r ≢ l
  pub same : labelled ls (kids s ps ws r) ≡ labelled ls (kids s ps ws (at ls r - 1))

-- So are the known roots among the first n nodes of the question's table.
pub record NodesClosed (s ps ws ls : Words) (l n : ℕ) : Type 0 where
  pub each : (r : ℕ) → r < n → kind_at (types_of ws) r ≢ 0 → rep (types_of ws) r ≡ r → Closed s ps ws ls l r

-- A Param of the signature has the label of its parameter, and any other known node is so,
pub record RecordClosed (s ps ws ls : Words) (l k : ℕ) : Type 0 where
  pub param : at s (at ps k + 1) ≡ 1 → at ls (1024 + k) ≡ at ls (256 + at s (at ps k + 3))
  pub plain : at s (at ps k + 1) ≢ 0 → at s (at ps k + 1) ≢ 1 → Closed s ps ws ls l (1024 + k)

-- for the first n.
pub record RecordsClosed (s ps ws ls : Words) (l n : ℕ) : Type 0 where
  pub each : (k : ℕ) → k < n → RecordClosed s ps ws ls l k

-- The first n arguments are labelled alike.
pub record ArgsAlike (ws ls : Words) (p q : Query) (n : ℕ) : Type 0 where
  pub each : (k : ℕ) → k < n → at ls (own_type p k / 2 % 2048) ≡ at ls (asked_type ws q k / 2 % 2048)

-- Labels of all refs, and a label l that nothing known has.
pub record Labelling (s ps ws ls : Words) (p q : Query) (l : ℕ) : Type 0 where
  pub nodes : NodesClosed s ps ws ls l (length (types_of ws))
  pub records : RecordsClosed s ps ws ls l (length ps)
  pub args : ArgsAlike ws ls p q q.n

-- Meanings by which an unknown root of the question's table, or a node of the signature's, of such a label is not its own inverse.
pub record LooseMeaning (s ps ws : Words) (p q : Query) (m : SignedSol) : Type 0 where
  pub node : (ls : Words) (n : ℕ) → Labelling s ps ws ls p q (at ls n) → n < length (types_of ws) → kind_at (types_of ws) n ≡ 0 → rep (types_of ws) n ≡ n → inverse s (m n) ≢ m n
  pub own : (ls : Words) (k : ℕ) → Labelling s ps ws ls p q (at ls (1024 + k)) → k < length ps → inverse s (m (1024 + k)) ≢ m (1024 + k)

-- Labels that are set stay.
pub record Fixed (ls ks : Words) : Type 0 where
  pub kept : (r : ℕ) → at ls r ≢ 0 → at ks r ≡ at ls r

pub fixed_same : (ls : Words) → Fixed ls ls
fixed_same ls = record { kept = λ r z. refl }

pub fixed_on : (ls ks js : Words) → Fixed ls ks → Fixed ks js → Fixed ls js
fixed_on ls ks js f g = record { kept = λ r z. g.kept r (λ q. z (sym (f.kept r z) ∙ q)) ∙ f.kept r z }

fixed_set : (ls : Words) (w x : ℕ) → at ls w ≡ 0 → Fixed ls (set ls w x)
fixed_set ls w x e = record { kept = λ r z. get_or-set_other ls w r x 0 (λ q. z (ap (at ls) q ∙ e)) }

-- Labels are read modulo 2048.
pub label_read : (ls : Words) (r w l : ℕ) → w ≡ r % 2048 → l ≡ at ls w → l ≡ at ls (r % 2048)
label_read ls r w l e q = q ∙ ap (at ls) e

-- The label of a ref is x; it may have been set.
pub record Labelled (ls : Words) (r : ℕ) (ks : Words) (x : ℕ) : Type 0 where
  pub fixed : Fixed ls ks
  pub is : x ≡ at ks (r % 2048)

pub labelled_there : (ls : Words) (r w x : ℕ) → w ≡ r % 2048 → x ≡ at ls w → Labelled ls r ls x
labelled_there ls r w x e q = record { fixed = fixed_same ls; is = label_read ls r w x e q }

pub labelled-set : (ls : Words) (r w y v x : ℕ) → w ≡ r % 2048 → y ≡ at ls w → y ≡ 0 → x ≡ at (set ls w v) w → Labelled ls r (set ls w v) x
labelled-set ls r w y v x e q z k = record { fixed = fixed_set ls w v (sym q ∙ z); is = label_read (set ls w v) r w x e k }

-- true: two refs are labelled alike, and stay so.
pub record RefsAlike (ls : Words) (x y : ℕ) (ks : Words) (b : Bool) : Type 0 where
  pub fixed : Fixed ls ks
  pub same : b ≡ true → (js : Words) → Fixed ks js → at js (x % 2048) ≡ at js (y % 2048)

pub alike_not : (ls : Words) (x y : ℕ) (ks : Words) (b : ℕ) → Labelled ls y ks b → RefsAlike ls x y ks false
alike_not ls x y ks b k = record { fixed = k.fixed; same = λ e. absurd (never e) }

pub alike_both : (ls : Words) (x y : ℕ) (ks is : Words) (a b : ℕ) → Labelled ls y ks b → b ≢ 0 → Labelled ks x is a → RefsAlike ls x y is (eqb a b)
alike_both ls x y ks is a b k z j = record { fixed = fixed_on ls ks is k.fixed j.fixed; same = one }
  where
    one : eqb a b ≡ true → (js : Words) → Fixed is js → at js (x % 2048) ≡ at js (y % 2048)
    one e js f =
        let o : at is (x % 2048) ≡ b = sym j.is ∙ eqb-true a b e in
        f.kept (x % 2048) (λ q. z (sym o ∙ q)) ∙ o ∙ k.is ∙ sym ((fixed_on ks is js j.fixed f).kept (y % 2048) (λ q. z (k.is ∙ q)))

-- One label is read, and is b, or is set to b.
pub alike_read : (ls : Words) (x y : ℕ) (ks : Words) (w a b : ℕ) → Labelled ls y ks b → b ≢ 0 → w ≡ x % 2048 → a ≡ at ks w → a ≡ b → RefsAlike ls x y ks true
alike_read ls x y ks w a b k z e q o = subst (RefsAlike ls x y ks) (eq-eqb a b o) (alike_both ls x y ks ks a b k z (labelled_there ks x w a e q))

pub alike_set : (ls : Words) (x y : ℕ) (ks : Words) (w a b v : ℕ) → Labelled ls y ks b → b ≢ 0 → w ≡ x % 2048 → a ≡ at ks w → a ≡ 0 → v ≡ at (set ks w b) w → RefsAlike ls x y (set ks w b) (eqb v b)
alike_set ls x y ks w a b v k z e q o t = alike_both ls x y ks (set ks w b) v b k z (labelled-set ks x w a b v e q o t)

-- The children of a ref, as a row.
pub record Kids (s ps ws : Words) (r : ℕ) (o : Row) : Type 0 where
  pub few : o.n ≤ 8
  pub long : o.n ≤ length o.types
  pub are : take o.n o.types ≡ kids s ps ws r

pub kids-node : (s ps ws : Words) (r : ℕ) (o : Row) → r < 256 → ChildTypes ws r o → Kids s ps ws r o
kids-node s ps ws r o h c = record { few = c.few; long = c.long; are = c.are ∙ sym (kids_low s ps ws r h) }

pub kids_record : (s ps ws : Words) (r p h j : ℕ) (o : Row) → 256 ≤ r → p ≡ place ps r → h ≡ at s (p + 4) → j ≡ h → Cells s j o → Kids s ps ws r o
kids_record s ps ws r p h j o l ep eh ej c = record {
  few = c.few;
  long = c.long;
  are = c.are ∙ ap (record_types s) (ej ∙ eh ∙ ap (λ k. at s (k + 4)) ep) ∙ sym (kids_high s ps ws r l);
}

-- They are those below it.
pub kids_below : (s ps ws : Words) (r : ℕ) (o : Row) → Below s ps ws r o → Kids s ps ws r o
unfolding kids below
kids_below s ps ws r o b = record { few = b.few; long = b.long; are = b.are }

pub kids_known : (ws : Words) (r k : ℕ) → k ≡ kind_at (types_of ws) r → k ≢ 0 → kind_at (types_of ws) r ≢ 0
kids_known ws r k e z q = z (e ∙ q)

pub kids_few : (s ps ws : Words) (r : ℕ) (o : Row) → Kids s ps ws r o → o.n ≤ 8
kids_few s ps ws r o k = k.few

-- true: the first n of xs and ys are labelled alike.
pub record SameLabels (ls : Words) (n : ℕ) (xs ys ks : Words) (b : Bool) : Type 0 where
  pub fixed : Fixed ls ks
  pub each : b ≡ true → (js : Words) → Fixed ks js → (j : ℕ) → j < n → at js (at xs j / 2 % 2048) ≡ at js (at ys j / 2 % 2048)

pub labels_start : (ls xs ys : Words) → SameLabels ls 0 xs ys ls true
labels_start ls xs ys = record { fixed = fixed_same ls; each = λ e js f j h. absurd (not-suc-le-zero h) }

module _ (ls : Words) (j : ℕ) (xs ys ks : Words) (k : SameLabels ls j xs ys ks true) where
  pub labels_not : (n x y : ℕ) (is : Words) (b : Bool) → RefsAlike ks x y is b → SameLabels ls n xs ys is false
  labels_not n x y is b a = record { fixed = fixed_on ls ks is k.fixed a.fixed; each = λ e. absurd (never e) }

  pub labels_on : (x y : ℕ) (is : Words) (b : Bool) → x ≡ at xs j → y ≡ at ys j → RefsAlike ks (x / 2) (y / 2) is b → not b ≡ false → SameLabels ls (j + 1) xs ys is true
  labels_on x y is b ex ey a e = record {
    fixed = fixed_on ls ks is k.fixed a.fixed;
    each = λ z js f i h. ⊎_elim
        (λ o. subst (λ v. at js (at xs v / 2 % 2048) ≡ at js (at ys v / 2 % 2048)) (sym o) (ap (λ v. at js (v / 2 % 2048)) (sym ex) ∙ a.same (held b e) js f ∙ ap (λ v. at js (v / 2 % 2048)) ey))
        (λ o. k.each z js (fixed_on ks is js a.fixed f) i o)
        (eq-or-lt_of_le (let y : i ≤ j = omega arith in y));
  }

  pub labels_end : (n : ℕ) → n ≤ j → SameLabels ls n xs ys ks true
  labels_end n l = record { fixed = k.fixed; each = λ z js f i h. k.each z js f i (omega arith) }

rows-labelled : (ls : Words) (n : ℕ) (xs ys : Words) → n ≤ length xs → n ≤ length ys → ((j : ℕ) → j < n → at ls (at xs j / 2 % 2048) ≡ at ls (at ys j / 2 % 2048)) → labelled ls (take n xs) ≡ labelled ls (take n ys)
unfolding labelled
rows-labelled ls zero xs ys a b e = refl
rows-labelled ls (suc n) [] ys a b e = absurd (not-suc-le-zero a)
rows-labelled ls (suc n) (x ∷ xs) [] a b e = absurd (not-suc-le-zero b)
rows-labelled ls (suc n) (x ∷ xs) (y ∷ ys) a b e = ap₂ ◌∷◌ (e 0 (omega arith)) (rows-labelled ls n xs ys (le_of_suc-le-suc a) (le_of_suc-le-suc b) (λ j h. e (suc j) (omega arith)))

-- true: the children of two refs are labelled alike.
pub record SameKids (s ps ws ls : Words) (a z : ℕ) (ks : Words) (b : Bool) : Type 0 where
  pub fixed : Fixed ls ks
  pub same : b ≡ true → (js : Words) → Fixed ks js → labelled js (kids s ps ws a) ≡ labelled js (kids s ps ws z)

pub kids_not : (s ps ws ls : Words) (a z : ℕ) → SameKids s ps ws ls a z ls false
kids_not s ps ws ls a z = record { fixed = fixed_same ls; same = λ e. absurd (never e) }

pub kids-same : (s ps ws ls : Words) (a z : ℕ) (xs ys : Row) (ks : Words) (b : Bool) → Below s ps ws a xs → Below s ps ws z ys → xs.n ≡ ys.n → SameLabels ls xs.n xs.types ys.types ks b → SameKids s ps ws ls a z ks b
kids-same s ps ws ls a z xs ys ks b ka kz e o = let k = kids_below s ps ws a xs ka in let j = kids_below s ps ws z ys kz in record {
  fixed = o.fixed;
  same = λ t js f.
      ap (labelled js) (sym k.are)
      ∙ rows-labelled js xs.n xs.types ys.types k.long (omega (arith, j.long)) (o.each t js f)
      ∙ ap (λ v. labelled js (take v ys.types)) e
      ∙ ap (labelled js) j.are;
}

-- true: a ref is closed.
pub record Closes (s ps ws ls : Words) (l r : ℕ) (ks : Words) (b : Bool) : Type 0 where
  pub fixed : Fixed ls ks
  pub closed : b ≡ true → (js : Words) → Fixed ks js → Closed s ps ws js l r

module _ (s ps ws ls : Words) (l r : ℕ) (ks : Words) (x : ℕ) (k : Labelled ls r ks x) where
  pub closes_not : Closes s ps ws ls l r ks false
  closes_not = record { fixed = k.fixed; closed = λ e. absurd (never e) }

  module _ (h : r < 2048) (z : x ≢ 0) (n : x ≢ l) where
    stays : (js : Words) → Fixed ks js → at js r ≡ x
    stays js f = ap (at js) (let y : r ≡ r % 2048 = omega arith in y) ∙ f.kept (r % 2048) (λ q. z (k.is ∙ q)) ∙ sym k.is

    -- It stands for its class itself,
    pub closes_own : x ≡ r + 1 → Closes s ps ws ls l r ks true
    closes_own q = record {
      fixed = k.fixed;
      closed = λ t js f. let o = stays js f in record { other = λ y. n (sym o ∙ y); same = ap (λ v. labelled js (kids s ps ws v)) (let y : r ≡ at js r - 1 = omega (arith, o) in y) };
    }

    -- or another ref does.
    pub closes_other : (is : Words) (b : Bool) → SameKids s ps ws ks r (x - 1) is b → Closes s ps ws ls l r is b
    closes_other is b c = record {
      fixed = fixed_on ls ks is k.fixed c.fixed;
      closed = λ t js f.
          let o = stays js (fixed_on ks is js c.fixed f) in
          record { other = λ y. n (sym o ∙ y); same = c.same t js f ∙ ap (λ v. labelled js (kids s ps ws (v - 1))) (sym o) };
    }

-- true: a known node is closed.
pub record NodeCloses (s ps ws ls : Words) (l r : ℕ) (ks : Words) (b : Bool) : Type 0 where
  pub fixed : Fixed ls ks
  pub closed : b ≡ true → (js : Words) → Fixed ks js → kind_at (types_of ws) r ≢ 0 → Closed s ps ws js l r

pub node_unknown : (s ps ws ls : Words) (l r k : ℕ) → k ≡ kind_at (types_of ws) r → k ≡ 0 → NodeCloses s ps ws ls l r ls true
node_unknown s ps ws ls l r k e z = record { fixed = fixed_same ls; closed = λ t js f y. absurd (y (sym e ∙ z)) }

pub node_known : (s ps ws ls : Words) (l r : ℕ) (ks : Words) (b : Bool) → Closes s ps ws ls l r ks b → NodeCloses s ps ws ls l r ks b
node_known s ps ws ls l r ks b c = record { fixed = c.fixed; closed = λ t js f y. c.closed t js f }

-- true: a ref stands for its class itself, and has another label than l.
pub record Owns (ls : Words) (l r : ℕ) (b : Bool) : Type 0 where
  pub is : b ≡ true → at ls r ≡ r + 1
  pub other : b ≡ true → at ls r ≢ l

pub owns_not : (ls : Words) (l r : ℕ) → Owns ls l r false
owns_not ls l r = record { is = λ e. absurd (never e); other = λ e. absurd (never e) }

pub owns_told : (ls : Words) (l r y : ℕ) → r < 2048 → y ≡ at ls (r % 2048) → y ≢ l → Owns ls l r (eqb y (r + 1))
owns_told ls l r y h e n =
    let o : at ls r ≡ y = ap (at ls) (let z : r ≡ r % 2048 = omega arith in z) ∙ sym e in
    record { is = λ t. o ∙ eqb→eq y (r + 1) (subst T (sym t) tt); other = λ t q. n (sym o ∙ q) }

pub node_own : (s ps ws ls : Words) (l r : ℕ) (b : Bool) → r < 2048 → Owns ls l r b → b ≡ true → NodeCloses s ps ws ls l r ls true
node_own s ps ws ls l r b h o e =
    let low : at ls (r % 2048) ≡ at ls r = ap (at ls) (let z : r % 2048 ≡ r = omega arith in z) in
    node_known s ps ws ls l r ls true
    (closes_own s ps ws ls l r ls (r + 1) (record { fixed = fixed_same ls; is = sym (low ∙ o.is e) }) h (omega arith) (λ q. o.other e (o.is e ∙ q)) refl)

-- true: so are the known roots among the first n of the question's table,
pub record NodesGone (s ps ws ls : Words) (l n : ℕ) (ks : Words) : Type 0 where
  pub fixed : Fixed ls ks
  pub closed : (js : Words) → Fixed ks js → NodesClosed s ps ws js l n

-- and all.
pub record NodesClose (s ps ws ls : Words) (l : ℕ) (ks : Words) (b : Bool) : Type 0 where
  pub fixed : Fixed ls ks
  pub closed : b ≡ true → (js : Words) → Fixed ks js → NodesClosed s ps ws js l (length (types_of ws))

pub node_low : (ws : Words) (r c : ℕ) → c ≡ length (types_of ws) → r < c → r < 2048
node_low ws r c e h = omega (arith, types_few ws)

pub nodes_few : (ws : Words) (c : ℕ) → c ≡ length (types_of ws) → 0 + c ≤ 2048
nodes_few ws c e = omega (arith, types_few ws)

pub nodes_start : (s ps ws ls : Words) (l : ℕ) → NodesGone s ps ws ls l 0 ls
nodes_start s ps ws ls l = record { fixed = fixed_same ls; closed = λ js f. record { each = λ r h. absurd (not-suc-le-zero h) } }

module _ (s ps ws ls : Words) (l n : ℕ) (ks : Words) (k : NodesGone s ps ws ls l n ks) where
  pub nodes_not : (is : Words) (b : Bool) → NodeCloses s ps ws ks l n is b → NodesClose s ps ws ls l is false
  nodes_not is b c = record { fixed = fixed_on ls ks is k.fixed c.fixed; closed = λ e. absurd (never e) }

  pub nodes_end : (c : ℕ) → c ≡ length (types_of ws) → c ≤ n → NodesClose s ps ws ls l ks true
  nodes_end c e h = record { fixed = k.fixed; closed = λ t js f. record { each = λ r o. (k.closed js f).each r (omega arith) } }

  pub nodes_on : (is : Words) (b : Bool) → NodeCloses s ps ws ks l n is b → not b ≡ false → NodesGone s ps ws ls l (n + 1) is
  nodes_on is b c e = record {
    fixed = fixed_on ls ks is k.fixed c.fixed;
    closed = λ js f. record {
      each = λ r h z y. ⊎_elim
          (λ o. subst (Closed s ps ws js l) (sym o) (c.closed (held b e) js f (λ q. z (ap (kind_at (types_of ws)) o ∙ q))))
          (λ o. (k.closed js (fixed_on ks is js c.fixed f)).each r o z y)
          (eq-or-lt_of_le (let t : r ≤ n = omega arith in t));
    };
  }

-- true: a record is closed.
pub record RecordCloses (s ps ws ls : Words) (l k : ℕ) (ks : Words) (b : Bool) : Type 0 where
  pub fixed : Fixed ls ks
  pub closed : b ≡ true → (js : Words) → Fixed ks js → RecordClosed s ps ws js l k

pub record_not : (s ps ws ls : Words) (l k : ℕ) → RecordCloses s ps ws ls l k ls false
record_not s ps ws ls l k = record { fixed = fixed_same ls; closed = λ e. absurd (never e) }

module _ (s ps ws ls : Words) (l k v p j : ℕ) (ev : v ≡ k) (ep : p ≡ at ps v) (ej : j ≡ at s (p + 1)) where
  there : p ≡ at ps k
  there = ep ∙ ap (at ps) ev

  kind_there : at s (at ps k + 1) ≡ j
  kind_there = ap (λ i. at s (i + 1)) (sym there) ∙ sym ej

  pub record_unknown : j ≡ 0 → RecordCloses s ps ws ls l k ls true
  record_unknown z = record { fixed = fixed_same ls; closed = λ t js f. record { param = λ e. absurd (omega (arith, kind_there)); plain = λ y. absurd (y (kind_there ∙ z)) } }

  pub record_param : (d : ℕ) (ks : Words) (b : Bool) → j ≡ 1 → d ≡ at s (p + 3) → d < 8 → k < 1024 → RefsAlike ls (1024 + k) (256 + d) ks b → RecordCloses s ps ws ls l k ks b
  record_param d ks b z ed h hk a = record {
    fixed = a.fixed;
    closed = λ t js f. record {
      param = λ e.
          ap (at js) (let y : 1024 + k ≡ (1024 + k) % 2048 = omega arith in y)
          ∙ a.same t js f
          ∙ ap (at js) (let y : (256 + d) % 2048 ≡ 256 + d = omega arith in y)
          ∙ ap (λ i. at js (256 + i)) (ed ∙ ap (λ i. at s (i + 3)) there);
      plain = λ y n. absurd (n (kind_there ∙ z));
    };
  }

  pub record_plain : (ks : Words) (b : Bool) → j ≢ 1 → Closes s ps ws ls l (1024 + k) ks b → RecordCloses s ps ws ls l k ks b
  record_plain ks b n c = record { fixed = c.fixed; closed = λ t js f. record { param = λ e. absurd (n (sym kind_there ∙ e)); plain = λ y z. c.closed t js f } }

-- The index that is gone through as number i of n, from the last to the first or from the first to the last.
unfoldable pub turned_round : Bool → ℕ → ℕ → ℕ
turned_round down n i = elim down [ true ↦ n - 1 - i | false ↦ i ]

pub round_down : (down : Bool) (n i : ℕ) → down ≡ true → n - 1 - i ≡ turned_round down n i
unfolding turned_round
round_down down n i e = rw (e, turned_round)

pub round_up : (down : Bool) (n i : ℕ) → down ≡ false → i ≡ turned_round down n i
unfolding turned_round
round_up down n i e = rw (e, turned_round)

round_low : (down : Bool) (n i : ℕ) → i < n → turned_round down n i < n
unfolding turned_round
round_low true n i h = omega arith
round_low false n i h = h

round_twice : (down : Bool) (n i : ℕ) → i < n → turned_round down n (turned_round down n i) ≡ i
unfolding turned_round
round_twice true n i h = omega arith
round_twice false n i h = refl

pub index_low : (down : Bool) (n i k : ℕ) → k ≡ turned_round down n i → i < n → n ≤ 1024 → k < 1024
index_low down n i k e h b = omega (arith, round_low down n i h)

-- So are the i of n records that were gone through,
pub record RecordsGone (s ps ws ls : Words) (l : ℕ) (down : Bool) (n i : ℕ) (ks : Words) : Type 0 where
  pub fixed : Fixed ls ks
  pub each : (js : Words) → Fixed ks js → (k : ℕ) → k < n → turned_round down n k < i → RecordClosed s ps ws js l k

-- and, if true, all.
pub record RecordsClose (s ps ws ls : Words) (l : ℕ) (ks : Words) (b : Bool) : Type 0 where
  pub fixed : Fixed ls ks
  pub closed : b ≡ true → (js : Words) → Fixed ks js → RecordsClosed s ps ws js l (length ps)

pub records-none : (s ps ws ls : Words) (l : ℕ) → RecordsClose s ps ws ls l ls false
records-none s ps ws ls l = record { fixed = fixed_same ls; closed = λ e. absurd (never e) }

pub records_start : (s ps ws ls : Words) (l : ℕ) (down : Bool) (n : ℕ) → RecordsGone s ps ws ls l down n 0 ls
records_start s ps ws ls l down n = record { fixed = fixed_same ls; each = λ js f k h z. absurd (not-suc-le-zero z) }

module _ (s ps ws ls : Words) (l : ℕ) (down : Bool) (n i : ℕ) (ks : Words) (g : RecordsGone s ps ws ls l down n i ks) where
  pub records_not : (k : ℕ) (is : Words) (b : Bool) → RecordCloses s ps ws ks l k is b → RecordsClose s ps ws ls l is false
  records_not k is b c = record { fixed = fixed_on ls ks is g.fixed c.fixed; closed = λ e. absurd (never e) }

  pub records_end : n ≡ length ps → n ≤ i → RecordsClose s ps ws ls l ks true
  records_end e h = record { fixed = g.fixed; closed = λ t js f. record { each = λ k o. let b : k < n = omega arith in g.each js f k b (omega (arith, round_low down n k b)) } }

  pub records_on : (k : ℕ) (is : Words) (b : Bool) → k ≡ turned_round down n i → RecordCloses s ps ws ks l k is b → not b ≡ false → RecordsGone s ps ws ls l down n (i + 1) is
  records_on k is b ek c e = record {
    fixed = fixed_on ls ks is g.fixed c.fixed;
    each = λ js f v h z. ⊎_elim
        (λ o. subst (RecordClosed s ps ws js l) (ek ∙ ap (turned_round down n) (sym o) ∙ round_twice down n v h) (c.closed (held b e) js f))
        (λ o. g.each js (fixed_on ks is js c.fixed f) v h o)
        (eq-or-lt_of_le (let t : turned_round down n v ≤ i = omega arith in t));
  }

-- The first n arguments are labelled alike,
pub record ArgsGone (ws ls : Words) (p q : Query) (n : ℕ) (ks : Words) : Type 0 where
  pub fixed : Fixed ls ks
  pub alike : (js : Words) → Fixed ks js → ArgsAlike ws js p q n

-- and, if true, all.
pub record ArgsSame (ws ls : Words) (p q : Query) (ks : Words) (b : Bool) : Type 0 where
  pub fixed : Fixed ls ks
  pub alike : b ≡ true → (js : Words) → Fixed ks js → ArgsAlike ws js p q q.n

pub args_start : (ws ls : Words) (p q : Query) → ArgsGone ws ls p q 0 ls
args_start ws ls p q = record { fixed = fixed_same ls; alike = λ js f. record { each = λ r h. absurd (not-suc-le-zero h) } }

module _ (ws ls : Words) (p q : Query) (n : ℕ) (ks : Words) (k : ArgsGone ws ls p q n ks) where
  pub args_not : (x y : ℕ) (is : Words) (b : Bool) → RefsAlike ks x y is b → ArgsSame ws ls p q is false
  args_not x y is b a = record { fixed = fixed_on ls ks is k.fixed a.fixed; alike = λ e. absurd (never e) }

  pub args_end : q.n ≤ n → ArgsSame ws ls p q ks true
  args_end h = record { fixed = k.fixed; alike = λ t js f. record { each = λ r o. (k.alike js f).each r (omega arith) } }

  pub args_on : (x y : ℕ) (is : Words) (b : Bool) → RefsAlike ks (x / 2) (y / 2) is b → not b ≡ false → x ≡ 2048 + at p.args n % 2048 → y ≡ asked_type ws q n → ArgsGone ws ls p q (n + 1) is
  args_on x y is b a e ex ey = record {
    fixed = fixed_on ls ks is k.fixed a.fixed;
    alike = λ js f. record {
      each = λ r h. ⊎_elim
          (λ o. subst (λ v. at js (own_type p v / 2 % 2048) ≡ at js (asked_type ws q v / 2 % 2048)) (sym o) (ap (λ v. at js (v / 2 % 2048)) (sym ex) ∙ a.same (held b e) js f ∙ ap (λ v. at js (v / 2 % 2048)) ey))
          (λ o. (k.alike js (fixed_on ks is js a.fixed f)).each r o)
          (eq-or-lt_of_le (let t : r ≤ n = omega arith in t));
    };
  }

-- true: the labels are closed, and nothing known has label l.
pub record Labels (s ps ws ls : Words) (p q : Query) (l : ℕ) (ks : Words) (b : Bool) : Type 0 where
  pub fixed : Fixed ls ks
  pub labelling : b ≡ true → Labelling s ps ws ks p q l

pub labelling_args : (s ps ws ls : Words) (p q : Query) (l : ℕ) (ks : Words) (a : Bool) → ArgsSame ws ls p q ks a → Labels s ps ws ls p q l ks false
labelling_args s ps ws ls p q l ks a x = record { fixed = x.fixed; labelling = λ e. absurd (never e) }

pub labelling_records : (s ps ws ls : Words) (p q : Query) (l : ℕ) (ks is : Words) (a b : Bool) → ArgsSame ws ls p q ks a → RecordsClose s ps ws ks l is b → Labels s ps ws ls p q l is false
labelling_records s ps ws ls p q l ks is a b x y = record { fixed = fixed_on ls ks is x.fixed y.fixed; labelling = λ e. absurd (never e) }

pub labelling_all : (s ps ws ls : Words) (p q : Query) (l : ℕ) (ks is js : Words) (a b c : Bool) → ArgsSame ws ls p q ks a → not a ≡ false → RecordsClose s ps ws ks l is b → not b ≡ false → NodesClose s ps ws is l js c → Labels s ps ws ls p q l js c
labelling_all s ps ws ls p q l ks is js a b c x ea y eb z = record {
  fixed = fixed_on ls ks js x.fixed (fixed_on ks is js y.fixed z.fixed);
  labelling = λ e. record {
    nodes = z.closed e js (fixed_same js);
    records = y.closed (held b eb) js z.fixed;
    args = x.alike (held a ea) js (fixed_on ks is js y.fixed z.fixed);
  };
}

-- true: by the links, a ref means its own inverse.
pub record Opposite (ls : Words) (w : ℕ) (b : Bool) : Type 0 where
  pub same : b ≡ true → (s : Words) (m : SignedSol) → Linked s m ls → inverse s (m (w % 2048)) ≡ m (w % 2048)

own_inverse : (s : Words) (m : SignedSol) (t : ℕ) → inverse s (m (t / 2 % 2048)) ≡ m (t / 2 % 2048) → means s m t ≡ m (t / 2 % 2048)
unfolding means turned
own_inverse s m t e = go (odd t) refl
  where
    go : (b : Bool) → odd t ≡ b → turned s (odd t) (m (t / 2 % 2048)) ≡ m (t / 2 % 2048)
    go true q = rw q e
    go false q = rw q

even : (w : ℕ) → odd (2 * w) ≡ false
unfolding odd
even w = ap (λ k. eqb k 1) (let z : 2 * w % 2 ≡ 0 = omega arith in z)

uneven : (w : ℕ) → odd (2 * w + 1) ≡ true
unfolding odd
uneven w = ap (λ k. eqb k 1) (let z : (2 * w + 1) % 2 ≡ 1 = omega arith in z)

-- x is found from it, whose ref is linked to its own inverse.
pub opposite_found : (ls : Words) (w x : ℕ) → Finds ls (2 * w) x → Opposite ls w (eqb (at ls (x / 2 % 2048)) (2 * (x / 2 % 2048) + 2))
unfolding means turned
opposite_found ls w x f = record { same = λ e s m l. one e s m l }
  where
    r : ℕ
    r = x / 2 % 2048

    one : eqb (at ls r) (2 * r + 2) ≡ true → (s : Words) (m : SignedSol) → Linked s m ls → inverse s (m (w % 2048)) ≡ m (w % 2048)
    one e s m l = ap (inverse s) it ∙ at_root ∙ sym it
      where
        is : at ls r ≡ 2 * r + 2
        is = eqb-true (at ls r) (2 * r + 2) e

        low : r < 2048
        low = omega arith

        flipped : means s m (2 * r + 1) ≡ inverse s (m r)
        flipped = rw (uneven r, means, turned) (ap (λ k. inverse s (m k)) (let z : (2 * r + 1) / 2 % 2048 ≡ r = omega (arith, low) in z))

        at_root : inverse s (m r) ≡ m r
        at_root = sym (l.link r (λ z. omega (arith, is, z)) ∙ ap (means s m) (let z : at ls r - 1 ≡ 2 * r + 1 = omega (arith, is) in z) ∙ flipped)

        it : m (w % 2048) ≡ m r
        it =
            ap m (let z : w % 2048 ≡ 2 * w / 2 % 2048 = ap (λ k. k % 2048) (let y : w ≡ 2 * w / 2 = omega arith in y) in z)
            ∙ sym (ap (λ (b : Bool). turned s b (m (2 * w / 2 % 2048))) (even w))
            ∙ f.at s m l
            ∙ own_inverse s m x at_root

-- true: ref w is an unknown root of the question's table, or has a record.
pub record Witness (ps ws : Words) (w : ℕ) (b : Bool) : Type 0 where
  pub node : b ≡ true → w < 1024 → (w < length (types_of ws)) × (kind_at (types_of ws) w ≡ 0) × (rep (types_of ws) w ≡ w)
  pub own : b ≡ true → 1024 ≤ w → (w - 1024 < length ps) × (w < 2048)

pub witness_not : (ps ws : Words) (w : ℕ) → Witness ps ws w false
witness_not ps ws w = record { node = λ e. absurd (never e); own = λ e. absurd (never e) }

pub witness_record : (ps ws : Words) (w v : ℕ) → 1024 ≤ w → w < 2048 → v ≡ w - 1024 → Witness ps ws w (ltb v (length ps))
witness_record ps ws w v h l e = record { node = λ t n. absurd (omega arith); own = λ t n. (omega (arith, ltb→lt v (length ps) (subst T (sym t) tt)), l) }

pub witness_node : (ps ws : Words) (w c j x : ℕ) → w < 1024 → c ≡ length (types_of ws) → w < c → j ≡ kind_at (types_of ws) w → j ≡ 0 → x ≡ word_of_type (find (types_of ws) (type_of_word (2 * w))) → Witness ps ws w (eqb x (2 * w))
unfolding find invert_if rep type_of_word
witness_node ps ws w c j x h ec l ej z ex = record {
  node = λ t n.
      let e : 2 * w / 2 ≡ w = omega arith in
      let o : x / 2 ≡ rep (types_of ws) (2 * w / 2) = ap (λ v. v / 2) ex ∙ ap (λ (u : Ty). u.1) (type_word (find (types_of ws) (type_of_word (2 * w)))) in
      (omega arith, sym ej ∙ z, ap (rep (types_of ws)) (sym e) ∙ sym o ∙ ap (λ v. v / 2) (eqb-true x (2 * w) t) ∙ e);
  own = λ t n. absurd (omega arith);
}

-- true: nothing gives meanings in which links are true and what is loose is not its own inverse.
pub record Opposed (s ps ws ls : Words) (p q : Query) (b : Bool) : Type 0 where
  pub clash : b ≡ true → (m : SignedSol) → Meaning s ps ws m → LooseMeaning s ps ws p q m → Linked s m ls → ⊥

pub opposed_not : (s ps ws ls : Words) (p q : Query) → Opposed s ps ws ls p q false
opposed_not s ps ws ls p q = record { clash = λ e. absurd (never e) }

pub opposed_by : (s ps ws ls ns ks : Words) (p q : Query) (w l : ℕ) (a b c : Bool) → Opposite ls w a → not a ≡ false → Witness ps ws w b → not b ≡ false → l ≡ at ns (w % 2048) → l ≢ 0 → Labels s ps ws ns p q l ks c → Opposed s ps ws ls p q c
opposed_by s ps ws ls ns ks p q w l a b c o ea x eb el nl k = record { clash = λ e m v z y. ⊎_elim (low e m z y) (high e m z y) (lt_or w 1024) }
  where
    there : w < 2048 → l ≡ at ks w
    there h = el ∙ sym (k.fixed.kept (w % 2048) (λ z. nl (el ∙ z))) ∙ ap (at ks) (let z : w % 2048 ≡ w = omega arith in z)

    own : w < 2048 → (m : SignedSol) → Linked s m ls → inverse s (m w) ≡ m w
    own h m y = subst (λ r. inverse s (m r) ≡ m r) (let z : w % 2048 ≡ w = omega arith in z) (o.same (held a ea) s m y)

    low : c ≡ true → (m : SignedSol) → LooseMeaning s ps ws p q m → Linked s m ls → w < 1024 → ⊥
    low e m z y h =
        let n = x.node (held b eb) h in
        z.node ks w (subst (Labelling s ps ws ks p q) (there (omega arith)) (k.labelling e)) n.0 n.1 n.2 (own (omega arith) m y)

    high : c ≡ true → (m : SignedSol) → LooseMeaning s ps ws p q m → Linked s m ls → 1024 ≤ w → ⊥
    high e m z y h =
        let n = x.own (held b eb) h in
        let r : w ≡ 1024 + (w - 1024) = omega arith in
        z.own ks (w - 1024) (subst (Labelling s ps ws ks p q) (there n.1 ∙ ap (at ks) r) (k.labelling e)) n.0 (subst (λ v. inverse s (m v) ≡ m v) r (own n.1 m y))
