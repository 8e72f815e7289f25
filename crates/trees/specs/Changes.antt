-- Laws of the changes of a buffer of trees: what it holds after each, and that what lies outside it is as it was.
use Rattle.std.specs.Prelude.{ℕ, zero, suc, ◌+◌, ◌-◌, ◌≤◌, ◌<◌, ◌≡◌, refl, ◌∷◌, ◌++◌, ◌≢◌, length, set, drop}
use Rattle.std.proofs.Common.{sym, ◌∙◌, ap, append-nil, ⊎_elim, arith, length-set, length-append, get_or-set_same, get_or-set_other, get_or-append-add, get_or-drop}
use Rattle.std.proofs.Math.ListN.{get_or-append}
use Rattle.rules.specs.Lists.{Words}
use Rattle.rules.specs.Layout.{tree_def}
use Rattle.rules.specs.Sheet.{at}
use Rattle.rules.specs.Search.{Trees, end, tree, tree_size, leaf, before}
use Rattle.rules.specs.Pigeonholes.{lt_or}
use Rattle.trees.specs.Forests.{trees_length, node_word, tree_words, Fit, Lies, Holds, Held, Single, Apart}
use Rattle.trees.specs.Carries.{Carries}

-- The trees of a buffer at a are copied to b.
pub record Copies (src ws us : Words) (a b : ℕ) : Type 0 where
  pub trees : (ts : Trees) → Holds src a ts → Held ws us b ts

-- The trees of a buffer at a are put behind the one of that at b.
pub record Appends (src ws us : Words) (a b : ℕ) : Type 0 where
  pub trees : (r u : Trees) → Single r → Holds ws b r → Holds src a u → Held ws us b (before r u)

-- A Def with an id is put over the trees of the buffer at b.
pub record Wraps (ws us : Words) (b i : ℕ) : Type 0 where
  pub trees : (ts : Trees) → Holds ws b ts → Held ws us b (tree tree_def i ts end)

-- As many words as nodes.
pub words_size : (ts : Trees) → length (tree_words ts) ≡ tree_size ts
unfolding tree_words tree_size
words_size end = refl
words_size (tree k i c n) = ap suc (length-append (tree_words c) (tree_words n) ∙ (λ t. words_size c t + words_size n t))

-- One tree before others.
pub words-before : (r u : Trees) → Single r → tree_words (before r u) ≡ tree_words r ++ tree_words u
unfolding tree_words before
words-before r u s = rw s.is (ap (λ (l : Words). node_word s.kind s.id (tree_size s.children) ∷ (l ++ tree_words u)) (sym (append-nil (tree_words s.children))))

pub size-before : (r u : Trees) → Single r → tree_size (before r u) ≡ tree_size r + tree_size u
unfolding tree_size before
size-before r u s = rw s.is (omega arith)

pub fit_before : (r u : Trees) → Single r → Fit r → Fit u → Fit (before r u)
unfolding Fit before
fit_before r u s f g = rw s.is (let h = rw s.is at f in (h.0, h.1, h.2, g))

pub single_leaf : (k i : ℕ) → Single (leaf k i)
single_leaf k i = record { kind = k; id = i; children = end; is = refl }

pub single_tree : (k i : ℕ) (ts : Trees) → Single (tree k i ts end)
single_tree k i ts = record { kind = k; id = i; children = ts; is = refl }

-- A buffer whose words are the same holds the same.
pub lies_same : (ws us : Words) (a c : ℕ) (ts : Trees) → ((i : ℕ) → i < tree_size ts → at us (c + i) ≡ at ws (a + i)) → Lies ws a ts → Lies us c ts
lies_same ws us a c ts e l = record { there = λ i h. e i h ∙ l.there i h; fit = l.fit }

pub holds_same : (ws us : Words) (b : ℕ) (ts : Trees) → ((i : ℕ) → b ≤ i → i < b + trees_length → at us i ≡ at ws i) → Holds ws b ts → Holds us b ts
holds_same ws us b ts e h = record {
  count = e b (omega arith) (omega arith) ∙ h.count;
  few = h.few;
  lies = lies_same ws us (b + 1) (b + 1) ts (λ i l. e (b + 1 + i) (omega arith) (omega (arith, h.few))) h.lies;
}

-- So does one apart from a buffer that is changed.
pub holds-apart : (ws us : Words) (a b : ℕ) (ts rs : Trees) → Apart a b → Held ws us b rs → Holds ws a ts → Holds us a ts
holds-apart ws us a b ts rs p d h = holds_same ws us a ts (λ i l m. ⊎_elim (λ q. d.low i (omega arith)) (λ q. d.high i (omega arith)) p.either) h

-- A buffer of a part of a slice.
pub holds-part : (ws : Words) (k b : ℕ) (ts : Trees) → Holds (drop k ws) b ts → Holds ws (k + b) ts
holds-part ws k b ts h = record {
  count = sym (get_or-drop k ws b 0) ∙ h.count;
  few = h.few;
  lies = lies_same (drop k ws) ws (b + 1) (k + b + 1) ts (λ i l. ap (at ws) (let e : k + b + 1 + i ≡ k + (b + 1 + i) = omega arith in e) ∙ sym (get_or-drop k ws (b + 1 + i) 0)) h.lies;
}

-- No trees.
pub empty_held : (ws : Words) (b : ℕ) → b + 257 ≤ length ws → Held ws (set ws b 0) b end
unfolding tree_size Fit
empty_held ws b h = record {
  len = length-set ws b 0;
  holds = record { count = get_or-set_same ws b 0 0 (omega arith); few = omega arith; lies = record { there = λ i l. absurd (omega arith); fit = tt } };
  low = λ i l. get_or-set_other ws b i 0 0 (omega arith);
  high = λ i l. get_or-set_other ws b i 0 0 (omega arith);
}

-- One leaf.
pub leaf_held : (ws : Words) (b k i w : ℕ) → w ≡ node_word k i 0 → k < 8 → i < 4096 → b + 257 ≤ length ws → Held ws (set (set ws b 1) (b + 1) w) b (leaf k i)
unfolding tree_size tree_words Fit
leaf_held ws b k i w e hk hi h = record {
  len = simp length-set;
  holds = record {
    count = get_or-set_other (set ws b 1) (b + 1) b w 0 (omega arith) ∙ get_or-set_same ws b 1 0 (omega arith);
    few = omega arith;
    lies = record {
      there = λ j l. rw (let z : j ≡ 0 = omega arith in z) (ap (at (set (set ws b 1) (b + 1) w)) (let z : b + 1 + 0 ≡ b + 1 = omega arith in z) ∙ get_or-set_same (set ws b 1) (b + 1) w 0 (simp length-set (omega arith)) ∙ e);
      fit = (hk, hi, tt, tt);
    };
  };
  low = λ j l. get_or-set_other (set ws b 1) (b + 1) j w 0 (omega arith) ∙ get_or-set_other ws b j 1 0 (omega arith);
  high = λ j l. get_or-set_other (set ws b 1) (b + 1) j w 0 (omega arith) ∙ get_or-set_other ws b j 1 0 (omega arith);
}

-- A copy: the count and the words behind it.
pub copied : (src ws us : Words) (a b n : ℕ) → n ≡ at src a → at src a ≤ 256 → Carries src ws us a b (n + 1) → Copies src ws us a b
copied src ws us a b n e few c = record {
  trees = λ ts h. record {
    len = c.len;
    holds = record {
      count = ap (at us) (let z : b ≡ b + 0 = omega arith in z) ∙ c.there 0 (omega arith) ∙ ap (at src) (let z : a + 0 ≡ a = omega arith in z) ∙ h.count;
      few = h.few;
      lies = lies_same src us (a + 1) (b + 1) ts (λ i l. ap (at us) (let z : b + 1 + i ≡ b + (1 + i) = omega arith in z) ∙ c.there (1 + i) (omega (arith, h.count)) ∙ ap (at src) (let z : a + (1 + i) ≡ a + 1 + i = omega arith in z)) h.lies;
    };
    low = λ i l. c.low i l;
    high = λ i l. c.high i (omega arith);
  };
}

-- A node over the trees: n of them.
pub wrapped : (ws us : Words) (b n i w : ℕ) → n ≡ at ws b → at ws b < 256 → i < 4096 → b + 257 ≤ length ws → Carries ws ws us (b + 1) (b + 2) n → w ≡ node_word 2 i n → Wraps ws (set (set us b (n + 1)) (b + 1) w) b i
unfolding tree_size tree_words Fit
wrapped ws us b n i w en few hi room c ew = record {
  trees = λ ts h. record {
    len = simp length-set c.len;
    holds = record {
      count = get_or-set_other (set us b (n + 1)) (b + 1) b w 0 (omega arith) ∙ get_or-set_same us b (n + 1) 0 (omega (arith, c.len)) ∙ omega (arith, h.count);
      few = omega (arith, h.count);
      lies = record { there = λ j l. one ts h j l; fit = (omega arith, hi, h.lies.fit, tt) };
    };
    low = λ j l. off j (omega arith) (omega arith) ∙ c.low j (omega arith);
    high = λ j l. off j (omega arith) (omega arith) ∙ c.high j (omega arith);
  };
}
  where
    off : (j : ℕ) → j ≢ b → j ≢ b + 1 → at (set (set us b (n + 1)) (b + 1) w) j ≡ at us j
    off j p q = get_or-set_other (set us b (n + 1)) (b + 1) j w 0 q ∙ get_or-set_other us b j (n + 1) 0 p

    one : (ts : Trees) → Holds ws b ts → (j : ℕ) → j < tree_size (tree tree_def i ts end) → at (set (set us b (n + 1)) (b + 1) w) (b + 1 + j) ≡ at (tree_words (tree tree_def i ts end)) j
    one ts h zero l =
        ap (at (set (set us b (n + 1)) (b + 1) w)) (let z : b + 1 + 0 ≡ b + 1 = omega arith in z)
        ∙ get_or-set_same (set us b (n + 1)) (b + 1) w 0 (simp length-set (omega (arith, c.len)))
        ∙ ew ∙ ap (node_word 2 i) (en ∙ h.count)
    one ts h (suc j) l =
        off (b + 1 + suc j) (omega arith) (omega arith)
        ∙ ap (at us) (let z : b + 1 + suc j ≡ b + 2 + j = omega arith in z)
        ∙ c.there j (omega (arith, h.count))
        ∙ h.lies.there j (omega arith)
        ∙ sym (ap (λ (l : Words). at l j) (append-nil (tree_words ts)))

-- Trees behind trees: n and then m.
pub appended : (src ws us : Words) (a b n m : ℕ) → n ≡ at ws b → m ≡ at src a → at ws b + at src a ≤ 256 → b + 257 ≤ length ws → Carries src ws us (a + 1) (b + 1 + n) m → Appends src ws (set us b (n + m)) a b
appended src ws us a b n m en em few room c = record {
  trees = λ r u s hr hu. record {
    len = simp length-set c.len;
    holds = record {
      count = get_or-set_same us b (n + m) 0 (omega (arith, c.len)) ∙ omega (arith, hr.count, hu.count, size-before r u s);
      few = omega (arith, hr.count, hu.count, size-before r u s);
      lies = record { there = λ j l. one r u s hr hu j l; fit = fit_before r u s hr.lies.fit hu.lies.fit };
    };
    low = λ j l. off j (omega arith) ∙ c.low j (omega arith);
    high = λ j l. off j (omega arith) ∙ c.high j (omega arith);
  };
}
  where
    off : (j : ℕ) → j ≢ b → at (set us b (n + m)) j ≡ at us j
    off j p = get_or-set_other us b j (n + m) 0 p

    one : (r u : Trees) → Single r → Holds ws b r → Holds src a u → (j : ℕ) → j < tree_size (before r u) → at (set us b (n + m)) (b + 1 + j) ≡ at (tree_words (before r u)) j
    one r u s hr hu j l = off (b + 1 + j) (omega arith) ∙ ⊎_elim first second (lt_or j (tree_size r)) ∙ sym (ap (λ (l : Words). at l j) (words-before r u s))
      where
        first : j < tree_size r → at us (b + 1 + j) ≡ at (tree_words r ++ tree_words u) j
        first h = c.low (b + 1 + j) (omega (arith, hr.count)) ∙ hr.lies.there j h ∙ sym (get_or-append (tree_words r) (tree_words u) 0 j (omega (arith, words_size r)))

        second : tree_size r ≤ j → at us (b + 1 + j) ≡ at (tree_words r ++ tree_words u) j
        second h = go (j - tree_size r) (omega (arith, words_size r))
          where
            go : (k : ℕ) → j ≡ length (tree_words r) + k → at us (b + 1 + j) ≡ at (tree_words r ++ tree_words u) j
            go k e =
                ap (at us) (let z : b + 1 + j ≡ b + 1 + n + k = omega (arith, hr.count, words_size r) in z)
                ∙ c.there k (omega (arith, hu.count, hr.count, words_size r, size-before r u s))
                ∙ hu.lies.there k (omega (arith, words_size r, size-before r u s))
                ∙ sym (ap (at (tree_words r ++ tree_words u)) e ∙ get_or-append-add (tree_words r) (tree_words u) k 0)
