-- The planes of marks of a slice of n words, plane k from k × n on: what they say, and that walks in one of them keep the others.
use Rattle.std.specs.Prelude.{ℕ, zero, suc, ◌+◌, ◌*◌, ◌≤◌, ◌<◌, ◌≡◌, ◌⊎◌, refl, Bool, true, false, not, [], ◌∷◌, length, set}
use Rattle.std.proofs.Common.{sym, ◌∙◌, subst, inl, inr, le_of_suc-le-suc, not-suc-le-zero, arith, get_or-set_other}
use Rattle.std.proofs.Math.Path.{ap}
use Rattle.std.proofs.lemmas.Bool.{not-true, not-false}
use Rattle.rules.specs.Lists.{Words}
use Rattle.rules.specs.Layout.{header_length, binding_length, member_length, impl_param_args, impl_param_length, node_children, node_length, cell_length}
use Rattle.rules.specs.Sheet.{at}
use Rattle.rules.specs.Chains.{record_keeps, head_keeps, no_heads, cells_keep, nodes_keep, plain_keep, impl_params_keep}
use Rattle.words.specs.Buffers.{cleared}
use Rattle.chains.specs.Walks.{ok_at, Kept, Tested, Walked, nothing, kept_below, kept_above, ok_yes}

-- The heads of records over cells: one, `off` words on.
unfoldable pub over_cells : ℕ → Words → ℕ → ℕ → Bool
over_cells lo s off p = cells_keep lo s (at s (p + off))

-- Plane 0: cells, and other records of two words.
abbrev pub Cells : Words → Words → Type 0
Cells s ws = Kept s cell_length no_heads 0 ws

-- A record with one head of cells, tested.
module _ (lo : ℕ) (s : Words) (len off b p : ℕ) (ws : Words) (k : Bool) (e : k ≡ record_keeps s len p) where
  module _ (h : ℕ) (us : Words) (r : Bool) (f : not k ≡ false) (q : h ≡ at s (p + off)) (w : Walked nothing 0 lo s cell_length no_heads 0 h ws us r) where
    heads_is : r ≡ over_cells lo s off p
    unfolding over_cells cells_keep
    heads_is = w.is ∙ ap (head_keeps lo s cell_length no_heads) q

    pub celled_low : not r ≡ true → ok_at s len (over_cells lo s off) p ≡ false
    celled_low g = sym (ok_yes s len (over_cells lo s off) p k e f false (sym (not-true r g) ∙ heads_is))

    pub celled_yes : length s ≤ b → not r ≡ false → Tested (Cells s) (length s) s len (over_cells lo s off) b p ws (set us (b + p) 1)
    celled_yes l g = record {
      is = sym (ok_yes s len (over_cells lo s off) p k e f true (sym (not-false r g) ∙ heads_is));
      rest = record { is = λ v i m. (w.kept (not-false r g)).is v i (sym (get_or-set_other us (b + p) (0 + v) 1 0 (λ z. absurd (omega arith))) ∙ m) };
      others = λ j i d. get_or-set_other us (b + p) j 1 0 d ∙ (w.apart (not-false r g)).above j (omega arith) (omega arith);
    }

-- All planes.
pub record Planes (lo : ℕ) (s ws : Words) : Type 0 where
  pub cells : Cells s ws
  pub nodes : Kept s node_length (over_cells lo s node_children) (length s) ws
  pub params : Kept s impl_param_length (over_cells lo s impl_param_args) (2 * length s) ws
  pub threes : Kept s binding_length no_heads (3 * length s) ws
  pub fours : Kept s member_length no_heads (4 * length s) ws

-- What a test says, and that the planes are right after it where it passes.
pub record Goes (lo : ℕ) (s : Words) (t : Bool) (ws : Words) (r : Bool) : Type 0 where
  pub is : r ≡ t
  pub planes : r ≡ true → Planes lo s ws

-- Records of three or of four words with no heads.
three_or_four : (len : ℕ) → 3 ≤ len → len ≤ 4 → (len ≡ 3) ⊎ (len ≡ 4)
three_or_four zero h l = absurd (omega arith)
three_or_four (suc zero) h l = absurd (omega arith)
three_or_four (suc (suc zero)) h l = absurd (omega arith)
three_or_four (suc (suc (suc zero))) h l = inl refl
three_or_four (suc (suc (suc (suc zero)))) h l = inr refl
three_or_four (suc (suc (suc (suc (suc len))))) h l = absurd (omega arith)

-- Their planes are those of three and four words.
pub others_kept : (lo len : ℕ) (s ws : Words) → 3 ≤ len → len ≤ 4 → Planes lo s ws → Kept s len no_heads (len * length s) ws
others_kept lo len s ws low high a = go (three_or_four len low high)
  where
    go : (len ≡ 3) ⊎ (len ≡ 4) → Kept s len no_heads (len * length s) ws
    go (inl q) = subst (λ l. Kept s l no_heads (l * length s) ws) (sym q) a.threes
    go (inr q) = subst (λ l. Kept s l no_heads (l * length s) ws) (sym q) a.fours

-- A cleared workspace has no marks.
at_cleared : (n : ℕ) (ws : Words) (j : ℕ) → j < n → at (cleared n ws) j ≡ 0
unfolding cleared
at_cleared zero ws j h = absurd (not-suc-le-zero h)
at_cleared (suc n) [] j h = refl
at_cleared (suc n) (w ∷ ws) zero h = refl
at_cleared (suc n) (w ∷ ws) (suc j) h = at_cleared n ws j (le_of_suc-le-suc h)

pub planes_cleared : (lo : ℕ) (s ws us : Words) → us ≡ cleared (5 * length s) ws → Planes lo s us
planes_cleared lo s ws us e = record {
  cells = record { is = λ v l m. none (0 + v) m (omega arith) };
  nodes = record { is = λ v l m. none (length s + v) m (omega arith) };
  params = record { is = λ v l m. none (2 * length s + v) m (omega arith) };
  threes = record { is = λ v l m. none (3 * length s + v) m (omega arith) };
  fours = record { is = λ v l m. none (4 * length s + v) m (omega arith) };
}
  where
    none : {A : Type 0} (j : ℕ) → at us j ≡ 1 → j < 5 * length s → A
    none j m l = absurd (omega (arith, m, ap (λ (us : Words). at us j) e, at_cleared (5 * length s) ws j l))

-- Walks, each in its plane.
module _ (lo : ℕ) (s ws us : Words) (p off h : ℕ) (r : Bool) (e : h ≡ at s (p + off)) (a : Planes lo s ws) where
  pub cells_go : Walked nothing 0 lo s cell_length no_heads 0 h ws us r → Goes lo s (cells_keep lo s (at s (p + off))) us r
  unfolding cells_keep
  cells_go w = record {
    is = w.is ∙ ap (head_keeps lo s cell_length no_heads) e;
    planes = λ t. record {
      cells = w.kept t;
      nodes = kept_above s _ _ _ _ _ _ ws us a.nodes (w.apart t) (omega arith) (omega arith);
      params = kept_above s _ _ _ _ _ _ ws us a.params (w.apart t) (omega arith) (omega arith);
      threes = kept_above s _ _ _ _ _ _ ws us a.threes (w.apart t) (omega arith) (omega arith);
      fours = kept_above s _ _ _ _ _ _ ws us a.fours (w.apart t) (omega arith) (omega arith);
    };
  }

  pub nodes_go : Walked (Cells s) (length s) lo s node_length (over_cells lo s node_children) (length s) h ws us r → Goes lo s (nodes_keep lo s (at s (p + off))) us r
  unfolding nodes_keep over_cells
  nodes_go w = record {
    is = w.is ∙ ap (head_keeps lo s node_length (over_cells lo s node_children)) e;
    planes = λ t. record {
      cells = w.rest t;
      nodes = w.kept t;
      params = kept_above s _ _ _ _ _ _ ws us a.params (w.apart t) (omega arith) (omega arith);
      threes = kept_above s _ _ _ _ _ _ ws us a.threes (w.apart t) (omega arith) (omega arith);
      fours = kept_above s _ _ _ _ _ _ ws us a.fours (w.apart t) (omega arith) (omega arith);
    };
  }

module _ (s ws us : Words) (p off h : ℕ) (r : Bool) (e : h ≡ at s (p + off)) (a : Planes header_length s ws) where
  pub params_go : Walked (Cells s) (length s) header_length s impl_param_length (over_cells header_length s impl_param_args) (2 * length s) h ws us r → Goes header_length s (impl_params_keep s (at s (p + off))) us r
  unfolding impl_params_keep over_cells
  params_go w = record {
    is = w.is ∙ ap (head_keeps header_length s impl_param_length (over_cells header_length s impl_param_args)) e;
    planes = λ t. record {
      cells = w.rest t;
      nodes = kept_below s _ _ _ _ _ _ ws us a.nodes (w.apart t) (omega arith) (omega arith);
      params = w.kept t;
      threes = kept_above s _ _ _ _ _ _ ws us a.threes (w.apart t) (omega arith) (omega arith);
      fours = kept_above s _ _ _ _ _ _ ws us a.fours (w.apart t) (omega arith) (omega arith);
    };
  }

  pub threes_go : Walked nothing 0 header_length s binding_length no_heads (3 * length s) h ws us r → Goes header_length s (plain_keep s binding_length (at s (p + off))) us r
  unfolding plain_keep
  threes_go w = record {
    is = w.is ∙ ap (head_keeps header_length s binding_length no_heads) e;
    planes = λ t. record {
      cells = kept_below s _ _ _ _ _ _ ws us a.cells (w.apart t) (omega arith) (omega arith);
      nodes = kept_below s _ _ _ _ _ _ ws us a.nodes (w.apart t) (omega arith) (omega arith);
      params = kept_below s _ _ _ _ _ _ ws us a.params (w.apart t) (omega arith) (omega arith);
      threes = w.kept t;
      fours = kept_above s _ _ _ _ _ _ ws us a.fours (w.apart t) (omega arith) (omega arith);
    };
  }

  pub fours_go : Walked nothing 0 header_length s member_length no_heads (4 * length s) h ws us r → Goes header_length s (plain_keep s member_length (at s (p + off))) us r
  unfolding plain_keep
  fours_go w = record {
    is = w.is ∙ ap (head_keeps header_length s member_length no_heads) e;
    planes = λ t. record {
      cells = kept_below s _ _ _ _ _ _ ws us a.cells (w.apart t) (omega arith) (omega arith);
      nodes = kept_below s _ _ _ _ _ _ ws us a.nodes (w.apart t) (omega arith) (omega arith);
      params = kept_below s _ _ _ _ _ _ ws us a.params (w.apart t) (omega arith) (omega arith);
      threes = kept_below s _ _ _ _ _ _ ws us a.threes (w.apart t) (omega arith) (omega arith);
      fours = w.kept t;
    };
  }

  -- Records of three or of four words, in the plane of that number.
  pub others_go : (len : ℕ) → 3 ≤ len → len ≤ 4 → Walked nothing 0 header_length s len no_heads (len * length s) h ws us r → Goes header_length s (plain_keep s len (at s (p + off))) us r
  others_go len low high w = go (three_or_four len low high)
    where
      go : (len ≡ 3) ⊎ (len ≡ 4) → Goes header_length s (plain_keep s len (at s (p + off))) us r
      go (inl q) = subst (λ l. Goes header_length s (plain_keep s l (at s (p + off))) us r) (sym q) (threes_go (subst (λ l. Walked nothing 0 header_length s l no_heads (l * length s) h ws us r) q w))
      go (inr q) = subst (λ l. Goes header_length s (plain_keep s l (at s (p + off))) us r) (sym q) (fours_go (subst (λ l. Walked nothing 0 header_length s l no_heads (l * length s) h ws us r) q w))
