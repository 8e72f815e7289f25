-- The planes that 8 and 12 read, one word for each chain: how long it is, and the most that its cells, nodes, bindings, members or impl parameters ask for.
use Rattle.std.specs.Prelude.{ℕ, ◌+◌, ◌*◌, ◌≤◌, ◌<◌, ◌≡◌, not, length, set}
use Rattle.std.proofs.Common.{sym, ◌∙◌, subst, arith, get_or-set_same, get_or-set_other}
use Rattle.std.proofs.Math.Path.{ap}
use native.Mathlib.Nat.{ℕ_set}
use Rattle.std.proofs.Math.Decide.{ℕ_discrete}
use Rattle.rules.specs.Lists.{Words, bit}
use Rattle.rules.specs.Limits.{limit_sheet}
use Rattle.rules.specs.Layout.{header_traits, header_length, node_children, node_kind, node_inverted, node_id, impl_param_args, impl_param_trait}
use Rattle.rules.specs.Sheet.{at, chain, many}
use Rattle.rules.specs.Members.{In}
use Rattle.rules.specs.Values.{binding_ok, member_ok}
use Rattle.chart.specs.Index.{Indexed, indexed_record, indexed-many, many-within}
use Rattle.values.specs.Folds.{Forward, chain_mark, mark-same, most, most-same, chain_length, length_none, Below, Folded, fold_done, head_noted, chain_most, most-none}
use Rattle.values.specs.NodeLaws.{bad, cell_need, bound, core, args_core, node_core, node_need, node_child, param_core, param_child}
use Rattle.values.specs.Known.{Known, known_prop, known_same}
use Rattle.values.specs.Value.{node_mark, param_mark, inner_mark}

-- Where the planes stand: behind what is known of the sheet, one behind the other. First, how long a chain is.
abbrev pub plane_lengths : ℕ
plane_lengths = 2 * limit_sheet

-- What the cells of a chain ask of their table.
abbrev pub plane_bounds : ℕ
plane_bounds = 3 * limit_sheet

-- Whether a node of a chain is out of range by itself.
abbrev pub plane_cores : ℕ
plane_cores = 4 * limit_sheet

-- What its nodes ask of the type parameters.
abbrev pub plane_needs : ℕ
plane_needs = 5 * limit_sheet

-- What their children ask of the table.
abbrev pub plane_kids : ℕ
plane_kids = 6 * limit_sheet

-- Whether a binding of a chain is out of range.
abbrev pub plane_bindings : ℕ
plane_bindings = 7 * limit_sheet

-- Whether a member is.
abbrev pub plane_members : ℕ
plane_members = 8 * limit_sheet

-- Whether an impl parameter is.
abbrev pub plane_params : ℕ
plane_params = 9 * limit_sheet

-- What their arguments ask of the table.
abbrev pub plane_args : ℕ
plane_args = 10 * limit_sheet

-- All of them together.
abbrev pub planes_room : ℕ
planes_room = 11 * limit_sheet

-- The sheet is known, and there is room for the planes of a slice w.
pub record Space (s w ws : Words) : Type 0 where
  pub known : Known s ws
  pub small : length s ≤ limit_sheet
  pub part : length w ≤ limit_sheet
  pub room : planes_room ≤ length ws

-- The counts of the sheet's records: n of them are noted.
pub record Counted (s : Words) (n : ℕ) (us : Words) : Type 0 where
  pub is : (h : ℕ) → h < n → at us h ≡ many s h

-- None is noted yet.
pub counted_none : (s us : Words) → Counted s 0 us
counted_none s us = record { is = λ h l. absurd (omega arith) }

-- A count is a word.
pub count_fits : (s : Words) (h c : ℕ) → length s ≤ limit_sheet → c ≡ many s h → c ≤ 4294967295
count_fits s h c small e = omega (arith, many-within s h)

-- One header word more.
pub counted_more : (s us : Words) (h c r m : ℕ) → Counted s h us → length us ≡ m → planes_room ≤ m → h < header_length → c ≡ many s h → r ≡ c → Counted s (h + 1) (set us h r)
counted_more s us h c r m n lm lr lh e f = record { is = λ j k. go j k (ℕ_discrete j h) }
  where
    go : (j : ℕ) → j < h + 1 → Dec (j ≡ h) → at (set us h r) j ≡ many s j
    go j k (yes q) = subst (λ x. at (set us h r) x ≡ many s x) (sym q) (get_or-set_same us h r 0 (omega arith) ∙ f ∙ e)
    go j k (no q) = get_or-set_other us h j r 0 q ∙ n.is j (omega arith)

-- All header words.
pub counted-all : (s us : Words) (h : ℕ) → Counted s h us → header_length ≤ h → Counted s header_length us
counted-all s us h n l = record { is = λ j k. n.is j (omega arith) }

-- There is room for the index of traits.
pub traits_room : (s ws us : Words) → length s ≤ limit_sheet → planes_room ≤ length ws → length us ≡ length ws → limit_sheet + many s header_traits ≤ length us
traits_room s ws us small room e = omega (arith, many-within s header_traits)

-- Counts and the index of traits: the sheet is known.
pub known_made : (s ws us : Words) (n : ℕ) → Counted s header_length ws → Indexed s (at s header_traits) ws us limit_sheet n → Known s us
known_made s ws us n c x = record {
  count = λ h l. x.below h (omega arith) ∙ c.is h l;
  trait = λ i l. indexed_record s header_traits ws us limit_sheet n x i (omega (arith, indexed-many s header_traits ws us limit_sheet n x));
}

-- The plane from `to` has what f says of each chain, and nothing below it is changed.
pub record Most (s w ws us : Words) (f : ℕ → ℕ) (to : ℕ) : Type 0 where
  pub long : length us ≡ length ws
  pub below : (j : ℕ) → j < to → at us j ≡ at ws j
  pub is : (h : ℕ) → Forward w h → chain_mark us to h ≡ most f (chain w h)
  pub space : Space s w us

-- A pass from the slice's end, over a plane behind what is known.
module _ (s w ws us : Words) (q : Space s w ws) where
  -- The sheet stays known.
  pub known_fold : (g : ℕ → ℕ) (to i : ℕ) → 2 * limit_sheet ≤ to → Folded w to g i ws us → Known s us
  known_fold g to i l n = known_same s ws us to q.small l n.below q.known

  -- And the room stays.
  pub space_fold : (g : ℕ → ℕ) (to i : ℕ) → 2 * limit_sheet ≤ to → Folded w to g i ws us → Space s w us
  space_fold g to i l n = record { known = known_fold g to i l n; small = q.small; part = q.part; room = omega (arith, q.room, n.long) }

  -- All places are noted.
  pub most-made : (f : ℕ → ℕ) (to i : ℕ) → 2 * limit_sheet ≤ to → i ≤ 1 → Folded w to (chain_most f w) i ws us → Most s w ws us f to
  unfolding chain_most
  most-made f to i l e n = record {
    long = n.long;
    below = n.below;
    is = λ h o. head_noted w to (chain_most f w) ws us h q.part (most-none f w) (fold_done w to (chain_most f w) ws us i e n) o;
    space = space_fold (chain_most f w) to i l n;
  }

-- It is known too where nothing below the plane is changed.
pub known_below : (s w ws vs : Words) (to : ℕ) → Space s w ws → 2 * limit_sheet ≤ to → Below to ws vs → Known s vs
known_below s w ws vs to q l k = known_same s ws vs to q.small l k.same q.known

-- The lengths of chains, and what cells ask of the table.
pub record Cells (w us : Words) : Type 0 where
  pub lengths : (h : ℕ) → Forward w h → chain_mark us plane_lengths h ≡ length (chain w h)
  pub bounds : (h : ℕ) → Forward w h → chain_mark us plane_bounds h ≡ bound w h

-- Both are noted, and nothing below them is changed.
pub record CellsMade (w ws us : Words) : Type 0 where
  pub cells : Cells w us
  pub below : Below plane_lengths ws us

-- A pass that counts, and one for what cells ask for.
pub cells-made : (s w ws vs us : Words) → length w ≤ limit_sheet → Folded w plane_lengths (chain_length w) 1 ws vs → Most s w vs us (cell_need w) plane_bounds → CellsMade w ws us
unfolding bound chain_length
cells-made s w ws vs us small n m = record {
  cells = record {
    lengths = λ h o. mark-same vs us plane_lengths plane_bounds h (omega arith) m.below ∙ head_noted w plane_lengths (chain_length w) ws vs h small (length_none w) n o;
    bounds = λ h o. m.is h o;
  };
  below = record { same = λ j l. m.below j (omega arith) ∙ n.below j l; long = m.long ∙ n.long };
}

-- A chain whose records have heads of chains in them, all of which go forward.
pub record Rows (w : Words) (h off : ℕ) : Type 0 where
  pub forward : Forward w h
  pub inner : (p : ℕ) → In p (chain w h) → Forward w (at w (p + off))

-- What nodes ask for.
pub record Nodes (s w us : Words) : Type 0 where
  pub cores : (h : ℕ) → Rows w h node_children → chain_mark us plane_cores h ≡ most (bad (node_core s w)) (chain w h)
  pub needs : (h : ℕ) → Forward w h → chain_mark us plane_needs h ≡ most (node_need w) (chain w h)
  pub kids : (h : ℕ) → Rows w h node_children → chain_mark us plane_kids h ≡ most (node_child w) (chain w h)

-- It is noted, and nothing below is changed.
pub record NodesMade (s w ws us : Words) : Type 0 where
  pub cells : Cells w us
  pub nodes : Nodes s w us
  pub below : Below plane_cores ws us

-- What is noted of a place, where its chains go forward.
module _ (s w ws : Words) (c : Cells w ws) (h : ℕ) (r : Rows w h node_children) where
  node_cores : most (node_mark s w ws plane_lengths) (chain w h) ≡ most (bad (node_core s w)) (chain w h)
  unfolding node_mark node_core
  node_cores = most-same (node_mark s w ws plane_lengths) (bad (node_core s w)) (chain w h)
      (λ p m. ap (λ n. bit (not (core s (at w (p + node_kind)) (at w (p + node_inverted)) (at w (p + node_id)) n))) (c.lengths (at w (p + node_children)) (r.inner p m)))

  node-kids : most (inner_mark w ws plane_bounds node_children) (chain w h) ≡ most (node_child w) (chain w h)
  unfolding inner_mark node_child
  node-kids = most-same (inner_mark w ws plane_bounds node_children) (node_child w) (chain w h) (λ p m. c.bounds (at w (p + node_children)) (r.inner p m))

-- Cells stay known.
cells_same : (w ws us : Words) (to : ℕ) → plane_cores ≤ to → ((j : ℕ) → j < to → at us j ≡ at ws j) → Cells w ws → Cells w us
cells_same w ws us to l same c = record {
  lengths = λ h o. mark-same ws us plane_lengths to h (omega arith) same ∙ c.lengths h o;
  bounds = λ h o. mark-same ws us plane_bounds to h (omega arith) same ∙ c.bounds h o;
}

-- After a pass further up.
pub cells-most : (s w ws us : Words) (f : ℕ → ℕ) (to : ℕ) → plane_cores ≤ to → Cells w ws → Most s w ws us f to → Cells w us
cells-most s w ws us f to l c m = cells_same w ws us to l m.below c

-- Three passes: cores, needs, children.
pub nodes_made : (s w ws u₁ u₂ u₃ : Words) → Cells w ws → Most s w ws u₁ (node_mark s w ws plane_lengths) plane_cores → Most s w u₁ u₂ (node_need w) plane_needs → Most s w u₂ u₃ (inner_mark w u₂ plane_bounds node_children) plane_kids → NodesMade s w ws u₃
nodes_made s w ws u₁ u₂ u₃ c m₁ m₂ m₃ = record {
  cells = c₃;
  nodes = record {
    cores = λ h r.
        mark-same u₂ u₃ plane_cores plane_kids h (omega arith) m₃.below
        ∙ mark-same u₁ u₂ plane_cores plane_needs h (omega arith) m₂.below
        ∙ m₁.is h r.forward
        ∙ node_cores s w ws c h r;
    needs = λ h o. mark-same u₂ u₃ plane_needs plane_kids h (omega arith) m₃.below ∙ m₂.is h o;
    kids = λ h r. m₃.is h r.forward ∙ node-kids s w u₂ c₂ h r;
  };
  below = record { same = λ j l. m₃.below j (omega arith) ∙ m₂.below j (omega arith) ∙ m₁.below j l; long = m₃.long ∙ m₂.long ∙ m₁.long };
}
  where
    c₁ : Cells w u₁
    c₁ = cells-most s w ws u₁ (node_mark s w ws plane_lengths) plane_cores (omega arith) c m₁

    c₂ : Cells w u₂
    c₂ = cells-most s w u₁ u₂ (node_need w) plane_needs (omega arith) c₁ m₂

    c₃ : Cells w u₃
    c₃ = cells-most s w u₂ u₃ (inner_mark w u₂ plane_bounds node_children) plane_kids (omega arith) c₂ m₃

-- The planes of a slice's tables.
pub record Tables (s w us : Words) : Type 0 where
  pub known : Known s us
  pub cells : Cells w us
  pub nodes : Nodes s w us

-- At most one proof of it.
cells_prop : (w us : Words) → IsProp (Cells w us)
cells_prop w us a b = λ i. record { lengths = λ h m. ℕ_set _ _ (a.lengths h m) (b.lengths h m) i; bounds = λ h m. ℕ_set _ _ (a.bounds h m) (b.bounds h m) i }

nodes_prop : (s w us : Words) → IsProp (Nodes s w us)
nodes_prop s w us a b = λ i. record { cores = λ h m. ℕ_set _ _ (a.cores h m) (b.cores h m) i; needs = λ h m. ℕ_set _ _ (a.needs h m) (b.needs h m) i; kids = λ h m. ℕ_set _ _ (a.kids h m) (b.kids h m) i }

pub tables_prop : (s w us : Words) → IsProp (Tables s w us)
tables_prop s w us a b = λ i. record { known = known_prop s us a.known b.known i; cells = cells_prop w us a.cells b.cells i; nodes = nodes_prop s w us a.nodes b.nodes i }

-- What bindings, members and impl parameters ask for.
pub record Links (s us : Words) : Type 0 where
  pub bindings : (h : ℕ) → Forward s h → chain_mark us plane_bindings h ≡ most (bad (binding_ok s)) (chain s h)
  pub members : (h : ℕ) → Forward s h → chain_mark us plane_members h ≡ most (bad (member_ok s)) (chain s h)
  pub params : (h : ℕ) → Rows s h impl_param_args → chain_mark us plane_params h ≡ most (bad (param_core s)) (chain s h)
  pub args : (h : ℕ) → Rows s h impl_param_args → chain_mark us plane_args h ≡ most (param_child s) (chain s h)

module _ (s ws : Words) (c : Cells s ws) (h : ℕ) (r : Rows s h impl_param_args) where
  link_params : most (param_mark s ws plane_lengths) (chain s h) ≡ most (bad (param_core s)) (chain s h)
  unfolding param_mark param_core
  link_params = most-same (param_mark s ws plane_lengths) (bad (param_core s)) (chain s h) (λ p m. ap (λ n. bit (not (args_core s (at s (p + impl_param_trait)) n))) (c.lengths (at s (p + impl_param_args)) (r.inner p m)))

  link_args : most (inner_mark s ws plane_bounds impl_param_args) (chain s h) ≡ most (param_child s) (chain s h)
  unfolding inner_mark param_child
  link_args = most-same (inner_mark s ws plane_bounds impl_param_args) (param_child s) (chain s h) (λ p m. c.bounds (at s (p + impl_param_args)) (r.inner p m))

-- It is noted, and nothing below is changed.
pub record LinksMade (s ws us : Words) : Type 0 where
  pub links : Links s us
  pub below : Below plane_bindings ws us

-- Four passes: bindings, members, impl parameters, their arguments.
pub links_made : (s ws u₁ u₂ u₃ u₄ : Words) → Cells s ws → Most s s ws u₁ (bad (binding_ok s)) plane_bindings → Most s s u₁ u₂ (bad (member_ok s)) plane_members → Most s s u₂ u₃ (param_mark s u₂ plane_lengths) plane_params → Most s s u₃ u₄ (inner_mark s u₃ plane_bounds impl_param_args) plane_args → LinksMade s ws u₄
links_made s ws u₁ u₂ u₃ u₄ c m₁ m₂ m₃ m₄ = record {
  links = record {
    bindings = λ h o.
        mark-same u₃ u₄ plane_bindings plane_args h (omega arith) m₄.below
        ∙ mark-same u₂ u₃ plane_bindings plane_params h (omega arith) m₃.below
        ∙ mark-same u₁ u₂ plane_bindings plane_members h (omega arith) m₂.below
        ∙ m₁.is h o;
    members = λ h o.
        mark-same u₃ u₄ plane_members plane_args h (omega arith) m₄.below
        ∙ mark-same u₂ u₃ plane_members plane_params h (omega arith) m₃.below
        ∙ m₂.is h o;
    params = λ h r. mark-same u₃ u₄ plane_params plane_args h (omega arith) m₄.below ∙ m₃.is h r.forward ∙ link_params s u₂ c₂ h r;
    args = λ h r. m₄.is h r.forward ∙ link_args s u₃ c₃ h r;
  };
  below = record { same = λ j l. m₄.below j (omega arith) ∙ m₃.below j (omega arith) ∙ m₂.below j (omega arith) ∙ m₁.below j l; long = m₄.long ∙ m₃.long ∙ m₂.long ∙ m₁.long };
}
  where
    c₁ : Cells s u₁
    c₁ = cells-most s s ws u₁ (bad (binding_ok s)) plane_bindings (omega arith) c m₁

    c₂ : Cells s u₂
    c₂ = cells-most s s u₁ u₂ (bad (member_ok s)) plane_members (omega arith) c₁ m₂

    c₃ : Cells s u₃
    c₃ = cells-most s s u₂ u₃ (param_mark s u₂ plane_lengths) plane_params (omega arith) c₂ m₃

-- The planes of a slice's tables, of cells and of nodes.
pub tables_made : (s w ws vs us : Words) → Space s w ws → CellsMade w ws vs → NodesMade s w vs us → Tables s w us
tables_made s w ws vs us p c n = record {
  known = known_same s ws us plane_lengths p.small (omega arith) (λ j l. n.below.same j (omega arith) ∙ c.below.same j l) p.known;
  cells = n.cells;
  nodes = n.nodes;
}

-- The sheet stays known after cells are noted.
pub space_cells : (s w ws us : Words) → Space s w ws → CellsMade w ws us → Space s w us
space_cells s w ws us p c = record { known = known_same s ws us plane_lengths p.small (omega arith) c.below.same p.known; small = p.small; part = p.part; room = omega (arith, p.room, c.below.long) }

-- All planes of a sheet.
pub record Charted (s us : Words) : Type 0 where
  pub tables : Tables s s us
  pub links : Links s us

-- At most one proof of it.
links_prop : (s us : Words) → IsProp (Links s us)
links_prop s us a b = λ i. record {
  bindings = λ h m. ℕ_set _ _ (a.bindings h m) (b.bindings h m) i;
  members = λ h m. ℕ_set _ _ (a.members h m) (b.members h m) i;
  params = λ h m. ℕ_set _ _ (a.params h m) (b.params h m) i;
  args = λ h m. ℕ_set _ _ (a.args h m) (b.args h m) i;
}

pub charted_prop : (s us : Words) → IsProp (Charted s us)
charted_prop s us a b = λ i. record { tables = tables_prop s s us a.tables b.tables i; links = links_prop s us a.links b.links i }

-- The planes of its tables and of its other chains.
pub charted : (s ws us : Words) → length s ≤ limit_sheet → Tables s s ws → LinksMade s ws us → Charted s us
charted s ws us small t l = record {
  tables = record {
    known = known_same s ws us plane_bindings small (omega arith) l.below.same t.known;
    cells = cells_same s ws us plane_bindings (omega arith) l.below.same t.cells;
    nodes = record {
      cores = λ h r. mark-same ws us plane_cores plane_bindings h (omega arith) l.below.same ∙ t.nodes.cores h r;
      needs = λ h o. mark-same ws us plane_needs plane_bindings h (omega arith) l.below.same ∙ t.nodes.needs h o;
      kids = λ h r. mark-same ws us plane_kids plane_bindings h (omega arith) l.below.same ∙ t.nodes.kids h r;
    };
  };
  links = l.links;
}
