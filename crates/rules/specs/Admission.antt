-- Components and admission as document 01 words them: "One question", candidates. Components, AncestorLaws and AdmissionLaws say that what Candidates computes is this.
use Rattle.std.specs.Prelude.{ℕ, suc, ◌+◌, ◌<◌, ◌≡◌, Bool, true, false, ◌⊎◌, ◌≢◌}
use Rattle.rules.specs.Lists.{Words}
use Rattle.rules.specs.Layout.{binding_vis, binding_impl, flag_manual, flag_unsafe, flag_named}
use Rattle.rules.specs.Sheet.{at, parent, bindings, impl_flag, impl_trait}
use Rattle.rules.specs.Candidates.{direct, within_def, edges, node_count}
use Rattle.rules.specs.Members.{In}

-- "Edges are those of `for_each_child`": an edge of vis v leads from node x to node y.
abbrev pub EdgeFrom : Words → ℕ → ℕ → ℕ → Type 0
EdgeFrom s x v y = In (v, y) (edges s x)

-- Node x reaches node y: a path of zero or more edges leads from x to y.
pub data Reaches (s : Words) (x : ℕ) : ℕ → Type 0 where
  arrived : Reaches s x x
  along : {y v z : ℕ} → Reaches s x y → EdgeFrom s y v z → Reaches s x z

-- "Nodes that reach each other share one set".
abbrev pub Together : Words → ℕ → ℕ → Type 0
Together s x y = Reaches s x y × Reaches s y x

-- "Ancestors are the parent's ancestors and the definition itself": a is an ancestor of definition d.
pub data Ancestor (s : Words) (a : ℕ) : ℕ → Type 0 where
  itself : Ancestor s a a
  of_parent : {d p : ℕ} → parent s d ≡ suc p → Ancestor s a p → Ancestor s a d

-- A vis lets a source in: it is "public or names an ancestor of the source".
pub data LetsIn (s : Words) (src : ℕ) : ℕ → Type 0 where
  public : LetsIn s src 0
  names : {a : ℕ} → Ancestor s a src → LetsIn s src (suc a)

-- A path open to a source, from node x: "vis on edges between [nodes that reach each other] is not applied; vis on leaving edges is".
pub data OpenPath (s : Words) (src x : ℕ) : ℕ → Type 0 where
  stays : OpenPath s src x x
  onward : {y v z : ℕ} → OpenPath s src x y → EdgeFrom s y v z → Together s y z ⊎ LetsIn s src v → OpenPath s src x z

-- The node at which a definition binds an impl: its direct level for a named impl, the level within for an unnamed one.
abbrev pub binding_node : Bool → ℕ → ℕ
binding_node true d = direct d
binding_node false d = within_def d

-- Node n binds impl i with a vis that lets the source in.
pub record Binds (s : Words) (src n i : ℕ) : Type 0 where
  pub definition : ℕ
  pub node : n ≡ binding_node (impl_flag s flag_named i) definition
  pub binding : ℕ
  pub stands : In binding (bindings s definition)
  pub impl : at s (binding + binding_impl) ≡ i
  pub vis : LetsIn s src (at s (binding + binding_vis))

-- "A set admits a source if binding and leaving edges along some path are all public or name an ancestor of the source": the set of a node, with impl i.
-- "Manual, unsafe and Error impls never enter."
pub record Admits (s : Words) (src node i : ℕ) : Type 0 where
  pub end : ℕ
  pub path : OpenPath s src node end
  pub binds : Binds s src end i
  pub not_manual : impl_flag s flag_manual i ≡ false
  pub not_unsafe : impl_flag s flag_unsafe i ≡ false
  pub not_error : impl_trait s i ≢ 0

-- The set of some node among these does.
abbrev pub SomeAdmits : Words → ℕ → Words → ℕ → Type 0
SomeAdmits s src nodes i = (n : ℕ) × In n nodes × (n < node_count s) × Admits s src n i
