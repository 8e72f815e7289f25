-- Every size limit of document 01, once: "Turning a call away", "One question" and "Limits".
use Rattle.std.specs.Prelude.{ℕ}

-- 1: words of a sheet at most (at least its header).
abbrev pub limit_sheet : ℕ
limit_sheet = 4096

-- 2: words of a question at most (at least its three first words).
abbrev pub limit_question : ℕ
limit_question = 1024

-- 3: words of the answer buffer at least.
abbrev pub limit_answer : ℕ
limit_answer = 10240

-- 4: words of the workspace at least, the constant fixed in docs. A call clears as many.
unfoldable pub limit_workspace : ℕ
limit_workspace = 662794

-- 5: a start count at most.
abbrev pub limit_count : ℕ
limit_count = 1000000

-- 8: definitions of a sheet.
abbrev pub limit_definitions : ℕ
limit_definitions = 128

-- 8: impls of a sheet.
abbrev pub limit_impls : ℕ
limit_impls = 128

-- 8: type parameters of generics.
abbrev pub limit_type_params : ℕ
limit_type_params = 8

-- 8: impl parameters of generics.
abbrev pub limit_impl_params : ℕ
limit_impl_params = 4

-- 8: arity of a trait.
abbrev pub limit_arity : ℕ
limit_arity = 4

-- 14: nodes of a `Types`.
abbrev pub limit_nodes : ℕ
limit_nodes = 256

-- 15: how deep questions nest, the top being 1.
abbrev pub limit_depth : ℕ
limit_depth = 16

-- 16: entries of the results of one question, or of one tail of a list of sub-questions.
abbrev pub limit_results : ℕ
limit_results = 4

-- 17: nodes of the trees of one entry.
abbrev pub limit_tree_nodes : ℕ
limit_tree_nodes = 256

-- 18 and 24: the step limit, `STEPS_LIMIT`.
abbrev pub limit_steps : ℕ
limit_steps = 2000
