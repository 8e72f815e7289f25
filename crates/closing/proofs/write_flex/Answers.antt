-- The answer of a flex call written.
use Rattle.closing.specs.Impl.{no_trees}
use Rattle.closing.proofs.write_flex.Goals as goal

pub trees_of-fork-requires-clause-holds : goal.trees_of-fork-requires-clause-holds
trees_of-fork-requires-clause-holds c = no_trees

pub trees_of-drop-requires-clause-holds : goal.trees_of-drop-requires-clause-holds
trees_of-drop-requires-clause-holds c = no_trees
