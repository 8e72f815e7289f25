-- The closing join, and then the answer.
use Rattle.std.proofs.Common.{rules}
use Rattle.closing.specs.Impl.{joined_neat, joined_long}
use Rattle.closing.proofs.finish_impl.Goals as goal

pub write_impl-requires-clause-neat : goal.write_impl-requires-clause-neat
write_impl-requires-clause-neat c = search (rules, joined_neat)

pub write_impl-requires-clause-n_in_bounds : goal.write_impl-requires-clause-n_in_bounds
write_impl-requires-clause-n_in_bounds c = search (rules, joined_long)
