-- `plain_keep`: each record is known, or marked where it passes.
use Rattle.std.proofs.Common.{rules, arith}
use Rattle.rules.specs.Chains.{no_heads}
use Rattle.chains.specs.Walks.{nothing, Tells, by_calls, walked}
use Rattle.chains.proofs.plain_keep.Goals as goal

pub returns : goal.returns
returns c = λ k. walked nothing 0 _ _ _ no_heads _ _ _ _ c.requires.0 c.requires.1 (omega arith)
    (λ us p f xs q a. by_calls _ (λ us p f xs. Tells nothing 0 c.args.s.now c.args.len no_heads c.args.b p us xs f) (λ lent left p f m. search rules) us p f xs a)
    _ _ k tt c.walk.ensures
