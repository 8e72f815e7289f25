-- `replay_steps`: both tables are sound after each step.
use Rattle.type_cases.specs.Sound.{Sound}
use Rattle.type_cases.proofs.replay_steps.Given as goal

abbrev pub invariant-loop : goal.invariant-loop
invariant-loop g l = Sound l.a × Sound l.b
