-- `unify_types`: what is left of the pairs comes to the whole.
use Rattle.std.proofs.Common.{◌≡◌, length, drop}
use Rattle.unify.specs.Lists.{Going}
use Rattle.unify.proofs.unify_types.Given as goal

abbrev pub invariant-loop-a : goal.invariant-loop-a
invariant-loop-a l = record {
  going : Going l.s l.initial.ws l.ws l.xs l.ys l.v (length l.yielded);
  left : l.a-iterator.a.rest.now ≡ drop (length l.yielded) l.xs;
  right : l.a-iterator.b.rest.now ≡ drop (length l.yielded) l.ys;
}
