-- `sign_with`: the signature is read, and met.
use Rattle.std.proofs.Common.{rules}
use Rattle.opening.specs.Signing.{signature_few, table_neat, signature_inside, signature_leaves, signature_meets}
use Rattle.opening.specs.Sound.{signature_lent}
use Rattle.opening.proofs.sign_with.Goals as goal

pub read_query-p-requires : goal.read_query-p-requires
read_query-p-requires c = search (rules, signature_few)

pub meet-requires-clause-neat : goal.meet-requires-clause-neat
meet-requires-clause-neat c = search (rules, table_neat)

pub meet-requires-clause-lent : goal.meet-requires-clause-lent
meet-requires-clause-lent c = search (rules, signature_lent)

pub meet-requires-clause-all_in : goal.meet-requires-clause-all_in
meet-requires-clause-all_in c = search (rules, signature_inside, c.requires.sound, c.requires.i_bound, c.word_of-head.ensures, c.word_of-tr.ensures, c.impl_args-args.ensures, c.read_query-p.ensures.result_value)

pub meet-requires-clause-brought : goal.meet-requires-clause-brought
meet-requires-clause-brought c = search (rules, signature_leaves, c.requires.sound, c.requires.i_bound, c.word_of-head.ensures, c.word_of-tr.ensures, c.impl_args-args.ensures, c.read_query-p.ensures.result_value, c.requires.leaves)

pub returns : goal.returns
returns c = search (rules, signature_meets, c.requires.sound, c.requires.i_bound, c.word_of-head.ensures, c.word_of-tr.ensures, c.impl_args-args.ensures, c.read_query-p.ensures.result_value, c.meet.ensures)
