-- A candidate whose signature unifies with the question: its refs on the table that it was brought into, and the join of the arguments, which succeeds.
use Rattle.std.specs.Prelude.{◌+◌, ◌%◌, List, map, take}
use Rattle.rules.specs.Lists.{Words}
use Rattle.rules.specs.Types.{Ty, find, unify, unify_each}
use Rattle.rules.specs.Transfer.{type_of_word}
use Rattle.rules.specs.Answer.{word_of_type}
use Rattle.rules.specs.MostGeneral.{Won}
use Rattle.table.specs.Packing.{types_of}
use Rattle.queries.specs.declared.Query.{Query}
use Rattle.queries.specs.Queries.{four}
use Rattle.order.specs.Stage.{Kin, Stage}

-- The types of refs that the first arguments of a candidate's signature are, and those of a question: as many as the question has.
abbrev pub own_types : Query → Query → Words
own_types p q = map (λ w. 2048 + w % 2048) (take q.n (four p.args))

abbrev pub asked_types : Words → Query → Words
asked_types ws q = map (λ w. word_of_type (find (types_of ws) (type_of_word w))) (take q.n (four q.args))

pub record Brought (s ps ws : Words) (p q : Query) : Type 0 where
  pub stage : Stage s ps ws
  pub left : List Ty
  pub right : List Ty
  pub left_kin : Kin stage.to stage.live stage.table left (own_types p q)
  pub right_kin : Kin stage.to stage.live stage.table right (asked_types ws q)
  pub won : Won (unify_each (unify s) stage.table left right).0
