-- `new`: all words are zeros.
use Rattle.std.specs.Prelude.{refl}
use Rattle.order.specs.Notes.{words_new}
use Rattle.order.proofs.classes.Classes.new.Goals as goal

pub returns : goal.returns
returns c = words_new _ _ refl refl
