-- `place`: the record that the chain has at the position.
use Rattle.std.proofs.Common.{◌∙◌, ap, sym}
use Rattle.std.proofs.lemmas.Option.{unwrap_or-slice_get}
use Rattle.std.proofs.lemmas.Iterator.Adapters.{option_map_id}
use Rattle.std.proofs.lemmas.Iterator.Consumers.{nth_from_yields_List, YieldsList-from_first}
use Rattle.std.specs.Option.{unwrap_or}
use Rattle.rules.specs.Sheet.{chain}
use Rattle.words.proofs.place.Goals as goal

pub returns : goal.returns
returns c =
    c.unwrap_or.ensures
    ∙ ap (λ o. unwrap_or o 0) (sym (option_map_id c.nth.result)
    ∙ nth_from_yields_List {s = c.records.result} c.nth.result c.nth.new.self c.args.id c.nth.ensures.ran (YieldsList-from_first (λ x. x) (λ places. places) (chain c.args.s.now c.args.head) c.records.ensures))
    ∙ unwrap_or-slice_get (chain c.args.s.now c.args.head) c.args.id 0
