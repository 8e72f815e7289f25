-- `open_candidate`: a clash, or a copy is opened, and a miss is told.
use Rattle.std.proofs.Common.{rules}
use Rattle.steps.specs.Asking.{scratch_kept}
use Rattle.steps.specs.Behind.{sound_sheet}
use Rattle.steps.specs.Candidate.{signature_read, opens_clash}
use Rattle.steps.proofs.open_candidate.Goals as goal

pub clashes-requires-clause-signature_takes : goal.clashes-requires-clause-signature_takes
clashes-requires-clause-signature_takes c = search (rules, signature_read)

pub clashes-requires-clause-sound : goal.clashes-requires-clause-sound
clashes-requires-clause-sound c = search (rules, sound_sheet)

pub returns-then-clashes : goal.returns-then-clashes
returns-then-clashes c = search (rules, opens_clash)

pub open_copy-opened-requires-clause-scratch : goal.open_copy-opened-requires-clause-scratch
open_copy-opened-requires-clause-scratch c = search (rules, scratch_kept)
