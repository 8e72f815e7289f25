-- A call in the code's terms.
use Rattle.rules.specs.Search as rules
use Rattle.steps.specs.Asking.{finder_of}
use Rattle.flexing.specs.declared.Call.{Call}
use Rattle.flexing.specs.Asked.{Flexing}

-- The rules' finder of a call.
abbrev pub finder_in : Call → rules.Finder
finder_in x = finder_of x.sheet.now x.f

-- It has passed its checks, and the sets of its source stand.
abbrev pub FlexingIn : Call → Type 0
FlexingIn x = Flexing x.sheet.now x.sets.now x.question.now x.f
