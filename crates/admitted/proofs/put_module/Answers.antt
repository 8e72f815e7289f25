-- `put_module`: an unknown argument, and the cases of a module.
use Rattle.std.proofs.Common.{rules, ◌∙◌, ap, Ok}
use Rattle.std.proofs.lemmas.Result.{err_from_is_err_and}
use Rattle.admitted.specs.Modules.{module_error, module_nowhere, module_unknown, module_within}
use Rattle.admitted.proofs.put_module.Goals as goal

pub returns-then-kind_of-eq0 : goal.returns-then-kind_of-eq0
returns-then-kind_of-eq0 c = search (rules, module_unknown)

pub returns-in-None : goal.returns-in-None
returns-in-None c = search (rules, module_nowhere)

pub returns-in-Some : goal.returns-in-Some
returns-in-Some c = search (rules, module_within)

pub returns-in_err-d : goal.returns-in_err-d
returns-in_err-d c = let p = err_from_is_err_and c.from_residual.result c.from_residual.ensures.1 in rw (p.1, p.2) (module_error _ _ _ _ _ c.root_of.ensures c.kind_of.ensures c.if-kind_of-eq0.false _ c.get_mod.ensures _ _ _ c.in_err-d.was)
