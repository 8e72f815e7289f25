-- `transfer_type`, with all that it calls and that calls it. Every function says by equations what the rule comes to.
use Rattle.std.proofs.Common.{rules, arith, sym, ◌∙◌, refl}
use Rattle.std.proofs.lemmas.Result.{err_from_is_err_and}
use Rattle.transfer.specs.Leaves.{kind_known}
use Rattle.transfer.specs.Ways.{going_start, going_falls, going_down, going_full, read_room, read_levels, known_done, known_full, root_full, root_unknown, entered_mapping, entered_own, root_known, root_inside, type_settled, root_level, type_fresh}
use Rattle.transfer.specs.Gone.{next_long, next_small}
use Rattle.transfer.proofs.Each.{moved_on, gone_on}
use Rattle.transfer.proofs.+transfer.Goals as goal
use Rattle.transfer.proofs.+transfer.Goals.{transfer_each-in-Some, transfer_each-in-None+in_ok-ts-in-None}

pub transfer_each-loop-i-init : goal.transfer_each-loop-i-init
transfer_each-loop-i-init g t c = search (rules, going_start)

pub transfer_each-gone_type-requires-clause-t_in_bounds : goal.transfer_each-gone_type-requires-clause-t_in_bounds
transfer_each-gone_type-requires-clause-t_in_bounds g t c = search (rules, next_long)

pub transfer_each-gone_type-requires-clause-t_bound : goal.transfer_each-gone_type-requires-clause-t_bound
transfer_each-gone_type-requires-clause-t_bound g t c = search (rules, next_small)

pub transfer_each-transfer_type-requires : goal.transfer_each-transfer_type-requires
transfer_each-transfer_type-requires g t c = λ κs le. (going_falls _ _ _ _ _ _ _ _ _ _ _ _ c.loop-i.invariant c.loop-i-test.true c.requires.levels c.decreases, (le, (c.requires.neat, (c.loop-i.invariant.packed, (c.loop-i.invariant.mapping, going_down _ _ _ _ _ _ _ _ _ _ _ c.loop-i.invariant c.loop-i-test.true c.requires.levels)))))

pub transfer_each-returns-in_err-ts-in-None-clause-moves : goal.transfer_each-returns-in_err-ts-in-None-clause-moves
transfer_each-returns-in_err-ts-in-None-clause-moves g t c = let p = err_from_is_err_and c.from_residual.result c.from_residual.ensures.1 in rw p.1 (going_full _ _ _ _ _ _ _ _ _ _ _ c.loop-i.invariant c.loop-i-test.true c.requires.levels _ _ 0 c.in_err-ts-in-None.ensures.moves refl)

pub transfer_each-loop-i-preserved : goal.transfer_each-loop-i-preserved
transfer_each-loop-i-preserved g t c = elim c.match-gone_type.branch [
  | transfer_each-in-Some w ↦ rw (w.dst-is, w.map-is, w.ts-is) (gone_on _ _ _ _ _ _ _ _ _ _ _ c.loop-i.invariant c.loop-i-test.true c.requires.levels _ _ (g.met.S.Source.roots c.args.from.now.table.now) w.in-Some.ensures)
  | transfer_each-in-None+in_ok-ts-in-None w ↦ rw (w.dst-is, w.map-is, w.ts-is) (moved_on _ _ _ _ _ _ _ _ _ _ _ c.loop-i.invariant c.loop-i-test.true c.requires.levels _ _ _ w.in_ok-ts-in-None.ensures.moves)
]

pub transfer_known-transfer_each-requires : goal.transfer_known-transfer_each-requires
transfer_known-transfer_each-requires g t c = λ κs le. (omega arith, (le, (c.requires.neat, (c.requires.packed, (c.requires.mapping, (read_room _ _ _ _ c.requires.neat c.read_children-m.ensures, read_levels _ _ _ _ _ c.requires.neat c.requires.rooted c.read_children-m.ensures))))))

pub transfer_known-returns-in_err-transfer_each-clause-moves : goal.transfer_known-returns-in_err-transfer_each-clause-moves
transfer_known-returns-in_err-transfer_each-clause-moves g t c = let p = err_from_is_err_and c.from_residual.result c.from_residual.ensures.1 in rw p.1 (known_full _ _ _ _ _ _ _ _ _ _ _ _ _ c.in_err-transfer_each.ensures.moves c.read_children-m.ensures refl)

pub transfer_known-returns-clause-moves : goal.transfer_known-returns-clause-moves
transfer_known-returns-clause-moves g t c = known_done _ _ _ _ _ _ _ _ _ _ _ _ _ c.in_ok-transfer_each.ensures.moves c.read_children-m.ensures _ _ refl c.requires.own c.fill.ensures

pub transfer_root-returns-in_err-n-clause-moves : goal.transfer_root-returns-in_err-n-clause-moves
transfer_root-returns-in_err-n-clause-moves g t c = let p = err_from_is_err_and c.from_residual.result c.from_residual.ensures.1 in rw p.1 (root_full _ _ _ _ _ _ _ c.in_err-n.ensures.enters _ _ c.requires.packed c.requires.mapping (omega arith))

pub transfer_root-returns-then-kind_of-eq0-clause-moves : goal.transfer_root-returns-then-kind_of-eq0-clause-moves
transfer_root-returns-then-kind_of-eq0-clause-moves g t c = root_unknown _ _ _ _ _ _ _ c.in_ok-n.ensures.enters c.in_ok-n.ensures.room _ _ c.requires.rooted c.requires.mapping _ (g.met.S.Source.no_kind _ _ (sym c.kind_of.ensures ∙ c.if-kind_of-eq0.true)) c.new_type.ensures

pub transfer_root-transfer_known-requires : goal.transfer_root-transfer_known-requires
transfer_root-transfer_known-requires g t c = λ κs le. (omega arith, (le, (c.requires.neat, (c.in_ok-n.ensures.enters.pushes.packed, (entered_mapping _ _ _ _ _ _ _ c.in_ok-n.ensures.enters c.in_ok-n.ensures.room _ c.requires.rooted c.requires.mapping, (c.requires.rooted, (kind_known _ _ _ c.kind_of.ensures c.if-kind_of-eq0.false, entered_own _ _ _ _ _ _ c.in_ok-n.ensures.enters c.in_ok-n.ensures.room)))))))

pub transfer_root-returns-clause-moves : goal.transfer_root-returns-clause-moves
transfer_root-returns-clause-moves g t c = root_known _ _ _ _ _ _ _ c.in_ok-n.ensures.enters c.in_ok-n.ensures.room _ _ c.requires.rooted c.requires.mapping _ _ _ (kind_known _ _ _ c.kind_of.ensures c.if-kind_of-eq0.false) c.transfer_known.ensures.moves

pub transfer_type-settled_type-requires-clause-r_in_bounds : goal.transfer_type-settled_type-requires-clause-r_in_bounds
transfer_type-settled_type-requires-clause-r_in_bounds g t c = search (rules, root_inside)

pub transfer_type-transfer_root-requires : goal.transfer_type-transfer_root-requires
transfer_type-transfer_root-requires g t c = λ κs le. (omega arith, (le, (c.requires.neat, (c.requires.packed, (c.requires.mapping, root_level _ _ _ c.find-r.ensures _ c.requires.neat c.requires.level)))))

pub transfer_type-returns-in-Some-clause-moves : goal.transfer_type-returns-in-Some-clause-moves
transfer_type-returns-in-Some-clause-moves g t c = type_settled _ _ _ c.find-r.ensures _ _ _ c.in-Some.ensures _ _ c.requires.packed c.requires.mapping (λ e. omega arith)

pub transfer_type-returns-in-None-clause-moves : goal.transfer_type-returns-in-None-clause-moves
transfer_type-returns-in-None-clause-moves g t c = type_fresh _ _ _ c.find-r.ensures _ _ _ c.in-None.ensures _ _ _ _ _ refl c.transfer_root.ensures.moves
