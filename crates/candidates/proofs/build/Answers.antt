-- `build`: what each part leaves is what the next one needs.
use Rattle.std.proofs.Common.{rules}
use Rattle.candidates.specs.Build.{prepared_links, connected_binds, connected_kin, build_done}
use Rattle.candidates.proofs.build.Goals as goal

pub connect-requires : goal.connect-requires
connect-requires c = prepared_links _ _ _ _ c.requires.0 c.requires.1 (search rules) c.prepare.ensures c.next-n.ensures

pub fill-requires : goal.fill-requires
fill-requires c =
    let l = prepared_links _ _ _ _ c.requires.0 c.requires.1 (search rules) c.prepare.ensures c.next-n.ensures in
    (connected_binds _ _ _ _ (search rules) l c.connect.ensures, connected_kin _ _ _ _ l c.connect.ensures)

pub returns : goal.returns
returns c = search (rules, build_done)
