-- A call that no check refuses: each condition fails. What a sheet that passes 6 to 9 promises, test by test.
use Rattle.std.specs.Prelude.{eqb}
use Rattle.rules.specs.Lists.{Words}
use Rattle.rules.specs.Layout.{header_edition, edition_1}
use Rattle.rules.specs.Sheet.{at}
use Rattle.rules.specs.Chains.{sheet_keeps}
use Rattle.rules.specs.Values.{sheet_values}
use Rattle.rules.specs.Acyclic.{sheet_acyclic}
use Rattle.rules.specs.Check.{of_sheet}
use Rattle.rules.specs.CheckLaws.{unrefused, not_not, Checked, Passed}

-- A checked sheet promises that.
pub passed : (s : Words) → Checked s → Passed s
unfolding of_sheet
passed s e = let h = unrefused (of_sheet s) e in record {
  edition = not_not (eqb (at s header_edition) edition_1) (h 0);
  chains = not_not (sheet_keeps s) (h 1);
  values = not_not (sheet_values s) (h 2);
  types = not_not (sheet_acyclic s) (h 3);
}
