-- The number of each report, in the order in which the rules of a frame's end are tried.
use Rattle.std.specs.Prelude.{ℕ}
use Rattle.terms.specs.declared.report.ReportKind.{ReportKind}
use Rattle.terms.specs.declared.report.ReportKind.TheVariants.{Break, Passed, Lost, Kept}

abbrev pub report_number : ReportKind → ℕ
report_number Break = 1
report_number Passed = 2
report_number Lost = 3
report_number Kept = 4
