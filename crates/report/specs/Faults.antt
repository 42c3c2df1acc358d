-- The number of a report's fault. Assumes nothing.
--
--   number_of    21: the list is longer than the scratch area; 22: the four names have more slots than the stack area has room for
--   refusal_of   that number, and no place
use Rattle.std.specs.Prelude.{ℕ}
use Rattle.refusals.specs.declared.Refusal.{Refusal}
use Rattle.refusals.specs.Refusals.{plain}
use Rattle.report.specs.declared.fault.ReportFault.{ReportFault}
use Rattle.report.specs.declared.fault.ReportFault.TheVariants.{ListingOver, StackOver}

abbrev pub number_of : ReportFault → ℕ
number_of ListingOver = 21
number_of StackOver = 22

abbrev pub refusal_of : ReportFault → Refusal
refusal_of f = plain (number_of f)
