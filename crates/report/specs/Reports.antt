-- What a report answers, and what its two areas then hold. Assumes nothing.
--
--   Reported   it lists the quiet reversals, after the calls that a report makes, or is refused with the fault that the law gives:
--              the answer, the stack area and the scratch area are those of a search that lists so
use Rattle.std.specs.Prelude.{Result}
use Rattle.postings.specs.Lists.{PostingLists}
use Rattle.operators.specs.declared.listing.Listing.{Listing}
use Rattle.search.specs.Law.{Room, Areas}
use Rattle.search.specs.Searches.{Answers}
use Rattle.report.specs.declared.fault.ReportFault.{ReportFault}
use Rattle.report.specs.Quiet.{quiet_reversals}
use Rattle.report.specs.Law.{report_calls, report_fault}

abbrev pub Reported : PostingLists → Room → Result Listing ReportFault → Areas → Type 0
Reported p room = Answers (quiet_reversals p) (report_calls p) room (report_fault p room)
