-- The calls that a report makes, and where it is refused. Assumes nothing.
--
--   quiet_calls        the calls of a first start at a key to the composed source of the four stored lists, an access to which takes one call each
--   next_calls p n     a next for each slot of the name, and one more
--   report_calls p     the next calls of the four names, and the listing's
--   fetched_count p    how many slots the four names have
--   report_fault       more slots than the stack area has room for; then a list longer than the scratch area
--   report_refusal     the same by numbers: 22, then 21, else none
use Rattle.std.specs.Prelude.{ℕ, ◌+◌, if◌then◌else◌, List, length, Some, None, Option, nat_lt}
use Rattle.postings.specs.Lists.{PostingLists}
use Rattle.refusals.specs.declared.Refusal.{Refusal}
use Rattle.refusals.specs.Refusals.{plain}
use Rattle.extents.specs.declared.access.Access.TheVariants.{FirstStart}
use Rattle.extents.specs.declared.extent.Extent.{Extent}
use Rattle.extents.specs.declared.operator.Operator.TheVariants.{NotContaining, OneOf, FollowedBy}
use Rattle.operators.specs.Listing.{list_calls}
use Rattle.operators.specs.Operators.{operator_list, operator_calls}
use Rattle.search.specs.Law.{Room, each_one}
use Rattle.report.specs.declared.fault.ReportFault.{ReportFault}
use Rattle.report.specs.declared.fault.ReportFault.TheVariants.{ListingOver, StackOver}
use Rattle.report.specs.Quiet.{rev_begin, rev_end, alarm, cut, points, quiet_reversals}

abbrev pub quiet_calls : (begins ends alarms cuts : List Extent) → ℕ → ℕ
quiet_calls begins ends alarms cuts =
    operator_calls NotContaining
    (operator_list FollowedBy begins ends) (operator_calls FollowedBy begins each_one ends each_one)
    (operator_list OneOf alarms cuts) (operator_calls OneOf alarms each_one cuts each_one)
    FirstStart

abbrev pub next_calls : PostingLists → List ℕ → ℕ
next_calls p n = length (points p n) + 1

abbrev pub report_calls : PostingLists → ℕ
report_calls p =
    next_calls p rev_begin + next_calls p rev_end + next_calls p alarm + next_calls p cut
    + list_calls (quiet_calls (points p rev_begin) (points p rev_end) (points p alarm) (points p cut)) 0 (quiet_reversals p)

abbrev pub fetched_count : PostingLists → ℕ
fetched_count p = length (points p rev_begin) + length (points p rev_end) + length (points p alarm) + length (points p cut)

abbrev pub report_fault : PostingLists → Room → Option ReportFault
report_fault p room =
    if nat_lt room.stack (fetched_count p) then Some StackOver else if nat_lt room.scratch (length (quiet_reversals p)) then Some ListingOver else None

abbrev pub report_refusal : PostingLists → Room → Option Refusal
report_refusal p room =
    if nat_lt room.stack (fetched_count p) then Some (plain 22) else if nat_lt room.scratch (length (quiet_reversals p)) then Some (plain 21) else None
