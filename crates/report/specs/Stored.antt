-- Inner: the extents of the four names in the stack area. No public function's contract names these. Assumes nothing.
--
--   IsBehind    n extents, a list, stand behind the first `used` of what the area was
--   IsFetched   the area begins with the four lists, one behind the other, so many of each, and their calls are added up
--   ListsQuiet  the quiet reversals were listed into an area, in the calls that their four lists take, or they are more than fit
use Rattle.std.specs.Prelude.{◌≡◌, ℕ, ◌+◌, ◌≤◌, List, ◌++◌, length, take, Result}
use Rattle.postings.specs.Lists.{PostingLists}
use Rattle.extents.specs.declared.extent.Extent.{Extent}
use Rattle.extents.specs.Counts.{capped}
use Rattle.operators.specs.declared.listing.Listing.{Listing}
use Rattle.operators.specs.declared.listing.Overfull.{Overfull}
use Rattle.operators.specs.Listing.{ListsTo}
use Rattle.report.specs.declared.fetched.Fetched.{Fetched}
use Rattle.report.specs.Quiet.{rev_begin, rev_end, alarm, cut, points, quiet_reversals}
use Rattle.report.specs.Law.{quiet_calls, next_calls, fetched_count}

pub record IsBehind (xs : List Extent) (used : ℕ) (was area : List Extent) (n : ℕ) : Type 0 where
  pub many : n ≡ length xs
  pub fits : used + n ≤ length was
  pub rest : List Extent
  pub stands : area ≡ take used was ++ (xs ++ rest)

pub record IsFetched (p : PostingLists) (area : List Extent) (f : Fetched) : Type 0 where
  pub begins : f.begins ≡ length (points p rev_begin)
  pub ends : f.ends ≡ length (points p rev_end)
  pub alarms : f.alarms ≡ length (points p alarm)
  pub cuts : f.cuts ≡ length (points p cut)
  pub fits : fetched_count p ≤ length area
  pub rest : List Extent
  pub stands : area ≡ points p rev_begin ++ (points p rev_end ++ (points p alarm ++ (points p cut ++ rest)))
  pub counted : f.tally.calls ≡ capped (next_calls p rev_begin + next_calls p rev_end + next_calls p alarm + next_calls p cut)

abbrev pub ListsQuiet : PostingLists → List Extent → List Extent → Result Listing Overfull → Type 0
ListsQuiet p = ListsTo (quiet_reversals p) (quiet_calls (points p rev_begin) (points p rev_end) (points p alarm) (points p cut))
