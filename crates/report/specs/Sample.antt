-- A worked example: a log with `[rev` at 2, 8 and 14, `rev]` at 6, 11 and 18, `alarm` at 4, 12 and 18, and `cut` at 15. Assumes nothing.
--
--   SampleLog     the postings have these slots
--   SampleHolds   over them, in areas of at least 10 and 1 extents, the report is (8,11) after 30 calls
use Rattle.std.specs.Prelude.{◌≡◌, ◌-◌, ◌≤◌, List, [], ◌∷◌, replicate, Ok, Result}
use Rattle.postings.specs.Lists.{PostingLists}
use Rattle.extents.specs.declared.extent.Extent.{Extent}
use Rattle.operators.specs.declared.listing.Listing.{Listing}
use Rattle.search.specs.Law.{Room}
use Rattle.search.specs.Searches.{blank}
use Rattle.report.specs.declared.fault.ReportFault.{ReportFault}
use Rattle.report.specs.Quiet.{rev_begin, rev_end, alarm, cut}

pub record SampleLog (p : PostingLists) : Type 0 where
  pub begins : p.slots rev_begin ≡ 2 ∷ 8 ∷ 14 ∷ []
  pub ends : p.slots rev_end ≡ 6 ∷ 11 ∷ 18 ∷ []
  pub alarms : p.slots alarm ≡ 4 ∷ 12 ∷ 18 ∷ []
  pub cuts : p.slots cut ≡ 15 ∷ []

abbrev pub SampleHolds : PostingLists → Room → Result Listing ReportFault → List Extent → Type 0
SampleHolds p room r stack =
    SampleLog p → 10 ≤ room.stack → 1 ≤ room.scratch
    → (r ≡ Ok (record { n = 1; calls = 30 })) × (stack ≡ record { start = 8; end = 11 } ∷ replicate (room.stack - 1) blank)
