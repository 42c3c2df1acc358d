-- How counts are spelled. Assumes nothing.
--
--   told_count   how many extents were found in how many calls; or the refusal's text
use Rattle.std.specs.Prelude.{ℕ, List, ◌++◌, codes, decimal, Ok, Err, Result}
use Rattle.operators.specs.declared.listing.Listing.{Listing}
use Rattle.search.specs.declared.fault.SearchFault.{SearchFault}
use Rattle.answering.specs.Asking.{fault_text}

abbrev pub told_count : Result Listing SearchFault → List ℕ
told_count (Ok l) = codes "found " ++ (decimal l.n ++ (codes " calls " ++ decimal l.calls))
told_count (Err why) = fault_text why
