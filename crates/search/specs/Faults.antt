-- The number, the place and the refusal of a search's fault. Assumes nothing.
--
--   number_of f    a reading fault keeps its own; 20: the trace is longer than the log; 21: a list is longer than the scratch area;
--                  22: there are more extents than the stack area has room for
--   place_of f     a reading fault keeps its own; 0 for the trace; else that of the token that was run
--   refusal_of f   what a fault is told by: its number and its place
use Rattle.std.specs.Prelude.{ℕ}
use Rattle.refusals.specs.declared.Refusal.{Refusal}
use Rattle.refusals.specs.Refusals.{at_place}
use Rattle.query.specs.Faults.{number_of as read_number, place_of as read_place}
use Rattle.search.specs.declared.fault.SearchFault.{SearchFault}
use Rattle.search.specs.declared.fault.SearchFault.TheVariants.{Read, TraceOver, ListingOver, StackOver}

abbrev pub number_of : SearchFault → ℕ
number_of (Read fault) = read_number fault
number_of TraceOver = 20
number_of (ListingOver place) = 21
number_of (StackOver place) = 22

abbrev pub place_of : SearchFault → ℕ
place_of (Read fault) = read_place fault
place_of TraceOver = 0
place_of (ListingOver place) = place
place_of (StackOver place) = place

abbrev pub refusal_of : SearchFault → Refusal
refusal_of f = at_place (number_of f) (place_of f)
