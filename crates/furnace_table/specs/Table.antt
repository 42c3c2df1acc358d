-- The worked table of furnace 2: what thirteen queries find in a log of ten entries. Assumes nothing.
--
-- | definition   | meaning                                                                                       |
-- |--------------|-----------------------------------------------------------------------------------------------|
-- | entries      | the ten entries in their order, each a name and a slot                                        |
-- | furnace_log  | the log that they make, without a trace                                                       |
-- | areas        | the areas of a search: 8,192 extents each                                                     |
-- | p to q       | the extent of the slots p to q                                                                |
-- | Row          | a line of the table: a text, the extents that it finds, and the calls that finding them takes |
-- | rows         | the table                                                                                     |
-- | Holds row    | the text reads as an expression; its search is not refused, lists these extents, which are exactly those that the expression describes, and makes so many calls |
-- | Gives row    | a search answered how many extents the line has, and its calls; the extents stand at the front of the stack area, and the rest of both areas is cleared |
-- | EverySearchGives row | every search for the text over this log and in these areas, whatever store of postings it runs over, answers so |
-- | FurnaceTable | put to an empty ledger the ten entries are all accepted, and every line holds and is answered so           |
use Rattle.std.specs.Prelude.{◌≡◌, ℕ, ◌-◌, List, [], ◌∷◌, ◌++◌, length, replicate, None, Ok, codes, Result}
use Rattle.std.specs.List.{AllByRecursion}
use Rattle.shift_logbook.specs.Ledger.{Entry, ledger_lists}
use Rattle.shift_logbook.specs.History.{ledger_after}
use Rattle.extents.specs.declared.extent.Extent.{Extent}
use Rattle.extents.specs.Regions.{Lists}
use Rattle.operators.specs.declared.listing.Listing.{Listing}
use Rattle.query.specs.Expressions.{Expr}
use Rattle.query.specs.Outcomes.{Reads}
use Rattle.search.specs.declared.fault.SearchFault.{SearchFault}
use Rattle.search.specs.Meaning.{Log, over, denotes, listed}
use Rattle.search.specs.Law.{Room, Areas, search_fault, query_calls}
use Rattle.search.specs.Searches.{Searched, blank}

abbrev pub entries : List Entry
entries =
    (codes "[rev", 2)
    ∷ (codes "alarm", 4)
    ∷ (codes "rev]", 6)
    ∷ (codes "[rev", 8)
    ∷ (codes "rev]", 11)
    ∷ (codes "alarm", 12)
    ∷ (codes "[rev", 14)
    ∷ (codes "cut", 15)
    ∷ (codes "rev]", 18)
    ∷ (codes "alarm", 18)
    ∷ []

abbrev pub furnace_log : Log
furnace_log = over (ledger_lists entries) []

abbrev pub areas : Room
areas = record { stack = 8192; scratch = 8192 }

infix 70 ◌to◌
abbrev pub ◌to◌ : ℕ → ℕ → Extent
p to q = record { start = p; end = q }

pub record Row : Type 0 where
  pub text : List ℕ
  pub extents : List Extent
  pub calls : ℕ

abbrev pub rows : List Row
rows =
    record { text = codes "[rev ; rev]"; extents = 2 to 6 ∷ 8 to 11 ∷ 14 to 18 ∷ []; calls = 18 }
    ∷ record { text = codes "[rev ; rev] > alarm"; extents = 2 to 6 ∷ 14 to 18 ∷ []; calls = 29 }
    ∷ record { text = codes "[rev ; rev] !> alarm"; extents = 8 to 11 ∷ []; calls = 29 }
    ∷ record { text = codes "alarm < ([rev ; rev])"; extents = 4 to 4 ∷ 18 to 18 ∷ []; calls = 29 }
    ∷ record { text = codes "alarm !< ([rev ; rev])"; extents = 12 to 12 ∷ []; calls = 29 }
    ∷ record { text = codes "cut & alarm"; extents = 12 to 15 ∷ 15 to 18 ∷ []; calls = 15 }
    ∷ record { text = codes "alarm | cut"; extents = 4 to 4 ∷ 12 to 12 ∷ 15 to 15 ∷ 18 to 18 ∷ []; calls = 16 }
    ∷ record { text = codes "cut ; alarm"; extents = 15 to 18 ∷ []; calls = 10 }
    ∷ record { text = codes "alarm ; alarm"; extents = 4 to 12 ∷ 12 to 18 ∷ []; calls = 16 }
    ∷ record { text = codes "#5 > (alarm & cut)"; extents = 11 to 15 ∷ 12 to 16 ∷ 14 to 18 ∷ []; calls = 27 }
    ∷ record { text = codes "stone"; extents = []; calls = 1 }
    ∷ record { text = codes "#19"; extents = 0 to 18 ∷ []; calls = 2 }
    ∷ record { text = codes "#20"; extents = []; calls = 1 }
    ∷ []

pub record Holds (row : Row) : Type 0 where
  pub expr : Expr
  pub reads : Reads row.text expr
  pub unrefused : search_fault furnace_log areas expr ≡ None
  pub listing : listed furnace_log expr ≡ row.extents
  pub means : Lists (denotes furnace_log expr) row.extents
  pub count : query_calls furnace_log expr ≡ row.calls

pub record Gives (row : Row) (r : Result Listing SearchFault) (left : Areas) : Type 0 where
  pub answer : r ≡ Ok (record { n = length row.extents; calls = row.calls })
  pub stack_is : left.stack ≡ row.extents ++ replicate (areas.stack - length row.extents) blank
  pub scratch_is : left.scratch ≡ replicate areas.scratch blank

abbrev pub EverySearchGives : Row → Type 0
EverySearchGives row = (r : Result Listing SearchFault) (left : Areas) → Searched furnace_log areas row.text r left → Gives row r left

pub record FurnaceTable : Type 0 where
  pub accepted : ledger_after [] entries ≡ entries
  pub holds : AllByRecursion Holds rows
  pub answered : AllByRecursion EverySearchGives rows
