-- What a search answers, for a line that holds. Assumes nothing.
use Rattle.std.proofs.Common.{◌≡◌, ◌-◌, List, [], ◌∷◌, ◌++◌, length, replicate, Ok, Result, ap, ◌∙◌, subst}
use Rattle.std.specs.List.{AllByRecursion}
use Rattle.extents.specs.Counts.{capped}
use Rattle.operators.specs.declared.listing.Listing.{Listing}
use Rattle.search.specs.declared.fault.SearchFault.{SearchFault}
use Rattle.search.specs.Law.{Areas, query_calls}
use Rattle.search.specs.Meaning.{listed}
use Rattle.search.specs.Searches.{Found, Answers, blank}
use Rattle.furnace_table.specs.Table.{furnace_log, areas, Row, Holds, Gives, EverySearchGives}

-- the calls of a line are told as they are
abbrev pub Countable : Row → Type 0
Countable row = capped row.calls ≡ row.calls

gives : (row : Row) (h : Holds row) → Countable row → (r : Result Listing SearchFault) (left : Areas) → Found (listed furnace_log h.expr) (query_calls furnace_log h.expr) areas r left → Gives row r left
gives row h countable r left f = record {
  answer =
      f.answer
      ∙ ap (λ xs. Ok (record { n = length xs; calls = capped (query_calls furnace_log h.expr) })) h.listing
      ∙ ap (λ c. Ok (record { n = length row.extents; calls = c })) (ap capped h.count ∙ countable);
  stack_is = f.stack_is ∙ ap (λ xs. xs ++ replicate (areas.stack - length xs) blank) h.listing;
  scratch_is = f.scratch_is;
}

pub answered_all : (rows : List Row) → AllByRecursion Holds rows → AllByRecursion Countable rows → AllByRecursion EverySearchGives rows
answered_all [] h c = tt
answered_all (row ∷ rows) h c = (
  (λ r left s.
      gives row h.0 c.0 r left
      (subst (λ o. Answers (listed furnace_log h.0.expr) (query_calls furnace_log h.0.expr) areas o r left) h.0.unrefused (s.query h.0.expr h.0.reads))),
  answered_all rows h.1 c.1,
)
