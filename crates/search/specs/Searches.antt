-- What a search answers, and what its two areas then hold. Assumes nothing.
--
--   blank            the extent (0,0), with which an area is cleared
--   IsBlankFrom n area   the area is cleared from the place n on
--   kept_of r        how many extents an answer leaves in the stack area: those that it counts, none after a refusal
--   Refused          it is refused with this fault, and both areas are cleared
--   Found xs n       it answers how many extents the list xs has, and that it made n calls, at most 2^64 - 1;
--                    the list stands at the front of the stack area, and the rest of both areas is cleared
--   Answers xs n     one or the other, by the fault that there is
--   query_refusal    what a search for a query is told as: the number and the place of its fault, none where it is answered
--   AnswersTo        an expression is answered as the law says: with its list, its calls and its fault
--   Queried          a query is answered so, and told by number and place; each query's list has exactly its set, and its calls are at
--                    most so many for each term and operator
--   Searched         a text that reads as a query is answered as the law says for that query, and told by number and place;
--                    a text with a reading fault is refused with it, and every text is one of the two; the rest as in Queried
use Rattle.std.specs.Prelude.{◌≡◌, ℕ, ◌-◌, ◌⊎◌, List, ◌++◌, length, drop, replicate, Some, None, Ok, Err, Option, Result}
use Rattle.std.specs.Option.{option_map}
use Rattle.refusals.specs.declared.Refusal.{Refusal}
use Rattle.refusals.specs.Refusals.{refusal_in}
use Rattle.extents.specs.declared.extent.Extent.{Extent}
use Rattle.extents.specs.Counts.{capped}
use Rattle.operators.specs.declared.listing.Listing.{Listing}
use Rattle.query.specs.declared.fault.ReadFault.{ReadFault}
use Rattle.query.specs.Expressions.{Expr}
use Rattle.query.specs.Outcomes.{Reads, Refuses}
use Rattle.search.specs.declared.fault.SearchFault.{SearchFault}
use Rattle.search.specs.declared.fault.SearchFault.TheVariants.{Read}
use Rattle.search.specs.Faults.{refusal_of}
use Rattle.search.specs.Meaning.{Log, listed, MeansItsSet}
use Rattle.search.specs.Law.{Room, Areas, search_fault, query_calls, TakesFewCalls}

abbrev pub blank : Extent
blank = record { start = 0; end = 0 }

abbrev pub IsBlankFrom : ℕ → List Extent → Type 0
IsBlankFrom n area = drop n area ≡ replicate (length area - n) blank

abbrev pub kept_of : {F : Type 0} → Result Listing F → ℕ
kept_of (Ok l) = l.n
kept_of (Err e) = 0

pub record Refused {F : Type 0} (room : Room) (fault : F) (r : Result Listing F) (left : Areas) : Type 0 where
  pub answer : r ≡ Err fault
  pub stack_is : left.stack ≡ replicate room.stack blank
  pub scratch_is : left.scratch ≡ replicate room.scratch blank

pub record Found {F : Type 0} (xs : List Extent) (calls : ℕ) (room : Room) (r : Result Listing F) (left : Areas) : Type 0 where
  pub answer : r ≡ Ok (record { n = length xs; calls = capped calls })
  pub stack_is : left.stack ≡ xs ++ replicate (room.stack - length xs) blank
  pub scratch_is : left.scratch ≡ replicate room.scratch blank

abbrev pub Answers : {F : Type 0} → List Extent → ℕ → Room → Option F → Result Listing F → Areas → Type 0
Answers xs calls room None = Found xs calls room
Answers xs calls room (Some fault) = Refused room fault

abbrev pub query_refusal : Log → Room → Expr → Option Refusal
query_refusal log room e = option_map refusal_of (search_fault log room e)

abbrev pub AnswersTo : Log → Room → Expr → Result Listing SearchFault → Areas → Type 0
AnswersTo log room e r left = Answers (listed log e) (query_calls log e) room (search_fault log room e) r left

pub record Queried (log : Log) (room : Room) (e : Expr) (r : Result Listing SearchFault) (left : Areas) : Type 0 where
  pub answer : AnswersTo log room e r left
  pub told_query : refusal_in refusal_of r ≡ query_refusal log room e
  pub sets : MeansItsSet log
  pub few : TakesFewCalls log

pub record Searched (log : Log) (room : Room) (text : List ℕ) (r : Result Listing SearchFault) (left : Areas) : Type 0 where
  pub query : (e : Expr) → Reads text e → AnswersTo log room e r left
  pub misread : (f : ReadFault) → Refuses text f → Refused room (Read f) r left
  pub told_query : (e : Expr) → Reads text e → refusal_in refusal_of r ≡ query_refusal log room e
  pub told_misread : (f : ReadFault) → Refuses text f → refusal_in refusal_of r ≡ Some (refusal_of (Read f))
  pub either : ((e : Expr) × Reads text e) ⊎ ((f : ReadFault) × Refuses text f)
  pub sets : MeansItsSet log
  pub few : TakesFewCalls log
