-- Listing a source into an area, by its first start at 0 and then at one past each start found, until there is none. Assumes nothing.
--
--   list_calls f k xs    the calls to list xs from the key k, where a first start at j takes f j calls
--   IsListed             the whole list stands at the front of the area, the rest of the area is as it was, and the calls are added up
--   IsOverfull           the list is longer than the area, which then holds as much of it as fits
--   ListsTo              either the whole list is in the area, or the list is longer than the area
--   ListsOperator        the same of an operator over two lists ls and rs, whose accesses take cl and cr calls
--   listing_calls        the calls to list such an operator
--   Cheap c              each access takes one call at most
use Rattle.std.specs.Prelude.{◌≡◌, ℕ, ◌+◌, ◌<◌, ◌≤◌, List, [], ◌∷◌, ◌++◌, length, take, drop, Result, MatchResult}
use Rattle.extents.specs.declared.access.Access.{Access}
use Rattle.extents.specs.declared.extent.Extent.{Extent}
use Rattle.extents.specs.declared.operator.Operator.{Operator}
use Rattle.extents.specs.Counts.{capped}
use Rattle.operators.specs.declared.listing.Listing.{Listing}
use Rattle.operators.specs.declared.listing.Overfull.{Overfull}
use Rattle.operators.specs.Operators.{operator_list, first_start_calls}

abbrev pub list_calls : (ℕ → ℕ) → ℕ → List Extent → ℕ
list_calls f k [] = f k
list_calls f k (e ∷ es) = f k + list_calls f (e.start + 1) es

pub record IsListed (xs : List Extent) (f : ℕ → ℕ) (was area : List Extent) (n calls : ℕ) : Type 0 where
  pub many : n ≡ length xs
  pub fits : length xs ≤ length was
  pub written : area ≡ xs ++ drop n was
  pub counted : calls ≡ capped (list_calls f 0 xs)

pub record IsOverfull (xs was area : List Extent) : Type 0 where
  pub longer : length was < length xs
  pub written : area ≡ take (length was) xs

abbrev pub ListsTo : List Extent → (ℕ → ℕ) → List Extent → List Extent → Result Listing Overfull → Type 0
ListsTo xs f was area r = MatchResult r (λ l. IsListed xs f was area l.n l.calls) (λ _. IsOverfull xs was area)

abbrev pub ListsOperator : Operator → List Extent → (Access → ℕ → ℕ) → List Extent → (Access → ℕ → ℕ) → List Extent → List Extent → Result Listing Overfull → Type 0
ListsOperator op ls cl rs cr was area r = ListsTo (operator_list op ls rs) (first_start_calls op ls cl rs cr) was area r

abbrev pub listing_calls : Operator → List Extent → (Access → ℕ → ℕ) → List Extent → (Access → ℕ → ℕ) → ℕ
listing_calls op ls cl rs cr = list_calls (first_start_calls op ls cl rs cr) 0 (operator_list op ls rs)

abbrev pub Cheap : (Access → ℕ → ℕ) → Type 0
Cheap c = (a : Access) (k : ℕ) → c a k ≤ 1
