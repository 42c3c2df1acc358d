-- Inner: what is answered before the areas are cleared. No public function's contract names these. Assumes nothing.
--
--   Told      a list, after so many calls, or a fault: the answer says so, and the stack area begins with the list
--   Spares    from the places on that an answer tells, the areas are as they were
use Rattle.std.specs.Prelude.{◌≡◌, ℕ, ◌≤◌, List, length, take, drop, Some, None, Ok, Err, Option, Result}
use Rattle.extents.specs.declared.extent.Extent.{Extent}
use Rattle.extents.specs.Counts.{capped}
use Rattle.operators.specs.declared.listing.Listing.{Listing}
use Rattle.search.specs.declared.searching.Outcome.{Outcome}
use Rattle.search.specs.Law.{Areas}

abbrev pub Told : {F : Type 0} → List Extent → ℕ → Option F → Result Listing F → List Extent → Type 0
Told xs calls None r area = (r ≡ Ok (record { n = length xs; calls = capped calls })) × (length xs ≤ length area) × (take (length xs) area ≡ xs)
Told xs calls (Some fault) r area = r ≡ Err fault

pub record Spares (outcome : Outcome) (was now : Areas) : Type 0 where
  pub stack_is : drop outcome.stored now.stack ≡ drop outcome.stored was.stack
  pub scratch_is : drop outcome.listed now.scratch ≡ drop outcome.listed was.scratch
