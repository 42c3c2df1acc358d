-- Slots as extents of one place. Assumes nothing.
use Rattle.std.proofs.Common.{◌≡◌, ℕ, suc, ◌<◌, leb, List, [], ◌∷◌, map, length, get_or, refl, arith}
use Rattle.std.specs.Option.{option_map}
use Rattle.std.specs.List.{AllByRecursion}
use Rattle.extents.specs.Extents.{Before, ExtentList, first_start}
use Rattle.extents.specs.Finds.{by_test}
use Rattle.postings.specs.Lists.{PostingLists, Lawful}
use Rattle.postings.specs.Rising.{Rising, first_from}
use Rattle.search.specs.Meaning.{point}

pub first_start-points : (xs : List ℕ) (k : ℕ) → first_start (map point xs) k ≡ option_map point (first_from k xs)
unfolding first_start
first_start-points [] k = refl
first_start-points (x ∷ xs) k = by_test (leb k x) (λ h. rw h refl) (λ h. rw h (first_start-points xs k))

after_point : (x : ℕ) (xs : List ℕ) → ((i : ℕ) → i < length xs → x < get_or xs i 0) → AllByRecursion (Before (point x)) (map point xs)
after_point x [] h = tt
after_point x (y ∷ ys) h = ((h 0 (omega arith), h 0 (omega arith)), after_point x ys (λ i l. h (suc i) (omega arith)))

rise : (xs : List ℕ) → Rising xs → ((i : ℕ) → i < length xs → get_or xs i 0 < 1073741824) → ExtentList (map point xs)
rise [] r b = tt
rise (x ∷ xs) r b = (
  (omega arith, omega (arith, b 0 (omega arith))),
  after_point x xs (λ i l. r 0 (suc i) (omega arith) (omega arith)),
  rise xs (λ i j l m. r (suc i) (suc j) (omega arith) (omega arith)) (λ i l. b (suc i) (omega arith)),
)

-- the slots of a name, in a store that keeps the law
pub points_rise : (lists : PostingLists) → Lawful lists → (name : List ℕ) → ExtentList (map point (lists.slots name))
points_rise lists law name = rise (lists.slots name) (law.rising name) (λ i l. omega (arith, law.below name i l, law.short))
