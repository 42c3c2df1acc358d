-- Rows that share one list of slots, and what they show of posting lists. Assumes nothing.
--
--   NamedSlots   a name with its slots
--   named_slots  the rows as names with their slots, out of the slots of them all, one row's after the other's
--   Shows        names with their slots are all that posting lists say:
--     sorted       they stand in byte order of the names
--     some         each has a slot
--     reached      the span is one past one of the slots, or 0
--     lists        the slots of a name are those beside it, or none
--   FitsIndex    there are no more rows and slots than an index has numbers for, and as many slots as the rows count
use Rattle.std.specs.Prelude.{◌≡◌, ℕ, ◌+◌, ◌^◌, ◌<◌, List, [], ◌∷◌, length, take, drop, sum_by, slice_index}
use Rattle.std.specs.List.{All, HoldsAt}
use Rattle.postings.specs.Lists.{PostingLists}
use Rattle.postings.specs.Tables.{Sorted, slots_at}

abbrev pub NamedSlots : Type 0
NamedSlots = List ℕ × List ℕ

abbrev pub named_slots : {X : Type 0} → (X → List ℕ) → (X → ℕ) → List X → List ℕ → List NamedSlots
named_slots name count [] ss = []
named_slots name count (r ∷ rs) ss = (name r, take (count r) ss) ∷ named_slots name count rs (drop (count r) ss)

pub record Shows (xs : List NamedSlots) (p : PostingLists) : Type 0 where
  pub sorted : Sorted (λ (x : NamedSlots). x.0) xs
  pub some : All (λ (x : NamedSlots). 0 < length x.1) xs
  pub reached : 0 < p.span → (i : ℕ) × (k : ℕ) × (i < length xs) × HoldsAt (λ (x : NamedSlots). (k < length x.1) × (slice_index x.1 k + 1 ≡ p.span)) xs i
  pub lists : (n : List ℕ) → p.slots n ≡ slots_at (λ (x : NamedSlots). x.0) (λ (x : NamedSlots). x.1) xs n

pub record FitsIndex {X : Type 0} (count : X → ℕ) (rs : List X) (ss : List ℕ) : Type 0 where
  pub rows : length rs < 2 ^ 16
  pub slots : length ss < 2 ^ 32
  pub counted : length ss ≡ sum_by count rs
