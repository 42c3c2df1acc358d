-- An access that a member of the list can answer has an answer. Assumes nothing.
use Rattle.std.proofs.Common.{◌≡◌, ℕ, ◌≤◌, List, Some, None, Option, refl}
use Rattle.extents.specs.declared.extent.Extent.{Extent}
use Rattle.extents.specs.Extents.{Mem, first_start, last_end}
use Rattle.extents.specs.Words.{no_first_start, no_last_end}

some_of : (o : Option Extent) → (o ≡ None → ⊥) → (x : Extent) × (o ≡ Some x)
some_of None f = absurd (f refl)
some_of (Some x) f = (x, refl)

pub some_first_start : (xs : List Extent) (k : ℕ) (y : Extent) → Mem y xs → k ≤ y.start → (x : Extent) × (first_start xs k ≡ Some x)
some_first_start xs k y m l = some_of (first_start xs k) (λ e. no_first_start xs k y e m l)

pub some_last_end : (xs : List Extent) (k : ℕ) (y : Extent) → Mem y xs → y.end ≤ k → (x : Extent) × (last_end xs k ≡ Some x)
some_last_end xs k y m l = some_of (last_end xs k) (λ e. no_last_end xs k y e m l)
