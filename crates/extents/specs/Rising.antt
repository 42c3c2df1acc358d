-- Lemmas: that a list is an extent list has one proof at most, and then it lists its members. Assumes nothing.
use Rattle.std.specs.Prelude.{List, [], ◌∷◌}
use Rattle.std.specs.Coded.{le_prop}
use Rattle.std.specs.List.{AllByRecursion}
use Rattle.extents.specs.declared.extent.Extent.{Extent}
use Rattle.extents.specs.Extents.{Before, ExtentList}
use Rattle.extents.specs.Regions.{Lists, Members}

all_before-prop : (x : Extent) (ys : List Extent) → IsProp (AllByRecursion (Before x) ys)
all_before-prop x [] = hlevel
all_before-prop x (y ∷ ys) = hlevel (le_prop, all_before-prop x ys)

pub ExtentList-prop : (xs : List Extent) → IsProp (ExtentList xs)
ExtentList-prop [] = hlevel
ExtentList-prop (x ∷ xs) = hlevel (le_prop, all_before-prop x xs, ExtentList-prop xs)

pub lists_itself : (xs : List Extent) → ExtentList xs → Lists (Members xs) xs
lists_itself xs h = (h, λ e. (λ m. m, λ m. m))
