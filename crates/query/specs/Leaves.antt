-- The leaves of a query. Assumes nothing.
--
-- | definition | meaning                                                                                       |
-- |------------|-----------------------------------------------------------------------------------------------|
-- | Leaf       | a name (its bytes), windows of n slots (`#n`), or runs at or above d degrees (`@d`)            |
-- | leaf_of    | what a leaf of the code says                                                                  |
-- | in_range   | a name is one of 1 to name_max name bytes; a `#` is at most windows_max, an `@` at most runs_max |
use Rattle.std.specs.Prelude.{ℕ, Bool, List, nat_le}
use Rattle.names.specs.Names.{is_name}
use Rattle.query.specs.declared.leaf.Leaf.{Leaf as Leaf·}
use Rattle.query.specs.declared.leaf.Leaf.TheVariants as code
use Rattle.query.specs.Limits.{windows_max, runs_max}

pub data Leaf : Type 0 where
  name : List ℕ → Leaf
  windows : ℕ → Leaf
  runs : ℕ → Leaf

abbrev pub leaf_of : Leaf· → Leaf
leaf_of (code.Name s) = name s.now
leaf_of (code.Windows n) = windows n
leaf_of (code.Runs d) = runs d

abbrev pub in_range : Leaf → Bool
in_range (name s) = is_name s
in_range (windows n) = nat_le n windows_max
in_range (runs d) = nat_le d runs_max
