-- The terminals of the grammar of queries. Assumes nothing.
--
-- | definition | meaning                                                             |
-- |------------|---------------------------------------------------------------------|
-- | Bracket    | what an open bracket is: a plain one, around one question           |
-- | Terminal   | what a token says: an operand (a leaf), an operator, a bracket, the end |
-- | Placed     | a terminal and the place of its first byte                          |
use Rattle.std.specs.Prelude.{ℕ}
use Rattle.extents.specs.declared.operator.Operator.{Operator}
use Rattle.query.specs.Leaves.{Leaf}

pub data Bracket : Type 0 where
  plain : Bracket

pub data Terminal : Type 0 where
  operand : Leaf → Terminal
  operator : Operator → Terminal
  opens : Bracket → Terminal
  closes : Terminal
  ends : Terminal

abbrev pub Placed : Type 0
Placed = Terminal × ℕ
