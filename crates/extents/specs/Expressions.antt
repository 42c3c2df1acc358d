-- What a source is made of, and the set that it stands for. Assumes nothing.
--
--   Expression   a list; the windows of a width in a log of a length; the runs of a trace at or above so many degrees; or an operator over two
--                expressions
--   set_of x     the set of the extents that an expression describes
use Rattle.std.specs.Prelude.{ℕ, List, ℤ}
use Rattle.extents.specs.declared.extent.Extent.{Extent}
use Rattle.extents.specs.declared.operator.Operator.{Operator}
use Rattle.extents.specs.Regions.{Members, operator_set}
use Rattle.extents.specs.Trace.{hots, IsRun}
use Rattle.extents.specs.Windows.{IsWindow}

pub data Expression : Type 0 where
  listed : List Extent → Expression
  windows : ℕ → ℕ → Expression
  runs : ℕ → List ℤ → Expression
  over : Operator → Expression → Expression → Expression

abbrev pub set_of : Expression → Extent → Type 0
set_of (listed xs) = Members xs
set_of (windows w n) = IsWindow w n
set_of (runs d xs) = IsRun (hots d xs)
set_of (over op x y) = operator_set op (set_of x) (set_of y)
