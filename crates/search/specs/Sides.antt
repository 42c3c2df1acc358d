-- Inner: an operand as a source. No contract that another crate sees names these. Assumes nothing.
--
--   side_list         the extents that it gives
--   side_expression   what it is made of
use Rattle.std.specs.Prelude.{List}
use Rattle.extents.specs.declared.extent.Extent.{Extent}
use Rattle.extents.specs.Expressions.{Expression, listed, windows, runs}
use Rattle.extents.specs.Trace.{runs_of}
use Rattle.extents.specs.Windows.{windows_of}
use Rattle.search.specs.declared.operand.Side.{Side}
use Rattle.search.specs.declared.operand.Side.TheVariants.{Stored, Windows, Runs}

abbrev pub side_list : Side → List Extent
side_list (Stored list) = list.items.now
side_list (Windows w) = windows_of w
side_list (Runs r) = runs_of r.degrees r.samples.now

abbrev pub side_expression : Side → Expression
side_expression (Stored list) = listed list.items.now
side_expression (Windows w) = windows w.width w.length
side_expression (Runs r) = runs r.degrees r.samples.now
