-- Lemma: an operand's extents are in order, and are the set that it is made of. Assumes nothing.
use Rattle.extents.specs.Expressions.{set_of}
use Rattle.extents.specs.Regions.{Lists}
use Rattle.extents.specs.Rising.{lists_itself}
use Rattle.extents.specs.Runs.{runs_listed}
use Rattle.extents.specs.WindowLists.{windows_listed}
use Rattle.search.specs.declared.operand.Side.{Side}
use Rattle.search.specs.declared.operand.Side.TheVariants.{Stored, Windows, Runs}
use Rattle.search.specs.Sides.{side_list, side_expression}

pub side_means : (s : Side) → Lists (set_of (side_expression s)) (side_list s)
side_means (Stored list) = lists_itself list.items.now list.rising
side_means (Windows windows) = windows_listed windows
side_means (Runs runs) = runs_listed runs.degrees runs.samples.now
