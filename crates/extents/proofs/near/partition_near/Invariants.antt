use Rattle.std.proofs.Common.{◌-◌, ◌≤◌, Bool, length}
use Rattle.std.specs.Fn.{ComputesKey}
use Rattle.extents.proofs.Bracketed.{Between}
use Rattle.extents.proofs.near.partition_near.Given as goal

abbrev pub invariant-loop-low : goal.invariant-loop-low
invariant-loop-low g l = (l.low ≤ l.high) × (l.high ≤ length l.items) × goal.P-IsAlwaysCallable g l.test × ((p : g.row.T.Denot → Bool) → ComputesKey g.P.FnMut p l.initial.test → ComputesKey g.P.FnMut p l.test × Between p l.items l.low l.high)

abbrev pub decreases-loop-low : goal.decreases-loop-low
decreases-loop-low g l = l.high - l.low
