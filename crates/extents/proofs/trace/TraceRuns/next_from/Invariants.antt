use Rattle.std.proofs.Common.{◌≡◌, ℕ, ◌+◌, ◌<◌, not}
use Rattle.extents.specs.Scans.{heat}
use Rattle.extents.specs.Trace.{hot_at}
use Rattle.extents.proofs.trace.TraceRuns.next_from.Given as goal

-- no slot that was passed is as wanted
abbrev pub invariant-loop-i : goal.invariant-loop-i
invariant-loop-i l = (j : ℕ) → j < l.i → hot_at (heat l.self) (l.from + j) ≡ not l.wanted
