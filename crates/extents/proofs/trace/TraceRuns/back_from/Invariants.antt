use Rattle.std.proofs.Common.{◌≡◌}
use Rattle.std.specs.Iterator.Adapters.{enumerate_count, enumerate_source, rev_source}
use Rattle.std.specs.Slice.Iter.{iter_rest}
use Rattle.extents.specs.Scans.{heat}
use Rattle.extents.proofs.Scanning.{Behind}
use Rattle.extents.proofs.trace.TraceRuns.back_from.Given as goal

abbrev pub invariant-loop-slot : goal.invariant-loop-slot
invariant-loop-slot l =
    let it = rev_source l.slot-iterator in
    (enumerate_count it ≡ 0) × Behind (heat l.self) l.self.degrees l.wanted l.upto (iter_rest (enumerate_source it))
