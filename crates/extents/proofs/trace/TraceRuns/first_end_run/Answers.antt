use Rattle.std.proofs.Common.{arith}
use Rattle.extents.specs.Scans.{heat}
use Rattle.extents.proofs.Scanning.{heat_short}
use Rattle.extents.proofs.RunAccesses.{first_end_scanned}
use Rattle.extents.proofs.trace.TraceRuns.first_end_run.Goals as goal

pub returns : goal.returns
returns c =
    let s = c.args.self.now in
    first_end_scanned (heat s) (heat_short s) _ _ _ (omega (arith, c.slots.ensures, c.min.ensures)) c.next_from.ensures _ c.run_around.ensures
