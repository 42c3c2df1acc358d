use Rattle.std.proofs.Common.{arith}
use Rattle.extents.specs.Scans.{heat}
use Rattle.extents.proofs.Scanning.{heat_short}
use Rattle.extents.proofs.RunAccesses.{last_start_scanned}
use Rattle.extents.proofs.trace.TraceRuns.last_start_run.Goals as goal

pub returns : goal.returns
returns c =
    let s = c.args.self.now in
    last_start_scanned (heat s) (heat_short s) _ _ _ (omega (arith, c.slots.ensures, c.min.ensures)) c.back_from.ensures _ c.run_before.ensures
