use Rattle.std.proofs.Common.{sym}
use Rattle.extents.specs.Scans.{heat}
use Rattle.extents.proofs.RunAccesses.{skip_on}
use Rattle.extents.proofs.trace.TraceRuns.skip_run.Goals as goal

pub returns-then-is_hot : goal.returns-then-is_hot
returns-then-is_hot c = skip_on (heat c.args.self.now) c.args.from c.next_from.result c.if-from-gt0.true (sym c.if-is_hot.ensures) c.next_from.ensures
