use Rattle.std.proofs.Common.{sym, ◌∙◌, arith}
use Rattle.extents.specs.Scans.{heat}
use Rattle.extents.proofs.RunAccesses.{hot_among}
use Rattle.extents.proofs.Scanning.{heat_short}
use Rattle.extents.proofs.trace.TraceRuns.run_around.Goals as goal

pub overflow_cast-result : goal.overflow_cast-result
overflow_cast-result c =
    let hs = heat c.args.self.now in
    omega (arith, heat_short c.args.self.now, hot_among hs c.args.slot (sym c.is_hot.ensures ∙ c.if-is_hot.true), c.back_from.ensures.upto)
