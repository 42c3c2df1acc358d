use Rattle.std.proofs.Common.{◌+◌, map, sym, ap}
use Rattle.extents.specs.Extents.{last_position}
use Rattle.extents.specs.Scans.{heat}
use Rattle.extents.specs.Trace.{hot}
use Rattle.extents.proofs.Scanning.{take_min}
use Rattle.extents.proofs.trace.TraceRuns.heard.Goals as goal

pub returns : goal.returns
unfolding heat
returns c = sym (ap (map (hot c.args.self.now.degrees)) (take_min c.args.self.now.samples.now (last_position + 1) c.min.result c.min.ensures))
