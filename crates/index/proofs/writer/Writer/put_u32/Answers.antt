use Rattle.std.proofs.Common.{rules}
use Rattle.index.specs.Fields.{u32_bytes}
use Rattle.index.proofs.writer.Writer.put_u32.Goals as goal

pub returns : goal.returns
unfolding u32_bytes
returns c = search rules
