use Rattle.std.proofs.Common.{take}
use Rattle.index.specs.Spelling.{slots_bytes}
use Rattle.index.specs.Writing.{Writes}
use Rattle.index.proofs.writer.Writer.put_run.Given as goal

abbrev pub invariant-loop-slot : goal.invariant-loop-slot
invariant-loop-slot l = Writes l.initial.self l.self (slots_bytes (take l.slot-index l.slots))
