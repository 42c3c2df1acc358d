use Rattle.console.proofs.Written.{Wrote}
use Rattle.console.proofs.writing.write_whole.Given as goal

abbrev pub invariant-loop : goal.invariant-loop
invariant-loop g l = Wrote (g.W.Write.contents l.fn.writer) (g.W.Write.contents l.writer) l.bytes l.done
