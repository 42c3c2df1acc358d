use Rattle.console.proofs.Written.{wrote_more, wrote_none}
use Rattle.console.proofs.writing.write_whole.Goals as goal
use Rattle.console.proofs.writing.write_whole.Goals.{in-Ok, in-Err+else-ne}

pub loop-preserved : goal.loop-preserved
loop-preserved g c =
    let more = wrote_more _ _ (g.W.Write.contents c.write.new.self) c.args.bytes.now c.loop.done c.loop.invariant in
    let none = wrote_none _ _ (g.W.Write.contents c.write.new.self) c.args.bytes.now c.loop.done c.loop.invariant in
    elim c.match-write.branch [
      | in-Ok w ↦ more w.in-Ok.n c.match-write.done w.done-is w.in-Ok.ensures.bound w.in-Ok.ensures.bytes
      | in-Err+else-ne w ↦ none c.match-write.done w.done-is w.in-Err.ensures.bytes
    ]
