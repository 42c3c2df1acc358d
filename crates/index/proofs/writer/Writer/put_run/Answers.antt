use Rattle.std.proofs.Common.{take, arith}
use Rattle.std.proofs.lemmas.List.{length-take-le}
use Rattle.index.proofs.Runs.{slots_more, length-slots_bytes}
use Rattle.index.proofs.writer.Writer.put_run.Goals as goal

pub put_u32-requires : goal.put_u32-requires
put_u32-requires c =
    let so_far = c.loop-slot.invariant in
    let i = c.loop-slot.slot-index in
    let slots = c.args.slots.now in
    omega (arith, so_far.at, so_far.size, length-slots_bytes (take i slots), length-take-le i slots (omega arith))

pub loop-slot-preserved : goal.loop-slot-preserved
loop-slot-preserved c =
    slots_more _ _ _ c.args.slots.now c.loop-slot.slot-index c.loop-slot-test.true c.requires c.loop-slot.invariant c.put_u32.ensures
