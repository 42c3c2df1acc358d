use Rattle.std.proofs.Common.{refl, arith, rules}
use Rattle.search.proofs.Steps.{list_stored, list_unstored}
use Rattle.search.proofs.run.store.Goals as goal

pub returns-then-stack-base : goal.returns-then-stack-base
returns-then-stack-base c xs calls was rises told =
    list_unstored xs calls c.args.place was c.args.scratch.now c.args.waiting.now _ c.args.stack.now c.args.listed told
    c.in-Ok.listing c.in-Ok.is (omega arith) refl (omega (arith, c.max-waiting-2.ensures)) (omega (arith, c.max-waiting-2.ensures))

pub returns : goal.returns
returns c xs calls was rises told =
    let s = c.requires.stacked.stacked in
    list_stored xs calls c.args.place was c.args.scratch.now c.args.waiting.now c.push.new.self c.args.stack.now c.args.listed told
    c.copy_from_slice.new.self c.in-Ok.listing rises (omega (arith, s.used, s.fits)) c.in-Ok.is (omega arith) (search rules) c.push.ensures.items c.push.ensures.calls
    c.push.ensures.stored (omega (arith, c.push.ensures.listed, c.max-waiting-2.ensures)) (omega (arith, c.push.ensures.listed, c.max-waiting-2.ensures))
