use Rattle.search.proofs.Heaps.{at_top, taken}
use Rattle.search.proofs.run.take_off.Goals as goal

pub side-requires : goal.side-requires
side-requires c =
    let s = c.requires.stacked in
    at_top c.args.waiting.now c.args.stack.now s.waits s.count c.requires.waits s.stacked
    (λ p qs k. (taken c.args.waiting.now c.pop-operand.new.self c.args.stack.now c.pop-operand.result p qs s.count k c.pop-operand.ensures.items c.pop-operand.ensures.calls).1)

pub returns-clause-rest : goal.returns-clause-rest
returns-clause-rest c =
    let s = c.requires.stacked in
    at_top c.args.waiting.now c.args.stack.now s.waits s.count c.requires.waits s.stacked
    (λ p qs k. record { waits = qs; count = s.count; stacked = (taken c.args.waiting.now c.pop-operand.new.self c.args.stack.now c.pop-operand.result p qs s.count k c.pop-operand.ensures.items c.pop-operand.ensures.calls).2 })
