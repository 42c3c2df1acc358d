use Rattle.std.proofs.Common.{◌∙◌, sym, arith}
use Rattle.operators.proofs.Listings.{begun, next_key, one_more, ended, overfull}
use Rattle.operators.proofs.listing.list_into.Goals as goal

pub loop-x-init : goal.loop-x-init
loop-x-init g c = begun _ _ c.args.out.now _ c.new-tally.ensures

pub returns-then-n-out : goal.returns-then-n-out
returns-then-n-out g c = overfull (g.F.FirstStarts.rising c.args.starts.now) _ c.loop-x.invariant c.start_from.ensures.extent c.start_from.ensures.count c.take.ensures.count c.in-Some.x (sym c.take.ensures.extent ∙ c.in-Some.is) c.if-n-out.true

pub overflow_add-at : goal.overflow_add-at
overflow_add-at g c = omega (arith, next_key (g.F.FirstStarts.rising c.args.starts.now) _ c.loop-x.invariant c.start_from.ensures.extent c.start_from.ensures.count c.take.ensures.count c.in-Some.x (sym c.take.ensures.extent ∙ c.in-Some.is))

pub loop-x-preserved : goal.loop-x-preserved
loop-x-preserved g c = one_more (g.F.FirstStarts.rising c.args.starts.now) _ c.loop-x.invariant c.start_from.ensures.extent c.start_from.ensures.count c.take.ensures.count c.in-Some.x (sym c.take.ensures.extent ∙ c.in-Some.is) (omega arith)

pub returns : goal.returns
returns g c = ended (g.F.FirstStarts.rising c.args.starts.now) _ c.loop-x.invariant c.start_from.ensures.extent c.start_from.ensures.count c.take.ensures.count (sym c.take.ensures.extent ∙ c.in_default.is)
