use Rattle.std.proofs.Common.{ap, sym, ◌∙◌, arith, rules}
use Rattle.std.specs.Iterator.Adapters.{enumerate_count, enumerate_source, rev_source}
use Rattle.std.specs.Slice.Iter.{iter_rest}
use Rattle.extents.specs.Scans.{heat}
use Rattle.extents.proofs.Scanning.{hot_passed, as_wanted, not_as_wanted, from_the_back, met_other, met_wanted}
use Rattle.extents.proofs.trace.TraceRuns.back_from.Goals as goal

pub loop-slot-init : goal.loop-slot-init
loop-slot-init c =
    let it = ap rev_source c.into_iter-slot-iterator.ensures.into_iter_gives ∙ c.rev-slot-items.ensures.source in (
      ap enumerate_count it ∙ c.enumerate.ensures.count,
      from_the_back (heat c.args.self.now) _ _ c.args.upto c.heard.result.now _ c.heard.ensures c.requires
          (ap (λ i. iter_rest (enumerate_source i)) it ∙ ap iter_rest c.enumerate.ensures.source ∙ c.iter.ensures.rest),
    )

pub returns-then-is_hot-wanted : goal.returns-then-is_hot-wanted
returns-then-is_hot-wanted c =
    let s = c.in-Some.ensures.steps in
    met_wanted _ _ c.loop-slot.invariant.1 s.1.0 _ (omega (arith, s.1.1, c.loop-slot.invariant.0))
    (sym (c.is_hot.ensures ∙ hot_passed c.args.self.now.degrees c.in-Some.field-0-1.now (search rules)) ∙ as_wanted _ _ c.if-is_hot-wanted.true)

pub loop-slot-preserved : goal.loop-slot-preserved
loop-slot-preserved c =
    let s = c.in-Some.ensures.steps in (
      s.0 ∙ c.loop-slot.invariant.0,
      met_other _ _ c.loop-slot.invariant.1 s.1.0 (sym (c.is_hot.ensures ∙ hot_passed c.args.self.now.degrees c.in-Some.field-0-1.now (search rules)) ∙ not_as_wanted _ _ c.if-is_hot-wanted.false),
    )

pub returns : goal.returns
returns c =
    let e = c.in-None.ensures.steps.1.0 in
    record {
      upto = omega arith;
      passed = λ i l u. c.loop-slot.invariant.1.passed i (omega (arith, e)) u;
      found = λ i q. absurd (omega arith);
    }
