use Rattle.std.proofs.Common.{◌≡◌, ◌+◌, ◌-◌, ◌<◌, length, sym, ap, ◌∙◌, arith, rules, below_more}
use lib.ListN.{length-map}
use Rattle.extents.specs.Scans.{heat}
use Rattle.extents.specs.Trace.{hot, hot_at}
use Rattle.extents.proofs.Scanning.{hot_passed, hot_from_on, from_on_length, as_wanted, not_as_wanted}
use Rattle.extents.proofs.trace.TraceRuns.next_from.Goals as goal

pub returns-then-is_hot-wanted : goal.returns-then-is_hot-wanted
returns-then-is_hot-wanted c =
    let s = c.args.self.now in
    let a = c.args.from in
    let xs = c.heard.result.now in
    let n = ap length c.heard.ensures ∙ length-map xs (hot s.degrees) in
    let l : c.loop-i.i < length xs - a = omega (arith, from_on_length xs a, c.loop-i-test.true) in
    let e = ap (λ hs. hot_at hs (a + c.loop-i.i)) c.heard.ensures ∙ hot_from_on s.degrees xs a c.loop-i.i _ c.is_hot.result (omega (arith, n, c.requires)) l (c.is_hot.ensures ∙ hot_passed s.degrees _ (search rules)) in
    record {
      from = omega arith;
      among = omega (arith, n, c.requires);
      passed = λ i h u.
          let q : a + (i - a) ≡ i = omega arith in
          sym (ap (hot_at (heat s)) q) ∙ c.loop-i.invariant (i - a) (omega arith);
      found = λ h. e ∙ as_wanted c.is_hot.result c.args.wanted c.if-is_hot-wanted.true;
    }

pub loop-i-preserved : goal.loop-i-preserved
loop-i-preserved c =
    let s = c.args.self.now in
    let a = c.args.from in
    let xs = c.heard.result.now in
    let n = ap length c.heard.ensures ∙ length-map xs (hot s.degrees) in
    let l : c.loop-i.i < length xs - a = omega (arith, from_on_length xs a, c.loop-i-test.true) in
    let e = ap (λ hs. hot_at hs (a + c.loop-i.i)) c.heard.ensures ∙ hot_from_on s.degrees xs a c.loop-i.i _ c.is_hot.result (omega (arith, n, c.requires)) l (c.is_hot.ensures ∙ hot_passed s.degrees _ (search rules)) in
    below_more _ _ c.loop-i.invariant (e ∙ not_as_wanted c.is_hot.result c.args.wanted c.if-is_hot-wanted.false)

pub returns : goal.returns
returns c =
    let s = c.args.self.now in
    let a = c.args.from in
    let xs = c.heard.result.now in
    let n = ap length c.heard.ensures ∙ length-map xs (hot s.degrees) in
    let m = from_on_length xs a in
    record {
      from = omega (arith, c.requires, c.slots.ensures);
      among = omega (arith, c.slots.ensures);
      passed = λ i h u.
          let q : a + (i - a) ≡ i = omega arith in
          sym (ap (hot_at (heat s)) q) ∙ c.loop-i.invariant (i - a) (omega (arith, m, n, c.slots.ensures, c.loop-i-test.false));
      found = λ h. absurd (omega (arith, c.slots.ensures, h));
    }
