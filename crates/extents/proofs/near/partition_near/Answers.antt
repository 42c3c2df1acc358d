use Rattle.std.proofs.Common.{◌≡◌, ◌<◌, true, false, length, sym, ◌∙◌, arith, of_calls}
use Rattle.extents.proofs.Bracketed.{next_call, held, raised, lowered, found}
use Rattle.extents.proofs.near.partition_near.Goals as goal
use Rattle.extents.proofs.near.partition_near.Goals.{then-test, else-test}

pub loop-low-preserved : goal.loop-low-preserved
loop-low-preserved g c =
    let xs = c.args.items.now in
    let at = c.loop-low.at in
    let l : at < length xs = omega arith in
    elim c.if-test.branch [
      | then-test w ↦ (
        omega arith,
        omega arith,
        search of_calls,
        λ p h.
            let i = c.loop-low.invariant.3 p h in
            let n = next_call g.P.FnMut _ _ _ _ _ c.test.ensures i.0 in
            (n.1, rw (w.low-is, w.high-is) (raised p xs _ _ at l (held (λ y. p y ≡ true) xs at _ l c.index-items-at.is (sym n.0 ∙ w.if-test.true)) i.1)),
      )
      | else-test w ↦ (
        omega arith,
        omega arith,
        search of_calls,
        λ p h.
            let i = c.loop-low.invariant.3 p h in
            let n = next_call g.P.FnMut _ _ _ _ _ c.test.ensures i.0 in
            (n.1, rw (w.low-is, w.high-is) (lowered p xs _ _ at (held (λ y. p y ≡ false) xs at _ l c.index-items-at.is (sym n.0 ∙ w.if-test.false)) i.1)),
      )
    ]

pub returns-clause-partitioned : goal.returns-clause-partitioned
returns-clause-partitioned g c = λ p h.
    let i = c.loop-low.invariant.3 p h in
    found p c.args.items.now c.loop-low.low c.loop-low.high (omega arith) (omega arith) c.partition_point.result c.partition_point.ensures.bound i.1 (c.partition_point.ensures.partitioned p i.0)
