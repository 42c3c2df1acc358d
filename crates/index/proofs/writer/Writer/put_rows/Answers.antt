use Rattle.std.proofs.Common.{length, ap, arith}
use Rattle.std.proofs.lemmas.List.Sums.{sum_by_more, sum_by_more_le}
use Rattle.index.proofs.Runs.{rows_more}
use Rattle.index.proofs.writer.Writer.put_rows.Goals as goal

pub put_row-requires-clause-room : goal.put_row-requires-clause-room
put_row-requires-clause-room g c = omega (arith, c.loop-row.invariant.0.size, c.loop-row.invariant.1, c.requires.room)

pub put_row-requires-clause-short : goal.put_row-requires-clause-short
put_row-requires-clause-short g c =
    let x = c.row-item.result in
    omega (arith, ap length c.name.ensures, ap (λ r. length (g.S.Rows.name_of r)) c.row-item.is, c.requires.short c.loop-row.row-index x c.loop-row-test.true)

pub overflow_add-earlier : goal.overflow_add-earlier
overflow_add-earlier g c =
    omega (
      arith,
      c.loop-row.invariant.2,
      sum_by_more_le g.S.RowStore.count_of c.args.rows.now c.loop-row.row-index c.row-item.result c.loop-row-test.true,
      ap g.S.RowStore.count_of c.row-item.is,
      c.requires.few,
      c.count-count.ensures,
    )

pub loop-row-preserved : goal.loop-row-preserved
loop-row-preserved g c =
    let rows = c.args.rows.now in
    let i = c.loop-row.row-index in
    let x = c.row-item.result in
    let count = g.S.RowStore.count_of in
    let so_far = c.loop-row.invariant in (
      rows_more _ _ _ g.S.Rows.name_of count rows i x c.loop-row.earlier c.loop-row-test.true c.row-item.is c.requires.room so_far.2 so_far.1 c.put_row.ensures.moved so_far.0
          (rw (← c.name.ensures, ← c.count-count.ensures) c.put_row.ensures.bytes),
      omega (arith, so_far.1, c.put_row.ensures.moved),
      omega (arith, so_far.2, sum_by_more count rows i x c.loop-row-test.true, ap count c.row-item.is, c.count-count.ensures),
    )
