use Rattle.std.proofs.Common.{◌≡◌, [], get_or, subst, arith}
use Rattle.std.proofs.lemmas.Bool.Decides.{nat_tests, same_from_decides}
use Rattle.index.specs.Fields.{names}
use Rattle.index.specs.Verdict.{rows_stand}
use Rattle.index.proofs.Chunks.{length_rows_cut, row_read, length_slots_cut}
use Rattle.index.proofs.Checked.{RowsSoFar, rows_more, row_broken, rows_counted}
use Rattle.index.proofs.check.rows_stand.Goals.{then-not-name_stands-via-then-not-name_stands, then-not-name_stands-via-else-not-name_stands+then-not-follows, then-not-name_stands-via-else-not-name_stands+else-not-follows+then-row_earlier-sum, then-not-name_stands-via-else-not-name_stands+else-not-follows+else-row_earlier-sum+then-row_count-eq0}
use Rattle.index.proofs.check.rows_stand.Goals as goal

pub returns-then-not-name_stands : goal.returns-then-not-name_stands
returns-then-not-name_stands c =
    let p = c.args.parts.now in
    let bs = p.head.bytes.now in
    let i = c.loop-row.row-index in
    row_broken bs i c.loop-row.sum _ (get_or p.rows.now i []) (row_read bs _ p.cut_rows i [] c.loop-row-test.true) c.loop-row.invariant (omega (arith, length_rows_cut bs p.rows.now p.cut_rows))
    (λ named after sums some.
    elim c.then-not-name_stands.branch [
      | then-not-name_stands-via-then-not-name_stands w ↦ cc
      | then-not-name_stands-via-else-not-name_stands+then-not-follows w ↦ cc
      | then-not-name_stands-via-else-not-name_stands+else-not-follows+then-row_earlier-sum w ↦ omega arith
      | then-not-name_stands-via-else-not-name_stands+else-not-follows+else-row_earlier-sum+then-row_count-eq0 w ↦ omega arith
    ])

pub loop-row-preserved : goal.loop-row-preserved
loop-row-preserved c =
    let p = c.args.parts.now in
    let i = c.loop-row.row-index in
    rows_more p.head.bytes.now i c.loop-row.sum _ (get_or p.rows.now i []) (row_read _ _ p.cut_rows i [] c.loop-row-test.true) c.loop-row.invariant _ _
    (cc) (cc) (omega arith) (omega arith) (omega arith) (omega arith) (cc)

pub returns : goal.returns
returns c =
    let p = c.args.parts.now in
    let bs = p.head.bytes.now in
    let last = c.loop-row.last.now in
    let all = length_slots_cut bs p.slots.now p.cut_slots in
    let n : c.loop-row.row-index ≡ names bs = omega (arith, length_rows_cut bs p.rows.now p.cut_rows) in
    let so_far = subst (λ i. RowsSoFar bs i c.loop-row.sum last) n c.loop-row.invariant in
    same_from_decides _ (rows_stand bs) (λ h. grind (arith, nat_tests, all), λ e. grind (arith, nat_tests, all)) (rows_counted bs c.loop-row.sum last so_far)
