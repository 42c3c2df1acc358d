use Rattle.index.proofs.Checked.{RowsSoFar}
use Rattle.index.proofs.check.rows_stand.Given as goal

abbrev pub invariant-loop-row : goal.invariant-loop-row
invariant-loop-row l = RowsSoFar l.parts.head.bytes.now l.row-index l.sum l.last
