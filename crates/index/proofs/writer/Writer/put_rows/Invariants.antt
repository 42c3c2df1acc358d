use Rattle.std.proofs.Common.{◌≡◌, ◌+◌, ◌*◌, take, sum_by}
use Rattle.index.specs.Spelling.{rows_bytes}
use Rattle.index.specs.Writing.{Writes}
use Rattle.index.proofs.writer.Writer.put_rows.Given as goal

abbrev pub invariant-loop-row : goal.invariant-loop-row
invariant-loop-row g l =
    Writes l.initial.self l.self (rows_bytes g.S.Rows.name_of g.S.RowStore.count_of 0 (take l.row-index l.rows))
    × (l.self.at ≡ l.initial.self.at + 24 * l.row-index)
    × (l.earlier ≡ sum_by g.S.RowStore.count_of (take l.row-index l.rows))
