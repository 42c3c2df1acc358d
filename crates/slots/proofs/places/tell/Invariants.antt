use Rattle.std.proofs.Common.{◌++◌, string_bytes, take}
use Rattle.std.specs.List.{flat_map}
use Rattle.shift_logbook.specs.Books.{rows_of}
use Rattle.slots.specs.Places.{row_text}
use Rattle.slots.specs.Checks.{refusal_line, Sends}
use Rattle.slots.proofs.places.tell.Given as goal

-- so far the rows, and the refused lines before the index, are written or wait
abbrev pub invariant-loop-refused : goal.invariant-loop-refused
invariant-loop-refused g l =
    Sends (g.W.Write.contents l.fn.writer) (g.W.Write.contents l.writer) (string_bytes l.out)
    (flat_map row_text (rows_of l.check.book) ++ flat_map refusal_line (take l.refused-index l.check.refused.items))
