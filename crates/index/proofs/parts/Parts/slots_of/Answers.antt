use Rattle.std.proofs.Common.{[], get_or, sym, ap, ◌∙◌, arith}
use Rattle.std.proofs.lemmas.List.{get_or_default}
use Rattle.index.specs.Obeyed.{obeys_from_verdict, rows_stand_from}
use Rattle.index.specs.Parts.{slots_in}
use Rattle.index.proofs.Chunks.{length_rows_cut, row_read}
use Rattle.index.proofs.Checked.{run_inside}
use Rattle.index.proofs.Searches.{run_slots, rows_sorted, row_found, no_row}
use Rattle.index.proofs.parts.Parts.slots_of.Goals as goal

pub run-requires : goal.run-requires
run-requires c =
    let p = c.args.self.now in
    let i = c.in-Ok.i in
    run_inside p.head.bytes.now (rows_stand_from _ (obeys_from_verdict _ c.requires)) p.rows.now p.slots.now p.cut_rows p.cut_slots
    (get_or p.rows.now i []) i c.in-Ok.ensures.within (get_or_default p.rows.now i [] _ c.in-Ok.ensures.within)

pub returns-in-Ok : goal.returns-in-Ok
returns-in-Ok c =
    let p = c.args.self.now in
    let bs = p.head.bytes.now in
    let n = c.args.name.now in
    let i = c.in-Ok.i in
    let o = obeys_from_verdict bs c.requires in
    let found = c.in-Ok.ensures.finds (rows_sorted bs n o p.rows.now p.cut_rows) in
    ap slots_in c.run.ensures
    ∙ run_slots bs o p.slots.now p.cut_slots i (omega (arith, found.0, length_rows_cut bs p.rows.now p.cut_rows)) _ (row_read bs p.rows.now p.cut_rows i [] found.0)
    ∙ sym (row_found bs n o p.rows.now p.cut_rows i found.0 found.1)

pub returns-in-Err : goal.returns-in-Err
returns-in-Err c =
    let p = c.args.self.now in
    let n = c.args.name.now in
    let o = obeys_from_verdict p.head.bytes.now c.requires in
    let found = c.in-Err.ensures.finds (rows_sorted p.head.bytes.now n o p.rows.now p.cut_rows) in
    sym (no_row p.head.bytes.now n o p.rows.now p.cut_rows c.in-Err.field-0 found.0 found.1)
