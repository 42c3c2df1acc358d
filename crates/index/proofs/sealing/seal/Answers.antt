use Rattle.std.proofs.Common.{◌≤◌, length, sym, ap, subst, arith, rules}
use Rattle.std.specs.List.{All}
use Rattle.postings.specs.Shown.{named_slots}
use Rattle.index.specs.declared.fields.TheConstants.{VERSION}
use Rattle.index.specs.Sealing.{index_size}
use Rattle.index.specs.Spelling.{head_bytes, rows_bytes, slots_bytes}
use Rattle.index.specs.Writing.{Writes}
use Rattle.index.proofs.Stores.{length_head, size-named_slots, names_short, shown_fits, shown_means, index_written, seals_from}
use Rattle.index.proofs.sealing.seal.Goals as goal

pub put_rows-requires-clause-room : goal.put_rows-requires-clause-room
put_rows-requires-clause-room g c =
    let s = c.args.store.now in
    let rows = c.rows-rows.result.now in
    let slots = c.slots-slots.result.now in
    let size = size-named_slots g.S.Rows.name_of g.S.RowStore.count_of (g.S.Rows.rows_of s) (g.S.RowStore.slots_of s) (g.met.S.RowStore.fits s).counted in
    let head = length_head VERSION (length rows) c.length.result (length slots) in
    omega (arith, c.put_head.ensures.at, c.put_head.ensures.size, c.new-writer.ensures.start, ap length c.new-writer.ensures.whole, c.index_size-size.ensures, ap length c.rows-rows.ensures, size, head)

pub put_rows-requires-clause-short : goal.put_rows-requires-clause-short
put_rows-requires-clause-short g c =
    let s = c.args.store.now in
    let name = g.S.Rows.name_of in
    let count = g.S.RowStore.count_of in
    let xs = g.S.Rows.rows_of s in
    let ss = g.S.RowStore.slots_of s in
    let p = g.S.Postings.lists s in
    subst (All (λ r. length (name r) ≤ 16)) (sym c.rows-rows.ensures)
    (names_short name count xs ss p.span (shown_fits name count xs ss p (g.met.S.RowStore.shows s) (g.S.Postings.lawful s) (g.met.S.RowStore.fits s)))

pub put_run-requires : goal.put_run-requires
put_run-requires g c =
    let s = c.args.store.now in
    let rows = c.rows-rows.result.now in
    let slots = c.slots-slots.result.now in
    let size = size-named_slots g.S.Rows.name_of g.S.RowStore.count_of (g.S.Rows.rows_of s) (g.S.RowStore.slots_of s) (g.met.S.RowStore.fits s).counted in
    let head = length_head VERSION (length rows) c.length.result (length slots) in
    let written = c.put_rows.ensures.bytes.size in
    omega (
      arith,
      c.put_head.ensures.at,
      c.put_head.ensures.size,
      c.put_rows.ensures.moved,
      written,
      c.new-writer.ensures.start,
      ap length c.new-writer.ensures.whole,
      c.index_size-size.ensures,
      ap length c.rows-rows.ensures,
      ap length c.slots-slots.ensures,
      size,
      head,
    )

pub returns-clause-seals : goal.returns-clause-seals
returns-clause-seals g c =
    let s = c.args.store.now in
    let p = g.S.Postings.lists s in
    let name = g.S.Rows.name_of in
    let count = g.S.RowStore.count_of in
    let xs = g.S.Rows.rows_of s in
    let ss = g.S.RowStore.slots_of s in
    let rows = named_slots name count xs ss in
    let f = g.met.S.RowStore.fits s in
    let shows = g.met.S.RowStore.shows s in
    let law = g.S.Postings.lawful s in
    let fits = shown_fits name count xs ss p shows law f in
    let size = size-named_slots name count xs ss f.counted in
    let start = c.new-writer.result in
    let end = c.put_run.new.self in
    let room : index_size rows ≤ length c.args.buffer.now = omega (arith, c.index_size-size.ensures) in
    let head : Writes start c.put_head.new.self (head_bytes VERSION (length xs) p.span (length ss)) =
    rw (← c.rows-rows.ensures, ← c.length.ensures, ← c.slots-slots.ensures) c.put_head.ensures in
    let body = subst (λ x. Writes c.put_head.new.self c.put_rows.new.self (rows_bytes name count 0 x)) c.rows-rows.ensures c.put_rows.ensures.bytes in
    let tail = subst (λ x. Writes c.put_rows.new.self end (slots_bytes x)) c.slots-slots.ensures c.put_run.ensures in
    let put =
    index_written name count xs ss p.span start c.put_head.new.self c.put_rows.new.self end fits f.counted c.new-writer.ensures.start
    (omega (arith, room, size, ap length c.new-writer.ensures.whole)) head body tail in
    seals_from rows p c.args.buffer.now _ c.index_size-size.result start end fits (shown_means rows p shows law)
    c.index_size-size.ensures room (λ i. omega (arith, c.type_inv.buffer i)) c.new-writer.ensures.whole (search rules) put
