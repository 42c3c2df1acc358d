use Rattle.std.proofs.Common.{length, ap, arith}
use Rattle.index.proofs.Stores.{size-named_slots}
use Rattle.index.proofs.sealing.index_size.Goals as goal

pub returns : goal.returns
returns g c =
    let s = c.args.store.now in
    let size = size-named_slots g.S.Rows.name_of g.S.RowStore.count_of (g.S.Rows.rows_of s) (g.S.RowStore.slots_of s) (g.met.S.RowStore.fits s).counted in
    omega (arith, ap length c.rows.ensures, ap length c.slots.ensures, size)
