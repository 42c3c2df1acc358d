use Rattle.std.proofs.Common.{rules}
use Rattle.std.proofs.lemmas.Result.{err_from_is_err_and}
use Rattle.seal.proofs.Indexed.{shown_index, run_failed, not_sealed, not_put, sealed_all, sealed_some, stays_failed, stays_unsealed, stays_untold}
use Rattle.seal.proofs.sealing.seal_shift.Goals as goal

pub returns-in_err-run-clause-run : goal.returns-in_err-run-clause-run
returns-in_err-run-clause-run g c =
    let p = err_from_is_err_and c.from_residual.result c.from_residual.ensures.1 in
    rw (p.1, p.2) (run_failed (g.P.Place.bytes c.args.place.now) c.new-shift.result c.new-shift.ensures c.run.new.session _ _ _ _ _ c.in_err-run.ensures)

pub returns-in_err-run-clause-stays : goal.returns-in_err-run-clause-stays
returns-in_err-run-clause-stays g c =
    let p = err_from_is_err_and c.from_residual.result c.from_residual.ensures.1 in
    rw (p.1, p.2) (stays_failed (g.P.Place.bytes c.args.place.now) c.new-shift.result c.new-shift.ensures c.run.new.session _ _ _ _ _ _ (search rules) c.in_err-run.ensures)

pub returns-in-Err-clause-run : goal.returns-in-Err-clause-run
returns-in-Err-clause-run g c =
    not_sealed (g.P.Place.bytes c.args.place.now) c.new-shift.result c.new-shift.ensures c.run.new.session _ _ _ _ c.in_ok-run.ensures c.no_memory.result

pub returns-in-Err-clause-stays : goal.returns-in-Err-clause-stays
returns-in-Err-clause-stays g c =
    stays_unsealed (g.P.Place.bytes c.args.place.now) c.new-shift.result c.new-shift.ensures c.run.new.session _ _ _ _ c.in_ok-run.ensures _ c.no_memory.result (search rules)

pub returns-in-Err-put-clause-run : goal.returns-in-Err-put-clause-run
returns-in-Err-put-clause-run g c =
    not_put (g.P.Place.bytes c.put.new.self) c.new-shift.result c.new-shift.ensures c.run.new.session _ _ _ _ c.in_ok-run.ensures c.in-Err-put.why

pub returns-in-Ok-tell_sealed-clause-run : goal.returns-in-Ok-tell_sealed-clause-run
returns-in-Ok-tell_sealed-clause-run g c =
    sealed_all (g.P.Place.bytes c.put.new.self) c.new-shift.result c.new-shift.ensures c.run.new.session _ _ _ (g.W.Write.contents c.run.new.writer) c.in_ok-run.ensures
    c.as_slice-bytes.result.now (shown_index _ _ _ c.as_slice-bytes.ensures.value c.in-Ok.ensures c.tell_sealed.ensures.bytes) c.in-Ok-put.ensures.ok _ c.in-Ok-tell_sealed.ensures.whole

pub returns-clause-run : goal.returns-clause-run
returns-clause-run g c =
    let f = c.in-Err-tell_sealed.ensures.front in
    sealed_some (g.P.Place.bytes c.put.new.self) c.new-shift.result c.new-shift.ensures c.run.new.session _ _ _ (g.W.Write.contents c.run.new.writer) c.in_ok-run.ensures
    c.as_slice-bytes.result.now (shown_index _ _ _ c.as_slice-bytes.ensures.value c.in-Ok.ensures c.tell_sealed.ensures.bytes) c.in-Ok-put.ensures.ok _ c.in-Err-tell_sealed.why f.0 f.1

pub returns-clause-stays : goal.returns-clause-stays
returns-clause-stays g c =
    let f = c.in-Err-tell_sealed.ensures.front in
    stays_untold (g.P.Place.bytes c.put.new.self) c.new-shift.result c.new-shift.ensures c.run.new.session _ _ _ (g.W.Write.contents c.run.new.writer) c.in_ok-run.ensures
    c.as_slice-bytes.result.now (shown_index _ _ _ c.as_slice-bytes.ensures.value c.in-Ok.ensures c.tell_sealed.ensures.bytes) c.in-Ok-put.ensures.ok _ _ c.in-Err-tell_sealed.why f.0 f.1
