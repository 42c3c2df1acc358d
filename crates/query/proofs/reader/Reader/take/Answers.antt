use Rattle.std.proofs.Common.{sym, refl}
use Rattle.std.proofs.lemmas.Result.{err_from_is_err_and}
use Rattle.query.specs.Scanning.{scan}
use Rattle.query.proofs.reader.Reader.take.Goals as goal

pub returns-in_err-found-clause-faulty : goal.returns-in_err-found-clause-faulty
unfolding scan
returns-in_err-found-clause-faulty c =
    let p = err_from_is_err_and c.from_residual.result c.from_residual.ensures.1 in
    rw p.1 (record { cause = _; is = p.2; met = sym c.in_err-found.ensures.sees })

pub returns-clause-taken : goal.returns-clause-taken
unfolding scan
returns-clause-taken c =
    let said = c.in_ok-found.ensures in
    record { is = sym said.sees; within = said.ahead.1; further = said.ahead.0; same = refl; moved = refl; terms = refl; steps = refl }
