use Rattle.std.proofs.Common.{List, ℕ, subst, take}
use Rattle.std.proofs.lemmas.Result.{on_ok_weaker}
use Rattle.std.specs.Io.KnownBytes.{Appends}
use Rattle.console.proofs.UnderWay.{on_err, ended_written, ended_partly}
use Rattle.console.proofs.transit.Transit.finish.Goals as goal

pub returns-clause-ok : goal.returns-clause-ok
returns-clause-ok g c =
    on_ok_weaker c.write_out.result
    (λ h.
    ended_written g.S.Session.answers _ c.args.self.now _ _ c.end_line.new.session c.end_line.new.self c.in_ok-end_line.ensures.answered
    (subst (Appends (g.W.Write.contents c.args.writer.now) (g.W.Write.contents c.write_out.new.writer)) c.as_bytes.ensures.value h))
    c.write_out.ensures.ok

pub returns-clause-err : goal.returns-clause-err
returns-clause-err g c =
    let f = c.write_out.ensures.front in
    on_err c.write_out.result
    (ended_partly g.S.Session.answers _ c.args.self.now _ _ c.end_line.new.session c.end_line.new.self c.in_ok-end_line.ensures.answered f.0
    (subst (λ (xs : List ℕ). Appends (g.W.Write.contents c.args.writer.now) (g.W.Write.contents c.write_out.new.writer) (take f.0 xs)) c.as_bytes.ensures.value f.1))
