use Rattle.std.proofs.lemmas.Result.{on_ok_weaker}
use Rattle.console.proofs.UnderWay.{on_err, both, further_in, further_all, further_written, breaks_in, breaks_all, breaks_written}
use Rattle.console.proofs.transit.Transit.take_part.Goals as goal

pub loop-b-preserved : goal.loop-b-preserved
loop-b-preserved g c =
    further_in g.S.Session.answers _ _ _ c.args.part.now c.loop-b.b-index c.loop-b.session c.loop-b.self (g.W.Write.contents c.loop-b.writer) c.loop-b.invariant
    c.loop-b-test.true c.take_byte.new.session c.take_byte.new.self _ c.in_ok-take_byte.ensures.ok

pub returns-in_err-take_byte-clause-err : goal.returns-in_err-take_byte-clause-err
returns-in_err-take_byte-clause-err g c =
    on_err c.from_residual.result
    (breaks_in g.S.Session.answers _ _ _ c.args.part.now c.loop-b.b-index c.loop-b.session c.loop-b.self (g.W.Write.contents c.loop-b.writer) c.loop-b.invariant
    c.loop-b-test.true _ c.in_err-take_byte.ensures.err)

pub returns-clause-ok : goal.returns-clause-ok
returns-clause-ok g c =
    on_ok_weaker c.flush.result
    (λ h.
    further_all g.S.Session.answers _ _ _ c.args.part.now c.loop-b.b-index c.loop-b.session c.loop-b.self (g.W.Write.contents c.loop-b.writer) c.loop-b.invariant
    c.loop-b-test.false _ c.flush.new.self _
    (further_written g.S.Session.answers _ c.loop-b.self _ _ c.flush.new.self c.flush.ensures.line h.1 h.0))
    (both _ _ c.flush.result c.flush.ensures.ok c.flush.ensures.empty)

pub returns-clause-err : goal.returns-clause-err
returns-clause-err g c =
    let f = c.flush.ensures.front in
    on_err c.flush.result
    (breaks_all g.S.Session.answers _ _ _ c.args.part.now c.loop-b.b-index c.loop-b.session c.loop-b.self (g.W.Write.contents c.loop-b.writer) c.loop-b.invariant
    c.loop-b-test.false _ (breaks_written g.S.Session.answers _ c.loop-b.self _ _ f.0 _ f.1))
