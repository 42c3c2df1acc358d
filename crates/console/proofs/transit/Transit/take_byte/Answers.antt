use Rattle.std.proofs.Common.{[], ◌∷◌, refl}
use Rattle.std.proofs.lemmas.Bool.{ne_eqb}
use Rattle.std.proofs.lemmas.Result.{on_ok_weaker}
use Rattle.console.specs.declared.transit.Transit.{Transit}
use Rattle.console.proofs.UnderWay.{on_err, both, further_line, further_byte, further_written, further_then, breaks_none, breaks_written, breaks_then}
use Rattle.console.proofs.transit.Transit.take_byte.Goals as goal

pub returns-in_err-end_line-clause-err : goal.returns-in_err-end_line-clause-err
returns-in_err-end_line-clause-err g c = on_err c.from_residual.result (breaks_none g.S.Session.answers _ _ _ (c.args.b ∷ []))

pub returns-else-b-eq10-clause-ok : goal.returns-else-b-eq10-clause-ok
returns-else-b-eq10-clause-ok g c = further_byte g.S.Session.answers _ _ _ _ c.args.b (ne_eqb c.args.b 10 c.if-b-eq10.false) refl c.push.ensures

pub returns-then-len-ge-FULL-clause-ok : goal.returns-then-len-ge-FULL-clause-ok
returns-then-len-ge-FULL-clause-ok g c =
    let ended : Transit = record { line = c.clear.new.self; out = c.end_line.new.self.out } in
    on_ok_weaker c.flush.result
    (λ h.
    further_then g.S.Session.answers _ _ _ c.end_line.new.session ended _ (c.args.b ∷ [])
    (further_line g.S.Session.answers _ _ _ _ ended c.args.b c.if-b-eq10.true c.in_ok-end_line.ensures.answered c.clear.ensures) _ c.flush.new.self _ []
    (further_written g.S.Session.answers _ ended _ _ c.flush.new.self c.flush.ensures.line h.1 h.0))
    (both _ _ c.flush.result c.flush.ensures.ok c.flush.ensures.empty)

pub returns-then-len-ge-FULL-clause-err : goal.returns-then-len-ge-FULL-clause-err
returns-then-len-ge-FULL-clause-err g c =
    let ended : Transit = record { line = c.clear.new.self; out = c.end_line.new.self.out } in
    let f = c.flush.ensures.front in
    on_err c.flush.result
    (breaks_then g.S.Session.answers _ _ _ c.end_line.new.session ended _ (c.args.b ∷ [])
    (further_line g.S.Session.answers _ _ _ _ ended c.args.b c.if-b-eq10.true c.in_ok-end_line.ensures.answered c.clear.ensures) _ []
    (breaks_written g.S.Session.answers _ ended _ _ f.0 [] f.1))

pub returns-clause-ok : goal.returns-clause-ok
returns-clause-ok g c = further_line g.S.Session.answers _ _ _ _ _ c.args.b c.if-b-eq10.true c.in_ok-end_line.ensures.answered c.clear.ensures
