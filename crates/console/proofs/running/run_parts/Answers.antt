use Rattle.std.proofs.lemmas.Result.{err_from_is_err_and}
use Rattle.console.proofs.UnderWay.{ran_stopped, ran_all, ran_last_broken}
use Rattle.console.proofs.running.run_parts.Goals as goal

pub returns-in-Ok : goal.returns-in-Ok
returns-in-Ok g c first unread before run =
    let more = c.in_ok-next_part.ensures.ok first unread before (c.loop.invariant.1 first unread before run) in
    ran_all g.S.Session.answers first _ _ unread _ before _ more c.finish.new.session _ (c.in_ok-next_part.ensures.end c.if-branch-eq0.true) c.in-Ok.ensures.ok

pub returns-in-Err : goal.returns-in-Err
returns-in-Err g c first unread before run =
    let more = c.in_ok-next_part.ensures.ok first unread before (c.loop.invariant.1 first unread before run) in
    ran_last_broken g.S.Session.answers first _ _ unread _ before _ more c.finish.new.session _ (c.in_ok-next_part.ensures.end c.if-branch-eq0.true) c.in-Err.why c.in-Err.ensures.err

pub returns : goal.returns
returns g c first unread before run =
    ran_stopped g.S.Session.answers first _ _ unread _ before _ (c.loop.invariant.1 first unread before run) c.from.result

pub returns-in_err-next_part : goal.returns-in_err-next_part
returns-in_err-next_part g c first unread before run =
    let p = err_from_is_err_and c.from_residual.result c.from_residual.ensures.1 in
    rw (p.1, p.2) (c.in_err-next_part.ensures.err first unread before (c.loop.invariant.1 first unread before run))
