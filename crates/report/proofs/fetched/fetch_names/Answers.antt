use Rattle.std.proofs.Common.{◌≡◌, ap, arith}
use Rattle.report.proofs.Fetches.{fetched_all}
use Rattle.report.proofs.fetched.fetch_names.Goals as goal

pub returns : goal.returns
returns g c =
    let none : c.new-tally.result.calls ≡ 0 = ap (λ t. t.calls) c.new-tally.ensures in
    fetched_all (g.P.Postings.lists c.args.postings.now) _
    c.args.stack.now c.fetch_behind.new.stack c.fetch_behind-2.new.stack c.fetch_behind-3.new.stack c.fetch_behind-4.new.stack
    c.in_ok-begins.ensures.behind c.in_ok-ends.ensures.behind c.in_ok-alarms.ensures.behind c.in_ok-cuts.ensures.behind
    c.fetch_behind-4.auto.stack
    (omega (arith, none, c.in_ok-begins.ensures.counted, c.in_ok-ends.ensures.counted, c.in_ok-alarms.ensures.counted, c.in_ok-cuts.ensures.counted))
