use Rattle.std.proofs.Common.{ap, arith}
use Rattle.extents.specs.declared.tally.Tally.{Tally}
use Rattle.report.proofs.Fronts.{behind, behind_calls}
use Rattle.report.proofs.fetched.fetch_behind.Goals as goal

pub returns-clause-behind : goal.returns-clause-behind
returns-clause-behind g c =
    behind c.args.stack.now c.fetch-fetched.new.out _ c.args.used c.fetch-fetched.result c.requires c.fetch-fetched.ensures c.in_ok-listing.listing (grind arith)

pub returns-clause-counted : goal.returns-clause-counted
returns-clause-counted g c =
    let calls = behind_calls c.args.stack.now c.fetch-fetched.new.out _ c.args.used c.fetch-fetched.result c.requires c.fetch-fetched.ensures c.in_ok-listing.listing (grind arith) in
    let added = ap (λ (t : Tally). t.calls) c.add.ensures in
    omega (arith, calls, added)
