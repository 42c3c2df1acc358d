use Rattle.std.proofs.Common.{◌≡◌, Some, false, is_ok, refl, ap, arith, rules}
use Rattle.extents.specs.declared.tally.Tally.{Tally}
use Rattle.search.specs.Law.{areas, room_of}
use Rattle.report.specs.declared.fault.ReportFault.TheVariants.{ListingOver}
use Rattle.report.specs.Law.{report_fault}
use Rattle.report.proofs.Exact.{quiet_short}
use Rattle.report.proofs.Outcomes.{all_fits, listing_over, over, listed_many, told}
use Rattle.report.proofs.reporting.answer.Goals as goal

pub returns-in_err-listing : goal.returns-in_err-listing
returns-in_err-listing g c =
    let p = g.P.Postings.lists c.args.postings.now in
    let room = room_of (areas c.args.stack.now c.args.scratch.now) in
    let h = c.in_ok-fetched.ensures in
    let t = c.list_fetched-listed.ensures p (g.P.Postings.lawful c.args.postings.now) h in
    let none : is_ok c.list_fetched-listed.result ≡ false = search rules in
    let fault : report_fault p room ≡ Some ListingOver =
    listing_over p room (all_fits p room c.fetch_names.new.stack c.in_ok-fetched.fetched h c.fetch_names.auto.stack) (over p room c.args.scratch.now c.list_fetched-listed.new.scratch c.list_fetched-listed.result t none) in
    rw fault (search rules)

pub slice_bounds-copy_from_slice-end : goal.slice_bounds-copy_from_slice-end
slice_bounds-copy_from_slice-end g c =
    let p = g.P.Postings.lists c.args.postings.now in
    let law = g.P.Postings.lawful c.args.postings.now in
    let room = room_of (areas c.args.stack.now c.args.scratch.now) in
    let h = c.in_ok-fetched.ensures in
    let many = listed_many p room c.args.scratch.now c.list_fetched-listed.new.scratch c.list_fetched-listed.result c.in_ok-listing.listing (c.list_fetched-listed.ensures p law h) (grind arith) in
    omega (arith, many, quiet_short p law, all_fits p room c.fetch_names.new.stack c.in_ok-fetched.fetched h c.fetch_names.auto.stack, c.fetch_names.auto.stack)

pub returns : goal.returns
returns g c =
    let p = g.P.Postings.lists c.args.postings.now in
    let h = c.in_ok-fetched.ensures in
    let t = c.list_fetched-listed.ensures p (g.P.Postings.lawful c.args.postings.now) h in
    let calls = ap (λ (t : Tally). t.calls) c.add.ensures in
    told p (room_of (areas c.args.stack.now c.args.scratch.now)) c.fetch_names.new.stack c.in_ok-fetched.fetched c.args.scratch.now c.list_fetched-listed.new.scratch c.copy_from_slice.new.self _
    c.list_fetched-listed.result c.in_ok-listing.listing _ h c.fetch_names.auto.stack refl t (grind arith) (search rules) (omega (arith, calls))
