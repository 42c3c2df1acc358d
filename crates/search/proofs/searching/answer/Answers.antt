use Rattle.std.proofs.Common.{ℕ, Ok, Err, sym, subst, arith}
use Rattle.operators.specs.declared.listing.Listing.{Listing}
use Rattle.query.specs.Queries.{said}
use Rattle.search.specs.Law.{areas, room_of, query_calls, query_fault}
use Rattle.search.specs.Meaning.{Log, over, listed}
use Rattle.search.specs.Run.{log_of}
use Rattle.search.specs.Told.{Told}
use Rattle.search.proofs.Tells.{run_told, ended_ok, ended_err, trace_fits}
use Rattle.search.proofs.searching.answer.Goals as goal

pub returns-in-Ok-clause-told : goal.returns-in-Ok-clause-told
returns-in-Ok-clause-told g c =
    let lists = g.P.Postings.lists c.args.postings.now in
    let room = room_of (areas c.args.stack.now c.args.scratch.now) in
    let e = said c.args.query.now in
    let log = over lists c.args.trace.now in
    let near : ℕ → Log = λ n. log_of lists.slots (record { span = n; trace = c.args.trace }) in
    let w = c.run.new.waiting in
    let area = c.run.new.stack in
    let answer : Listing = record { n = w.used; calls = w.calls } in
    let told = ended_ok (near c.length-span.result) room e w area (run_told (near c.length-span.result) room c.args.query.now (Ok tt) w area c.in-Ok.ensures.told) in
    subst (λ f. Told (listed log e) (query_calls log e) f (Ok answer) area) (sym (trace_fits log room e area (omega (arith, c.length-span.ensures))))
    (subst (λ n. Told (listed (near n) e) (query_calls (near n) e) (query_fault (near n) room e) (Ok answer) area) c.length-span.ensures told)

pub returns-in-Err-clause-told : goal.returns-in-Err-clause-told
returns-in-Err-clause-told g c =
    let lists = g.P.Postings.lists c.args.postings.now in
    let room = room_of (areas c.args.stack.now c.args.scratch.now) in
    let e = said c.args.query.now in
    let log = over lists c.args.trace.now in
    let near : ℕ → Log = λ n. log_of lists.slots (record { span = n; trace = c.args.trace }) in
    let w = c.run.new.waiting in
    let area = c.run.new.stack in
    let told = ended_err (near c.length-span.result) room e w area c.in-Err.fault (run_told (near c.length-span.result) room c.args.query.now (Err c.in-Err.fault) w area c.in-Err.ensures.told) in
    subst (λ f. Told (listed log e) (query_calls log e) f (Err c.in-Err.fault) area) (sym (trace_fits log room e area (omega (arith, c.length-span.ensures))))
    (subst (λ n. Told (listed (near n) e) (query_calls (near n) e) (query_fault (near n) room e) (Err c.in-Err.fault) area) c.length-span.ensures told)
