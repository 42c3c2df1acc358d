use Rattle.std.proofs.Common.{◌≡◌, ◌-◌, ◌∙◌, List, length, replicate, refl, ap, arith}
use Rattle.extents.specs.declared.extent.Extent.{Extent}
use Rattle.search.specs.Law.{areas, room_of}
use Rattle.search.specs.Meaning.{over}
use Rattle.search.specs.Searches.{blank}
use Rattle.search.proofs.Tells.{read_searched, misread_searched}
use Rattle.search.proofs.searching.search_from.Goals as goal

pub returns-in-Ok : goal.returns-in-Ok
returns-in-Ok g c stored listed =
    let log = over (g.P.Postings.lists c.args.postings.now) c.args.trace.now in
    let q = c.in-Ok.ensures in
    read_searched log (record { lists = g.P.Postings.lawful c.args.postings.now }) (room_of (areas c.args.stack.now c.args.scratch.now)) c.args.text.now c.answer_from.result _ c.in-Ok.query q.outcome q.complete q.leftmost (c.answer_from.ensures stored listed)

pub returns-in-Err : goal.returns-in-Err
returns-in-Err g c stored listed =
    let log = over (g.P.Postings.lists c.args.postings.now) c.args.trace.now in
    let q = c.in-Err.ensures in
    let whole : (xs : List Extent) → replicate (length xs - 0) blank ≡ replicate (length xs) blank = λ xs. ap (λ n. replicate n blank) (omega arith) in
    misread_searched log (record { lists = g.P.Postings.lawful c.args.postings.now }) (room_of (areas c.args.stack.now c.args.scratch.now)) c.args.text.now _ _ c.in-Err.fault q.outcome q.complete q.leftmost
    (record { answer = refl; stack_is = c.clear_from.ensures stored ∙ whole c.args.stack.now; scratch_is = c.clear_from-in-Err.ensures listed ∙ whole c.args.scratch.now })
