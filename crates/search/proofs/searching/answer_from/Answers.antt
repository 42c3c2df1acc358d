use Rattle.std.proofs.Common.{◌≡◌, ◌-◌, ◌++◌, length, take, replicate, subst, ap, ◌∙◌, arith}
use Rattle.query.specs.Queries.{said}
use Rattle.search.specs.Law.{areas, room_of, search_fault, query_calls}
use Rattle.search.specs.Faults.{refusal_of}
use Rattle.search.specs.Meaning.{over, listed, IsLawful}
use Rattle.search.specs.Searches.{blank}
use Rattle.search.proofs.Clears.{told_clear, answers_told, blank_after}
use Rattle.search.proofs.Bounds.{query_few}
use Rattle.search.proofs.Sets.{meaning_listed}
use Rattle.search.proofs.searching.answer_from.Goals as goal

pub returns : goal.returns
returns g c stored listed_from =
    let log = over (g.P.Postings.lists c.args.postings.now) c.args.trace.now in
    let law : IsLawful log = record { lists = g.P.Postings.lawful c.args.postings.now } in
    let stack = c.args.stack.now in
    let scratch = c.args.scratch.now in
    let run = c.answer-outcome in
    let spares = run.ensures.spares in
    let room = room_of (areas stack scratch) in
    let e = said c.args.query.now in
    let fault = search_fault log room e in
    let answer =
    told_clear room run.result.answered run.new.stack _ _ run.auto.stack
    (subst (λ n. c.clear_from.new.area ≡ take n run.new.stack ++ replicate (length run.new.stack - n) blank) c.kept.ensures (c.clear_from.ensures (blank_after c.args.stored run.result.stored c.max.result stack run.new.stack c.max.ensures run.auto.stack spares.stack_is stored)))
    (c.clear_from-2.ensures (blank_after c.args.listed run.result.listed c.max-2.result scratch run.new.scratch c.max-2.ensures run.auto.scratch spares.scratch_is listed_from) ∙ ap (λ v. replicate v blank) (omega (arith, run.auto.scratch)))
    (listed log e) (query_calls log e) fault run.ensures.told in
    record {
      answer = answer;
      told_query = answers_told refusal_of (listed log e) (query_calls log e) room fault _ _ answer;
      sets = meaning_listed log law;
      few = query_few log law;
    }
