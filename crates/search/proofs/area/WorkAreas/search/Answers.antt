use Rattle.std.proofs.Common.{length, sym, ap, subst, arith}
use Rattle.search.specs.Law.{areas, room_of}
use Rattle.search.specs.Meaning.{over}
use Rattle.search.specs.Searches.{IsBlankFrom, Searched}
use Rattle.search.specs.WorkAreas.{areas_of}
use Rattle.search.proofs.Clears.{searched_blank, written_blank, written_areas}
use Rattle.search.proofs.area.WorkAreas.search.Goals as goal

pub invariant_of-self : goal.invariant_of-self
invariant_of-self g c =
    let w = c.args.self.now in
    let r = c.search_from-answered in
    let stack = c.as_mut_slice-stack.ensures.value in
    let scratch = c.as_mut_slice-scratch.ensures.value in
    let now = areas r.new.stack r.new.scratch in
    let done = r.ensures (subst (IsBlankFrom w.stored) (sym stack) w.stack_blank) (subst (IsBlankFrom w.listed) (sym scratch) w.scratch_blank) in
    let blank = searched_blank done in
    let both = written_blank w r.new.stack r.new.scratch (omega (arith, r.auto.stack, ap length stack, w.stack.ok.0)) (omega (arith, r.auto.scratch, ap length scratch, w.scratch.ok.0)) c.kept-self.result (subst (λ n. IsBlankFrom n r.new.stack) (sym c.kept-self.ensures) blank.0, blank.1) in
    record { stack_blank = both.0; scratch_blank = both.1 }

pub returns-clause-answered : goal.returns-clause-answered
returns-clause-answered g c =
    let w = c.args.self.now in
    let r = c.search_from-answered in
    let stack = c.as_mut_slice-stack.ensures.value in
    let scratch = c.as_mut_slice-scratch.ensures.value in
    let log = over (g.P.Postings.lists c.args.postings.now) c.args.trace.now in
    let done = r.ensures (subst (IsBlankFrom w.stored) (sym stack) w.stack_blank) (subst (IsBlankFrom w.listed) (sym scratch) w.scratch_blank) in
    subst (λ left. Searched log (room_of (areas_of w)) (c.args.text.now) r.result left) (written_areas w r.new.stack r.new.scratch (omega (arith, r.auto.stack, ap length stack, w.stack.ok.0)) (omega (arith, r.auto.scratch, ap length scratch, w.scratch.ok.0)))
    (subst (λ was. Searched log (room_of was) (c.args.text.now) r.result (areas r.new.stack r.new.scratch)) (λ j. areas (stack j) (scratch j)) done)
