use Rattle.std.proofs.Common.{◌≡◌, ◌≤◌, [], length, sym, subst, rules}
use Rattle.std.specs.Result.{IfOk}
use Rattle.std.proofs.lemmas.Result.{on_ok_weaker}
use Rattle.search.specs.Meaning.{over}
use Rattle.search.specs.Law.{Room, room_of}
use Rattle.search.specs.WorkAreas.{areas_of}
use Rattle.answering.specs.Asking.{fault_text, Says}
use Rattle.answering.proofs.Asked.{told_text, put_is, says}
use Rattle.answering.proofs.areas.Areas.query.Goals as goal

pub put_answer-requires : goal.put_answer-requires
put_answer-requires g c =
    let shown : c.as_slice.result.now ≡ c.search-answered.new.self.stack.items = search rules in
    subst (λ area. IfOk c.search-answered.result (λ l. l.n ≤ length area)) (sym shown) (says _ _ _ _ _ c.search-answered.ensures.answered).0

pub returns : goal.returns
returns g c =
    let r = c.search-answered.result in
    let area = c.as_slice.result.now in
    let shown : area ≡ c.search-answered.new.self.stack.items = search rules in
    let said = told_text fault_text r area in
    let text = c.args.text.now in
    let log = over (g.P.Postings.lists c.args.store.now) [] in
    let room = room_of (areas_of c.args.self.now.work) in
    on_ok_weaker c.put_answer.result
    (λ h. (
      said,
      put_is fault_text r area _ _ h,
      subst (λ (room : Room). Says log room text said) c.args.self.now.size
          (subst (λ v. Says log room text (told_text fault_text r v)) (sym shown) (says log room text r _ c.search-answered.ensures.answered).1),
    ))
    c.put_answer.ensures
