use Rattle.std.proofs.Common.{ap, ◌∙◌, rules}
use Rattle.std.proofs.lemmas.Result.{on_ok_weaker}
use Rattle.answering.specs.Asking.{report_fault_text, report_text}
use Rattle.answering.proofs.Asked.{told_text, put_is, told_is}
use Rattle.answering.proofs.areas.Areas.report.Goals as goal

pub put_answer-requires : goal.put_answer-requires
put_answer-requires g c = (told_is report_fault_text _ _ _ _ _ _ c.report-answered.ensures.answers).0

pub returns : goal.returns
unfolding report_text
returns g c =
    let said = told_text report_fault_text c.report-answered.result c.report-answered.new.stack in
    on_ok_weaker c.put_answer.result
    (λ h. (
      said,
      put_is report_fault_text c.report-answered.result c.report-answered.new.stack _ _ h,
      (told_is report_fault_text _ _ _ _ _ _ c.report-answered.ensures.answers).1 ∙ ap (report_text (g.P.Postings.lists c.args.store.now)) (search rules),
    ))
    c.put_answer.ensures
