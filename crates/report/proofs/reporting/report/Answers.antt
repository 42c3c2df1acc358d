use Rattle.std.proofs.Common.{◌≡◌, ◌-◌, ◌++◌, length, take, replicate, ap, ◌∙◌}
use Rattle.search.specs.Law.{areas, room_of}
use Rattle.search.specs.Searches.{blank, kept_of}
use Rattle.search.proofs.Clears.{told_clear}
use Rattle.report.specs.Quiet.{quiet_reversals}
use Rattle.report.specs.Law.{report_calls, report_fault}
use Rattle.report.specs.Reports.{Reported}
use Rattle.report.proofs.Exact.{quiet_listed}
use Rattle.report.proofs.Outcomes.{told_law}
use Rattle.report.proofs.Worked.{sample_holds}
use Rattle.report.proofs.reporting.report.Goals as goal

pub returns : goal.returns
returns g c =
    let p = g.P.Postings.lists c.args.postings.now in
    let room = room_of (areas c.args.stack.now c.args.scratch.now) in
    let area = c.answer-answered.new.stack in
    let r = c.answer-answered.result in
    let behind : c.clear_behind.new.stack ≡ take (kept_of r) area ++ replicate (length area - kept_of r) blank = c.clear_behind.ensures.stack in
    let clear : c.clear_behind.new.scratch ≡ replicate (length c.args.scratch.now) blank = c.clear_behind.ensures.scratch ∙ ap (λ v. replicate v blank) c.answer-answered.auto.scratch in
    let answers : Reported p room r (areas c.clear_behind.new.stack c.clear_behind.new.scratch) =
    told_clear room r area _ _ c.answer-answered.auto.stack behind clear (quiet_reversals p) (report_calls p) (report_fault p room) c.answer-answered.ensures in
    record {
      answers = answers;
      told = told_law p room r _ answers;
      exact = quiet_listed p (g.P.Postings.lawful c.args.postings.now);
      sample = sample_holds p room r _ answers;
    }
