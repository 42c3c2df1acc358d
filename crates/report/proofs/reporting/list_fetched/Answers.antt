use Rattle.std.proofs.Common.{refl}
use Rattle.report.proofs.Fetches.{quiet_listed_by}
use Rattle.report.proofs.reporting.list_fetched.Goals as goal

pub returns : goal.returns
returns c = λ p law h.
    quiet_listed_by p law c.args.stack.now c.args.fetched.now h _ _ _ _ _ _ _ _ _ _ _
    c.split_at.ensures.front c.split_at.ensures.back c.split_at-2.ensures.front c.split_at-2.ensures.back c.split_at-3.ensures.front c.split_at-3.ensures.back refl
    c.or_empty.ensures.held c.or_empty-2.ensures.held c.or_empty-3.ensures.held c.or_empty-4.ensures.held
    c.args.scratch.now c.list_quiet.new.out c.list_quiet.result c.list_quiet.ensures
