use Rattle.query.specs.Queries.{steps}
use Rattle.search.specs.Law.{areas}
use Rattle.search.specs.Run.{log_of}
use Rattle.search.proofs.run.run.Given as goal
use Rattle.search.proofs.Loops.{Underway}

abbrev pub invariant-loop-step : goal.invariant-loop-step
invariant-loop-step g l =
    Underway (log_of (g.P.Postings.lists l.postings).slots l.log) (steps l.query) l.step-index l.initial.waiting (areas l.initial.stack l.initial.scratch) l.waiting (areas l.stack l.scratch)
