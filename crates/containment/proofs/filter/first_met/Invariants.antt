use Rattle.std.proofs.Common.{◌≡◌, ◌+◌}
use Rattle.extents.specs.Counts.{capped}
use Rattle.containment.proofs.Filters.{Walk, judged_sound, found_from, calls_from, reached_from}
use Rattle.containment.specs.Filter.{judgement_of}
use Rattle.containment.proofs.filter.first_met.Given as goal

-- the walk of this function
abbrev pub walk : (g : goal.Over) → g.row.A.Denot → g.row.J.Denot → Walk
walk g candidates judge =
    record {
      order = g.D.Direction.order;
      candidates = g.A.Source.extents candidates;
      rising = (g.A.Source.means candidates).0;
      calls = g.A.Source.calls candidates;
      keep = g.J.Judge.keep judge;
      judge = judgement_of g.D.Direction.order (g.J.Judge.forward judge) (g.J.Judge.back judge);
      sound = judged_sound g.D.Direction.order (g.J.Judge.keep judge) (g.J.Judge.forward judge) (g.J.Judge.back judge) (g.J.Judge.sound judge) (g.J.Judge.firm judge);
    }

-- from the key the same is found as from the one that was asked for, and what is left to count comes to the same sum
abbrev pub invariant-loop-candidate : goal.invariant-loop-candidate
invariant-loop-candidate g l =
    let w = walk g l.candidates l.judge in
    (found_from w l.key ≡ found_from w l.fn.from) × (capped (l.tally.calls + calls_from w l.key) ≡ capped (calls_from w l.fn.from))

abbrev pub decreases-loop-candidate : goal.decreases-loop-candidate
decreases-loop-candidate g l = reached_from (walk g l.candidates l.judge) l.key
