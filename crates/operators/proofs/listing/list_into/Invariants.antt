use Rattle.std.proofs.Common.{◌+◌, ◌-◌, length}
use Rattle.operators.proofs.Listings.{Progress}
use Rattle.operators.proofs.listing.list_into.Given as goal

abbrev pub invariant-loop-x : goal.invariant-loop-x
invariant-loop-x g l = Progress (g.F.FirstStarts.list l.starts) (g.F.FirstStarts.start_calls l.starts) l.initial.out l.out l.n l.at l.tally

abbrev pub decreases-loop-x : goal.decreases-loop-x
decreases-loop-x g l = length l.out + 1 - l.n
