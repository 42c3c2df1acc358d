use Rattle.std.proofs.Common.{◌-◌, length}
use Rattle.slots.proofs.Fetching.{Fetched}
use Rattle.slots.proofs.listing.slots_of.Given as goal

-- the first slots are fetched
abbrev pub invariant-loop-next : goal.invariant-loop-next
invariant-loop-next g l = Fetched ((g.P.Postings.lists l.store).slots l.name) l.slots.items l.next

abbrev pub decreases-loop-next : goal.decreases-loop-next
decreases-loop-next g l = length ((g.P.Postings.lists l.store).slots l.name) - length l.slots.items
