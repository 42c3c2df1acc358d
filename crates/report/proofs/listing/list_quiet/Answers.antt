use Rattle.report.proofs.listing.list_quiet.Goals as goal

pub returns : goal.returns
returns c = rw c.new-2.ensures.fields at (rw c.new.ensures.fields at (rw c.new-quiet.ensures.fields at c.list_into.ensures))
