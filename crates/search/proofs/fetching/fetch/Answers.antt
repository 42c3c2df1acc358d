use Rattle.search.proofs.Points.{points_rise}
use Rattle.search.proofs.fetching.fetch.Goals as goal

pub invariant_of-list_into : goal.invariant_of-list_into
invariant_of-list_into g c =
    record { rising = points_rise (g.P.Postings.lists c.args.postings.now) (g.P.Postings.lawful c.args.postings.now) c.args.name.now }
