use Rattle.std.proofs.Common.{rules}
use Rattle.search.proofs.Points.{first_start-points}
use Rattle.search.proofs.fetching.NamePointsFirstStarts.start_from.Goals as goal

pub returns-clause-extent : goal.returns-clause-extent
returns-clause-extent g c =
    let s = c.args.self.now in
    let first = first_start-points ((g.P.Postings.lists s.postings.now).slots s.name.now) c.args.k in
    search rules
