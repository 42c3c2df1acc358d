use Rattle.index.proofs.SpellingRead.{spelling_means}
use Rattle.index.proofs.Spelled.{obeys_spelled}
use Rattle.index.proofs.laws.one_spelling.Goals as goal

pub returns-clause-obeys : goal.returns-clause-obeys
returns-clause-obeys c = obeys_spelled

pub returns-clause-means : goal.returns-clause-means
returns-clause-means c = spelling_means
