use Rattle.std.proofs.Common.{arith}
use Rattle.search.proofs.Clears.{blank_end}
use Rattle.search.proofs.searching.search_query.Goals as goal

pub returns : goal.returns
returns g c = c.answer_from.ensures (blank_end _ c.args.stack.now (omega arith)) (blank_end _ c.args.scratch.now (omega arith))
