use Rattle.slots.proofs.Once.{placed_once}
use Rattle.slots.proofs.law.one_answer.Goals as goal

pub returns : goal.returns
returns c = placed_once
