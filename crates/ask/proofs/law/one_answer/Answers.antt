use Rattle.index.specs.Meaning.{meaning}
use Rattle.index.specs.Verdict.{verdict}
use Rattle.ask.proofs.Once.{answered_once}
use Rattle.ask.proofs.law.one_answer.Goals as goal

pub returns : goal.returns
returns c bytes lines = answered_once (verdict bytes) (meaning bytes) lines
