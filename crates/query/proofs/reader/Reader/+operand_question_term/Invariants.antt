use Rattle.std.proofs.Common.{◌+◌, ◌-◌, ◌*◌, length}
use Rattle.query.specs.Reading.{bytes}
use Rattle.query.proofs.Walk.{SoFar}
use Rattle.query.proofs.reader.Reader.+operand_question_term.Given as goal

abbrev pub decreases-question : goal.decreases-question
decreases-question l = 2 * (length (bytes l.self.now) - l.self.now.at) + 1

abbrev pub decreases-term : goal.decreases-term
decreases-term l = 2 * (length (bytes l.self.now) - l.self.now.at)

abbrev pub invariant-question-loop-found : goal.invariant-question-loop-found
invariant-question-loop-found l = SoFar l.initial.self l.self l.depth

abbrev pub decreases-question-loop-found : goal.decreases-question-loop-found
decreases-question-loop-found l = length (bytes l.self) - l.self.at

abbrev pub decreases-operand : goal.decreases-operand
decreases-operand l = 2 * (length (bytes l.self.now) - l.self.now.at) + 2
