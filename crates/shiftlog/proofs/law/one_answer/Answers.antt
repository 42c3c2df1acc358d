use Rattle.console.proofs.Spoken.{spoken_once}
use Rattle.entering.specs.Entries.{ledger_then}
use Rattle.shiftlog.specs.Shifts.{Said}
use Rattle.shiftlog.proofs.Once.{said_once}
use Rattle.shiftlog.proofs.law.one_answer.Goals as goal

pub returns : goal.returns
returns c = spoken_once Said ledger_then said_once
