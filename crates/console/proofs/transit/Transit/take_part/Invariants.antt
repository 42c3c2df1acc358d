use Rattle.std.proofs.Common.{take}
use Rattle.console.specs.UnderWay.{Further}
use Rattle.console.proofs.transit.Transit.take_part.Given as goal

-- the bytes before the index are read and answered
abbrev pub invariant-loop-b : goal.invariant-loop-b
invariant-loop-b g l =
    Further g.S.Session.answers l.fn.session l.fn.self (g.W.Write.contents l.fn.writer) l.session l.self (g.W.Write.contents l.writer) (take l.b-index l.part)
