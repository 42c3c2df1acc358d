use Rattle.std.proofs.Common.{◌≡◌, ℕ, List, length, Option}
use Rattle.console.specs.declared.running.TheConstants.{PART}
use Rattle.console.specs.UnderWay.{UnderWay}
use Rattle.console.proofs.running.run_parts.Given as goal

-- what was under way is so again, some parts further on
abbrev pub invariant-loop : goal.invariant-loop
invariant-loop g l =
    (length l.part ≡ PART)
    × ((first : g.row.S.Denot) (unread before : Option (List ℕ)) →
    UnderWay g.S.Session.answers first l.fn.session l.fn.transit unread (g.R.Read.remaining l.fn.reader) before (g.W.Write.contents l.fn.writer) →
    UnderWay g.S.Session.answers first l.session l.transit unread (g.R.Read.remaining l.reader) before (g.W.Write.contents l.writer))
