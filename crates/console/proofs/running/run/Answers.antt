use Rattle.console.proofs.UnderWay.{under_way_new}
use Rattle.console.proofs.running.run.Goals as goal

pub returns : goal.returns
returns g c = c.run_parts.ensures _ _ _ (under_way_new g.S.Session.answers _ c.new-transit.result _ _ c.new-transit.ensures.line c.new-transit.ensures.out)
