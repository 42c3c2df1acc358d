use Rattle.extents.specs.declared.access.Access.TheVariants.{FirstStart, FirstEnd, LastEnd, LastStart}
use Rattle.operators.proofs.Sets.{found_answered}
use Rattle.operators.proofs.access.CallQuestion.ask.Goals as goal

pub returns-in-FirstStart : goal.returns-in-FirstStart
returns-in-FirstStart g c = found_answered _ (g.S.Source.means c.args.source.now) (g.S.Source.calls c.args.source.now) _ FirstStart c.in-FirstStart.is _ _ c.first_start.ensures.extent c.first_start.ensures.count

pub returns-in-FirstEnd : goal.returns-in-FirstEnd
returns-in-FirstEnd g c = found_answered _ (g.S.Source.means c.args.source.now) (g.S.Source.calls c.args.source.now) _ FirstEnd c.in-FirstEnd.is _ _ c.first_end.ensures.extent c.first_end.ensures.count

pub returns-in-LastEnd : goal.returns-in-LastEnd
returns-in-LastEnd g c = found_answered _ (g.S.Source.means c.args.source.now) (g.S.Source.calls c.args.source.now) _ LastEnd c.in-LastEnd.is _ _ c.last_end.ensures.extent c.last_end.ensures.count

pub returns-in-LastStart : goal.returns-in-LastStart
returns-in-LastStart g c = found_answered _ (g.S.Source.means c.args.source.now) (g.S.Source.calls c.args.source.now) _ LastStart c.in-LastStart.is _ _ c.last_start.ensures.extent c.last_start.ensures.count
