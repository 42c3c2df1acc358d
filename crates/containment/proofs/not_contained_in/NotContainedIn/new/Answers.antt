use Rattle.containment.proofs.Rules.{ahead_counted, behind_counted}
use Rattle.containment.specs.Soundness.{not_contained_in_sound, not_contained_in_firm}
use Rattle.containment.proofs.not_contained_in.NotContainedIn.new.Goals as goal

pub returns-clause-forward : goal.returns-clause-forward
returns-clause-forward g c = ahead_counted _ (g.A.Source.means c.args.a).0 _ _ _ (not_contained_in_sound _ (g.B.Source.calls c.args.b) (g.B.Source.means c.args.b).0)

pub returns-clause-back : goal.returns-clause-back
returns-clause-back g c = behind_counted _ (g.A.Source.means c.args.a).0 _ _ _ (not_contained_in_firm _ (g.B.Source.calls c.args.b) (g.B.Source.means c.args.b).0)
