use Rattle.extents.proofs.Uniqueness.{lists_once}
use Rattle.operators.proofs.Lawful.{operator_short, operator_few}
use Rattle.operators.proofs.Sets.{operator_listed}
use Rattle.operators.proofs.law.laws.Goals as goal

pub returns : goal.returns
returns g c =
    let ls = g.A.Source.extents c.args.a.now in
    let rs = g.B.Source.extents c.args.b.now in
    let hl = g.A.Source.means c.args.a.now in
    let hr = g.B.Source.means c.args.b.now in
    record {
      listed = operator_listed ls rs hl hr c.args.operator;
      only = λ xs h. lists_once _ xs _ h (operator_listed ls rs hl hr c.args.operator);
      short = operator_short ls rs hl.0 hr.0 c.args.operator;
      few = λ p q. operator_few ls rs hl.0 hr.0 _ _ p q c.args.operator;
    }
