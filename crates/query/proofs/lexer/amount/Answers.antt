use Rattle.std.proofs.Common.{arith}
use Rattle.std.proofs.lemmas.List.{take_rest}
use Rattle.query.proofs.Runs.{amount_over}
use Rattle.query.proofs.lexer.amount.Goals as goal

pub returns-in_default-2-clause-is : goal.returns-in_default-2-clause-is
returns-in_default-2-clause-is c =
    amount_over _ _ _ c.args.rest.now (omega (arith, c.ranges.limit.fits)) (rw (take_rest c.args.rest.now 1) at c.digits_len-len.ensures.run) c.if-len-eq0.false (rw (take_rest c.args.rest.now 1) at c.in_default.ensures)
