use Rattle.std.proofs.Common.{arith, rules}
use Rattle.std.proofs.lemmas.Fn.{always_returns_same}
use Rattle.std.proofs.lemmas.Grind.{common_steps}
use Rattle.index.proofs.Checked.{is_next, run_decides}
use Rattle.index.proofs.check.run_stands.Goals as goal

pub returns-then-is_none_or : goal.returns-then-is_none_or
returns-then-is_none_or c =
    run_decides c.args.slots.now c.is_sorted_by.result (λ x l. grind (arith, common_steps))
    (c.is_sorted_by.ensures.cases is_next (always_returns_same _ _ _ (λ a r f k. search rules)))
