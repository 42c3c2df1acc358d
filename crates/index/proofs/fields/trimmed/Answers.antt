use Rattle.std.proofs.Common.{◌≡◌, ◌≢◌, rules, tests}
use Rattle.std.proofs.lemmas.Iterator.{IsFirst-from_position, YieldsList-from_slice}
use Rattle.index.proofs.Trims.{trimmed_at}
use Rattle.index.proofs.fields.trimmed.Goals as goal

pub returns-clause-text : goal.returns-clause-text
returns-clause-text c =
    let xs = c.args.field.now in
    let first = IsFirst-from_position _ _ c.position.result (λ x. x ≡ 0) (λ x. x ≢ 0) c.position.ensures.ran (YieldsList-from_slice xs cc) (λ x q k. search (rules, tests)) (λ x q k. search (rules, tests)) in
    rw c.unwrap_or-end.ensures (trimmed_at xs c.position.result first)
