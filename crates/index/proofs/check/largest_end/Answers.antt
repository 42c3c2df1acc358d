use Rattle.std.proofs.Common.{◌+◌, refl, ap, ◌∙◌, arith}
use Rattle.std.specs.Option.{unwrap_or}
use Rattle.std.specs.Ordering.{nat_cmp, max_by_ordering}
use Rattle.std.proofs.lemmas.Iterator.{YieldsList-from_slice, YieldsList-from_map}
use Rattle.std.proofs.lemmas.Iterator.Consumers.{reduce_from_yields_List}
use Rattle.std.proofs.lemmas.List.Folds.{max_of_map}
use Rattle.index.specs.Fields.{u32_at}
use Rattle.index.proofs.Checked.{end_is_top}
use Rattle.index.proofs.check.largest_end.Goals as goal

pub returns : goal.returns
returns c =
    let p = c.args.parts.now in
    let slots = p.slots.now in
    let road = YieldsList-from_map _ (λ s. u32_at s 0 + 1) (YieldsList-from_slice slots cc) c.map.ensures.closure (λ x r q k. (refl, omega (arith, k.met))) in
    let most = reduce_from_yields_List (λ p z. max_by_ordering (nat_cmp p z) p z) _ c.max.result c.max.ensures.ran road in
    c.unwrap_or.ensures ∙ ap (λ o. unwrap_or o 0) most ∙ max_of_map (λ s. u32_at s 0 + 1) slots ∙ end_is_top p.head.bytes.now slots p.cut_slots
