use Rattle.std.proofs.Common.{[], ℕ, List, rules, tests}
use Rattle.std.specs.List.{All}
use Rattle.std.proofs.lemmas.Iterator.{cases_from_all, YieldsList-from_slice}
use Rattle.std.proofs.lemmas.Iterator.Adapters.{serves_from_places}
use Rattle.index.specs.Parts.{row_run}
use Rattle.index.specs.Tests.{rows_stand_decides}
use Rattle.index.proofs.Checked.{Low, Up, all_decides, run_inside, slots_stand_by_run}
use Rattle.index.proofs.check.slots_stand.Goals as goal

pub all-requires-clause-callable : goal.all-requires-clause-callable
all-requires-clause-callable c =
    let p = c.args.parts.now in
    let rules_kept = (rows_stand_decides _).0 c.requires in
    serves_from_places (YieldsList-from_slice p.rows.now cc) (λ x q k. search rules)
    (λ x i l at. search (rules, run_inside p.head.bytes.now rules_kept p.rows.now p.slots.now p.cut_rows p.cut_slots x.now i l at))

pub returns : goal.returns
returns c =
    let p = c.args.parts.now in
    let slots = p.slots.now in
    let Stands : List ℕ → Type 0 = λ row. All Low (row_run slots row) × Up (row_run slots row) in
    slots_stand_by_run p.head.bytes.now ((rows_stand_decides _).0 c.requires) p.rows.now slots p.cut_rows p.cut_slots c.all.result
    (all_decides Stands p.rows.now [] c.all.result
    (cases_from_all _ _ c.all.result Stands (λ row. Stands row → ⊥) c.all.ensures.ran (YieldsList-from_slice p.rows.now cc) (λ x q k. search (rules, tests)) (λ x q k. search (rules, tests))))
