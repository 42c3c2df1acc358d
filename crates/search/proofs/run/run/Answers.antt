use Rattle.std.proofs.Common.{◌≤◌, [], length, ap, subst, arith}
use Rattle.std.proofs.lemmas.Result.{err_from_is_err_and}
use Rattle.query.specs.declared.query.Action.TheVariants.{Leaf}
use Rattle.query.specs.declared.leaf.Leaf.TheVariants.{Name}
use Rattle.query.specs.declared.query.Step.{Step}
use Rattle.query.specs.Queries.{steps}
use Rattle.query.specs.Steps.{shown}
use Rattle.search.specs.Law.{areas, room_of}
use Rattle.search.specs.Run.{settle, first_place}
use Rattle.search.specs.Stacks.{Does}
use lib.ListN.{length-map}
use Rattle.search.proofs.Loops.{next_step, untouched_then, underway_none, underway_room, underway_more, underway_stops, underway_all}
use Rattle.search.proofs.run.run.Goals as goal

abbrev no_step : Step
no_step = record { action = Leaf (Name (record { ref_ptr = (0, 0); now = [] })); place = 0 }

pub loop-step-init : goal.loop-step-init
loop-step-init g c = underway_none _ _ _ _ c.requires.none c.requires.uncalled

pub put-requires-clause-fits : goal.put-requires-clause-fits
put-requires-clause-fits g c = underway_room c.loop-step.invariant (omega (arith, c.steps-step-items.ensures.few))

pub returns-in_err-put-clause-told : goal.returns-in_err-put-clause-told
returns-in_err-put-clause-told g c =
    let q = next_step c.steps-step-items.result.now c.loop-step.step-index no_step (steps c.args.query.now) c.steps-step-items.ensures.all c.loop-step-test.true in
    let p = err_from_is_err_and c.from_residual.result c.from_residual.ensures.1 in
    rw (p.1, p.2) (underway_stops c.loop-step.invariant _ q c.put.result c.put.new.waiting (areas c.put.new.stack c.put.new.scratch) c.put.ensures.does c.in_err-put.field-0.0 _ c.in_err-put.was)

pub returns-in_err-put-clause-untouched : goal.returns-in_err-put-clause-untouched
returns-in_err-put-clause-untouched g c = untouched_then c.loop-step.invariant.untouched c.put.ensures.untouched

pub loop-step-preserved : goal.loop-step-preserved
loop-step-preserved g c =
    let q = next_step c.steps-step-items.result.now c.loop-step.step-index no_step (steps c.args.query.now) c.steps-step-items.ensures.all c.loop-step-test.true in
    underway_more c.loop-step.invariant _ q c.put.result c.put.new.waiting (areas c.put.new.stack c.put.new.scratch) c.put.ensures.does c.in_ok-put.was c.put.auto.stack c.put.auto.scratch c.put.ensures.untouched

pub returns-clause-told : goal.returns-clause-told
returns-clause-told g c =
    let ts = steps c.args.query.now in
    let all : length ts ≤ c.loop-step.step-index = omega (arith, ap length c.steps-step-items.ensures.all, length-map c.steps-step-items.result.now shown, c.loop-step-test.false) in
    let end = areas c.settle.new.stack c.settle.new.scratch in
    underway_all c.loop-step.invariant c.settle.result c.settle.new.waiting end (λ room. settle room (first_place ts)) all
    (subst (λ v. Does (settle (room_of (areas c.loop-step.stack c.loop-step.scratch)) v) c.loop-step.waiting c.loop-step.stack c.settle.result c.settle.new.waiting c.settle.new.stack) c.first_place.ensures c.settle.ensures.does)

pub returns-clause-untouched : goal.returns-clause-untouched
returns-clause-untouched g c = untouched_then c.loop-step.invariant.untouched c.settle.ensures.untouched
