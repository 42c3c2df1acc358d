use Rattle.std.proofs.Common.{arith}
use Rattle.operators.specs.Operators.{operator_list, first_start_calls}
use Rattle.operators.proofs.Sets.{operator_listed}
use Rattle.search.specs.Law.{areas, room_of, each_one}
use Rattle.search.specs.Sides.{side_list}
use Rattle.search.specs.SideLaws.{side_means}
use Rattle.search.specs.Stacks.{Stores}
use Rattle.search.proofs.Steps.{operator_done, off_untouched}
use Rattle.search.proofs.run.put_operator.Goals as goal

-- the operator's list is stored
stored : (c : goal.After-stack-1) → Stores (operator_list c.args.operator (side_list c.take_off-left.result) (side_list c.take_off-right.result)) (first_start_calls c.args.operator (side_list c.take_off-left.result) each_one (side_list c.take_off-right.result) each_one) c.args.place c.args.scratch.now c.list_sides-listed.new.out c.take_off-left.new.waiting c.args.stack.now c.store.result c.store.new.waiting c.store.new.stack
stored c =
    let left = c.take_off-left.result in
    let right = c.take_off-right.result in
    c.store.ensures _ _ c.args.scratch.now (operator_listed (side_list left) (side_list right) (side_means left) (side_means right) c.args.operator).0 c.list_sides-listed.ensures

pub returns-clause-does : goal.returns-clause-does
returns-clause-does c ps n h =
    operator_done (room_of (areas c.args.stack.now c.args.scratch.now)) c.args.operator c.args.place c.store.new.waiting c.store.new.stack c.store.result ps n
    (omega (arith, c.len.ensures.value)) h c.take_off-right.ensures.top c.take_off-left.ensures.top (stored c).does

pub returns-clause-untouched : goal.returns-clause-untouched
returns-clause-untouched c = off_untouched (omega (arith, c.take_off-right.ensures.stored, c.take_off-left.ensures.stored)) (omega (arith, c.take_off-right.ensures.listed, c.take_off-left.ensures.listed)) (stored c).untouched
