use Rattle.std.proofs.Common.{◌≡◌, ◌-◌, length, slice_get, Some, sym, ap, ◌∙◌, arith, rules}
use Rattle.arrayvec.specs.ArrayVec.{array_vec_len}
use Rattle.search.specs.Law.{areas, room_of, each_one}
use Rattle.search.specs.Sides.{side_list}
use Rattle.search.specs.SideLaws.{side_means}
use Rattle.search.specs.Stacks.{Stores}
use Rattle.extents.specs.declared.access.Access.TheVariants.{FirstStart}
use Rattle.search.specs.declared.operand.Operand.TheVariants.{Unstored}
use Rattle.search.proofs.Steps.{off_untouched, settle_done}
use Rattle.search.proofs.run.settle.Goals as goal

-- the source's list is stored
stored : (c : goal.After-stack-1) → Stores (side_list c.take_off-side.result) (each_one FirstStart) c.args.place c.args.scratch.now c.list_side-listed.new.out c.take_off-side.new.waiting c.args.stack.now c.store.result c.store.new.waiting c.store.new.stack
stored c = c.store.ensures _ _ c.args.scratch.now (side_means c.take_off-side.result).0 c.list_side-listed.ensures

pub returns-in-Some-Unstored-clause-does : goal.returns-in-Some-Unstored-clause-does
returns-in-Some-Unstored-clause-does c ps n h =
    let waiting = c.args.waiting.now in
    let all : c.deref.result.now ≡ waiting.operands.items = c.deref.ensures.0 in
    let is : c.in-Some-Unstored.field-0.now ≡ Unstored c.in-Some-Unstored.field-0-0 = search rules in
    let top : slice_get waiting.operands.items (array_vec_len waiting.operands - 1) ≡ Some (Unstored c.in-Some-Unstored.field-0-0) = ap (λ v. slice_get v (length v - 1)) (sym all) ∙ sym c.in-Some-Unstored.ensures.value ∙ ap Some is in
    settle_done (room_of (areas c.args.stack.now c.args.scratch.now)) c.args.place waiting c.take_off-side.new.waiting c.store.new.waiting c.args.stack.now c.store.new.stack (side_list c.take_off-side.result) c.in-Some-Unstored.field-0-0 c.store.result ps n
    top (omega (arith, c.take_off-side.ensures.less)) h c.take_off-side.ensures.top (stored c).does

pub returns-in-Some-Unstored-clause-untouched : goal.returns-in-Some-Unstored-clause-untouched
returns-in-Some-Unstored-clause-untouched c = off_untouched c.take_off-side.ensures.stored c.take_off-side.ensures.listed (stored c).untouched
