use Rattle.std.proofs.Common.{◌≡◌, ◌+◌, Some, sym, ◌∙◌, arith}
use Rattle.extents.specs.Extents.{first_start}
use Rattle.extents.specs.Finds.{mem_proper}
use Rattle.extents.specs.Words.{first_start_is}
use Rattle.combination.proofs.followed_by.FollowedBy.first_from.Goals as goal

pub overflow_add-first : goal.overflow_add-first
overflow_add-first g c =
    let ls = g.A.Source.extents c.args.self.now.a in
    let x = c.in_ok-first.first in
    let e : first_start ls c.args.k ≡ Some x = sym c.first_start.ensures.extent ∙ sym c.in_ok-first.ensures.extent in
    let h = (g.A.Source.means c.args.self.now.a).0 in
    omega (arith, mem_proper ls x h (first_start_is ls c.args.k x h e).0)

-- the second starts after the first ends
pub overflow_sub-second : goal.overflow_sub-second
overflow_sub-second g c =
    let rs = g.B.Source.extents c.args.self.now.b in
    let k = c.in_ok-first.first.end + 1 in
    let y = c.in_ok-second.second in
    let e : first_start rs k ≡ Some y = sym c.first_start-2.ensures.extent ∙ sym c.in_ok-second.ensures.extent in
    omega (arith, (first_start_is rs k y (g.B.Source.means c.args.self.now.b).0 e).1)
