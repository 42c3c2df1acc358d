use Rattle.std.proofs.Common.{◌≡◌, Some, sym, ◌∙◌, arith}
use Rattle.extents.specs.Extents.{last_end}
use Rattle.extents.specs.Finds.{mem_proper}
use Rattle.extents.specs.Words.{last_end_is}
use Rattle.combination.proofs.followed_by.FollowedBy.last_to.Goals as goal

pub overflow_add-first : goal.overflow_add-first
overflow_add-first g c =
    let ls = g.A.Source.extents c.args.self.now.a in
    let k = c.in_ok-before.before in
    let x = c.in_ok-first.first in
    let e : last_end ls k ≡ Some x = sym c.last_end-2.ensures.extent ∙ sym c.in_ok-first.ensures.extent in
    let h = (g.A.Source.means c.args.self.now.a).0 in
    omega (arith, mem_proper ls x h (last_end_is ls k x h e).0)
