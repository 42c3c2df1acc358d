use Rattle.std.proofs.Common.{◌≡◌, ◌-◌, replicate, ap, ◌∙◌, arith, rules}
use borrow.Rule.Slice.PartMut.{put_mid}
use Rattle.search.specs.Searches.{blank}
use Rattle.search.proofs.Clears.{blank_later, blank_within, filled_part, filled_none}
use Rattle.search.proofs.area.clear_from.Goals as goal

pub returns-then-kept-end : goal.returns-then-kept-end
returns-then-kept-end c h =
    let area = c.args.area.now in
    let end = c.min-end.result in
    let is : c.fill.new.self ≡ replicate (end - c.args.kept) blank = search rules in
    ap (put_mid c.args.kept (end - c.args.kept) area) is
    ∙ filled_part area c.args.kept end (omega arith) (omega (arith, c.min-end.ensures)) (blank_within c.args.blank_from end area c.min-end.ensures h)

pub returns-else-kept-end : goal.returns-else-kept-end
returns-else-kept-end c h =
    let area = c.args.area.now in
    filled_none area c.args.kept (blank_later c.min-end.result c.args.kept area (omega arith) (blank_within c.args.blank_from c.min-end.result area c.min-end.ensures h))
