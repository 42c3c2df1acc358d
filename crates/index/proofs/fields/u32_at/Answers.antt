use Rattle.std.proofs.Common.{◌≡◌, ◌+◌, arith, rules}
use Rattle.std.proofs.lemmas.List.{get_or-drop}
use Rattle.index.specs.Fields.{u32_at}
use Rattle.index.proofs.fields.u32_at.Goals as goal

pub returns : goal.returns
unfolding u32_at
returns c =
    let p = c.args.at in
    let bs = c.args.bytes.now in
    let first : p + 0 ≡ p = omega arith in
    rw (get_or-drop p bs 0 0, get_or-drop p bs 1 0, get_or-drop p bs 2 0, get_or-drop p bs 3 0, first) (search rules)
