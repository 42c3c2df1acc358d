use Rattle.std.proofs.Common.{◌<◌, map, length, take, ap, ◌∙◌, arith}
use Rattle.std.proofs.lemmas.List.{take_more_set, map_push}
use Rattle.query.specs.declared.query.Step.{Step}
use Rattle.query.specs.Steps.{shown}
use Rattle.query.proofs.query.Steps.push.Goals as goal

pub returns-clause-items : goal.returns-clause-items
returns-clause-items c =
    let self = c.args.self.now in
    let added : Step = record { action = c.args.action; place = c.args.place } in
    let room : self.len < length self.items = omega (arith, self.sized, c.requires) in
    ap (map shown) (take_more_set self.items self.len added room) ∙ map_push shown (take self.len self.items) added
