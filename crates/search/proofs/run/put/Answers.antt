use Rattle.std.proofs.Common.{◌≡◌, sym, subst, rules}
use Rattle.query.specs.declared.leaf.Leaf.TheVariants.{Name}
use Rattle.query.specs.declared.query.Action.TheVariants.{Leaf}
use Rattle.query.specs.Steps.{shown_action}
use Rattle.search.specs.Law.{areas, room_of}
use Rattle.search.specs.Run.{log_of, step}
use Rattle.search.specs.Stacks.{Gives}
use Rattle.search.proofs.run.put.Goals as goal

pub returns-in-Leaf-Name-clause-does : goal.returns-in-Leaf-Name-clause-does
returns-in-Leaf-Name-clause-does g c ps n h =
    let log = log_of (g.P.Postings.lists c.args.postings.now).slots c.args.log in
    let room = room_of (areas c.args.stack.now c.args.scratch.now) in
    let is : c.args.step.action ≡ Leaf (Name c.in-Leaf-Name.name) = search rules in
    subst (λ v. Gives (step log room (shown_action v) c.args.step.place ps n) c.put_name.result c.put_name.new.waiting c.put_name.new.stack) (sym is)
    (c.put_name.ensures.does room.scratch c.args.log ps n h)

pub returns-in-Leaf-Name-clause-untouched : goal.returns-in-Leaf-Name-clause-untouched
returns-in-Leaf-Name-clause-untouched g c = c.put_name.ensures.untouched c.args.scratch.now
