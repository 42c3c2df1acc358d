use Rattle.std.proofs.Common.{◌≡◌}
use Rattle.operators.proofs.Sets.{operator_listed}
use Rattle.search.specs.Law.{areas, room_of}
use Rattle.history.proofs.Turns.{replayed_in}
use Rattle.history.proofs.theorem.search_theorem.Goals as goal

pub returns-clause-composed : goal.returns-clause-composed
returns-clause-composed g c = λ op x y xs ys hx hy. operator_listed xs ys hx hy op

-- the areas that the calls on the new logbook left have the room that they had
pub returns-clause-lent_history : goal.returns-clause-lent_history
returns-clause-lent_history g c = λ l m.
    let replayed = c.replay-replayed in
    let room : room_of (areas replayed.new.stack replayed.new.scratch) ≡ room_of (areas c.args.stack.now c.args.scratch.now) = λ i. record { stack = replayed.auto.stack i; scratch = replayed.auto.scratch i } in
    replayed_in l _ _ _ _ _ _ room (c.resume-lent_made.ensures.exact l m)
