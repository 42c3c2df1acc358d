-- What a step says. Assumes nothing.
--
-- | definition     | meaning                             |
-- |----------------|-------------------------------------|
-- | shown_action a | what a step of the code does        |
-- | shown s        | what a step does, and its place     |
use Rattle.query.specs.declared.query.Action.{Action}
use Rattle.query.specs.declared.query.Action.TheVariants as action
use Rattle.query.specs.declared.query.Step.{Step as Step·}
use Rattle.query.specs.Leaves.{leaf_of}
use Rattle.query.specs.Expressions.{Act, take_leaf, apply_to, Step}

abbrev pub shown_action : Action → Act
shown_action (action.Leaf l) = take_leaf (leaf_of l)
shown_action (action.Apply o) = apply_to o

abbrev pub shown : Step· → Step
shown s = (shown_action s.action, s.place)
