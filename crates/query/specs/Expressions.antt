-- What a query says, as a tree, and the order in which it is run. Assumes nothing.
--
-- | definition | meaning                                                                     |
-- |------------|-----------------------------------------------------------------------------|
-- | Expr       | a leaf (its place), or an operator (its place) over a left and a right operand |
-- | Act        | what a step of running it does: take a leaf, or apply an operator to the two operands before it |
-- | Step       | an act and the place of its token                                            |
-- | postfix    | running order: left operand, right operand, operator, each with its place    |
-- | leaves     | how many leaves it has                                                       |
-- | all_in_range | each of its leaves is in range                                             |
use Rattle.std.specs.Prelude.{ℕ, ◌+◌, Bool, ◌&&◌, List, [], ◌∷◌, ◌++◌}
use Rattle.extents.specs.declared.operator.Operator.{Operator}
use Rattle.query.specs.Leaves.{Leaf, in_range}

pub data Expr : Type 0 where
  leaf : Leaf → ℕ → Expr
  apply : Operator → ℕ → Expr → Expr → Expr

pub data Act : Type 0 where
  take_leaf : Leaf → Act
  apply_to : Operator → Act

abbrev pub Step : Type 0
Step = Act × ℕ

abbrev pub postfix : Expr → List Step
postfix (leaf l at) = (take_leaf l, at) ∷ []
postfix (apply o at l r) = postfix l ++ (postfix r ++ (apply_to o, at) ∷ [])

abbrev pub leaves : Expr → ℕ
leaves (leaf l at) = 1
leaves (apply o at l r) = leaves l + leaves r

abbrev pub all_in_range : Expr → Bool
all_in_range (leaf l at) = in_range l
all_in_range (apply o at l r) = all_in_range l && all_in_range r
