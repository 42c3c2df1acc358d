-- What steps in running order say. Assumes nothing.
--
-- | definition | meaning                                                                                     |
-- |------------|---------------------------------------------------------------------------------------------|
-- | waiting_with, waiting_after | the expressions that wait after one more step, and after steps in turn, the last on top   |
-- | on_top     | the expression on top of those that wait; windows of no slot where none waits               |
-- | expr_of ts | the expression that the steps ts leave on top                                               |
use Rattle.std.specs.Prelude.{ℕ, List, [], ◌∷◌}
use Rattle.query.specs.Leaves.{windows}
use Rattle.query.specs.Expressions.{Expr, leaf, apply, Act, take_leaf, apply_to, Step}

abbrev pub waiting_with : Act → ℕ → List Expr → List Expr
waiting_with (take_leaf l) at st = leaf l at ∷ st
waiting_with (apply_to o) at (r ∷ (l ∷ st)) = apply o at l r ∷ st
waiting_with (apply_to o) at st = st

abbrev pub waiting_after : List Step → List Expr → List Expr
waiting_after [] st = st
waiting_after (t ∷ ts) st = waiting_after ts (waiting_with t.0 t.1 st)

abbrev pub on_top : List Expr → Expr
on_top [] = leaf (windows 0) 0
on_top (e ∷ st) = e

abbrev pub expr_of : List Step → Expr
expr_of ts = on_top (waiting_after ts [])
