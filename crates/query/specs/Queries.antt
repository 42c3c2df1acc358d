-- What a query holds. Assumes nothing.
--
-- | definition | meaning                                   |
-- |------------|-------------------------------------------|
-- | steps_so_far | the steps that are stored                |
-- | steps q    | the steps of the query q in running order |
-- | said q     | the expression whose steps they are       |
use Rattle.std.specs.Prelude.{List, map, take}
use Rattle.query.specs.declared.query.Query.{Query}
use Rattle.query.specs.declared.query.Steps.{Steps}
use Rattle.query.specs.Expressions.{Expr, Step}
use Rattle.query.specs.Postfix.{expr_of}
use Rattle.query.specs.Steps.{shown}

abbrev pub steps_so_far : Steps → List Step
steps_so_far s = map shown (take s.len s.items)

abbrev pub steps : Query → List Step
steps q = map shown (take q.len q.steps)

abbrev pub said : Query → Expr
said q = expr_of (steps q)
