-- The grammar of queries, as a relation between tokens and what they say. Assumes nothing.
--
-- | definition  | meaning                                                                      |
-- |-------------|------------------------------------------------------------------------------|
-- | Question ts e | the tokens ts are a question that says e: a term, or a question, an operator and a term (so operators group from the left) |
-- | Term ts e   | the tokens ts are a term that says e: a leaf, or a question in brackets      |
-- | Beginning ts | some question begins with the tokens ts                                     |
use Rattle.std.specs.Prelude.{ℕ, List, [], ◌∷◌, ◌++◌}
use Rattle.extents.specs.declared.operator.Operator.{Operator}
use Rattle.query.specs.Leaves.{Leaf}
use Rattle.query.specs.Terminals.{operand, operator, plain, opens, closes, Placed}
use Rattle.query.specs.Expressions.{Expr, leaf, apply}

mutual
  pub data Question : List Placed → Expr → Type 0 where
    alone : {ts : List Placed} {e : Expr} → Term ts e → Question ts e
    joined : {ts us : List Placed} {l r : Expr} (o : Operator) (at : ℕ) → Question ts l → Term us r → Question (ts ++ (operator o, at) ∷ us) (apply o at l r)

  pub data Term : List Placed → Expr → Type 0 where
    single : (l : Leaf) (at : ℕ) → Term ((operand l, at) ∷ []) (leaf l at)
    bracket : {ts : List Placed} {e : Expr} (a b : ℕ) → Question ts e → Term ((opens plain, a) ∷ (ts ++ (closes, b) ∷ [])) e

pub record Beginning (ts : List Placed) : Type 0 where
  pub rest : List Placed
  pub expr : Expr
  pub whole : Question (ts ++ rest) expr
