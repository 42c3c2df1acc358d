-- Tokens are one question at most: a machine with a stack builds its expression. Assumes nothing.
use Rattle.std.proofs.Common.{◌≡◌, ℕ, List, [], ◌∷◌, ◌++◌, sym, refl, ap, ◌∙◌}
use Rattle.extents.specs.declared.operator.Operator.{Operator}
use Rattle.query.specs.Terminals.{Terminal, operand, operator, opens, closes, ends, Placed}
use Rattle.query.specs.Expressions.{Expr, leaf, apply}
use Rattle.query.specs.Grammar.{Question, alone, joined, Term, single, bracket}

-- an open question: nothing of it yet, an expression, or an expression with an operator
data Open : Type 0 where
  empty : Open
  have : Expr → Open
  due : Expr → Operator → ℕ → Open

-- a term for the innermost open question
abbrev give : Expr → List Open → List Open
give e [] = []
give e (empty ∷ st) = have e ∷ st
give e (have l ∷ st) = have e ∷ st
give e (due l o at ∷ st) = have (apply o at l e) ∷ st

abbrev put : Operator → ℕ → List Open → List Open
put o at [] = []
put o at (empty ∷ st) = empty ∷ st
put o at (have l ∷ st) = due l o at ∷ st
put o at (due l p b ∷ st) = due l p b ∷ st

abbrev shut : List Open → List Open
shut [] = []
shut (empty ∷ st) = st
shut (have e ∷ st) = give e st
shut (due l o at ∷ st) = st

abbrev take_one : Terminal → ℕ → List Open → List Open
take_one (operand l) at st = give (leaf l at) st
take_one (operator o) at st = put o at st
take_one (opens b) at st = empty ∷ st
take_one closes at st = shut st
take_one ends at st = st

abbrev build : List Placed → List Open → List Open
build [] st = st
build (t ∷ ts) st = build ts (take_one t.0 t.1 st)

build_append : (ts us : List Placed) (st : List Open) → build (ts ++ us) st ≡ build us (build ts st)
build_append [] us st = refl
build_append (t ∷ ts) us st = build_append ts us (take_one t.0 t.1 st)

mutual
  builds_question : {ts : List Placed} {e : Expr} → Question ts e → (st : List Open) → build ts (empty ∷ st) ≡ have e ∷ st
  builds_question (alone t) st = builds_term t (empty ∷ st)
  builds_question (joined {ts = ts} {us = us} {l = l} o at q t) st =
      build_append ts ((operator o, at) ∷ us) (empty ∷ st) ∙ ap (λ s. build ((operator o, at) ∷ us) s) (builds_question q st) ∙ builds_term t (due l o at ∷ st)

  builds_term : {ts : List Placed} {e : Expr} → Term ts e → (st : List Open) → build ts st ≡ give e st
  builds_term (single l at) st = refl
  builds_term (bracket {ts = ts} {e = e} a b q) st = build_append ts ((closes, b) ∷ []) (empty ∷ st) ∙ ap (λ s. build ((closes, b) ∷ []) s) (builds_question q st)

pub one_expression : {ts : List Placed} {e f : Expr} → Question ts e → Question ts f → e ≡ f
one_expression {e = e} {f = f} q r =
    let same : have e ∷ [] ≡ have f ∷ [] = sym (builds_question q []) ∙ builds_question r [] in
    cc
