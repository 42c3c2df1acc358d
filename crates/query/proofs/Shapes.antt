-- A machine that knows the grammar and no limit: it takes the tokens of every question. Assumes nothing.
use Rattle.std.proofs.Common.{◌≡◌, ℕ, List, [], ◌∷◌, ◌++◌, sym, refl, ap, ◌∙◌}
use Rattle.query.specs.Terminals.{Bracket, plain, Terminal, operand, operator, opens, closes, ends, Placed}
use Rattle.query.specs.Expressions.{Expr}
use Rattle.query.specs.Grammar.{Question, alone, joined, Term, single, bracket, Beginning}
use Rattle.query.specs.Outcomes.{Follows}

-- a term or an operator comes next, with so many brackets open; or no question goes on so
pub data Shape : Type 0 where
  before : List Bracket → Shape
  after : List Bracket → Shape
  stuck : Shape

abbrev pub move : Shape → Terminal → Shape
move (before os) (operand l) = after os
move (before os) (operator o) = stuck
move (before os) (opens b) = before (b ∷ os)
move (before os) closes = stuck
move (before os) ends = stuck
move (after os) (operand l) = stuck
move (after os) (operator o) = before os
move (after os) (opens b) = stuck
move (after []) closes = stuck
move (after (b ∷ os)) closes = after os
move (after os) ends = stuck
move stuck w = stuck

abbrev pub run : Shape → List Placed → Shape
run s [] = s
run s (t ∷ ts) = run (move s t.0) ts

pub run_append : (s : Shape) (ts us : List Placed) → run s (ts ++ us) ≡ run (run s ts) us
run_append s [] us = refl
run_append s (t ∷ ts) us = run_append (move s t.0) ts us

pub run_stuck : (ts : List Placed) → run stuck ts ≡ stuck
run_stuck [] = refl
run_stuck (t ∷ ts) = run_stuck ts

pub after_stuck : (os : List Bracket) → after os ≡ stuck → ⊥
after_stuck os e = cc

mutual
  pub question_runs : {ts : List Placed} {e : Expr} → Question ts e → (os : List Bracket) → run (before os) ts ≡ after os
  question_runs (alone t) os = term_runs t os
  question_runs (joined {ts = ts} {us = us} o at q t) os =
      run_append (before os) ts ((operator o, at) ∷ us) ∙ ap (λ s. run s ((operator o, at) ∷ us)) (question_runs q os) ∙ term_runs t os

  term_runs : {ts : List Placed} {e : Expr} → Term ts e → (os : List Bracket) → run (before os) ts ≡ after os
  term_runs (single l at) os = refl
  term_runs (bracket {ts = ts} a b q) os =
      run_append (before (plain ∷ os)) ts ((closes, b) ∷ []) ∙ ap (λ s. run s ((closes, b) ∷ [])) (question_runs q (plain ∷ os))

-- tokens that begin a question do not stick
pub begins_unstuck : (ts : List Placed) → Beginning ts → run (before []) ts ≡ stuck → ⊥
begins_unstuck ts b e =
    let whole = question_runs b.whole [] in
    after_stuck [] (sym whole ∙ run_append (before []) ts b.rest ∙ ap (λ s. run s b.rest) e ∙ run_stuck b.rest)

-- no question goes on with w; the end is wrong unless a question is whole
abbrev pub Wrong : Shape → Terminal → Type 0
Wrong s (operand l) = move s (operand l) ≡ stuck
Wrong s (operator o) = move s (operator o) ≡ stuck
Wrong s (opens b) = move s (opens b) ≡ stuck
Wrong s closes = move s closes ≡ stuck
Wrong s ends = s ≡ after [] → ⊥

no_beginning : (ts : List Placed) (w : Terminal) (at : ℕ) → move (run (before []) ts) w ≡ stuck → Beginning (ts ++ (w, at) ∷ []) → ⊥
no_beginning ts w at e b = begins_unstuck (ts ++ (w, at) ∷ []) b (run_append (before []) ts ((w, at) ∷ []) ∙ e)

pub wrong_follows : (ts : List Placed) (w : Terminal) (at : ℕ) → Wrong (run (before []) ts) w → Follows ts w at → ⊥
wrong_follows ts (operand l) at e f = no_beginning ts (operand l) at e f
wrong_follows ts (operator o) at e f = no_beginning ts (operator o) at e f
wrong_follows ts (opens b) at e f = no_beginning ts (opens b) at e f
wrong_follows ts closes at e f = no_beginning ts closes at e f
wrong_follows ts ends at e f = e (question_runs f.1 [])
