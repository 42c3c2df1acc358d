-- Steps in the running order of an expression say it, and its leaves are those among its tokens. Assumes nothing.
use Rattle.std.proofs.Common.{◌≡◌, ℕ, ◌+◌, ◌*◌, ◌≤◌, arith, List, [], ◌∷◌, ◌++◌, length, refl, sym, ap, ◌∙◌, subst, append_assoc, append-nil, length-append}
use Rattle.query.specs.declared.reader.Reader.{Reader}
use Rattle.query.specs.declared.token.Located.{Located}
use Rattle.query.specs.Terminals.{operator, closes, Placed}
use Rattle.query.specs.Expressions.{Expr, leaf, apply, apply_to, Step, postfix, leaves}
use Rattle.query.specs.Limits.{leaf_max}
use Rattle.query.specs.Grammar.{Question, alone, joined, Term, single, bracket}
use Rattle.query.specs.Outcomes.{count, Reads}
use Rattle.query.specs.Postfix.{waiting_after, on_top, expr_of}
use Rattle.query.specs.Queries.{steps_so_far}
use Rattle.query.specs.Machine.{before_term, after_term, Walks}
use Rattle.query.specs.Reading.{bytes, ReadQuestion}
use Rattle.query.proofs.Reached.{count_append, reached_none, reached_walk}

waiting_after-postfix : (e : Expr) (rest : List Step) (st : List Expr) → waiting_after (postfix e ++ rest) st ≡ waiting_after rest (e ∷ st)
waiting_after-postfix (leaf l at) rest st = refl
waiting_after-postfix (apply o at l r) rest st =
    let s : List Step = (apply_to o, at) ∷ [] in
    ap (λ v. waiting_after v st) (append_assoc (postfix l) (postfix r ++ s) rest ∙ ap (λ v. postfix l ++ v) (append_assoc (postfix r) s rest))
    ∙ waiting_after-postfix l (postfix r ++ ((apply_to o, at) ∷ rest)) st ∙ waiting_after-postfix r ((apply_to o, at) ∷ rest) (l ∷ st)

pub expr_of-postfix : (e : Expr) → expr_of (postfix e) ≡ e
expr_of-postfix e = ap (λ v. on_top (waiting_after v [])) (sym (append-nil (postfix e))) ∙ ap on_top (waiting_after-postfix e [] [])

-- so they say the expression that they were written down from
pub ordered : {ts : List Step} (e : Expr) → ts ≡ postfix e → ts ≡ postfix (expr_of ts)
ordered e is = is ∙ sym (ap (λ v. postfix (expr_of v)) is ∙ ap postfix (expr_of-postfix e))

pub says : {ts : List Step} (e : Expr) → ts ≡ postfix e → expr_of ts ≡ e
says e is = ap expr_of is ∙ expr_of-postfix e

-- the leaves of a question are those among its tokens
mutual
  question_leaves : {ts : List Placed} {e : Expr} → Question ts e → count ts ≡ leaves e
  question_leaves (alone t) = term_leaves t
  question_leaves (joined {ts = ts} {us = us} o at q t) =
      let sum : count (ts ++ (operator o, at) ∷ us) ≡ count ts + (0 + count us) = count_append ts ((operator o, at) ∷ us) in
      omega (arith, sum, question_leaves q, term_leaves t)

  term_leaves : {ts : List Placed} {e : Expr} → Term ts e → count ts ≡ leaves e
  term_leaves (single l at) = refl
  term_leaves (bracket {ts = ts} a b q) =
      let sum : count (ts ++ (closes, b) ∷ []) ≡ count ts + (0 + 0) = count_append ts ((closes, b) ∷ []) in
      omega (arith, sum, question_leaves q)

-- so a text that is read has few
pub few_leaves : {bs : List ℕ} {e : Expr} → Reads bs e → leaves e ≤ leaf_max
few_leaves x = omega (arith, question_leaves x.parsed, x.few)

-- an expression has a step for each leaf, and an operator between each two
pub length-postfix : (e : Expr) → length (postfix e) + 1 ≡ 2 * leaves e
length-postfix (leaf l at) = refl
length-postfix (apply o at l r) =
    let step : List Step = (apply_to o, at) ∷ [] in
    let both : length (postfix l ++ (postfix r ++ step)) ≡ length (postfix l) + length (postfix r ++ step) = length-append (postfix l) (postfix r ++ step) in
    let right : length (postfix r ++ step) ≡ length (postfix r) + 1 = length-append (postfix r) step in
    omega (arith, both, right, length-postfix l, length-postfix r)

-- the steps of a question from a text's start on say it, so a query can be made of them whatever follows
module _ (r r' : Reader) (last : Located) (none : steps_so_far r.steps ≡ []) (start : (r.at ≡ 0) × (r.terms ≡ 0)) (q : ReadQuestion r r' 0 last) where
  pub whole_is : steps_so_far r'.steps ≡ postfix q.expr
  whole_is = q.adds ∙ ap (λ ts. ts ++ postfix q.expr) none

  pub whole_ordered : steps_so_far r'.steps ≡ postfix (expr_of (steps_so_far r'.steps))
  whole_ordered = ordered q.expr whole_is

  pub whole_few : leaves (expr_of (steps_so_far r'.steps)) ≤ leaf_max
  whole_few =
      let walked = subst (λ n. Walks (bytes r) n (before_term [] 0) q.tokens q.to (after_term [] r'.terms)) start.0 (subst (λ n. Walks (bytes r) r.at (before_term [] n) q.tokens q.to (after_term [] r'.terms)) start.1 (q.walked [] refl)) in
      let few = (reached_walk (reached_none (bytes r)) walked).few in
      subst (λ e. leaves e ≤ leaf_max) (sym (says q.expr whole_is)) (omega (arith, question_leaves q.parsed, few))
