-- Tokens that the machine takes begin some question: what is left open can be closed. Assumes nothing.
use Rattle.std.proofs.Common.{◌≡◌, ℕ, List, [], ◌∷◌, ◌++◌, sym, refl, ap, ◌∙◌, subst, append_assoc, append-nil}
use Rattle.extents.specs.declared.operator.Operator.{Operator}
use Rattle.query.specs.Leaves.{name}
use Rattle.query.specs.Terminals.{Bracket, plain, operand, operator, opens, closes, Placed}
use Rattle.query.specs.Expressions.{Expr, apply}
use Rattle.query.specs.Grammar.{Question, alone, joined, Term, single, bracket, Beginning}

-- what stands in a question before a term: nothing, or a question and an operator
pub data Mid : List Placed → Type 0 where
  first : Mid []
  later : {ts : List Placed} {e : Expr} (o : Operator) (at : ℕ) → Question ts e → Mid (ts ++ (operator o, at) ∷ [])

-- all before the innermost open question, where the brackets os stand open
pub data Level : List Bracket → List Placed → Type 0 where
  outer : Level [] []
  inner : {os : List Bracket} {pre mid : List Placed} (a : ℕ) → Level os pre → Mid mid → Level (plain ∷ os) (pre ++ (mid ++ (opens plain, a) ∷ []))

-- ts end where a term comes next
pub record Pending (ts : List Placed) (os : List Bracket) : Type 0 where
  pub pre : List Placed
  pub mid : List Placed
  pub level : Level os pre
  pub part : Mid mid
  pub is : ts ≡ pre ++ mid

-- ts end after a term
pub record Standing (ts : List Placed) (os : List Bracket) : Type 0 where
  pub pre : List Placed
  pub mid : List Placed
  pub expr : Expr
  pub level : Level os pre
  pub part : Question mid expr
  pub is : ts ≡ pre ++ mid

record Extended (mid us : List Placed) : Type 0 where
  expr : Expr
  whole : Question (mid ++ us) expr

extend : {mid us : List Placed} {e : Expr} → Mid mid → Term us e → Extended mid us
extend first t = record { expr = _; whole = alone t }
extend {us = us} {e = r} (later {ts = ts} {e = l} o at q) t = record { expr = apply o at l r; whole = rw (append_assoc ts ((operator o, at) ∷ []) us) (joined o at q t) }

pub nothing_yet : Pending [] []
nothing_yet = record { pre = []; mid = []; level = outer; part = first; is = refl }

pub by_term : {ts us : List Placed} {os : List Bracket} {e : Expr} → Pending ts os → Term us e → Standing (ts ++ us) os
by_term {us = us} p t =
    let x = extend p.part t in
    record { pre = p.pre; mid = p.mid ++ us; expr = x.expr; level = p.level; part = x.whole; is = ap (λ l. l ++ us) p.is ∙ append_assoc p.pre p.mid us }

pub by_operator : {ts : List Placed} {os : List Bracket} (o : Operator) (at : ℕ) → Standing ts os → Pending (ts ++ (operator o, at) ∷ []) os
by_operator o at s =
    record { pre = s.pre; mid = s.mid ++ (operator o, at) ∷ []; level = s.level; part = later o at s.part; is = ap (λ l. l ++ (operator o, at) ∷ []) s.is ∙ append_assoc s.pre s.mid ((operator o, at) ∷ []) }

pub by_open : {ts : List Placed} {os : List Bracket} (a : ℕ) → Pending ts os → Pending (ts ++ (opens plain, a) ∷ []) (plain ∷ os)
by_open a p = record {
  pre = p.pre ++ (p.mid ++ (opens plain, a) ∷ []);
  mid = [];
  level = inner a p.level p.part;
  part = first;
  is = ap (λ l. l ++ (opens plain, a) ∷ []) p.is ∙ append_assoc p.pre p.mid ((opens plain, a) ∷ []) ∙ sym (append-nil _);
}

-- the innermost bracket, closed
close_level : {o : Bracket} {os : List Bracket} {pre mid : List Placed} {e : Expr} (b : ℕ) → Level (o ∷ os) pre → Question mid e → Standing ((pre ++ mid) ++ (closes, b) ∷ []) os
close_level {mid = mid} b (inner {pre = pre} {mid = mid'} a level part) q =
    let x = extend part (bracket a b q) in
    let is : ((pre ++ (mid' ++ (opens plain, a) ∷ [])) ++ mid) ++ (closes, b) ∷ [] ≡ pre ++ (mid' ++ ((opens plain, a) ∷ (mid ++ (closes, b) ∷ []))) = simp append_assoc in
    record { pre = pre; mid = mid' ++ ((opens plain, a) ∷ (mid ++ (closes, b) ∷ [])); expr = x.expr; level = level; part = x.whole; is = is }

pub by_close : {ts : List Placed} {o : Bracket} {os : List Bracket} (b : ℕ) → Standing ts (o ∷ os) → Standing (ts ++ (closes, b) ∷ []) os
by_close {os = os} b s = subst (λ l. Standing (l ++ (closes, b) ∷ []) os) (sym s.is) (close_level b s.level s.part)

finish : {os : List Bracket} {pre mid : List Placed} {e : Expr} → Level os pre → Question mid e → Beginning (pre ++ mid)
finish {mid = mid} {e = e} outer q = record { rest = []; expr = e; whole = rw (append-nil mid) q }
finish {mid = mid} (inner {pre = pre} {mid = mid'} a level part) q =
    let x = extend part (bracket a 0 q) in
    let b = finish level x.whole in
    let is : (pre ++ (mid' ++ ((opens plain, a) ∷ (mid ++ (closes, 0) ∷ [])))) ++ b.rest ≡ ((pre ++ (mid' ++ (opens plain, a) ∷ [])) ++ mid) ++ ((closes, 0) ∷ b.rest) = simp append_assoc in
    record { rest = (closes, 0) ∷ b.rest; expr = b.expr; whole = subst (λ l. Question l b.expr) is b.whole }

pub standing_begins : {ts : List Placed} {os : List Bracket} → Standing ts os → Beginning ts
standing_begins s = subst Beginning (sym s.is) (finish s.level s.part)

-- any name will do for the term that comes next
pub pending_begins : {ts : List Placed} {os : List Bracket} → Pending ts os → Beginning ts
pending_begins {ts} p =
    let some : Placed = (operand (name []), 0) in
    let b = standing_begins (by_term p (single (name []) 0)) in
    record { rest = some ∷ b.rest; expr = b.expr; whole = subst (λ l. Question l b.expr) (append_assoc ts (some ∷ []) b.rest) b.whole }

standing_whole' : {pre mid : List Placed} {e : Expr} → Level [] pre → Question mid e → Question (pre ++ mid) e
standing_whole' outer q = q

-- with no bracket open, a question is whole
pub standing_whole : {ts : List Placed} (s : Standing ts []) → Question ts s.expr
standing_whole s = subst (λ l. Question l s.expr) (sym s.is) (standing_whole' s.level s.part)
