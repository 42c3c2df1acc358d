-- What one call of the reader did: the contracts of private functions. Assumes nothing.
--
-- | definition   | meaning                                                                   |
-- |--------------|---------------------------------------------------------------------------|
-- | scan_of      | the lexer's answer as a scan                                              |
-- | scan_of_token   | a scanner's answer at a place, a token and its length, as a scan          |
-- | terminal     | a token as a terminal                                                     |
-- | weight       | what an operator or a bracket takes at least                              |
-- | Ahead        | a token ends within the text, and an operator or a bracket takes a byte at least |
-- | bytes        | the text of a reader                                                      |
-- | step_count      | how many steps a reader has stored                                        |
-- | Sound        | a reader stands within its text, and its store has room                   |
-- | Onward       | a reader stands further on in the same text, with more steps              |
-- | IsNoOperator  | a terminal is no operator                                                 |
-- | IsNoOperand  | a terminal is no leaf                                                     |
-- | Taken        | a token was taken                                                         |
-- | Faulty       | the token that comes next has the fault e                                 |
-- | Stopped      | the machine stops with the fault e on the way through a term or a question |
-- | ReadTerm     | a term was read, and its steps stored, whichever brackets stand open, so many as the depth |
-- | ReadQuestion | a question was read, its steps stored, and the token after it taken, which is no operator |
use Rattle.std.specs.Prelude.{◌≡◌, ℕ, ◌+◌, ◌*◌, ◌≤◌, List, ◌++◌, length, Ok, Err, Result}
use Rattle.query.specs.declared.fault.TokenFault.{TokenFault}
use Rattle.query.specs.declared.fault.ReadFault.{ReadFault}
use Rattle.query.specs.declared.fault.ReadFault.TheVariants.{Token as held}
use Rattle.query.specs.declared.token.Token.{Token}
use Rattle.query.specs.declared.token.Token.TheVariants as code
use Rattle.query.specs.declared.token.Located.{Located}
use Rattle.query.specs.declared.reader.Reader.{Reader}
use Rattle.query.specs.Limits.{leaf_max}
use Rattle.query.specs.Leaves.{name, windows, runs}
use Rattle.query.specs.Terminals.{Bracket, plain, Terminal, operand, operator, opens, closes, ends, Placed}
use Rattle.query.specs.Expressions.{Expr, postfix}
use Rattle.query.specs.Grammar.{Question, Term}
use Rattle.query.specs.Scanning.{Scan, token, fault, scan}
use Rattle.query.specs.Queries.{steps_so_far}
use Rattle.query.specs.Machine.{before_term, after_term, Walks, Fails}

abbrev pub terminal : Token → Terminal
terminal (code.Name s) = operand (name s.now)
terminal (code.Windows n) = operand (windows n)
terminal (code.Runs n) = operand (runs n)
terminal (code.Operator o) = operator o
terminal code.Open = opens plain
terminal code.Close = closes
terminal code.End = ends

abbrev pub scan_of : Result Located TokenFault → Scan
scan_of (Ok f) = token (terminal f.token) f.place f.after
scan_of (Err e) = fault e

abbrev pub scan_of_token : ℕ → Result (Token × ℕ) TokenFault → Scan
scan_of_token at (Ok t) = token (terminal t.0) at (at + t.1)
scan_of_token at (Err e) = fault e

-- what an operator or a bracket takes at least
abbrev pub weight : Terminal → ℕ
weight (operand l) = 0
weight (operator o) = 1
weight (opens b) = 1
weight closes = 1
weight ends = 0

abbrev pub Ahead : ℕ → ℕ → Located → Type 0
Ahead from end f = (from + weight (terminal f.token) ≤ f.after) × (f.after ≤ end)

abbrev pub bytes : Reader → List ℕ
bytes r = r.text.now

abbrev pub step_count : Reader → ℕ
step_count r = r.steps.len

pub record Sound (r : Reader) : Type 0 where
  pub within : r.at ≤ length (bytes r)
  pub few : r.terms ≤ leaf_max
  pub short : step_count r ≤ 2 * r.terms

pub record Taken (r r' : Reader) (f : Located) : Type 0 where
  pub is : scan (bytes r) r.at ≡ token (terminal f.token) f.place f.after
  pub within : f.after ≤ length (bytes r)
  pub further : r.at + weight (terminal f.token) ≤ f.after
  pub same : bytes r' ≡ bytes r
  pub moved : r'.at ≡ f.after
  pub terms : r'.terms ≡ r.terms
  pub steps : r'.steps ≡ r.steps

pub record Faulty (r : Reader) (e : ReadFault) : Type 0 where
  pub cause : TokenFault
  pub is : e ≡ held cause
  pub met : scan (bytes r) r.at ≡ fault cause

abbrev pub Stopped : Reader → ℕ → ReadFault → Type 0
Stopped r depth e = (os : List Bracket) → length os ≡ depth → Fails (bytes r) r.at (before_term os r.terms) e

-- the reader r' stands further on in the text of r, with the steps of one term or question more
pub record Onward (r r' : Reader) : Type 0 where
  pub same : bytes r' ≡ bytes r
  pub within : r'.at ≤ length (bytes r)
  pub further : r.at ≤ r'.at
  pub few : r'.terms ≤ leaf_max
  pub long : step_count r' + 1 + 2 * r.terms ≡ step_count r + 2 * r'.terms

pub record ReadTerm (r r' : Reader) (depth : ℕ) : Type 0 where
  pub onward : Onward r r'
  pub tokens : List Placed
  pub expr : Expr
  pub walked : (os : List Bracket) → length os ≡ depth → Walks (bytes r) r.at (before_term os r.terms) tokens r'.at (after_term os r'.terms)
  pub parsed : Term tokens expr
  pub adds : steps_so_far r'.steps ≡ steps_so_far r.steps ++ postfix expr

abbrev pub IsNoOperator : Terminal → Type 0
IsNoOperator (operand l) = Unit {0}
IsNoOperator (operator o) = ⊥
IsNoOperator (opens b) = Unit {0}
IsNoOperator closes = Unit {0}
IsNoOperator ends = Unit {0}

pub record ReadQuestion (r r' : Reader) (depth : ℕ) (last : Located) : Type 0 where
  pub onward : Onward r r'
  pub tokens : List Placed
  pub expr : Expr
  pub to : ℕ
  pub walked : (os : List Bracket) → length os ≡ depth → Walks (bytes r) r.at (before_term os r.terms) tokens to (after_term os r'.terms)
  pub parsed : Question tokens expr
  pub adds : steps_so_far r'.steps ≡ steps_so_far r.steps ++ postfix expr
  pub next : scan (bytes r) to ≡ token (terminal last.token) last.place last.after
  pub other : IsNoOperator (terminal last.token)
  pub moved : r'.at ≡ last.after

abbrev pub IsNoOperand : Terminal → Type 0
IsNoOperand (operand l) = ⊥
IsNoOperand (operator o) = Unit {0}
IsNoOperand (opens b) = Unit {0}
IsNoOperand closes = Unit {0}
IsNoOperand ends = Unit {0}
