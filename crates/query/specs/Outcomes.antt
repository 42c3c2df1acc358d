-- When a text is read, and which fault it is refused with: the leftmost. Assumes nothing.
--
-- | definition     | meaning                                                                   |
-- |----------------|---------------------------------------------------------------------------|
-- | weigh, count   | how many leaves a terminal is; stand among tokens                         |
-- | close_one      | the brackets that stand open once the innermost is closed                 |
-- | open_by, open_after | which brackets stand open, the innermost first, after a terminal; after tokens, where os stand open before |
-- | Enters, Shallow | the terminal opens no bracket while open_max stand open; no token does, where os stand open before |
-- | Reads bs e     | the tokens of the whole text bs are a question that says e, within the limits |
-- | Faultless ts   | the tokens ts have no fault: some question begins with them, and they keep the limits |
-- | Follows ts w at | the terminal w at the place `at` may follow ts: some question begins with ts and it; for the end, ts are a question |
-- | FaultAfter bs ts p f | the token at the place p of bs, after the tokens ts, has the fault f: 15 or 16 of the token itself, whatever stands before it; 17 where it may not follow ts; 18 where it opens a bracket while open_max stand open; 19 where it is a leaf and leaf_max stand before it |
-- | Refuses bs f   | f is the leftmost fault of the text bs: the tokens before it have none    |
use Rattle.std.specs.Prelude.{◌≡◌, ℕ, ◌+◌, ◌<◌, ◌≤◌, List, [], ◌∷◌, ◌++◌, length}
use Rattle.query.specs.declared.fault.TokenFault.{TokenFault}
use Rattle.query.specs.declared.fault.ReadFault.{ReadFault}
use Rattle.query.specs.declared.fault.ReadFault.TheVariants.{Token, Unexpected, TooDeep, TooMany}
use Rattle.query.specs.Limits.{open_max, leaf_max}
use Rattle.query.specs.Leaves.{Leaf}
use Rattle.query.specs.Terminals.{Bracket, Terminal, operand, operator, opens, closes, ends, Placed}
use Rattle.query.specs.Expressions.{Expr}
use Rattle.query.specs.Grammar.{Question, Beginning}
use Rattle.query.specs.Scanning.{token, fault, scan, Lexes}

abbrev pub weigh : Terminal → ℕ
weigh (operand l) = 1
weigh (operator o) = 0
weigh (opens b) = 0
weigh closes = 0
weigh ends = 0

abbrev pub count : List Placed → ℕ
count [] = 0
count (t ∷ ts) = weigh t.0 + count ts

abbrev pub close_one : List Bracket → List Bracket
close_one [] = []
close_one (b ∷ os) = os

abbrev pub open_by : Terminal → List Bracket → List Bracket
open_by (operand l) os = os
open_by (operator o) os = os
open_by (opens b) os = b ∷ os
open_by closes os = close_one os
open_by ends os = os

abbrev pub open_after : List Placed → List Bracket → List Bracket
open_after [] os = os
open_after (t ∷ ts) os = open_after ts (open_by t.0 os)

abbrev pub Enters : Terminal → List Bracket → Type 0
Enters (operand l) os = Unit {0}
Enters (operator o) os = Unit {0}
Enters (opens b) os = length os < open_max
Enters closes os = Unit {0}
Enters ends os = Unit {0}

abbrev pub Shallow : List Placed → List Bracket → Type 0
Shallow [] os = Unit {0}
Shallow (t ∷ ts) os = Enters t.0 os × Shallow ts (open_by t.0 os)

pub record Reads (bs : List ℕ) (e : Expr) : Type 0 where
  pub tokens : List Placed
  pub stop : ℕ
  pub at : ℕ
  pub after : ℕ
  pub lexed : Lexes bs 0 tokens stop
  pub ended : scan bs stop ≡ token ends at after
  pub parsed : Question tokens e
  pub few : count tokens ≤ leaf_max
  pub shallow : Shallow tokens []

pub record Faultless (ts : List Placed) : Type 0 where
  pub begins : Beginning ts
  pub few : count ts ≤ leaf_max
  pub shallow : Shallow ts []

abbrev pub Follows : List Placed → Terminal → ℕ → Type 0
Follows ts (operand l) at = Beginning (ts ++ (operand l, at) ∷ [])
Follows ts (operator o) at = Beginning (ts ++ (operator o, at) ∷ [])
Follows ts (opens b) at = Beginning (ts ++ (opens b, at) ∷ [])
Follows ts closes at = Beginning (ts ++ (closes, at) ∷ [])
Follows ts ends at = (e : Expr) × Question ts e

pub data FaultAfter (bs : List ℕ) (ts : List Placed) (p : ℕ) : ReadFault → Type 0 where
  ill_formed : {f : TokenFault} → scan bs p ≡ fault f → FaultAfter bs ts p (Token f)
  misplaced : {w : Terminal} {at after : ℕ} → scan bs p ≡ token w at after → (Follows ts w at → ⊥) → FaultAfter bs ts p (Unexpected at)
  over_deep : {b : Bracket} {at after : ℕ}
      → scan bs p ≡ token (opens b) at after → Follows ts (opens b) at → length (open_after ts []) ≡ open_max → FaultAfter bs ts p (TooDeep at)
  over_many : {l : Leaf} {at after : ℕ}
      → scan bs p ≡ token (operand l) at after → Follows ts (operand l) at → count ts ≡ leaf_max → FaultAfter bs ts p (TooMany at)

pub record Refuses (bs : List ℕ) (f : ReadFault) : Type 0 where
  pub tokens : List Placed
  pub stop : ℕ
  pub lexed : Lexes bs 0 tokens stop
  pub faultless : Faultless tokens
  pub faulty : FaultAfter bs tokens stop f
