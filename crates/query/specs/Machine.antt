-- The reader's inner workings, cited by private functions alone: a machine that takes token after token. Assumes nothing.
--
-- | definition   | meaning                                                                     |
-- |--------------|-----------------------------------------------------------------------------|
-- | State        | whether a term or an operator comes next, the brackets that stand open, and the leaves so far |
-- | Turn         | what happens at a token: on to a state, the end accepted, or a fault        |
-- | meet, turn_by, turn | the turn at a terminal; at a scan; at a place of a text              |
-- | Walks        | tokens lead from a place and a state to another place and state             |
-- | Fails        | the machine stops with a fault                                              |
use Rattle.std.specs.Prelude.{◌≡◌, ℕ, ◌+◌, if◌then◌else◌, List, [], ◌∷◌, length, nat_lt}
use Rattle.query.specs.declared.fault.ReadFault.{ReadFault}
use Rattle.query.specs.declared.fault.ReadFault.TheVariants.{Token, Unexpected, TooDeep, TooMany}
use Rattle.query.specs.Limits.{open_max, leaf_max}
use Rattle.query.specs.Terminals.{Bracket, Terminal, operand, operator, opens, closes, ends, Placed}
use Rattle.query.specs.Scanning.{Scan, token, fault, scan}

pub data State : Type 0 where
  before_term : List Bracket → ℕ → State
  after_term : List Bracket → ℕ → State

pub data Turn : Type 0 where
  on : Terminal → ℕ → ℕ → State → Turn
  accepts : Turn
  stops : ReadFault → Turn

abbrev pub meet : State → Terminal → ℕ → ℕ → Turn
meet (before_term os n) (operand l) at after = if nat_lt n leaf_max then on (operand l) at after (after_term os (n + 1)) else stops (TooMany at)
meet (before_term os n) (operator o) at after = stops (Unexpected at)
meet (before_term os n) (opens b) at after = if nat_lt (length os) open_max then on (opens b) at after (before_term (b ∷ os) n) else stops (TooDeep at)
meet (before_term os n) closes at after = stops (Unexpected at)
meet (before_term os n) ends at after = stops (Unexpected at)
meet (after_term os n) (operand l) at after = stops (Unexpected at)
meet (after_term os n) (operator o) at after = on (operator o) at after (before_term os n)
meet (after_term os n) (opens b) at after = stops (Unexpected at)
meet (after_term [] n) closes at after = stops (Unexpected at)
meet (after_term (b ∷ os) n) closes at after = on closes at after (after_term os n)
meet (after_term [] n) ends at after = accepts
meet (after_term (b ∷ os) n) ends at after = stops (Unexpected at)

abbrev pub turn_by : Scan → State → Turn
turn_by (token w at after) s = meet s w at after
turn_by (fault f) s = stops (Token f)

abbrev pub turn : List ℕ → ℕ → State → Turn
turn bs p s = turn_by (scan bs p) s

pub data Walks (bs : List ℕ) : ℕ → State → List Placed → ℕ → State → Type 0 where
  here : {p : ℕ} {s : State} → Walks bs p s [] p s
  step : {p after q : ℕ} {s t u : State} {ts : List Placed} (w : Terminal) (at : ℕ)
      → scan bs p ≡ token w at after → meet s w at after ≡ on w at after t → Walks bs after t ts q u → Walks bs p s ((w, at) ∷ ts) q u

pub record Fails (bs : List ℕ) (p : ℕ) (s : State) (f : ReadFault) : Type 0 where
  pub tokens : List Placed
  pub stop : ℕ
  pub state : State
  pub walked : Walks bs p s tokens stop state
  pub halted : turn bs stop state ≡ stops f
