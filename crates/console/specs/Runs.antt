-- Runs over a reader and a writer: what was read, and what was written for it. Assumes nothing.
-- A run is described by relations of lines and bytes: these bytes answer those lines.
--
--   Begins       the bytes are a front of what answers some first ones of the lines
--   Writes       some bytes were written, and they stand in a relation to these lines
--   WritesFor    the same of the lines of the whole input, where it is known
--   Ends         how a run ends: at the end of the input it has written for every line; where the input fails, for every whole line;
--                and where an answer fails, it has written a front of the answers to some first lines
--   Ran          a run read some bytes and wrote some, by how it ended
--   Run          the same, and what it says of a whole run, and of every run, where the input is known
--   SessionRan   a run of a session
use Rattle.std.specs.Prelude.{ℕ, List, ◌⊎◌, Option, Result, Ok, Err, IfSome, OnOk}
use Rattle.std.specs.Io.KnownBytes.{Appends, Consumes, IsAtEnd}
use Rattle.console.specs.Commands.{Order}
use Rattle.console.specs.declared.stop.Stop.{Stop}
use Rattle.console.specs.declared.stop.Stop.TheVariants.{Input, Output}
use Rattle.console.specs.Cuts.{cut, lines_of}
use Rattle.console.specs.Replies.{Replies, RepliesOn, IsFrontOf}

pub record Begins (answer : List (List ℕ) → List ℕ → Type 0) (lines : List (List ℕ)) (written : List ℕ) : Type 0 where
  pub answered : List (List ℕ)
  pub bytes : List ℕ
  pub first_lines : IsFrontOf answered lines
  pub answers : answer answered bytes
  pub front : IsFrontOf written bytes

abbrev pub Writes : (List (List ℕ) → List ℕ → Type 0) → Option (List ℕ) → Option (List ℕ) → List (List ℕ) → Type 0
Writes answer before now lines = (written : List ℕ) × Appends before now written × answer lines written

abbrev pub WritesFor : (List (List ℕ) → List ℕ → Type 0) → Option (List ℕ) → Option (List ℕ) → Option (List ℕ) → Type 0
WritesFor answer unread before now = IfSome unread (λ input. Writes answer before now (lines_of input))

-- ended: what a run that ends well has written; stopped: what one has whose input fails; begun: that of which one has written a front whose answer fails
module _ {A : Type 0} (ended stopped begun : List (List ℕ) → List ℕ → Type 0) where
  abbrev pub Ends : Result A Stop → Option (List ℕ) → Option (List ℕ) → Option (List ℕ) → List ℕ → Type 0
  Ends (Ok _) left before now read = IsAtEnd left × Writes ended before now (lines_of read)
  Ends (Err (Input _)) left before now read = Writes stopped before now (cut read).whole
  Ends (Err (Output _)) left before now read = Writes (Begins begun) before now (cut read).whole ⊎ (IsAtEnd left × Writes (Begins begun) before now (lines_of read))

  pub record Ran (result : Result A Stop) (unread left before now : Option (List ℕ)) : Type 0 where
    pub read : List ℕ
    pub consumed : Consumes unread left read
    pub ends : Ends result left before now read

  pub record Run (result : Result A Stop) (unread left before now : Option (List ℕ)) : Type 0 where
    -- what was read and what was written, by how it ended
    pub ran : Ran result unread left before now
    -- a run that ends well has answered every line of the input, and written nothing else
    pub whole : OnOk result (WritesFor ended unread before now)
    -- however it ends, it has written a front of the answers to some first lines of the input
    pub front : WritesFor (Begins begun) unread before now

abbrev pub SessionRan : {S : Type 0} → (S → Order → List ℕ → S → Type 0) → S → S → Result (Unit {0}) Stop → Option (List ℕ) → Option (List ℕ) → Option (List ℕ) → Option (List ℕ) → Type 0
SessionRan answers first last = Ran (Replies answers first last) (Replies answers first last) (RepliesOn answers first)
