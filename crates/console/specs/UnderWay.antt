-- A run under way, over any past: what was so before is so again, some bytes further on. Assumes nothing.
--
--   Answered   the gathered line is answered, with text that waits
--   SoFar      of the bytes read so far, what was written and what waits answers the whole lines, and the rest of them is gathered
--   Further    these bytes more are read and answered
--   Breaks     an answer fails while these bytes more are answered: what was written is a front of the answers to some whole lines
--   UnderWay   a run has read some bytes, and nothing waits
use Rattle.std.specs.Prelude.{◌≡◌, ℕ, List, [], ◌++◌, Option, string_bytes}
use Rattle.std.specs.Io.KnownBytes.{Appends, Consumes}
use Rattle.console.specs.Commands.{Order}
use Rattle.console.specs.Lines.{Gathers}
use Rattle.console.specs.declared.transit.Transit.{Transit}
use Rattle.console.specs.Cuts.{cut}
use Rattle.console.specs.Replies.{order_in, Replies, RepliesOn}
use Rattle.console.specs.Runs.{Begins, Writes}

module _ {S : Type 0} (answers : S → Order → List ℕ → S → Type 0) where
  abbrev pub Answered : S → Transit → S → Transit → Type 0
  Answered s p t q = (line : List ℕ) → Gathers p.line line → (text : List ℕ) × (string_bytes q.out ≡ string_bytes p.out ++ text) × answers s (order_in line) text t

  pub record SoFar (first s : S) (p : Transit) (before now : Option (List ℕ)) (read : List ℕ) : Type 0 where
    pub written : List ℕ
    pub appended : Appends before now written
    pub replies : Replies answers first s (cut read).whole (written ++ string_bytes p.out)
    pub gathers : Gathers p.line (cut read).rest

  abbrev pub Further : S → Transit → Option (List ℕ) → S → Transit → Option (List ℕ) → List ℕ → Type 0
  Further s p now t q later bytes = (first : S) (before : Option (List ℕ)) (read : List ℕ) → SoFar first s p before now read → SoFar first t q before later (read ++ bytes)

  abbrev pub Breaks : S → Transit → Option (List ℕ) → Option (List ℕ) → List ℕ → Type 0
  Breaks s p now later bytes = (first : S) (before : Option (List ℕ)) (read : List ℕ) → SoFar first s p before now read → Writes (Begins (RepliesOn answers first)) before later (cut (read ++ bytes)).whole

  pub record UnderWay (first s : S) (p : Transit) (unread left before now : Option (List ℕ)) : Type 0 where
    pub read : List ℕ
    pub consumed : Consumes unread left read
    pub so_far : SoFar first s p before now read
    pub empty : string_bytes p.out ≡ []
