-- Lines and what they are answered over a state of which only its meaning is known. Assumes nothing.
--
--   Spoken        these bytes answer lines, one after the other, from a state on: a relation says the answer to each order, a function the state after it
--   state_after   the state after the lines
--   SpokenRun     a run read lines and wrote their answers, from a state on
--   Reaches       these bytes answer the lines, and a session then stands for the state after them
--   Follows       a session that stands for a state answers as that state says, and then stands for the state after it
use Rattle.std.specs.Prelude.{◌≡◌, ℕ, List, [], ◌∷◌, ◌++◌, Option, Result}
use Rattle.console.specs.Commands.{Order}
use Rattle.console.specs.declared.stop.Stop.{Stop}
use Rattle.console.specs.Replies.{order_in}
use Rattle.console.specs.Runs.{Run}

abbrev pub Spoken : {L : Type 0} → (L → Order → List ℕ → Type 0) → (L → Order → L) → L → List (List ℕ) → List ℕ → Type 0
Spoken says then' l [] bytes = bytes ≡ []
Spoken says then' l (line ∷ lines) bytes =
    (said : List ℕ) × (more : List ℕ) × says l (order_in line) said × Spoken says then' (then' l (order_in line)) lines more × (bytes ≡ said ++ more)

abbrev pub state_after : {L : Type 0} → (L → Order → L) → L → List (List ℕ) → L
state_after then' l [] = l
state_after then' l (line ∷ lines) = state_after then' (then' l (order_in line)) lines

abbrev pub SpokenRun : {L A : Type 0} → (L → Order → List ℕ → Type 0) → (L → Order → L) → L → Result A Stop → Option (List ℕ) → Option (List ℕ) → Option (List ℕ) → Option (List ℕ) → Type 0
SpokenRun says then' l = Run (Spoken says then' l) (Spoken says then' l) (Spoken says then' l)

module _ {S L : Type 0} (means : S → L → Type 0) (says : L → Order → List ℕ → Type 0) (then' : L → Order → L) where
  abbrev pub Reaches : L → S → List (List ℕ) → List ℕ → Type 0
  Reaches l t lines bytes = Spoken says then' l lines bytes × means t (state_after then' l lines)

  abbrev pub Follows : S → Order → List ℕ → S → Type 0
  Follows s order said t = (l : L) → means s l → says l order said × means t (then' l order)
