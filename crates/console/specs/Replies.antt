-- Lines and their replies. Assumes nothing.
--
--   order_if, order_in   what a line asks for; a line that has too many bytes asks for nothing
--   Replies              a session may answer lines, one after the other, with these bytes, and then be another
--   RepliesOn            the same, whatever it then is
--   IsFrontOf            a list is the first part of another
use Rattle.std.specs.Prelude.{◌≡◌, ℕ, List, [], ◌∷◌, ◌++◌, Option, Some, None}
use Rattle.console.specs.Commands.{Order, nothing, order_of}
use Rattle.console.specs.Lines.{short_line}

abbrev pub order_if : Option (List ℕ) → Order
order_if None = nothing
order_if (Some line) = order_of line

abbrev pub order_in : List ℕ → Order
order_in line = order_if (short_line line)

abbrev pub Replies : {S : Type 0} → (S → Order → List ℕ → S → Type 0) → S → S → List (List ℕ) → List ℕ → Type 0
Replies answers s t [] bytes = (bytes ≡ []) × (t ≡ s)
Replies {S} answers s t (line ∷ lines) bytes = (text : List ℕ) × (more : List ℕ) × (u : S) × answers s (order_in line) text u × Replies answers u t lines more × (bytes ≡ text ++ more)

abbrev pub RepliesOn : {S : Type 0} → (S → Order → List ℕ → S → Type 0) → S → List (List ℕ) → List ℕ → Type 0
RepliesOn {S} answers s lines bytes = (t : S) × Replies answers s t lines bytes

abbrev pub IsFrontOf : {A : Type 0} → List A → List A → Type 0
IsFrontOf {A} xs ys = (rest : List A) × (xs ++ rest ≡ ys)
