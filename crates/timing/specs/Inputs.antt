-- What an input gives to be timed. Assumes nothing.
--
--   input_answers   nothing is said before the input ends
use Rattle.std.specs.Prelude.{◌≡◌, ℕ, List, []}
use Rattle.console.specs.Commands.{Order}
use Rattle.timing.specs.declared.input.Input.{Input}

abbrev pub input_answers : Input → Order → List ℕ → Input → Type 0
input_answers s order said t = said ≡ []
