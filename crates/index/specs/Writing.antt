-- How a writer goes over a buffer, piece by piece. Only inner functions are held to these. Assumes nothing.
--
--   Put          a list was written at a place, and the rest is as it was
--   HasRoom      a writer's buffer has room for so many bytes more
--   Writes       a writer wrote a list where it stood, and stands right after it in the same buffer
use Rattle.std.specs.Prelude.{◌≡◌, ℕ, ◌+◌, ◌≤◌, List, ◌++◌, length, take, drop}
use Rattle.index.specs.declared.writer.Writer.{Writer}

abbrev pub Put : ℕ → List ℕ → List ℕ → List ℕ → Type 0
Put at xs was out = out ≡ take at was ++ (xs ++ drop (at + length xs) was)

-- the writer has room for n more bytes
abbrev pub HasRoom : Writer → ℕ → Type 0
HasRoom w n = w.at + n ≤ length w.buffer.now

pub record Writes (w v : Writer) (xs : List ℕ) : Type 0 where
  pub bytes : Put w.at xs w.buffer.now v.buffer.now
  pub at : v.at ≡ w.at + length xs
  pub same : v.buffer.ghost_name ≡ w.buffer.ghost_name
  pub size : length v.buffer.now ≡ length w.buffer.now
