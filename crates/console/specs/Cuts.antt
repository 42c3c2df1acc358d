-- Lines of a stream of bytes. Assumes nothing.
--
--   Cut           the whole lines of some bytes, and what stands after their last newline
--   cut_in_line   one byte more, at the front of the first line
--   cut_after     one byte more, at the front: a newline ends an empty line
--   cut           where bytes are cut
--   line_end      a newline
--   lines_of      every line: each whole one, and what stands after the last newline
use Rattle.std.specs.Prelude.{ℕ, if◌then◌else◌, List, [], ◌∷◌, ◌++◌, ◌==◌}

pub record Cut : Type 0 where
  pub whole : List (List ℕ)
  pub rest : List ℕ

abbrev pub line_end : List ℕ
line_end = 10 ∷ []

abbrev pub cut_in_line : ℕ → List (List ℕ) → List ℕ → Cut
cut_in_line b [] rest = record { whole = []; rest = b ∷ rest }
cut_in_line b (line ∷ lines) rest = record { whole = (b ∷ line) ∷ lines; rest = rest }

abbrev pub cut_after : ℕ → Cut → Cut
cut_after b c = if b == 10 then record { whole = [] ∷ c.whole; rest = c.rest } else cut_in_line b c.whole c.rest

abbrev pub cut : List ℕ → Cut
cut [] = record { whole = []; rest = [] }
cut (b ∷ bytes) = cut_after b (cut bytes)

abbrev pub lines_of : List ℕ → List (List ℕ)
lines_of bytes = (cut bytes).whole ++ (cut bytes).rest ∷ []
