-- Lines of bounded length. Assumes nothing.
--
--   line_max     the most bytes of a line that is read
--   short_line   a line as it is read: its bytes, or none where it has too many
--   Gathers      a buffer has taken in these bytes since the line began: it keeps them, up to the room, and knows whether there were more
use Rattle.std.specs.Prelude.{◌≡◌, ℕ, if◌then◌else◌, min, List, length, take, Some, None, Option, nat_le, nat_lt}
use Rattle.console.specs.declared.lines.LineBuffer.{LineBuffer}
use Rattle.console.specs.declared.lines.TheConstants.{LINE_MAX}

abbrev pub line_max : ℕ
line_max = LINE_MAX

abbrev pub short_line : List ℕ → Option (List ℕ)
short_line bs = if nat_le (length bs) line_max then Some bs else None

pub record Gathers (b : LineBuffer) (bs : List ℕ) : Type 0 where
  pub over : b.over ≡ nat_lt line_max (length bs)
  pub len : b.len ≡ min (length bs) line_max
  pub kept : take b.len b.bytes ≡ take line_max bs
