-- The bytes of what was cut. Assumes nothing.
--
--   bytes_in    the bytes that were cut into head, rows and slots
use Rattle.std.specs.Prelude.{ℕ, List}
use Rattle.index.specs.declared.parts.Parts.{Parts}

abbrev pub bytes_in : Parts → List ℕ
bytes_in p = p.head.bytes.now
