-- The bytes of an opened index. Assumes nothing.
--
--   bytes_of    the bytes that an opened index reads
use Rattle.std.specs.Prelude.{ℕ, List}
use Rattle.index.specs.declared.opening.SealedIndex.{SealedIndex}
use Rattle.index.specs.Cuts.{bytes_in}

abbrev pub bytes_of : SealedIndex → List ℕ
bytes_of s = bytes_in s.parts
