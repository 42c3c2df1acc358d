-- The fields of a sealed index, by their places in its bytes. Numbers are little-endian. Assumes nothing.
--
--   u16_at, u32_at       the number of 16 or 32 bits whose first byte stands at a place
--   u16_bytes, u32_bytes the bytes in which such a number is written
--   version        16 bits of the head
--   names          how many names there are: 16 bits of the head
--   span           how many slots the log spans: 32 bits of the head
--   total          how many slots there are: 32 bits of the head
--   row_at         where the row i begins
--   name_field     the bytes of name of the row i, padding included
--   trim           the bytes before the first zero
--   name           the name of the row i
--   earlier        what the row i gives as the sum of the earlier rows' counts
--   count          what the row i gives as the number of its slots
--   slot           the j-th of all slots
use Rattle.std.specs.Prelude.{if◌then◌else◌, ℕ, ◌+◌, ◌*◌, List, [], ◌∷◌, take, drop, ◌==◌}
use Rattle.std.specs.Int.{w16, w32, from_le_bytes, to_le_bytes}
use Rattle.index.specs.declared.fields.TheConstants.{HEAD_SIZE, ROW_SIZE, SLOT_SIZE, NAME_SIZE, VERSION_AT, NAMES_AT, LENGTH_AT, TOTAL_AT, EARLIER_AT, COUNT_AT}

unfoldable pub u16_at : List ℕ → ℕ → ℕ
u16_at bs p = from_le_bytes w16 (drop p bs)

unfoldable pub u32_at : List ℕ → ℕ → ℕ
u32_at bs p = from_le_bytes w32 (drop p bs)

unfoldable pub u16_bytes : ℕ → List ℕ
u16_bytes v = to_le_bytes w16 v

unfoldable pub u32_bytes : ℕ → List ℕ
u32_bytes v = to_le_bytes w32 v

abbrev pub version : List ℕ → ℕ
version bs = u16_at bs VERSION_AT

abbrev pub names : List ℕ → ℕ
names bs = u16_at bs NAMES_AT

abbrev pub span : List ℕ → ℕ
span bs = u32_at bs LENGTH_AT

abbrev pub total : List ℕ → ℕ
total bs = u32_at bs TOTAL_AT

abbrev pub row_at : ℕ → ℕ
row_at i = HEAD_SIZE + ROW_SIZE * i

abbrev pub trim : List ℕ → List ℕ
trim [] = []
trim (x ∷ xs) = if x == 0 then [] else x ∷ trim xs

abbrev pub name_field : List ℕ → ℕ → List ℕ
name_field bs i = take NAME_SIZE (drop (row_at i) bs)

unfoldable pub name : List ℕ → ℕ → List ℕ
name bs i = trim (name_field bs i)

abbrev pub earlier : List ℕ → ℕ → ℕ
earlier bs i = u32_at bs (row_at i + EARLIER_AT)

abbrev pub count : List ℕ → ℕ → ℕ
count bs i = u32_at bs (row_at i + COUNT_AT)

abbrev pub slot : List ℕ → ℕ → ℕ
slot bs j = u32_at bs (row_at (names bs) + SLOT_SIZE * j)
