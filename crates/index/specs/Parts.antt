-- The rows and the slots of a sealed index as lists of their bytes. Assumes nothing.
--
--   row_chunks    the rows, in their order
--   slot_chunks   the slots of all rows, in their order
--   row_run       the slots of a row, out of those of all rows
--   slots_in      the numbers of slots
use Rattle.std.specs.Prelude.{ℕ, List, map, take, drop}
use Rattle.std.specs.Simd.{first_chunks}
use Rattle.index.specs.declared.fields.TheConstants.{HEAD_SIZE, ROW_SIZE, SLOT_SIZE, EARLIER_AT, COUNT_AT}
use Rattle.index.specs.Fields.{u32_at, names, total, row_at}

unfoldable pub row_chunks : List ℕ → List (List ℕ)
row_chunks bs = first_chunks ROW_SIZE (names bs) (drop HEAD_SIZE bs)

unfoldable pub slot_chunks : List ℕ → List (List ℕ)
slot_chunks bs = first_chunks SLOT_SIZE (total bs) (drop (row_at (names bs)) bs)

abbrev pub row_run : List (List ℕ) → List ℕ → List (List ℕ)
row_run slots row = take (u32_at row COUNT_AT) (drop (u32_at row EARLIER_AT) slots)

abbrev pub slots_in : List (List ℕ) → List ℕ
slots_in slots = map (λ s. u32_at s 0) slots
