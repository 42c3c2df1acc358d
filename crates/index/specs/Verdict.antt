-- The tests by which bytes are judged, one for each rule of the layout: what they decide is in Obeyed. Assumes nothing.
--
--   every_below     a test holds of every number below n
--   all_zero        every byte is a zero
--   name_stands     a name field: a name, then zeros
--   row_stands      the row i: its name field, its place in the byte order, its sum, its count
--   rows_stand      every row, and the counts add up to the number of slots
--   slot_stands     the k-th slot from one on: not above the last slot, and above the one before it
--   run_stands      every slot of the row i
--   slots_stand     the slots of every row
--   size_stands     head, rows and slots are all there, and nothing after them
--   top             one past the largest of the first j slots, or 0
--   span_stands     the span is one past the largest slot, or 0
--   verdict         the first rule that is broken, in this order: 15 bytes or more, mark, version, size, rows, slots, span
use Rattle.std.specs.Prelude.{if◌then◌else◌, ℕ, zero, suc, ◌+◌, ◌-◌, ◌*◌, max, Bool, true, not, ◌&&◌, ◌||◌, List, length, take, drop, Ok, Err, Result, ◌==◌, nat_le, nat_lt}
use Rattle.std.specs.List.{list_all}
use Rattle.std.specs.Str.{bytes_eq}
use Rattle.names.specs.Names.{is_name, before}
use Rattle.postings.specs.Lists.{last_slot}
use Rattle.index.specs.declared.refusal.OpenRefusal.{OpenRefusal}
use Rattle.index.specs.declared.refusal.OpenRefusal.TheVariants.{Short, Mark, Version, Size, Row, Slot, Span}
use Rattle.index.specs.declared.fields.TheConstants.{MARK, VERSION, HEAD_SIZE, ROW_SIZE, SLOT_SIZE}
use Rattle.index.specs.Fields.{version, names, span, total, trim, name_field, name, earlier, count, slot}
use Rattle.index.specs.Layout.{count_before}

abbrev pub every_below : (ℕ → Bool) → ℕ → Bool
every_below test zero = true
every_below test (suc n) = test n && every_below test n

abbrev pub all_zero : List ℕ → Bool
all_zero bs = list_all (λ b. b == 0) bs

unfoldable pub name_stands : List ℕ → Bool
name_stands field = is_name (trim field) && all_zero (drop (length (trim field)) field)

unfoldable pub row_stands : List ℕ → ℕ → Bool
row_stands bs i = name_stands (name_field bs i) && ((i == 0 || before (name bs (i - 1)) (name bs i)) && (earlier bs i == count_before bs i && nat_le 1 (count bs i)))

unfoldable pub rows_stand : List ℕ → Bool
rows_stand bs = every_below (row_stands bs) (names bs) && count_before bs (names bs) == total bs

unfoldable pub slot_stands : List ℕ → ℕ → ℕ → Bool
slot_stands bs from k = nat_le (slot bs (from + k)) last_slot && (k == 0 || nat_lt (slot bs (from + (k - 1))) (slot bs (from + k)))

unfoldable pub run_stands : List ℕ → ℕ → Bool
run_stands bs i = every_below (slot_stands bs (earlier bs i)) (count bs i)

unfoldable pub slots_stand : List ℕ → Bool
slots_stand bs = every_below (run_stands bs) (names bs)

abbrev pub top : List ℕ → ℕ → ℕ
top bs zero = 0
top bs (suc j) = max (top bs j) (slot bs j + 1)

unfoldable pub span_stands : List ℕ → Bool
span_stands bs = span bs == top bs (total bs)

unfoldable pub size_stands : List ℕ → Bool
size_stands bs = length bs == HEAD_SIZE + ROW_SIZE * names bs + SLOT_SIZE * total bs

unfoldable pub verdict : List ℕ → Result (Unit {0}) OpenRefusal
verdict bs =
    if not (nat_le HEAD_SIZE (length bs)) then Err Short else
    if not (bytes_eq (take (length MARK) bs) MARK) then Err Mark else
    if not (version bs == VERSION) then Err Version else
    if not (size_stands bs) then Err Size else
    if not (rows_stand bs) then Err Row else
    if not (slots_stand bs) then Err Slot else
    if not (span_stands bs) then Err Span else
    Ok tt
