-- What the bytes of a sealed index mean. Assumes nothing.
--
--   row_slots      the slots of the row i: as many as it counts, from the one after the earlier rows' on
--   posting        the row i as a name with its slots
--   postings_of    all rows so, in their order
--   slots_for      the slots of a name by names with their slots
--   posting_lists  names with their slots as posting lists, over a length
--   meaning        the posting lists that the bytes mean
--   nothing        no name has a slot, and the length is 0
use Rattle.std.specs.Prelude.{ℕ, List, [], map}
use Rattle.std.specs.List.{range_with_len}
use Rattle.postings.specs.Lists.{PostingLists}
use Rattle.postings.specs.Shown.{NamedSlots}
use Rattle.postings.specs.Tables.{slots_at}
use Rattle.index.specs.Fields.{names, span, name, earlier, count, slot}

abbrev pub row_slots : List ℕ → ℕ → List ℕ
row_slots bs i = map (slot bs) (range_with_len (earlier bs i) (count bs i))

abbrev pub posting : List ℕ → ℕ → NamedSlots
posting bs i = (name bs i, row_slots bs i)

unfoldable pub postings_of : List ℕ → List NamedSlots
postings_of bs = map (posting bs) (range_with_len 0 (names bs))

abbrev pub slots_for : List NamedSlots → List ℕ → List ℕ
slots_for rs n = slots_at (λ (x : NamedSlots). x.0) (λ (x : NamedSlots). x.1) rs n

abbrev pub posting_lists : List NamedSlots → ℕ → PostingLists
posting_lists rs l = record { slots = slots_for rs; span = l }

abbrev pub meaning : List ℕ → PostingLists
meaning bs = posting_lists (postings_of bs) (span bs)

abbrev pub nothing : PostingLists
nothing = posting_lists [] 0
