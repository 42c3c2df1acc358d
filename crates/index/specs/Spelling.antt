-- How postings are written as the bytes of an index. Assumes nothing.
--
--   tally          how many slots a list of postings has
--   slots_of_all   those slots, of one posting after those of the other
--   head_bytes     the head, of a version, a number of names, a length and a number of slots
--   row_bytes      a row, of a name and a number of slots, where the earlier rows have so many
--   rows_bytes     a list of rows, told what is the name of each and what the number, where the earlier ones have so many
--   slots_bytes    a list of slots
--   spelling       the index: head, rows and slots, of a version, postings and a length
--   index_length   how many bytes the index of so many names and slots has
--   IsIndexable           postings and a length that an index can hold:
--     few, total     so few names and slots that their numbers have room in the head
--     named, some    each name is a name, and has a slot or more
--     ordered        the names strictly rise in byte order
--     rising         each name's slots strictly rise
--     over, reached  the length is one past the largest slot, or 0 where there is none
--     short          it is at most the longest log's
--   IsSpelled      bytes are written so, of some postings that fit
use Rattle.std.specs.Prelude.{◌≡◌, ℕ, ◌+◌, ◌*◌, ◌^◌, ◌<◌, ◌≤◌, true, List, [], ◌∷◌, ◌++◌, length, slice_index, slice_index_or, sum_by}
use Rattle.std.specs.List.{flat_map}
use Rattle.postings.specs.Lists.{longest}
use Rattle.names.specs.Names.{is_name, before}
use Rattle.postings.specs.Rising.{Rising}
use Rattle.index.specs.declared.fields.TheConstants.{MARK, VERSION, HEAD_SIZE, ROW_SIZE, SLOT_SIZE}
use Rattle.index.specs.Fields.{u16_bytes, u32_bytes}
use Rattle.index.specs.Layout.{name_bytes}
use Rattle.postings.specs.Shown.{NamedSlots}

abbrev pub tally : List NamedSlots → ℕ
tally rs = sum_by (λ r. length r.1) rs

abbrev pub slots_of_all : List NamedSlots → List ℕ
slots_of_all rs = flat_map (λ r. r.1) rs

abbrev pub head_bytes : ℕ → ℕ → ℕ → ℕ → List ℕ
head_bytes v n l t = MARK ++ (u16_bytes v ++ (u16_bytes n ++ (u32_bytes l ++ u32_bytes t)))

abbrev pub row_bytes : ℕ → List ℕ → ℕ → List ℕ
row_bytes e n c = name_bytes n ++ (u32_bytes e ++ u32_bytes c)

abbrev pub rows_bytes : {X : Type 0} → (X → List ℕ) → (X → ℕ) → ℕ → List X → List ℕ
rows_bytes name count e [] = []
rows_bytes name count e (r ∷ rs) = row_bytes e (name r) (count r) ++ rows_bytes name count (e + count r) rs

abbrev pub postings_bytes : ℕ → List NamedSlots → List ℕ
postings_bytes e rs = rows_bytes (λ r. r.0) (λ r. length r.1) e rs

abbrev pub slots_bytes : List ℕ → List ℕ
slots_bytes xs = flat_map u32_bytes xs

abbrev pub spelling : ℕ → List NamedSlots → ℕ → List ℕ
spelling v rs l = head_bytes v (length rs) l (tally rs) ++ (postings_bytes 0 rs ++ slots_bytes (slots_of_all rs))

abbrev pub index_length : ℕ → ℕ → ℕ
index_length names slots = HEAD_SIZE + ROW_SIZE * names + SLOT_SIZE * slots

abbrev pub no_posting : NamedSlots
no_posting = ([], [])

pub record IsIndexable (rs : List NamedSlots) (l : ℕ) : Type 0 where
  pub few : length rs < 2 ^ 16
  pub total : tally rs < 2 ^ 32
  pub short : l ≤ longest
  pub named : (i : ℕ) → i < length rs → is_name (slice_index_or rs i no_posting).0 ≡ true
  pub ordered : (i : ℕ) → i + 1 < length rs → before (slice_index_or rs i no_posting).0 (slice_index_or rs (i + 1) no_posting).0 ≡ true
  pub some : (i : ℕ) → i < length rs → 1 ≤ length (slice_index_or rs i no_posting).1
  pub rising : (i : ℕ) → i < length rs → Rising (slice_index_or rs i no_posting).1
  pub over : (i k : ℕ) → i < length rs → k < length (slice_index_or rs i no_posting).1 → slice_index (slice_index_or rs i no_posting).1 k < l
  pub reached : 0 < l → (i : ℕ) × (k : ℕ) × (i < length rs) × (k < length (slice_index_or rs i no_posting).1)
      × (slice_index (slice_index_or rs i no_posting).1 k + 1 ≡ l)

abbrev pub IsSpelled : List ℕ → Type 0
IsSpelled bs = (rs : List NamedSlots) × (l : ℕ) × IsIndexable rs l × (bs ≡ spelling VERSION rs l)
