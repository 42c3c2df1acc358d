-- What sealing a store does, of its names with their slots and of the posting lists that they are. Assumes nothing.
--
--   index_size    how many bytes the index of names with their slots has
--   Bytes         every number of a list is a byte
--   Sealed        of a buffer of which the front was overwritten by the index of a store:
--     spelled       the front is the names with their slots, and the length, written as an index
--     obeys         it obeys the layout
--     means         it means the store's posting lists: every name's slots, and the length
--     alone         no other bytes obey the layout and mean them
--     rest          the bytes past it are as they were
--   outcome       what sealing answers: the size, or a refusal where the buffer is shorter
--   Seals         that was answered, and the buffer is sealed, or as it was where it was refused
use Rattle.std.specs.Prelude.{◌≡◌, ℕ, ◌<◌, if◌then◌else◌, List, length, take, drop, Ok, Err, Result, MatchResult, nat_lt, slice_index}
use Rattle.postings.specs.Lists.{PostingLists}
use Rattle.postings.specs.Shown.{NamedSlots}
use Rattle.index.specs.declared.fields.TheConstants.{VERSION}
use Rattle.index.specs.declared.refusal.SealRefusal.{SealRefusal}
use Rattle.index.specs.declared.refusal.SealRefusal.TheVariants.{BufferTooShort}
use Rattle.index.specs.Layout.{Obeys}
use Rattle.index.specs.Meaning.{meaning}
use Rattle.index.specs.Spelling.{spelling, index_length, tally}

abbrev pub index_size : List NamedSlots → ℕ
index_size rs = index_length (length rs) (tally rs)

abbrev pub Bytes : List ℕ → Type 0
Bytes bs = (p : ℕ) → slice_index bs p < 256

pub record Sealed (rs : List NamedSlots) (p : PostingLists) (was out : List ℕ) : Type 0 where
  pub spelled : take (index_size rs) out ≡ spelling VERSION rs p.span
  pub obeys : Obeys (take (index_size rs) out)
  pub means : meaning (take (index_size rs) out) ≡ p
  pub alone : (bs : List ℕ) → Bytes bs → Obeys bs → meaning bs ≡ p → bs ≡ take (index_size rs) out
  pub rest : drop (index_size rs) out ≡ drop (index_size rs) was

abbrev pub outcome : List NamedSlots → List ℕ → Result ℕ SealRefusal
outcome rs was = if nat_lt (length was) (index_size rs) then Err BufferTooShort else Ok (index_size rs)

pub record Seals (rs : List NamedSlots) (p : PostingLists) (was out : List ℕ) (r : Result ℕ SealRefusal) : Type 0 where
  pub says : r ≡ outcome rs was
  pub written : MatchResult r (λ _. Sealed rs p was out) (λ _. out ≡ was)
