-- What a store's index gives when it is opened again. Assumes nothing.
--
--   reopen_answer   what the opened index answers for a name and a slot, and its length: what the store would
use Rattle.std.specs.Prelude.{ℕ, if◌then◌else◌, List, length, Ok, Err, Option, Result, nat_lt}
use Rattle.postings.specs.Lists.{PostingLists}
use Rattle.postings.specs.Rising.{first_from}
use Rattle.postings.specs.Shown.{NamedSlots}
use Rattle.index.specs.declared.refusal.SealRefusal.{SealRefusal}
use Rattle.index.specs.declared.refusal.SealRefusal.TheVariants.{BufferTooShort}
use Rattle.index.specs.Sealing.{index_size}

abbrev pub reopen_answer : List NamedSlots → PostingLists → List ℕ → List ℕ → ℕ → Result (Option ℕ × ℕ) SealRefusal
reopen_answer rs p was name k = if nat_lt (length was) (index_size rs) then Err BufferTooShort else Ok (first_from k (p.slots name), p.span)
