-- What the refusals of opening and of sealing are told by. Assumes nothing.
--
--   open_number_of    the number of a refusal of opening
--   open_refusal_of   what it is told by
--   seal_number_of, seal_refusal_of   the same of a refusal of sealing
use Rattle.std.specs.Prelude.{ℕ}
use Rattle.refusals.specs.declared.Refusal.{Refusal}
use Rattle.refusals.specs.Refusals.{plain}
use Rattle.index.specs.declared.refusal.OpenRefusal.{OpenRefusal}
use Rattle.index.specs.declared.refusal.OpenRefusal.TheVariants.{Short, Mark, Version, Size, Row, Slot, Span}
use Rattle.index.specs.declared.refusal.SealRefusal.{SealRefusal}
use Rattle.index.specs.declared.refusal.SealRefusal.TheVariants.{BufferTooShort}

abbrev pub open_number_of : OpenRefusal → ℕ
open_number_of Short = 8
open_number_of Mark = 9
open_number_of Version = 10
open_number_of Size = 11
open_number_of Row = 12
open_number_of Slot = 13
open_number_of Span = 14

abbrev pub open_refusal_of : OpenRefusal → Refusal
open_refusal_of e = plain (open_number_of e)

abbrev pub seal_number_of : SealRefusal → ℕ
seal_number_of BufferTooShort = 7

abbrev pub seal_refusal_of : SealRefusal → Refusal
seal_refusal_of e = plain (seal_number_of e)
