-- The layout of a sealed index: its rules, and which byte strings obey them. Assumes nothing.
--
--   count_before  the sum of the counts of the rows before i
--   name_bytes    a name, and zeros up to the size of its field
--   KeepsRows     each row's name is a name, and zeros fill its field (named, padded); the names strictly rise in byte order (ordered);
--                 each row gives the sum of the earlier counts, and has a slot or more (sums, some); the counts add up to the number of slots
--   KeepsSlots    within a row each slot is above the one before (rising), and none is above the last slot (bound)
--   KeepsLength   the length is one past the largest slot, or 0 where there is none (over, reached)
--   Keeps e       the rule whose breach the refusal e tells
--   Obeys         the bytes keep every rule
--   Breaks e      they break the rule of e, and keep every one with a lower number
--   IsJudged      what bytes are judged: to obey, or to break the rule of a refusal and none before it
--   IsTold        the same by number: nothing is told of bytes that obey, and of others the refusal of the first rule that they break
use Rattle.std.specs.Prelude.{◌≡◌, ℕ, zero, suc, ◌+◌, ◌-◌, ◌*◌, ◌<◌, ◌≤◌, true, List, ◌++◌, length, take, replicate, Option, Some, None, Result, MatchResult}
use Rattle.names.specs.Names.{is_name, before}
use Rattle.postings.specs.Lists.{last_slot}
use Rattle.refusals.specs.declared.Refusal.{Refusal}
use Rattle.index.specs.declared.fields.TheConstants.{MARK, VERSION, HEAD_SIZE, ROW_SIZE, SLOT_SIZE, NAME_SIZE}
use Rattle.index.specs.declared.refusal.OpenRefusal.{OpenRefusal}
use Rattle.index.specs.declared.refusal.OpenRefusal.TheVariants.{Short, Mark, Version, Size, Row, Slot, Span}
use Rattle.index.specs.Refusals.{open_number_of, open_refusal_of}
use Rattle.index.specs.Fields.{version, names, span, total, name_field, name, earlier, count, slot}

abbrev pub count_before : List ℕ → ℕ → ℕ
count_before bs zero = 0
count_before bs (suc i) = count_before bs i + count bs i

unfoldable pub name_bytes : List ℕ → List ℕ
name_bytes n = n ++ replicate (NAME_SIZE - length n) 0

pub record KeepsRows (bs : List ℕ) : Type 0 where
  pub named : (i : ℕ) → i < names bs → is_name (name bs i) ≡ true
  pub padded : (i : ℕ) → i < names bs → name_field bs i ≡ name_bytes (name bs i)
  pub ordered : (i : ℕ) → i + 1 < names bs → before (name bs i) (name bs (i + 1)) ≡ true
  pub sums : (i : ℕ) → i < names bs → earlier bs i ≡ count_before bs i
  pub some : (i : ℕ) → i < names bs → 1 ≤ count bs i
  pub all_counted : count_before bs (names bs) ≡ total bs

pub record KeepsSlots (bs : List ℕ) : Type 0 where
  pub rising : (i k : ℕ) → i < names bs → k + 1 < count bs i → slot bs (earlier bs i + k) < slot bs (earlier bs i + (k + 1))
  pub bound : (j : ℕ) → j < total bs → slot bs j ≤ last_slot

pub record KeepsLength (bs : List ℕ) : Type 0 where
  pub over : (j : ℕ) → j < total bs → slot bs j < span bs
  pub reached : 0 < span bs → (j : ℕ) × (j < total bs) × (slot bs j + 1 ≡ span bs)

abbrev pub Keeps : OpenRefusal → List ℕ → Type 0
Keeps Short bs = HEAD_SIZE ≤ length bs
Keeps Mark bs = take (length MARK) bs ≡ MARK
Keeps Version bs = version bs ≡ VERSION
Keeps Size bs = length bs ≡ HEAD_SIZE + ROW_SIZE * names bs + SLOT_SIZE * total bs
Keeps Row bs = KeepsRows bs
Keeps Slot bs = KeepsSlots bs
Keeps Span bs = KeepsLength bs

abbrev pub Obeys : List ℕ → Type 0
Obeys bs = (e : OpenRefusal) → Keeps e bs

abbrev pub Breaks : OpenRefusal → List ℕ → Type 0
Breaks e bs = (Keeps e bs → ⊥) × ((d : OpenRefusal) → open_number_of d < open_number_of e → Keeps d bs)

abbrev pub IsJudged : List ℕ → Result (Unit {0}) OpenRefusal → Type 0
IsJudged bs r = MatchResult r (λ _. Obeys bs) (λ e. Breaks e bs)

abbrev pub IsTold : List ℕ → Option Refusal → Type 0
IsTold bs None = Obeys bs
IsTold bs (Some r) = (e : OpenRefusal) × (r ≡ open_refusal_of e) × Breaks e bs
