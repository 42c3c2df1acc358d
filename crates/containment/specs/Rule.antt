-- How the calls of a walk over candidates are counted, as a rule over their whole list. Assumes nothing.
--
--   candidate o ls n       the candidate of ls that the key n asks for: on the way forward the first that starts, or ends, at or after it, and
--                          on the way back the last that starts, or ends, at or before it
--   first_key o k          the key that a walk begins with: a start on the way forward, an end on the way back
--   turn_calls n judge f o the calls of a walk that has made n calls to ask for a candidate, and was given o: with no candidate these; with one
--                          these and those of its judgement, and, where it is neither kept nor the last, what is taken from the next key on
--   ObeysRule o ls cl judge f     f gives the calls of the walk from each key: those of its turn
--   IsCounted o ls cl judge c     c gives those from each place, with the sum capped; no other counts obey the rule
use Rattle.std.specs.Prelude.{◌≡◌, ℕ, ◌+◌, List, Some, None, Option}
use Rattle.extents.specs.declared.access.Access.{Access}
use Rattle.extents.specs.declared.extent.Extent.{Extent}
use Rattle.extents.specs.Counts.{capped}
use Rattle.extents.specs.Extents.{first_start, first_end, last_end, last_start}
use Rattle.containment.specs.declared.verdict.Key.{Key}
use Rattle.containment.specs.declared.verdict.Key.TheVariants.{Start, End}
use Rattle.containment.specs.Filter.{Judgement, Order, Rising, Falling, ask, calls_on}

abbrev pub candidate : Order → List Extent → Key → Option Extent
candidate Rising ls (Start k) = first_start ls k
candidate Rising ls (End k) = first_end ls k
candidate Falling ls (Start k) = last_start ls k
candidate Falling ls (End k) = last_end ls k

abbrev pub first_key : Order → ℕ → Key
first_key Rising k = Start k
first_key Falling k = End k

abbrev pub turn_calls : ℕ → (Extent → Judgement) → (Key → ℕ) → Option Extent → ℕ
turn_calls n judge f None = n
turn_calls n judge f (Some x) = n + (judge x).cost + calls_on f (judge x).verdict

abbrev pub ObeysRule : Order → List Extent → (Access → ℕ → ℕ) → (Extent → Judgement) → (Key → ℕ) → Type 0
ObeysRule o ls cl judge f = (n : Key) → f n ≡ turn_calls (ask o cl n) judge f (candidate o ls n)

abbrev pub IsCounted : Order → List Extent → (Access → ℕ → ℕ) → (Extent → Judgement) → (ℕ → ℕ) → Type 0
IsCounted o ls cl judge c =
    (f : Key → ℕ) × ObeysRule o ls cl judge f × ((k : ℕ) → c k ≡ capped (f (first_key o k)))
    × ((g : Key → ℕ) → ObeysRule o ls cl judge g → (n : Key) → g n ≡ f n)
