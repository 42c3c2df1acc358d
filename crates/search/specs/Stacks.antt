-- Inner: the operand stack and the stack area, as what waits. No contract that another crate sees names these. Assumes nothing.
--
--   Topped        the last operand is what waits on top, over the part of the area that is stored of it, above those below it
--   Lies          the operands, and the part of the area that is stored of each, are what waits
--   Stacked       the operand stack and the area hold what waits, after so many calls
--   SomeStacked   they hold something
--   TakesOff      the operand on top gives these extents, and waits no more
--   Gives         something is answered, and leaves what waits, as its outcome says
--   Does          something is done, from all that the stack and the area can hold
--   Untouched     from the places on that the operand stack then tells, the areas are as they were; these places only rise
--   Stores        a list that was written to the scratch area is stored on top
use Rattle.std.specs.Prelude.{◌≡◌, ℕ, ◌≤◌, List, [], ◌∷◌, ◌++◌, length, take, drop, Ok, Err, Result}
use Rattle.extents.specs.declared.extent.Extent.{Extent}
use Rattle.extents.specs.Extents.{ExtentList}
use Rattle.extents.specs.Counts.{capped}
use Rattle.operators.specs.Listing.{list_calls}
use Rattle.search.specs.declared.fault.SearchFault.{SearchFault}
use Rattle.search.specs.declared.operand.Operand.{Operand}
use Rattle.search.specs.declared.stack.OperandStack.{OperandStack}
use Rattle.search.specs.Law.{Areas, areas, room_of}
use Rattle.search.specs.Run.{Pending, stored_part, pending_of, size, stored_total, Outcome, done, refused, store}

pub record Topped (area : List Extent) (operands : List Operand) (base : ℕ) (p : Pending) (Below : List Operand → Type 0) : Type 0 where
  pub below : List Operand
  pub top : Operand
  pub items : operands ≡ below ++ top ∷ []
  pub many : size top ≡ length (stored_part p)
  pub is : pending_of top (take (size top) (drop base area)) ≡ p
  pub rises : ExtentList p.extents
  pub rest : Below below

abbrev pub Lies : List Extent → List Operand → List Pending → Type 0
Lies area operands [] = operands ≡ []
Lies area operands (p ∷ ps) = Topped area operands (stored_total ps) p (λ below. Lies area below ps)

pub record Stacked (waiting : OperandStack) (area : List Extent) (ps : List Pending) (c : ℕ) : Type 0 where
  pub used : waiting.used ≡ stored_total ps
  pub calls : waiting.calls ≡ capped c
  pub fits : stored_total ps ≤ length area
  pub lies : Lies area waiting.operands.items ps

pub record SomeStacked (waiting : OperandStack) (area : List Extent) : Type 0 where
  pub waits : List Pending
  pub count : ℕ
  pub stacked : Stacked waiting area waits count

abbrev pub TakesOff : OperandStack → List Extent → List Extent → OperandStack → Type 0
TakesOff waiting area xs waiting' =
    (p : Pending) (ps : List Pending) (c : ℕ) → Stacked waiting area (p ∷ ps) c → (xs ≡ p.extents) × Stacked waiting' area ps c

abbrev pub Gives : Outcome → Result (Unit {0}) SearchFault → OperandStack → List Extent → Type 0
Gives (done ps c) r waiting area = (r ≡ Ok tt) × Stacked waiting area ps c
Gives (refused f) r waiting area = r ≡ Err f

abbrev pub Does : (List Pending → ℕ → Outcome) → OperandStack → List Extent → Result (Unit {0}) SearchFault → OperandStack → List Extent
    → Type 0
Does act waiting area r waiting' area' = (ps : List Pending) (c : ℕ) → Stacked waiting area ps c → Gives (act ps c) r waiting' area'

pub record Untouched (waiting waiting' : OperandStack) (was now : Areas) : Type 0 where
  pub stored : waiting.stored ≤ waiting'.stored
  pub listed : waiting.listed ≤ waiting'.listed
  pub stack_is : drop waiting'.stored now.stack ≡ drop waiting'.stored was.stack
  pub scratch_is : drop waiting'.listed now.scratch ≡ drop waiting'.listed was.scratch

pub record Stores (xs : List Extent) (calls : ℕ → ℕ) (at : ℕ) (was scratch : List Extent) (waiting : OperandStack) (area : List Extent)
    (r : Result (Unit {0}) SearchFault) (waiting' : OperandStack) (area' : List Extent) : Type 0 where
  pub does : Does (store (room_of (areas area was)) at xs (list_calls calls 0 xs)) waiting area r waiting' area'
  pub untouched : Untouched waiting waiting' (areas area was) (areas area' scratch)
