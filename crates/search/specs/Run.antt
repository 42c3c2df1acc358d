-- Inner: the steps of a query, one after the other. No contract that another crate sees names these. Assumes nothing.
--
--   log_of slots log   a log whose names have these slots
--   Pending       what waits for its operator: its extents, and whether they are stored
--   stored_part   what is stored of it
--   pending_of, size   what an operand is, over what is stored of it; how many extents that is
--   stored_total  how many extents are stored
--   Outcome       what waits and the calls so far, or a fault
--   unless, after   an outcome if there is no fault; what comes after an outcome that is no fault
--   store         a list, which took so many calls, is stored on top
--   operate, operate_on   an operator over two that wait; over the two on top
--   settle        what waits on top is stored, if it is not
--   step, run     one step; the steps in turn
--   left_by       what an expression leaves waiting
--   first_place   where the first token begins
use Rattle.std.specs.Prelude.{ℕ, ◌+◌, Bool, true, false, if◌then◌else◌, List, [], ◌∷◌, length, Some, None, Option}
use Rattle.extents.specs.declared.extent.Extent.{Extent}
use Rattle.extents.specs.declared.operator.Operator.{Operator}
use Rattle.operators.specs.Operators.{operator_list}
use Rattle.search.specs.declared.fault.SearchFault.{SearchFault}
use Rattle.search.specs.declared.run.Log.{Log as Log·}
use Rattle.search.specs.declared.operand.Operand.{Operand}
use Rattle.search.specs.declared.operand.Operand.TheVariants as code
use Rattle.query.specs.Expressions.{Expr, leaf, Act, take_leaf, apply_to, Step}
use Rattle.search.specs.Meaning.{Log, listed}
use Rattle.search.specs.Law.{Room, listing, is_kept, operand_fault, operand_calls, operator_listing}
use Rattle.search.specs.Sides.{side_list}

abbrev pub log_of : (List ℕ → List ℕ) → Log· → Log
log_of slots log = record { lists = record { slots = slots; span = log.span }; trace = log.trace.now }

pub record Pending : Type 0 where
  pub extents : List Extent
  pub stored : Bool

abbrev pub stored_part : Pending → List Extent
stored_part p = if p.stored then p.extents else []

abbrev pub pending_of : Operand → List Extent → Pending
pending_of (code.Stored n) xs = record { extents = xs; stored = true }
pending_of (code.Unstored side) xs = record { extents = side_list side; stored = false }

abbrev pub size : Operand → ℕ
size (code.Stored n) = n
size (code.Unstored side) = 0

abbrev pub left_by : Log → Expr → Pending
left_by log e = record { extents = listed log e; stored = is_kept e }

abbrev pub stored_total : List Pending → ℕ
stored_total [] = 0
stored_total (p ∷ ps) = stored_total ps + length (stored_part p)

pub data Outcome : Type 0 where
  done : List Pending → ℕ → Outcome
  refused : SearchFault → Outcome

abbrev pub unless : Option SearchFault → Outcome → Outcome
unless None o = o
unless (Some f) o = refused f

abbrev pub after : Outcome → (List Pending → ℕ → Outcome) → Outcome
after (done ps c) f = f ps c
after (refused e) f = refused e

abbrev pub store : Room → ℕ → List Extent → ℕ → List Pending → ℕ → Outcome
store room at xs calls ps c =
    unless (listing room (stored_total ps) (length xs) at) (done (record { extents = xs; stored = true } ∷ ps) (c + calls))

abbrev pub operate : Room → Operator → ℕ → Pending → Pending → List Pending → ℕ → Outcome
operate room op at a b = store room at (operator_list op a.extents b.extents) (operator_listing op a.extents b.extents)

abbrev pub operate_on : Room → Operator → ℕ → List Pending → ℕ → Outcome
operate_on room op at [] c = done [] c
operate_on room op at (b ∷ []) c = done (b ∷ []) c
operate_on room op at (b ∷ (a ∷ ps)) c = operate room op at a b ps c

abbrev pub settle : Room → ℕ → List Pending → ℕ → Outcome
settle room at [] c = done [] c
settle room at (p ∷ ps) c = if p.stored then done (p ∷ ps) c else store room at p.extents (length p.extents + 1) ps c

abbrev pub step : Log → Room → Act → ℕ → List Pending → ℕ → Outcome
step log room (take_leaf l) at ps c =
    unless (operand_fault log room (stored_total ps) (leaf l at)) (done (left_by log (leaf l at) ∷ ps) (c + operand_calls log (leaf l at)))
step log room (apply_to op) at ps c = operate_on room op at ps c

unfoldable pub run : Log → Room → List Step → List Pending → ℕ → Outcome
run log room [] ps c = done ps c
run log room (t ∷ ts) ps c = after (step log room t.0 t.1 ps c) (run log room ts)

abbrev pub first_place : List Step → ℕ
first_place [] = 0
first_place (t ∷ ts) = t.1
