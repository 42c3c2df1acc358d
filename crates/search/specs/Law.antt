-- The law that a search follows: where it is refused, and how many calls it makes. An expression is run left operand, right operand,
-- operator. Assumes nothing.
--
--   Room                    how many extents the stack area and the scratch area have room for
--   Areas                   what the two areas hold
--   areas stack scratch     these two areas
--   room_of areas           how many extents they have room for
--   first_of                the first of two faults, if there is one
--   stacking base n at      n more extents over `base` stored ones, at the token's place
--   listing base n at       the same, listed to the scratch area first
--   is_stored l             whether the leaf l is stored when it is run: a name is, a `#` or an `@` is not
--   is_kept e               whether what an operand gives is stored: an operator's list is
--   stored_size log e       how many extents an operand leaves on the stack
--   operand_fault base e    where an operand is refused, with `base` extents stored below it
--   query_fault e           where a whole query is refused; a leaf that is the whole query and not stored is listed like an operator
--   trace_fault             a trace that is longer than the log
--   search_fault            where a search for a query is refused: its trace first
--   each_one                every access takes one call, as at a stored list, a `#` and an `@`
--   operator_listing        the calls that list an operator over two such lists
--   operand_calls           the calls of an operand: one for each extent of a leaf that is stored and one more, and each operator's listing
--   query_calls             the calls of a whole query: a leaf that is not stored is listed, by one call for each extent and one more
--   most_calls              a + 1 for each leaf of a extents, and 4 (a + b + 1) for each operator over a and b extents
--   TakesFewCalls log       no query's count is above its most_calls
use Rattle.std.specs.Prelude.{ℕ, ◌+◌, ◌*◌, ◌≤◌, Bool, true, false, if◌then◌else◌, List, length, Some, None, Option, nat_lt}
use Rattle.extents.specs.Counts.{capped}
use Rattle.extents.specs.declared.access.Access.{Access}
use Rattle.extents.specs.declared.extent.Extent.{Extent}
use Rattle.extents.specs.declared.operator.Operator.{Operator}
use Rattle.operators.specs.Operators.{operator_list, first_start_calls}
use Rattle.operators.specs.Listing.{list_calls}
use Rattle.query.specs.Leaves.{Leaf, name, windows, runs}
use Rattle.query.specs.Expressions.{Expr, leaf, apply}
use Rattle.search.specs.declared.fault.SearchFault.{SearchFault}
use Rattle.search.specs.declared.fault.SearchFault.TheVariants.{TraceOver, ListingOver, StackOver}
use Rattle.search.specs.Meaning.{Log, leaf_list, listed}

pub record Room : Type 0 where
  pub stack : ℕ
  pub scratch : ℕ

pub record Areas : Type 0 where
  pub stack : List Extent
  pub scratch : List Extent

abbrev pub areas : List Extent → List Extent → Areas
areas stack scratch = record { stack = stack; scratch = scratch }

abbrev pub room_of : Areas → Room
room_of a = record { stack = length a.stack; scratch = length a.scratch }

abbrev pub first_of : Option SearchFault → Option SearchFault → Option SearchFault
first_of None g = g
first_of (Some f) g = Some f

abbrev pub stacking : Room → ℕ → ℕ → ℕ → Option SearchFault
stacking room base n at = if nat_lt room.stack (base + n) then Some (StackOver at) else None

abbrev pub listing : Room → ℕ → ℕ → ℕ → Option SearchFault
listing room base n at = if nat_lt room.scratch n then Some (ListingOver at) else stacking room base n at

abbrev pub is_stored : Leaf → Bool
is_stored (name n) = true
is_stored (windows n) = false
is_stored (runs d) = false

abbrev pub is_kept : Expr → Bool
is_kept (leaf l at) = is_stored l
is_kept (apply op at l r) = true

abbrev pub stored_size : Log → Expr → ℕ
stored_size log e = if is_kept e then length (listed log e) else 0

abbrev pub operand_fault : Log → Room → ℕ → Expr → Option SearchFault
operand_fault log room base (leaf l at) = if is_stored l then stacking room base (length (leaf_list log l)) at else None
operand_fault log room base (apply op at l r) =
    first_of (operand_fault log room base l)
    (first_of (operand_fault log room (base + stored_size log l) r)
    (listing room base (length (listed log (apply op at l r))) at))

abbrev pub query_fault : Log → Room → Expr → Option SearchFault
query_fault log room (leaf l at) = if is_stored l then stacking room 0 (length (leaf_list log l)) at else listing room 0 (length (leaf_list log l)) at
query_fault log room (apply op at l r) = operand_fault log room 0 (apply op at l r)

abbrev pub trace_fault : Log → Option SearchFault
trace_fault log = if nat_lt log.lists.span (length log.trace) then Some TraceOver else None

abbrev pub search_fault : Log → Room → Expr → Option SearchFault
search_fault log room e = first_of (trace_fault log) (query_fault log room e)

abbrev pub each_one : Access → ℕ → ℕ
each_one a k = 1

abbrev pub operator_listing : Operator → List Extent → List Extent → ℕ
operator_listing op ls rs = list_calls (first_start_calls op ls each_one rs each_one) 0 (operator_list op ls rs)

abbrev pub operand_calls : Log → Expr → ℕ
operand_calls log (leaf l at) = if is_stored l then length (leaf_list log l) + 1 else 0
operand_calls log (apply op at l r) = operand_calls log l + operand_calls log r + operator_listing op (listed log l) (listed log r)

abbrev pub query_calls : Log → Expr → ℕ
query_calls log (leaf l at) = length (leaf_list log l) + 1
query_calls log (apply op at l r) = operand_calls log (apply op at l r)

abbrev pub most_calls : Log → Expr → ℕ
most_calls log (leaf l at) = length (leaf_list log l) + 1
most_calls log (apply op at l r) = most_calls log l + most_calls log r + 4 * (length (listed log l) + length (listed log r) + 1)

abbrev pub TakesFewCalls : Log → Type 0
TakesFewCalls log = (e : Expr) → capped (query_calls log e) ≤ most_calls log e
