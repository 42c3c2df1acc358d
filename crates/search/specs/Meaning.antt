-- What a query means over a log. Assumes nothing.
--
--   Log            a log: what its postings mean, and its trace of temperatures
--   point s        the slot s as an extent
--   Among s ss     s is one of the slots ss
--   leaf_set log l, leaf_list log l   the set of extents that the leaf l describes; the same as a list
--   denotes log e  the set of extents that the expression e describes
--   listed log e   the same as a list
--   over lists trace   a log of these postings and this trace
--   IsLawful log       its postings keep the law of a store
--   MeansItsSet log    every expression's list is its set
use Rattle.std.specs.Prelude.{◌≡◌, ℕ, ◌⊎◌, List, [], ◌∷◌, map, ℤ}
use Rattle.postings.specs.Lists.{PostingLists, Lawful}
use Rattle.extents.specs.declared.extent.Extent.{Extent}
use Rattle.extents.specs.Regions.{operator_set, Lists}
use Rattle.extents.specs.Trace.{hots, IsRun, runs_of}
use Rattle.extents.specs.Windows.{IsWindow, windows_of}
use Rattle.operators.specs.Operators.{operator_list}
use Rattle.query.specs.Leaves.{Leaf, name, windows, runs}
use Rattle.query.specs.Expressions.{Expr, leaf, apply}

pub record Log : Type 0 where
  pub lists : PostingLists
  pub trace : List ℤ

abbrev pub over : PostingLists → List ℤ → Log
over lists trace = record { lists = lists; trace = trace }

pub record IsLawful (log : Log) : Type 0 where
  pub lists : Lawful log.lists

abbrev pub point : ℕ → Extent
point s = record { start = s; end = s }

abbrev pub Among : ℕ → List ℕ → Type 0
Among s [] = ⊥
Among s (x ∷ xs) = (s ≡ x) ⊎ Among s xs

-- `#n` means windows of n slots within the log, `@d` runs at or above d degrees
abbrev pub leaf_set : Log → Leaf → Extent → Type 0
leaf_set log (name n) = λ e. (s : ℕ) × Among s (log.lists.slots n) × (e ≡ point s)
leaf_set log (windows n) = IsWindow n log.lists.span
leaf_set log (runs d) = IsRun (hots d log.trace)

abbrev pub leaf_list : Log → Leaf → List Extent
leaf_list log (name n) = map point (log.lists.slots n)
leaf_list log (windows n) = windows_of (record { width = n; length = log.lists.span })
leaf_list log (runs d) = runs_of d log.trace

abbrev pub denotes : Log → Expr → Extent → Type 0
denotes log (leaf l at) = leaf_set log l
denotes log (apply op at l r) = operator_set op (denotes log l) (denotes log r)

abbrev pub listed : Log → Expr → List Extent
listed log (leaf l at) = leaf_list log l
listed log (apply op at l r) = operator_list op (listed log l) (listed log r)

abbrev pub MeansItsSet : Log → Type 0
MeansItsSet log = (e : Expr) → Lists (denotes log e) (listed log e)
