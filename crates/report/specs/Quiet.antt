-- The quiet reversals of a log, `[rev ; rev] !> (alarm | cut)`: those in which neither an alarm nor a cut lies. Assumes nothing.
--
--   rev_begin, rev_end, alarm, cut   the four names `[rev`, `rev]`, `alarm` and `cut`, as bytes
--   points p n           the slots of the name n in the postings p, each as an extent of one slot
--   quiet_of             the list, of the lists of the four names
--   quiet_reversals p    the list, of the postings p
--   QuietReversal p      the set
use Rattle.std.specs.Prelude.{ℕ, List, [], ◌∷◌, map}
use Rattle.postings.specs.Lists.{PostingLists}
use Rattle.extents.specs.declared.extent.Extent.{Extent}
use Rattle.extents.specs.declared.operator.Operator.TheVariants.{NotContaining, OneOf, FollowedBy}
use Rattle.extents.specs.Regions.{Members, operator_set}
use Rattle.operators.specs.Operators.{operator_list}
use Rattle.search.specs.Meaning.{point}

abbrev pub rev_begin : List ℕ
rev_begin = 91 ∷ 114 ∷ 101 ∷ 118 ∷ []

abbrev pub rev_end : List ℕ
rev_end = 114 ∷ 101 ∷ 118 ∷ 93 ∷ []

abbrev pub alarm : List ℕ
alarm = 97 ∷ 108 ∷ 97 ∷ 114 ∷ 109 ∷ []

abbrev pub cut : List ℕ
cut = 99 ∷ 117 ∷ 116 ∷ []

abbrev pub points : PostingLists → List ℕ → List Extent
points p n = map point (p.slots n)

abbrev pub quiet_of : (begins ends alarms cuts : List Extent) → List Extent
quiet_of begins ends alarms cuts = operator_list NotContaining (operator_list FollowedBy begins ends) (operator_list OneOf alarms cuts)

abbrev pub quiet_reversals : PostingLists → List Extent
quiet_reversals p = quiet_of (points p rev_begin) (points p rev_end) (points p alarm) (points p cut)

abbrev pub QuietReversal : PostingLists → Extent → Type 0
QuietReversal p =
    operator_set NotContaining
    (operator_set FollowedBy (Members (points p rev_begin)) (Members (points p rev_end)))
    (operator_set OneOf (Members (points p alarm)) (Members (points p cut)))
