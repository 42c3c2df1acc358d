-- The list that each operator makes of two extent lists, and the calls that its accesses take. Assumes nothing.
--
--   operator_list op ls rs          the operator's list over the lists ls and rs
--   first_start_calls op ls cl rs cr k   the calls of its first start at k, where an access a at a key j to ls takes cl a j calls, and one to rs cr a j
--   last_end_calls op ls cl rs cr k      the calls of its last end at k
--   operator_calls op ls cl rs cr a k    the calls of the access a at k
use Rattle.std.specs.Prelude.{ℕ, List}
use Rattle.extents.specs.declared.access.Access.{Access}
use Rattle.extents.specs.declared.extent.Extent.{Extent}
use Rattle.extents.specs.declared.operator.Operator.{Operator}
use Rattle.extents.specs.declared.operator.Operator.TheVariants.{ContainedIn, NotContainedIn, Containing, NotContaining, BothOf, OneOf, FollowedBy}
use Rattle.extents.specs.Counts.{whole_calls}
use Rattle.extents.specs.Extents.{inside_some}
use Rattle.containment.specs.Filter.{kept, ahead_calls, behind_calls}
use Rattle.containment.specs.Verdicts.{holds_some, inside_none, holds_none, by_first_end, by_first_start, by_last_start, by_last_end, contained_in_ahead, not_contained_in_ahead, containing_ahead, not_containing_ahead, contained_in_behind, not_contained_in_behind, containing_behind, not_containing_behind}
use Rattle.combination.specs.BothOf.{both_of, both_first_start_calls, both_last_end_calls}
use Rattle.combination.specs.OneOf.{one_of, one_first_start_calls, one_last_end_calls}
use Rattle.combination.specs.Followed.{followed, followed_first_start_calls, followed_last_end_calls}

abbrev pub operator_list : Operator → List Extent → List Extent → List Extent
operator_list ContainedIn ls rs = kept (inside_some rs) ls
operator_list NotContainedIn ls rs = kept (inside_none rs) ls
operator_list Containing ls rs = kept (holds_some rs) ls
operator_list NotContaining ls rs = kept (holds_none rs) ls
operator_list BothOf ls rs = both_of ls rs
operator_list OneOf ls rs = one_of ls rs
operator_list FollowedBy ls rs = followed ls rs

abbrev pub first_start_calls : Operator → List Extent → (Access → ℕ → ℕ) → List Extent → (Access → ℕ → ℕ) → ℕ → ℕ
first_start_calls ContainedIn ls cl rs cr = ahead_calls ls cl (by_first_end contained_in_ahead rs cr)
first_start_calls NotContainedIn ls cl rs cr = ahead_calls ls cl (by_first_end not_contained_in_ahead rs cr)
first_start_calls Containing ls cl rs cr = ahead_calls ls cl (by_first_start containing_ahead rs cr)
first_start_calls NotContaining ls cl rs cr = ahead_calls ls cl (by_first_start not_containing_ahead rs cr)
first_start_calls BothOf ls cl rs cr = both_first_start_calls ls cl rs cr
first_start_calls OneOf ls cl rs cr = one_first_start_calls cl cr
first_start_calls FollowedBy ls cl rs cr = followed_first_start_calls ls cl rs cr

abbrev pub last_end_calls : Operator → List Extent → (Access → ℕ → ℕ) → List Extent → (Access → ℕ → ℕ) → ℕ → ℕ
last_end_calls ContainedIn ls cl rs cr = behind_calls ls cl (by_last_start contained_in_behind rs cr)
last_end_calls NotContainedIn ls cl rs cr = behind_calls ls cl (by_last_start not_contained_in_behind rs cr)
last_end_calls Containing ls cl rs cr = behind_calls ls cl (by_last_end containing_behind rs cr)
last_end_calls NotContaining ls cl rs cr = behind_calls ls cl (by_last_end not_containing_behind rs cr)
last_end_calls BothOf ls cl rs cr = both_last_end_calls ls cl rs cr
last_end_calls OneOf ls cl rs cr = one_last_end_calls cl cr
last_end_calls FollowedBy ls cl rs cr = followed_last_end_calls ls cl rs cr

abbrev pub operator_calls : Operator → List Extent → (Access → ℕ → ℕ) → List Extent → (Access → ℕ → ℕ) → Access → ℕ → ℕ
operator_calls op ls cl rs cr = whole_calls (operator_list op ls rs) (first_start_calls op ls cl rs cr) (last_end_calls op ls cl rs cr)
