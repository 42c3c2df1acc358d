-- How long the operators' lists are, and what it costs to list them, for every operator. Assumes nothing.
use Rattle.std.proofs.Common.{ℕ, ◌+◌, ◌*◌, ◌≤◌, Bool, List, length, arith}
use Rattle.extents.specs.declared.access.Access.{Access}
use Rattle.extents.specs.declared.access.Access.TheVariants.{FirstStart, FirstEnd}
use Rattle.extents.specs.declared.extent.Extent.{Extent}
use Rattle.extents.specs.declared.operator.Operator.{Operator}
use Rattle.extents.specs.declared.operator.Operator.TheVariants.{ContainedIn, NotContainedIn, Containing, NotContaining, BothOf, OneOf, FollowedBy}
use Rattle.extents.specs.Extents.{ExtentList, inside_some}
use Rattle.containment.specs.Filter.{kept, Judgement, JudgesAhead, ahead_calls}
use Rattle.containment.specs.Soundness.{contained_in_sound, not_contained_in_sound, containing_sound, not_containing_sound}
use Rattle.containment.specs.Verdicts.{holds_some, inside_none, holds_none, by_first_end, by_first_start, contained_in_ahead, not_contained_in_ahead, containing_ahead, not_containing_ahead}
use Rattle.operators.specs.Listing.{list_calls, Cheap}
use Rattle.operators.specs.Operators.{operator_list, first_start_calls}
use Rattle.operators.proofs.Bounds.{kept_length, one_length, followed_length, both_length, both_listing, one_listing, followed_listing, kept_listing}

module _ (ls rs : List Extent) (hl : ExtentList ls) (hr : ExtentList rs) where
  pub operator_short : (op : Operator) → length (operator_list op ls rs) ≤ length ls + length rs
  operator_short ContainedIn = kept_length (inside_some rs) ls rs hl
  operator_short NotContainedIn = kept_length (inside_none rs) ls rs hl
  operator_short Containing = kept_length (holds_some rs) ls rs hl
  operator_short NotContaining = kept_length (holds_none rs) ls rs hl
  operator_short BothOf = both_length ls rs hl hr
  operator_short OneOf = one_length ls rs hl hr
  operator_short FollowedBy = followed_length ls rs hl hr

  module _ (cl cr : Access → ℕ → ℕ) (p : Cheap cl) (q : Cheap cr) where
    few : (keep : Extent → Bool) (judge : Extent → Judgement) → JudgesAhead keep judge → ((x : Extent) → (judge x).cost ≤ 1) → list_calls (ahead_calls ls cl judge) 0 (kept keep ls) ≤ 4 * (length ls + length rs + 1)
    few keep judge s c = omega (arith, kept_listing keep ls hl cl judge s p c)

    pub operator_few : (op : Operator) → list_calls (first_start_calls op ls cl rs cr) 0 (operator_list op ls rs) ≤ 4 * (length ls + length rs + 1)
    operator_few ContainedIn = few (inside_some rs) (by_first_end contained_in_ahead rs cr) (contained_in_sound rs cr hr) (λ x. q FirstEnd x.end)
    operator_few NotContainedIn = few (inside_none rs) (by_first_end not_contained_in_ahead rs cr) (not_contained_in_sound rs cr hr) (λ x. q FirstEnd x.end)
    operator_few Containing = few (holds_some rs) (by_first_start containing_ahead rs cr) (containing_sound rs cr hr) (λ x. q FirstStart x.start)
    operator_few NotContaining = few (holds_none rs) (by_first_start not_containing_ahead rs cr) (not_containing_sound rs cr hr) (λ x. q FirstStart x.start)
    operator_few BothOf = both_listing ls rs hl hr cl cr p q
    operator_few OneOf = one_listing ls rs hl hr cl cr p q
    operator_few FollowedBy = followed_listing ls rs hl hr cl cr p q
