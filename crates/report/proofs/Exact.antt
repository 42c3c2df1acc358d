-- The list of the quiet reversals has exactly their set, and is no longer than the four lists together. Assumes nothing.
use Rattle.std.proofs.Common.{ℕ, ◌≤◌, List, length, arith}
use Rattle.extents.specs.declared.operator.Operator.TheVariants.{NotContaining, OneOf, FollowedBy}
use Rattle.extents.specs.Extents.{ExtentList}
use Rattle.extents.specs.Regions.{Lists, Members, operator_set}
use Rattle.extents.specs.Rising.{lists_itself}
use Rattle.operators.specs.Operators.{operator_list}
use Rattle.operators.proofs.Lawful.{operator_short}
use Rattle.operators.proofs.Sets.{operator_listed}
use Rattle.postings.specs.Lists.{PostingLists, Lawful}
use Rattle.search.proofs.Points.{points_rise}
use Rattle.report.specs.Law.{fetched_count}
use Rattle.report.specs.Quiet.{rev_begin, rev_end, alarm, cut, points, quiet_reversals, QuietReversal}

module _ (p : PostingLists) (law : Lawful p) where
  abbrev rises : (n : List ℕ) → ExtentList (points p n)
  rises = points_rise p law

  abbrev listed : (n : List ℕ) → Lists (Members (points p n)) (points p n)
  listed n = lists_itself (points p n) (rises n)

  reversals : Lists (operator_set FollowedBy (Members (points p rev_begin)) (Members (points p rev_end))) (operator_list FollowedBy (points p rev_begin) (points p rev_end))
  reversals = operator_listed (points p rev_begin) (points p rev_end) (listed rev_begin) (listed rev_end) FollowedBy

  marks : Lists (operator_set OneOf (Members (points p alarm)) (Members (points p cut))) (operator_list OneOf (points p alarm) (points p cut))
  marks = operator_listed (points p alarm) (points p cut) (listed alarm) (listed cut) OneOf

  pub quiet_listed : Lists (QuietReversal p) (quiet_reversals p)
  quiet_listed = operator_listed _ _ reversals marks NotContaining

  pub quiet_short : length (quiet_reversals p) ≤ fetched_count p
  quiet_short =
      omega (
        arith,
        operator_short (operator_list FollowedBy (points p rev_begin) (points p rev_end)) (operator_list OneOf (points p alarm) (points p cut)) reversals.0 marks.0 NotContaining,
        operator_short (points p rev_begin) (points p rev_end) (rises rev_begin) (rises rev_end) FollowedBy,
        operator_short (points p alarm) (points p cut) (rises alarm) (rises cut) OneOf,
      )
