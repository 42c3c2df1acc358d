-- The list of each operator has exactly its set. Assumes nothing.
use Rattle.std.proofs.Common.{◌≡◌, ℕ, List, sym, ap, ◌∙◌, subst}
use Rattle.extents.specs.declared.access.Access.{Access}
use Rattle.extents.specs.declared.extent.Extent.{Extent}
use Rattle.extents.specs.declared.extent.Found.{Found}
use Rattle.extents.specs.declared.operator.Operator.{Operator}
use Rattle.extents.specs.declared.operator.Operator.TheVariants.{ContainedIn, NotContainedIn, Containing, NotContaining, BothOf, OneOf, FollowedBy}
use Rattle.extents.proofs.Answered.{answered}
use Rattle.extents.specs.Accesses.{Answer, access_answer}
use Rattle.extents.specs.Regions.{Lists, operator_set}
use Rattle.containment.specs.Kept.{contained_in_means, not_contained_in_means, containing_means, not_containing_means}
use Rattle.combination.specs.Followeds.{followed_means}
use Rattle.combination.specs.Hulls.{both_means}
use Rattle.combination.specs.OneOfs.{one_means}
use Rattle.operators.specs.Operators.{operator_list}

module _ {P Q : Extent → Type 0} (ls rs : List Extent) (h : Lists P ls) (k : Lists Q rs) where
  pub operator_listed : (op : Operator) → Lists (operator_set op P Q) (operator_list op ls rs)
  operator_listed ContainedIn = contained_in_means ls rs h k
  operator_listed NotContainedIn = not_contained_in_means ls rs h k
  operator_listed Containing = containing_means ls rs h k
  operator_listed NotContaining = not_containing_means ls rs h k
  operator_listed BothOf = both_means ls rs h k
  operator_listed OneOf = one_means ls rs h k
  operator_listed FollowedBy = followed_means ls rs h k

-- what an access finds in a list of a set is its answer over the set, and its calls are those of the access that was met
pub found_answered : {P : Extent → Type 0} (xs : List Extent) → Lists P xs → (calls : Access → ℕ → ℕ) (a met : Access) → a ≡ met → (k : ℕ) (r : Found) → r.extent ≡ access_answer met xs k → r.calls ≡ calls met k → Answer a k P r.extent × (r.calls ≡ calls a k)
found_answered {P} xs h calls a met is k r e n =
    (subst (Answer a k P) (sym (e ∙ ap (λ m. access_answer m xs k) (sym is))) (answered a k P xs h), n ∙ ap (λ m. calls m k) (sym is))
