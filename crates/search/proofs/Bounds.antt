-- How many calls a query makes at most. Assumes nothing.
use Rattle.std.proofs.Common.{◌≡◌, ℕ, ◌+◌, ◌≤◌, List, [], ◌∷◌, length, arith}
use Rattle.std.proofs.lemmas.Bool.{cond_both}
use Rattle.extents.specs.declared.extent.Extent.{Extent}
use Rattle.operators.specs.Listing.{list_calls}
use Rattle.operators.proofs.Lawful.{operator_few}
use Rattle.query.specs.Expressions.{Expr, leaf, apply}
use Rattle.search.specs.Meaning.{Log, IsLawful, leaf_list, listed}
use Rattle.search.specs.Law.{each_one, is_stored, operand_calls, query_calls, most_calls, TakesFewCalls}
use Rattle.search.proofs.Sets.{meaning_listed}

-- one call for each extent, and one more
pub list_calls-one : (xs : List Extent) (k : ℕ) → list_calls (λ j. 1) k xs ≡ length xs + 1
list_calls-one [] k = omega arith
list_calls-one (x ∷ xs) k = omega (arith, list_calls-one xs (x.start + 1))

operand_few : (log : Log) → IsLawful log → (e : Expr) → operand_calls log e ≤ most_calls log e
operand_few log law (leaf l at) = cond_both (is_stored l) (length (leaf_list log l) + 1) 0 (λ n. n ≤ length (leaf_list log l) + 1) (λ h. omega arith) (λ h. omega arith)
operand_few log law (apply op at l r) =
    let few = operator_few (listed log l) (listed log r) (meaning_listed log law l).0 (meaning_listed log law r).0 each_one each_one (λ a k. omega arith) (λ a k. omega arith) op in
    omega (arith, operand_few log law l, operand_few log law r, few)

whole_few : (log : Log) → IsLawful log → (e : Expr) → query_calls log e ≤ most_calls log e
whole_few log law (leaf l at) = omega arith
whole_few log law (apply op at l r) = operand_few log law (apply op at l r)

pub query_few : (log : Log) → IsLawful log → TakesFewCalls log
query_few log law e = omega (arith, whole_few log law e)
