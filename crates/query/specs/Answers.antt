-- What reading a text answers. Assumes nothing.
--
-- | definition      | meaning                                                                |
-- |-----------------|------------------------------------------------------------------------|
-- | Answered bs q   | the text bs is a query by the grammar and within the limits, and q is it: its steps are those of the expression in running order, it has few leaves, one step less than twice as many, and each leaf is in range |
-- | Complete bs r   | where the text is a query within the limits, r is that query           |
-- | Leftmost bs r   | where the text has a leftmost fault, r is that fault                   |
-- | Unambiguous bs  | the text says one thing at most                                        |
-- | Tells bs t      | what the text bs is told as: nothing where it is a query within the limits, else the number and the place of its leftmost fault |
-- | ToldAs bs t     | it is told as t, and as nothing else                                   |
use Rattle.std.specs.Prelude.{◌≡◌, ℕ, ◌+◌, ◌*◌, ◌≤◌, true, List, length, Some, None, Option, Err, Result, MatchResult}
use Rattle.refusals.specs.declared.Refusal.{Refusal}
use Rattle.query.specs.declared.fault.ReadFault.{ReadFault}
use Rattle.query.specs.declared.query.Query.{Query}
use Rattle.query.specs.Expressions.{Expr, postfix, leaves, all_in_range}
use Rattle.query.specs.Faults.{refusal_of}
use Rattle.query.specs.Limits.{leaf_max}
use Rattle.query.specs.Outcomes.{Reads, Refuses}
use Rattle.query.specs.Queries.{steps}

pub record Answered (bs : List ℕ) (q : Query) : Type 0 where
  pub expr : Expr
  pub reads : Reads bs expr
  pub order : steps q ≡ postfix expr
  pub few : leaves expr ≤ leaf_max
  pub long : length (postfix expr) + 1 ≡ 2 * leaves expr
  pub ranged : all_in_range expr ≡ true

abbrev pub Complete : List ℕ → Result Query ReadFault → Type 0
Complete bs r = (e : Expr) → Reads bs e → MatchResult r (λ q. steps q ≡ postfix e) (λ f. ⊥)

abbrev pub Leftmost : List ℕ → Result Query ReadFault → Type 0
Leftmost bs r = (f : ReadFault) → Refuses bs f → r ≡ Err f

abbrev pub Unambiguous : List ℕ → Type 0
Unambiguous bs = (e f : Expr) → Reads bs e → Reads bs f → e ≡ f

abbrev pub Tells : List ℕ → Option Refusal → Type 0
Tells bs None = (e : Expr) × Reads bs e
Tells bs (Some r) = (f : ReadFault) × Refuses bs f × (r ≡ refusal_of f)

pub record ToldAs (bs : List ℕ) (t : Option Refusal) : Type 0 where
  pub is : Tells bs t
  pub once : (u : Option Refusal) → Tells bs u → u ≡ t
