-- The list of an expression has exactly its set. Assumes nothing.
use Rattle.std.proofs.Common.{◌≡◌, ℕ, List, [], ◌∷◌, map, refl, ap, ◌∙◌, inl, inr, ⊎_elim}
use Rattle.extents.specs.declared.extent.Extent.{Extent}
use Rattle.extents.specs.Extents.{Mem}
use Rattle.extents.specs.Regions.{Lists}
use Rattle.extents.specs.Runs.{runs_listed}
use Rattle.extents.specs.WindowLists.{windows_listed}
use Rattle.operators.proofs.Sets.{operator_listed}
use Rattle.query.specs.Leaves.{Leaf, name, windows, runs}
use Rattle.query.specs.Expressions.{leaf, apply}
use Rattle.search.specs.Meaning.{Log, IsLawful, point, Among, leaf_set, leaf_list, listed, MeansItsSet}
use Rattle.search.proofs.Points.{points_rise}

-- the points of slots
point_from : (ss : List ℕ) (e : Extent) → Mem e (map point ss) → (s : ℕ) × Among s ss × (e ≡ point s)
point_from [] e m = absurd m
point_from (s ∷ ss) e m = ⊎_elim (λ i. (s, inl refl, i)) (λ n. let r = point_from ss e n in (r.0, inr r.1, r.2)) m

point_to : (ss : List ℕ) (s : ℕ) (e : Extent) → Among s ss → e ≡ point s → Mem e (map point ss)
point_to [] s e a i = absurd a
point_to (t ∷ ss) s e a i = ⊎_elim (λ j. inl (i ∙ ap point j)) (λ b. inr (point_to ss s e b i)) a

leaf_listed : (log : Log) → IsLawful log → (l : Leaf) → Lists (leaf_set log l) (leaf_list log l)
leaf_listed log law (name n) = (
  points_rise log.lists law.lists n,
  λ e. (point_from (log.lists.slots n) e, λ h. point_to (log.lists.slots n) h.0 e h.1 h.2),
)
leaf_listed log law (windows n) = windows_listed (record { width = n; length = log.lists.span })
leaf_listed log law (runs d) = runs_listed d log.trace

pub meaning_listed : (log : Log) → IsLawful log → MeansItsSet log
meaning_listed log law (leaf l at) = leaf_listed log law l
meaning_listed log law (apply op at l r) = operator_listed (listed log l) (listed log r) (meaning_listed log law l) (meaning_listed log law r) op
