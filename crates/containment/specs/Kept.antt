-- Lemmas: what the four operators keep is what they make of the sets that two lists have. Assumes nothing.
use Rattle.std.specs.Prelude.{◌≡◌, Bool, true, not, List}
use Rattle.extents.specs.declared.extent.Extent.{Extent}
use Rattle.extents.specs.declared.operator.Operator.TheVariants.{ContainedIn, NotContainedIn, Containing, NotContaining}
use Rattle.extents.specs.Extents.{Mem, inside_some}
use Rattle.extents.specs.Finds.{mem_kept, kept_mem, inside_from, inside_by}
use Rattle.extents.specs.Operated.{over_sets}
use Rattle.extents.specs.Regions.{Inside, SomeIn, Members, Iff, Lists, operator_set}
use Rattle.containment.specs.Filter.{kept}
use Rattle.containment.specs.Soundness.{kept_rising, holds_from, holds_by, not_by, not_of}
use Rattle.containment.specs.Verdicts.{holds_some, inside_none, holds_none}

-- members of what is kept, by what the test says
kept_iff : (keep : Extent → Bool) (P : Extent → Type 0) (ls : List Extent) → ((e : Extent) → Iff (keep e ≡ true) (P e)) → (e : Extent) → Iff (Mem e (kept keep ls)) (Mem e ls × P e)
unfolding kept
kept_iff keep P ls f e =
    (λ m. let r = mem_kept keep ls e m in (r.0, (f e).0 r.1), λ q. kept_mem keep ls e q.0 ((f e).1 q.1))

in_some : (rs : List Extent) (e : Extent) → Iff (inside_some rs e ≡ true) (SomeIn (Members rs) (λ b. Inside e b))
in_some rs e = (λ t. let r = inside_from rs e t in (r.0, r.1, (r.2, r.3)), λ q. inside_by rs e q.0 q.1 q.2.0 q.2.1)

has_some : (rs : List Extent) (e : Extent) → Iff (holds_some rs e ≡ true) (SomeIn (Members rs) (λ b. Inside b e))
has_some rs e = (λ t. let r = holds_from rs e t in (r.0, r.1, (r.2, r.3)), λ q. holds_by rs e q.0 q.1 q.2.0 q.2.1)

negated : (b : Bool) (P : Type 0) → Iff (b ≡ true) P → Iff (not b ≡ true) (P → ⊥)
negated b P f = (λ t q. not_of b t (f.1 q), λ n. not_by b (λ t. n (f.0 t)))

module _ {P Q : Extent → Type 0} (ls rs : List Extent) (h : Lists P ls) (k : Lists Q rs) where
  pub contained_in_means : Lists (operator_set ContainedIn P Q) (kept (inside_some rs) ls)
  contained_in_means = over_sets ContainedIn P Q ls rs _ h k (kept_rising _ ls h.0, kept_iff (inside_some rs) _ ls (in_some rs))

  pub not_contained_in_means : Lists (operator_set NotContainedIn P Q) (kept (inside_none rs) ls)
  not_contained_in_means = over_sets NotContainedIn P Q ls rs _ h k (kept_rising _ ls h.0, kept_iff (inside_none rs) _ ls (λ e. negated (inside_some rs e) _ (in_some rs e)))

  pub containing_means : Lists (operator_set Containing P Q) (kept (holds_some rs) ls)
  containing_means = over_sets Containing P Q ls rs _ h k (kept_rising _ ls h.0, kept_iff (holds_some rs) _ ls (has_some rs))

  pub not_containing_means : Lists (operator_set NotContaining P Q) (kept (holds_none rs) ls)
  not_containing_means = over_sets NotContaining P Q ls rs _ h k (kept_rising _ ls h.0, kept_iff (holds_none rs) _ ls (λ e. negated (holds_some rs e) _ (has_some rs e)))
