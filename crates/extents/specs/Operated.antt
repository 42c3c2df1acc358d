-- Lemmas: what an operator makes of two sets hangs on their members alone. Assumes nothing.
use Rattle.std.specs.Prelude.{List}
use Rattle.std.proofs.Common.{inl, inr, ⊎_elim}
use Rattle.extents.specs.declared.extent.Extent.{Extent}
use Rattle.extents.specs.declared.operator.Operator.{Operator}
use Rattle.extents.specs.declared.operator.Operator.TheVariants.{ContainedIn, NotContainedIn, Containing, NotContaining, BothOf, OneOf, FollowedBy}
use Rattle.extents.specs.Regions.{SomeIn, Least, operator_set, Members, Iff, Lists}

abbrev Only : (Extent → Type 0) → (Extent → Type 0) → Type 0
Only A B = (e : Extent) → A e → B e

some_map : (A B P Q : Extent → Type 0) → Only A B → Only P Q → SomeIn A P → SomeIn B Q
some_map A B P Q f g s = (s.0, f s.0 s.1, g s.0 s.2)

least_map : (P Q : Extent → Type 0) → Only P Q → Only Q P → Only (Least P) (Least Q)
least_map P Q f g e l = (f e l.0, λ x q i. l.1 x (g x q) i)

operator_map : (op : Operator) (A B C D : Extent → Type 0) → Only A C → Only C A → Only B D → Only D B → Only (operator_set op A B) (operator_set op C D)
operator_map ContainedIn A B C D f f' g g' e h = (f e h.0, some_map B D _ _ g (λ x i. i) h.1)
operator_map NotContainedIn A B C D f f' g g' e h = (f e h.0, λ s. h.1 (some_map D B _ _ g' (λ x i. i) s))
operator_map Containing A B C D f f' g g' e h = (f e h.0, some_map B D _ _ g (λ x i. i) h.1)
operator_map NotContaining A B C D f f' g g' e h = (f e h.0, λ s. h.1 (some_map D B _ _ g' (λ x i. i) s))
operator_map BothOf A B C D f f' g g' e h =
    least_map _ _ (λ e h. (some_map A C _ _ f (λ x i. i) h.0, some_map B D _ _ g (λ x i. i) h.1))
    (λ e h. (some_map C A _ _ f' (λ x i. i) h.0, some_map D B _ _ g' (λ x i. i) h.1)) e h
operator_map OneOf A B C D f f' g g' e h =
    least_map _ _ (λ e h. ⊎_elim (λ s. inl (some_map A C _ _ f (λ x i. i) s)) (λ s. inr (some_map B D _ _ g (λ x i. i) s)) h)
    (λ e h. ⊎_elim (λ s. inl (some_map C A _ _ f' (λ x i. i) s)) (λ s. inr (some_map D B _ _ g' (λ x i. i) s)) h) e h
operator_map FollowedBy A B C D f f' g g' e h =
    least_map _ _ (λ e h. some_map A C _ _ f (λ a s. some_map B D _ _ g (λ x i. i) s) h) (λ e h. some_map C A _ _ f' (λ a s. some_map D B _ _ g' (λ x i. i) s) h) e h

-- a list of what an operator makes of two lists' members is one of what it makes of the sets that the two list
pub over_sets : (op : Operator) (P Q : Extent → Type 0) (ls rs xs : List Extent) → Lists P ls → Lists Q rs → Lists (operator_set op (Members ls) (Members rs)) xs → Lists (operator_set op P Q) xs
over_sets op P Q ls rs xs h k l =
    let f : Only (Members ls) P = λ e. (h.1 e).0 in
    let f' : Only P (Members ls) = λ e. (h.1 e).1 in
    let g : Only (Members rs) Q = λ e. (k.1 e).0 in
    let g' : Only Q (Members rs) = λ e. (k.1 e).1 in (
      l.0,
      λ e. (
        λ m. operator_map op (Members ls) (Members rs) P Q f f' g g' e ((l.1 e).0 m),
        λ h. (l.1 e).1 (operator_map op P Q (Members ls) (Members rs) f' f g' g e h),
      ),
    )

-- the least of one property are those of another that says the same
pub least_of : (P Q : Extent → Type 0) → ((e : Extent) → Iff (P e) (Q e)) → (xs : List Extent) → ((e : Extent) → Iff (Members xs e) (Least P e)) → (e : Extent) → Iff (Members xs e) (Least Q e)
least_of P Q f xs h e = (
  λ m. let l = (h e).0 m in ((f e).0 l.0, λ g q i. l.1 g ((f g).1 q) i),
  λ l. (h e).1 ((f e).1 l.0, λ g p i. l.1 g ((f g).0 p) i),
)
