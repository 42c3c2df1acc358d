-- A search of a part of a list, where the test is settled outside of the part. Assumes nothing.
use Rattle.std.proofs.Common.{◌≡◌, ℕ, ◌+◌, ◌-◌, ◌<◌, ◌≤◌, Bool, true, false, List, length, get_or, drop, [], ◌∷◌, subst, ◌∙◌, ⊎_elim, arith}
use denote.Param.Members.{Mut}
use Rattle.std.specs.Fn.{Called, AlwaysReturns}
use Rattle.std.specs.List.{AllWithin, HoldsAt, slice_range}
use Rattle.std.specs.List.Sorted.{IsPartitionedBy, IsPartitionPoint}
use Rattle.std.proofs.lemmas.Bool.{cases_lt, false_from_ne_true, both_ways}
use Rattle.std.proofs.lemmas.List.{get_or_default, get_or-take, get_or-drop, length-take, length-drop}

-- one call of what always answers by P, and the calls after it
pub next_call : {F X R : Type 0} (g : Mut F X R) (P : X → R → Type 0) (f : F) (a : X) (r : R) (f' : F) → Called g f a r f' → AlwaysReturns g P f → P a r × AlwaysReturns g P f'
next_call g P f a r f' c h = ((h.at (a ∷ []) r f' c).0, record { at = λ xs. (h.at (a ∷ xs) r f' c).1 })

-- what holds of the element that was read holds at its place
pub held : {X : Type 0} (P : X → Type 0) (xs : List X) (i : ℕ) (x : X) → i < length xs → x ≡ get_or xs i x → P x → HoldsAt P xs i
held P xs i x l e h d = subst P (e ∙ get_or_default xs i x d l) h

module _ {X : Type 0} (p : X → Bool) (xs : List X) where
  -- in a list that the test parts, it holds below low, and fails from high on
  abbrev pub Between : ℕ → ℕ → Type 0
  Between low high = IsPartitionedBy p xs → AllWithin (λ y. p y ≡ true) xs 0 low × AllWithin (λ y. p y ≡ false) xs high (length xs)

  pub anywhere : Between 0 (length xs)
  anywhere parted = (λ k d a b. absurd (omega arith), λ k d a b. absurd (omega arith))

  pub raised : (low high at : ℕ) → at < length xs → HoldsAt (λ y. p y ≡ true) xs at → Between low high → Between (at + 1) high
  raised low high at l t b parted = (λ k d a m. parted k at d (omega arith) l (t d), (b parted).1)

  pub lowered : (low high at : ℕ) → HoldsAt (λ y. p y ≡ false) xs at → Between low high → Between low at
  lowered low high at f b parted = ((b parted).0, λ k d a m. false_from_ne_true _ (λ t. both_ways _ (f d) (parted at k d a m t)))

  module _ (low high : ℕ) (l : low ≤ high) (h : high ≤ length xs) where
    part_at : (k : ℕ) (d : X) → k < high - low → get_or (slice_range xs low high) k d ≡ get_or xs (low + k) d
    part_at k d m = get_or-take (high - low) (drop low xs) k d m ∙ get_or-drop low xs k d

    length_part : length (slice_range xs low high) ≡ high - low
    length_part = omega (arith, length-take (high - low) (drop low xs), length-drop low xs)

    part_parted : IsPartitionedBy p xs → IsPartitionedBy p (slice_range xs low high)
    part_parted parted i j d a m t =
        let n : j < high - low = omega (arith, length_part) in
        rw (part_at i d (omega arith)) (parted (low + i) (low + j) d (omega arith) (omega arith) (rw (part_at j d n) at t))

    -- what a search of the part finds, the whole has too
    pub found : (n : ℕ) → n ≤ length (slice_range xs low high) → Between low high → (IsPartitionedBy p (slice_range xs low high) → IsPartitionPoint (λ y. p y ≡ true) (λ y. p y ≡ false) (slice_range xs low high) n) → IsPartitionedBy p xs → IsPartitionPoint (λ y. p y ≡ true) (λ y. p y ≡ false) xs (low + n)
    found n within b answer parted =
        let part = answer (part_parted parted) in
        let m = length_part in
        let outside = b parted in (
          λ k d a c.
              ⊎_elim
              (λ (q : k < low). outside.0 k d a q)
              (λ (q : low ≤ k).
              let e : low + (k - low) ≡ k = omega arith in
              rw (← e, ← part_at (k - low) d (omega arith)) (part.0 (k - low) d (omega arith) (omega arith)))
              (cases_lt k low),
          λ k d a c.
              ⊎_elim
              (λ (q : k < high).
              let e : low + (k - low) ≡ k = omega arith in
              rw (← e, ← part_at (k - low) d (omega arith)) (part.1 (k - low) d (omega arith) (omega arith)))
              (λ (q : high ≤ k). outside.1 k d q c)
              (cases_lt k high),
        )
