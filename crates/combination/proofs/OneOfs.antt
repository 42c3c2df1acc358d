-- What the calls of the accesses to `one_of` find. Assumes nothing.
use Rattle.std.proofs.Common.{◌≡◌, ℕ, ◌≤◌, ◌⊎◌, List, Some, None, Option, nat_le, nat_lt, refl, sym, ap, inl, inr, ⊎_elim, arith}
use Rattle.std.proofs.lemmas.Bool.{leb-true, leb-false, ltb-true, ltb-false}
use Rattle.extents.specs.declared.extent.Extent.{Extent}
use Rattle.extents.specs.Extents.{Mem, ExtentList, first_start, last_end}
use Rattle.extents.specs.Finds.{by_test, mem_order}
use Rattle.extents.specs.Words.{first_start_is, last_end_is, no_first_start, no_last_end, first_start_none, last_end_none, first_start_some, last_end_some}
use Rattle.combination.specs.Leasts.{inside_both}
use Rattle.combination.specs.OneOf.{one_of, earlier_of, later_of}
use Rattle.combination.specs.OneOfs.{one_rising, one_least}

-- x ends before y, or with it and then starts no sooner
abbrev Beats : Extent → Extent → Type 0
Beats x y = (x.end ≤ y.end) × (y.end ≤ x.end → y.start ≤ x.start)

-- x starts after y, or with it and then ends no later
abbrev Tops : Extent → Extent → Type 0
Tops x y = (y.start ≤ x.start) × (x.start ≤ y.start → x.end ≤ y.end)

-- what an access finds: none exactly when it reaches no member, else a member that it reaches, and the best of those
abbrev Best : (Extent → Type 0) → (Extent → Extent → Type 0) → (Extent → Type 0) → Option Extent → Type 0
Best reach R In None = (z : Extent) → In z → reach z → ⊥
Best reach R In (Some x) = In x × reach x × ((z : Extent) → In z → reach z → R x z)

-- the better of two answers is the best of both lists
module _ (reach : Extent → Type 0) (R : Extent → Extent → Type 0) (trans : (x y z : Extent) → R x y → R y z → R x z) (pick : Option Extent → Option Extent → Option Extent) (right : (o : Option Extent) → pick None o ≡ o) (left : (x : Extent) → pick (Some x) None ≡ Some x) (better : (x y : Extent) → ((pick (Some x) (Some y) ≡ Some x) × R x y) ⊎ ((pick (Some x) (Some y) ≡ Some y) × R y x)) (ls rs : List Extent) where
  abbrev Either : Extent → Type 0
  Either z = Mem z ls ⊎ Mem z rs

  best_of : (o p : Option Extent) → Best reach R (λ z. Mem z ls) o → Best reach R (λ z. Mem z rs) p → Best reach R Either (pick o p)
  best_of None None a b = rw (right None) (λ z n l. ⊎_elim (λ m. a z m l) (λ m. b z m l) n)
  best_of None (Some y) a b = rw (right (Some y)) (inr b.0, b.1, λ z n l. ⊎_elim (λ m. absurd (a z m l)) (λ m. b.2 z m l) n)
  best_of (Some x) None a b = rw (left x) (inl a.0, a.1, λ z n l. ⊎_elim (λ m. a.2 z m l) (λ m. absurd (b z m l)) n)
  best_of (Some x) (Some y) a b =
      ⊎_elim
      (λ h. rw h.0 (inl a.0, a.1, λ z n l. ⊎_elim (λ m. a.2 z m l) (λ m. trans x y z h.1 (b.2 z m l)) n))
      (λ h. rw h.0 (inr b.0, b.1, λ z n l. ⊎_elim (λ m. trans y x z h.1 (a.2 z m l)) (λ m. b.2 z m l) n))
      (better x y)

beats : (x y z : Extent) → Beats x y → Beats y z → Beats x z
beats x y z p q = (omega arith, λ l. let a = p.1 (omega arith) in let b = q.1 (omega arith) in omega arith)

tops : (x y z : Extent) → Tops x y → Tops y z → Tops x z
tops x y z p q = (omega arith, λ l. let a = p.1 (omega arith) in let b = q.1 (omega arith) in omega arith)

earlier_better : (x y : Extent) → ((earlier_of (Some x) (Some y) ≡ Some x) × Beats x y) ⊎ ((earlier_of (Some x) (Some y) ≡ Some y) × Beats y x)
earlier_better x y =
    by_test (nat_lt x.end y.end)
    (λ t. let c = ltb-true x.end y.end t in inl (rw t, (omega arith, λ q. absurd (omega arith))))
    (λ t. by_test (nat_lt y.end x.end)
    (λ u. let c = ltb-true y.end x.end u in inr (rw (t, u), (omega arith, λ q. absurd (omega arith))))
    (λ u.
    let c = ltb-false x.end y.end t in
    let d = ltb-false y.end x.end u in
    by_test (nat_le y.start x.start)
    (λ r. let f = leb-true y.start x.start r in inl (rw (t, u, r), (omega arith, λ q. f)))
    (λ r. let f = leb-false y.start x.start r in inr (rw (t, u, r), (omega arith, λ q. omega arith)))))

later_better : (x y : Extent) → ((later_of (Some x) (Some y) ≡ Some x) × Tops x y) ⊎ ((later_of (Some x) (Some y) ≡ Some y) × Tops y x)
later_better x y =
    by_test (nat_lt y.start x.start)
    (λ t. let c = ltb-true y.start x.start t in inl (rw t, (omega arith, λ q. absurd (omega arith))))
    (λ t. by_test (nat_lt x.start y.start)
    (λ u. let c = ltb-true x.start y.start u in inr (rw (t, u), (omega arith, λ q. absurd (omega arith))))
    (λ u.
    let c = ltb-false y.start x.start t in
    let d = ltb-false x.start y.start u in
    by_test (nat_le x.end y.end)
    (λ r. let f = leb-true x.end y.end r in inl (rw (t, u, r), (omega arith, λ q. f)))
    (λ r. let f = leb-false x.end y.end r in inr (rw (t, u, r), (omega arith, λ q. omega arith)))))

-- what an access to one list finds is the best of it
first_best : (xs : List Extent) (k : ℕ) (o : Option Extent) → ExtentList xs → first_start xs k ≡ o → Best (λ z. k ≤ z.start) Beats (λ z. Mem z xs) o
first_best xs k None h e = λ z m l. no_first_start xs k z e m l
first_best xs k (Some x) h e =
    let w = first_start_is xs k x h e in (
      w.0,
      w.1,
      λ z m l.
          let u = w.2 z m l in
          (u.1, λ q. ⊎_elim (λ i. let s = ap (λ v. v.start) i in omega arith) (⊎_elim (λ b. absurd (omega arith)) (λ b. omega arith)) (mem_order xs x z h w.0 m)),
    )

last_best : (xs : List Extent) (k : ℕ) (o : Option Extent) → ExtentList xs → last_end xs k ≡ o → Best (λ z. z.end ≤ k) Tops (λ z. Mem z xs) o
last_best xs k None h e = λ z m l. no_last_end xs k z e m l
last_best xs k (Some x) h e =
    let w = last_end_is xs k x h e in (
      w.0,
      w.1,
      λ z m l.
          let u = w.2 z m l in
          (u.0, λ q. ⊎_elim (λ i. let s = ap (λ v. v.end) i in omega arith) (⊎_elim (λ b. omega arith) (λ b. absurd (omega arith))) (mem_order xs x z h w.0 m)),
    )

module _ (ls rs : List Extent) (hl : ExtentList ls) (hr : ExtentList rs) (k : ℕ) where
  -- the best of both lists is what an access to `one_of` finds
  first_of : (o : Option Extent) → Best (λ z. k ≤ z.start) Beats (λ z. Mem z ls ⊎ Mem z rs) o → o ≡ first_start (one_of ls rs) k
  first_of None f =
      sym (first_start_none (one_of ls rs) k (λ y m l. let v = ((one_least ls rs hl hr y).0 m).0 in let j = v.2 in f v.0 v.1 (omega arith)))
  first_of (Some e) w =
      sym (first_start_some (one_of ls rs) k e (one_rising ls rs hl hr)
      ((one_least ls rs hl hr e).1 (
        (e, w.0, (omega arith, omega arith)),
        λ g v i.
            let j = v.2 in
            let b = w.2 v.0 v.1 (omega arith) in
            let s = b.1 (omega arith) in
            inside_both g e i (omega arith, omega arith),
      ))
      w.1
      (λ y n t. let v = ((one_least ls rs hl hr y).0 n).0 in let j = v.2 in let b = w.2 v.0 v.1 (omega arith) in omega arith))

  last_of : (o : Option Extent) → Best (λ z. z.end ≤ k) Tops (λ z. Mem z ls ⊎ Mem z rs) o → o ≡ last_end (one_of ls rs) k
  last_of None f =
      sym (last_end_none (one_of ls rs) k (λ y m l. let v = ((one_least ls rs hl hr y).0 m).0 in let j = v.2 in f v.0 v.1 (omega arith)))
  last_of (Some e) w =
      sym (last_end_some (one_of ls rs) k e (one_rising ls rs hl hr)
      ((one_least ls rs hl hr e).1 (
        (e, w.0, (omega arith, omega arith)),
        λ g v i.
            let j = v.2 in
            let b = w.2 v.0 v.1 (omega arith) in
            let s = b.1 (omega arith) in
            inside_both g e i (omega arith, omega arith),
      ))
      w.1
      (λ y n t. let v = ((one_least ls rs hl hr y).0 n).0 in let j = v.2 in let b = w.2 v.0 v.1 (omega arith) in omega arith))

  pub one_first_is : earlier_of (first_start ls k) (first_start rs k) ≡ first_start (one_of ls rs) k
  one_first_is =
      first_of (earlier_of (first_start ls k) (first_start rs k))
      (best_of (λ z. k ≤ z.start) Beats beats earlier_of (λ o. refl) (λ x. refl) earlier_better ls rs (first_start ls k) (first_start rs k) (first_best ls k _ hl refl) (first_best rs k _ hr refl))

  pub one_last_is : later_of (last_end ls k) (last_end rs k) ≡ last_end (one_of ls rs) k
  one_last_is =
      last_of (later_of (last_end ls k) (last_end rs k))
      (best_of (λ z. z.end ≤ k) Tops tops later_of (λ o. refl) (λ x. refl) later_better ls rs (last_end ls k) (last_end rs k) (last_best ls k _ hl refl) (last_best rs k _ hr refl))
