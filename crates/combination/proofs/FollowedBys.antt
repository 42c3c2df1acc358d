-- What the calls of the accesses to `followed` find. Assumes nothing.
use Rattle.std.proofs.Common.{◌≡◌, ℕ, ◌+◌, ◌-◌, ◌<◌, ◌≤◌, false, List, Some, None, Option, ◌==◌, sym, refl, ap, ⊎_elim, arith}
use Rattle.std.proofs.lemmas.Bool.{eqb-true, eqb-false}
use Rattle.extents.specs.declared.extent.Extent.{Extent}
use Rattle.extents.specs.Extents.{Mem, ExtentList, first_start, last_end}
use Rattle.extents.specs.Finds.{by_test, mem_order}
use Rattle.extents.specs.Words.{first_start_is, last_end_is, no_first_start, no_last_end, first_start_none, last_end_none, first_start_some, last_end_some}
use Rattle.combination.specs.Followed.{join, followed, followed_first_start, followed_last_end}
use Rattle.combination.specs.Followeds.{Joined, followed_rising, followed_least}
use Rattle.combination.specs.Leasts.{inside_both}
use Rattle.combination.proofs.Answered.{some_first_start, some_last_end}

module _ (ls rs : List Extent) (hl : ExtentList ls) (hr : ExtentList rs) (k : ℕ) where
  first_none_left : first_start ls k ≡ None → first_start (followed ls rs) k ≡ None
  first_none_left e =
      first_start_none (followed ls rs) k (λ y m l. let v = ((followed_least ls rs hl hr y).0 m).0 in no_first_start ls k v.0 e v.2 (omega arith))

  first_none_right : (x : Extent) → first_start ls k ≡ Some x → first_start rs (x.end + 1) ≡ None → first_start (followed ls rs) k ≡ None
  first_none_right x a e =
      let w = first_start_is ls k x hl a in
      first_start_none (followed ls rs) k
      (λ y m l.
      let v = ((followed_least ls rs hl hr y).0 m).0 in
      let u = w.2 v.0 v.2 (omega arith) in
      no_first_start rs (x.end + 1) v.1 e v.3 (omega arith))

  first_found : (x y z : Extent) → first_start ls k ≡ Some x → first_start rs (x.end + 1) ≡ Some y → last_end ls (y.start - 1) ≡ Some z → first_start (followed ls rs) k ≡ Some (join z y)
  first_found x y z ea eb ec =
      let fx = first_start_is ls k x hl ea in
      let fy = first_start_is rs (x.end + 1) y hr eb in
      let fz = last_end_is ls (y.start - 1) z hl ec in
      let xz = fz.2 x fx.0 (omega arith) in
      let late : (e : Extent) → (v : Joined ls rs e) → k ≤ e.start → (y.start ≤ v.1.start) × (y.end ≤ v.1.end) =
      λ e v l. let u = fx.2 v.0 v.2 (omega arith) in fy.2 v.1 v.3 (omega arith)
      in
      let here : Mem (join z y) (followed ls rs) =
      (followed_least ls rs hl hr (join z y)).1 (
        (z, y, fz.0, fy.0, omega arith, refl, refl),
        λ f v i.
            let l = late f v (omega arith) in
            let s : v.1.start ≤ y.start = ⊎_elim (λ j. let q = ap (λ w. w.start) j in omega arith) (⊎_elim (λ b. absurd (omega arith)) (λ b. omega arith)) (mem_order rs y v.1 hr fy.0 v.3) in
            let az = fz.2 v.0 v.2 (omega arith) in
            inside_both f (join z y) i (omega arith, omega arith),
      )
      in
      first_start_some (followed ls rs) k (join z y) (followed_rising ls rs hl hr) here (omega arith)
      (λ e n l. let v = ((followed_least ls rs hl hr e).0 n).0 in let q = late e v l in omega arith)

  -- the calls of the access find its answer
  pub followed_first_is : followed_first_start ls rs k ≡ first_start (followed ls rs) k
  followed_first_is = begin (first_start ls k) refl
    where
      go : (x : Extent) → first_start ls k ≡ Some x → (o : Option Extent) → first_start rs (x.end + 1) ≡ o → followed_first_start ls rs k ≡ first_start (followed ls rs) k
      go x e None f = rw (e, f) (sym (first_none_right x e f))
      go x e (Some y) f =
          let w = first_start_is rs (x.end + 1) y hr f in
          let near = some_last_end ls (y.start - 1) x (first_start_is ls k x hl e).0 (omega arith) in
          rw (e, f, near.1) (sym (first_found x y near.0 e f near.1))

      begin : (o : Option Extent) → first_start ls k ≡ o → followed_first_start ls rs k ≡ first_start (followed ls rs) k
      begin None e = rw e (sym (first_none_left e))
      begin (Some x) e = go x e (first_start rs (x.end + 1)) refl

  last_none_right : last_end rs k ≡ None → last_end (followed ls rs) k ≡ None
  last_none_right e =
      last_end_none (followed ls rs) k (λ y m l. let v = ((followed_least ls rs hl hr y).0 m).0 in no_last_end rs k v.1 e v.3 (omega arith))

  last_none_zero : (y : Extent) → last_end rs k ≡ Some y → y.start ≡ 0 → last_end (followed ls rs) k ≡ None
  last_none_zero y a z =
      let w = last_end_is rs k y hr a in
      last_end_none (followed ls rs) k
      (λ e m l. let v = ((followed_least ls rs hl hr e).0 m).0 in let u = w.2 v.1 v.3 (omega arith) in absurd (omega arith))

  last_none_left : (y : Extent) → last_end rs k ≡ Some y → last_end ls (y.start - 1) ≡ None → last_end (followed ls rs) k ≡ None
  last_none_left y a e =
      let w = last_end_is rs k y hr a in
      last_end_none (followed ls rs) k
      (λ f m l.
      let v = ((followed_least ls rs hl hr f).0 m).0 in
      let u = w.2 v.1 v.3 (omega arith) in
      no_last_end ls (y.start - 1) v.0 e v.2 (omega arith))

  last_found : (x y z : Extent) → last_end rs k ≡ Some y → 0 < y.start → last_end ls (y.start - 1) ≡ Some x → first_start rs (x.end + 1) ≡ Some z → last_end (followed ls rs) k ≡ Some (join x z)
  last_found x y z ea pos eb ec =
      let fy = last_end_is rs k y hr ea in
      let fx = last_end_is ls (y.start - 1) x hl eb in
      let fz = first_start_is rs (x.end + 1) z hr ec in
      let zy = fz.2 y fy.0 (omega arith) in
      let soon : (e : Extent) → (v : Joined ls rs e) → e.end ≤ k → (v.0.start ≤ x.start) × (v.0.end ≤ x.end) =
      λ e v l. let u = fy.2 v.1 v.3 (omega arith) in fx.2 v.0 v.2 (omega arith)
      in
      let here : Mem (join x z) (followed ls rs) =
      (followed_least ls rs hl hr (join x z)).1 (
        (x, z, fx.0, fz.0, omega arith, refl, refl),
        λ f v i.
            let l = soon f v (omega arith) in
            let s : x.end ≤ v.0.end = ⊎_elim (λ j. let q = ap (λ w. w.end) j in omega arith) (⊎_elim (λ b. omega arith) (λ b. absurd (omega arith))) (mem_order ls x v.0 hl fx.0 v.2) in
            let az = fz.2 v.1 v.3 (omega arith) in
            inside_both f (join x z) i (omega arith, omega arith),
      )
      in
      last_end_some (followed ls rs) k (join x z) (followed_rising ls rs hl hr) here (omega arith)
      (λ e n l. let v = ((followed_least ls rs hl hr e).0 n).0 in let q = soon e v l in omega arith)

  pub followed_last_is : followed_last_end ls rs k ≡ last_end (followed ls rs) k
  followed_last_is = begin (last_end rs k) refl
    where
      go : (y : Extent) → last_end rs k ≡ Some y → (y.start == 0) ≡ false → (o : Option Extent) → last_end ls (y.start - 1) ≡ o → followed_last_end ls rs k ≡ last_end (followed ls rs) k
      go y e z None f = rw (e, z, f) (sym (last_none_left y e f))
      go y e z (Some x) f =
          let nz = eqb-false y.start 0 z in
          let w = last_end_is ls (y.start - 1) x hl f in
          let near = some_first_start rs (x.end + 1) y (last_end_is rs k y hr e).0 (omega arith) in
          rw (e, z, f, near.1) (sym (last_found x y near.0 e (omega arith) f near.1))

      begin : (o : Option Extent) → last_end rs k ≡ o → followed_last_end ls rs k ≡ last_end (followed ls rs) k
      begin None e = rw e (sym (last_none_right e))
      begin (Some y) e =
          by_test (y.start == 0)
          (λ z. rw (e, z) (sym (last_none_zero y e (eqb-true y.start 0 z))))
          (λ z. go y e z (last_end ls (y.start - 1)) refl)
