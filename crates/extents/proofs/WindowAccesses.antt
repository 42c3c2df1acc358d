-- What an access finds among the windows. Assumes nothing.
use Rattle.std.proofs.Common.{◌≡◌, ℕ, zero, suc, ◌+◌, ◌-◌, ◌<◌, ◌≤◌, min, nat_le, reverse, Some, None, sym, ◌∙◌, arith}
use Rattle.std.proofs.lemmas.Bool.{leb-true, leb-false, le-leb, lt-leb}
use Rattle.extents.specs.declared.extent.Extent.{Extent}
use Rattle.extents.specs.declared.windows.Windows.{Windows}
use Rattle.extents.specs.Extents.{Mem, first_start, first_end, last_end, last_start}
use Rattle.extents.specs.Finds.{by_test, find_same, mem_reverse}
use Rattle.extents.specs.Windows.{IsWindow, window, many, windows_of}
use Rattle.extents.specs.WindowLists.{many_of, windows_listed, windows_rise}
use Rattle.extents.specs.Words.{first_start_none, first_start_some, last_end_none, last_start_none, last_start_some}

-- each place below the count has its window, and no window starts further on
is_window : (w n i : ℕ) → i < many w n → IsWindow w n (window w i)
is_window zero n i l = absurd (omega arith)
is_window (suc w) n i l = let c = many_of w n in (omega arith, omega arith, omega arith, omega arith)

starts_among : (w n : ℕ) (e : Extent) → IsWindow w n e → e.start < many w n
starts_among zero n e h = absurd (omega (arith, h.0))
starts_among (suc w) n e h = omega (arith, many_of w n, h.1, h.2, h.3)

module _ (s : Windows) where
  of_member : (y : Extent) → Mem y (windows_of s) → IsWindow s.width s.length y
  of_member y m = ((windows_listed s).1 y).0 m

  as_member : (i : ℕ) → i < many s.width s.length → Mem (window s.width i) (windows_of s)
  as_member i l = ((windows_listed s).1 (window s.width i)).1 (is_window s.width s.length i l)

  pub window_from : (i : ℕ) → i < many s.width s.length → first_start (windows_of s) i ≡ Some (window s.width i)
  window_from i l =
      first_start_some (windows_of s) i (window s.width i) (windows_rise s) (as_member i l) (omega arith)
      (λ y m b. let h = of_member y m in omega (arith, h.1))

  pub none_from : (i : ℕ) → many s.width s.length ≤ i → first_start (windows_of s) i ≡ None
  none_from i l =
      first_start_none (windows_of s) i (λ y m b. omega (arith, starts_among s.width s.length y (of_member y m)))

  pub window_up_to : (i last : ℕ) → many s.width s.length ≡ last + 1 → last_start (windows_of s) i ≡ Some (window s.width (min last i))
  window_up_to i last n =
      last_start_some (windows_of s) i (window s.width (min last i)) (windows_rise s) (as_member (min last i) (omega arith)) (omega arith)
      (λ y m b. omega (arith, starts_among s.width s.length y (of_member y m)))

  pub none_up_to : (i : ℕ) → many s.width s.length ≡ 0 → last_start (windows_of s) i ≡ None
  none_up_to i n =
      last_start_none (windows_of s) i (λ y m b. omega (arith, starts_among s.width s.length y (of_member y m)))

  -- the end at k is that of the window that starts a width before
  pub first_end_start : (k : ℕ) → first_end (windows_of s) k ≡ first_start (windows_of s) (k + 1 - s.width)
  unfolding first_end first_start
  first_end_start k =
      find_same (λ x. nat_le k x.end) (λ x. nat_le (k + 1 - s.width) x.start) (windows_of s)
      (λ y m.
      let h = of_member y m in
      by_test (nat_le k y.end)
      (λ t. t ∙ sym (le-leb _ _ (omega (arith, h.1, leb-true _ _ t))))
      (λ t. t ∙ sym (lt-leb _ _ (omega (arith, h.0, h.1, leb-false _ _ t)))))

  pub last_end_start : (k : ℕ) → s.width ≤ k + 1 → last_end (windows_of s) k ≡ last_start (windows_of s) (k + 1 - s.width)
  unfolding last_end last_start
  last_end_start k l =
      find_same (λ x. nat_le x.end k) (λ x. nat_le x.start (k + 1 - s.width)) (reverse (windows_of s))
      (λ y m.
      let h = of_member y (mem_reverse (windows_of s) y m) in
      by_test (nat_le y.end k)
      (λ t. t ∙ sym (le-leb _ _ (omega (arith, h.1, leb-true _ _ t))))
      (λ t. t ∙ sym (lt-leb _ _ (omega (arith, h.1, leb-false _ _ t)))))

  pub none_ends : (k : ℕ) → k + 1 < s.width → last_end (windows_of s) k ≡ None
  none_ends k l = last_end_none (windows_of s) k (λ y m b. let h = of_member y m in omega (arith, h.1))
