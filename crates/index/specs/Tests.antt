-- Properties of the tests that judge bytes: what each tells, and when it holds. Assumes nothing.
--
--   RowsStand    every row passes its tests, and the counts add up to the number of slots
use Rattle.std.specs.Prelude.{◌≡◌, ℕ, zero, suc, ◌+◌, ◌-◌, ◌<◌, ◌≤◌, Bool, true, ◌||◌, List, length, IsTrue, ◌↔◌, ◌==◌, nat_eq, nat_lt, nat_le, slice_index, refl}
use Rattle.std.proofs.Common.{ap, subst, ⊎_elim, add-one, arith}
use Rattle.std.specs.List.{list_all}
use Rattle.std.proofs.lemmas.List.Recursion.{and_at, and_from_places}
use Rattle.std.proofs.lemmas.Bool.{and_parts, and_from, or_cases, or_left, or_right, eqb-true, eq-eqb, leb-true, le-leb, ltb-true, lt-ltb, cases_lt, cases_eq}
use Rattle.std.proofs.lemmas.Bool.Decides.{Decides-below_and}
use Rattle.names.specs.Names.{before}
use Rattle.postings.specs.Lists.{last_slot}
use Rattle.index.specs.Fields.{names, total, name_field, name, earlier, count, slot}
use Rattle.index.specs.Layout.{count_before, KeepsSlots}
use Rattle.index.specs.Verdict.{every_below, all_zero, name_stands, row_stands, rows_stand, slot_stands, run_stands, slots_stand}

every_below_decides : (test : ℕ → Bool) (n : ℕ) → IsTrue (every_below test n) ↔ ((k : ℕ) → k < n → test k ≡ true)
every_below_decides test n = Decides-below_and test (λ k. test k ≡ true) (every_below test) (λ k. (λ h. h, λ h. h)) refl (λ m. refl) n

pub all_zero_decides : (xs : List ℕ) → IsTrue (all_zero xs) ↔ ((k : ℕ) → k < length xs → slice_index xs k ≡ 0)
all_zero_decides xs = (
  λ h k l. eqb-true _ 0 (and_at (list_all (λ b. b == 0)) (λ b. b == 0) refl (λ _ _. refl) xs k 0 l h),
  λ h. and_from_places (list_all (λ b. b == 0)) (λ b. b == 0) refl (λ _ _. refl) xs 0 (λ k l. eq-eqb _ 0 (h k l)),
)

-- ---- neighbours, where each test asks for the one before

neighbour_tells : (R : ℕ → ℕ → Bool) (i : ℕ) → (i + 1 == 0 || R (i + 1 - 1) (i + 1)) ≡ true → R i (i + 1) ≡ true
neighbour_tells R i h =
    let e : i + 1 - 1 ≡ i = omega arith in
    ⊎_elim
    (λ (p : nat_eq (i + 1) 0 ≡ true). absurd (omega (arith, eqb-true _ _ p)))
    (λ (p : R (i + 1 - 1) (i + 1) ≡ true). subst (λ k. R k (i + 1) ≡ true) e p)
    (or_cases _ _ h)

neighbour_test : (R : ℕ → ℕ → Bool) (i n : ℕ) → i < n → ((k : ℕ) → k + 1 < n → R k (k + 1) ≡ true) → (i == 0 || R (i - 1) i) ≡ true
neighbour_test R i n l h =
    ⊎_elim
    (λ (p : i ≡ 0). or_left (i == 0) _ (eq-eqb i 0 p))
    (λ (p : i ≡ 0 → ⊥).
    let e : (i - 1) + 1 ≡ i = omega arith in
    or_right (i == 0) _ (subst (λ k. R (i - 1) k ≡ true) e (h (i - 1) (omega arith))))
    (cases_eq i 0)

-- what holds of each number and the next holds of each and every later one
pub later_from_next : (R : ℕ → ℕ → Type 0) (n : ℕ) → ((i j k : ℕ) → R i j → R j k → R i k) → ((k : ℕ) → k + 1 < n → R k (k + 1)) → (i j : ℕ) → i < j → j < n → R i j
later_from_next R n chain near i zero h l = absurd (omega arith)
later_from_next R n chain near i (suc j) h l =
    let next : R j (suc j) = subst (R j) (add-one j) (near j (omega arith)) in
    ⊎_elim
    (λ (m : i < j). chain i j (suc j) (later_from_next R n chain near i j m (omega arith)) next)
    (λ (m : j ≤ i). let e : j ≡ i = omega (arith, h) in subst (λ k. R k (suc j)) e next)
    (cases_lt i j)

-- ---- rows

-- the slots of a row come before those of every later one
pub counted_grows : (bs : List ℕ) (i n : ℕ) → i < n → count_before bs i + count bs i ≤ count_before bs n
counted_grows bs i zero l = absurd (omega arith)
counted_grows bs i (suc n) l =
    ⊎_elim
    (λ (h : i < n). omega (arith, counted_grows bs i n h))
    (λ (h : n ≤ i). let e : i ≡ n = omega (arith, l) in omega (arith, ap (λ j. count_before bs j + count bs j) e))
    (cases_lt i n)

pub record RowsStand (bs : List ℕ) : Type 0 where
  pub named : (i : ℕ) → i < names bs → name_stands (name_field bs i) ≡ true
  pub ordered : (i : ℕ) → i + 1 < names bs → before (name bs i) (name bs (i + 1)) ≡ true
  pub sums : (i : ℕ) → i < names bs → earlier bs i ≡ count_before bs i
  pub some : (i : ℕ) → i < names bs → 1 ≤ count bs i
  pub all_counted : count_before bs (names bs) ≡ total bs

pub rows_stand_decides : (bs : List ℕ) → IsTrue (rows_stand bs) ↔ RowsStand bs
unfolding rows_stand row_stands
rows_stand_decides bs =
    let each = every_below_decides (row_stands bs) (names bs) in
    let follows = λ (i j : ℕ). before (name bs i) (name bs j) in (
      λ h.
          let all = and_parts (every_below (row_stands bs) (names bs)) _ h in
          let field = λ (i : ℕ) (l : i < names bs). and_parts (name_stands (name_field bs i)) _ (each.0 all.0 i l) in
          let place = λ (i : ℕ) (l : i < names bs). and_parts (i == 0 || follows (i - 1) i) _ (field i l).1 in
          let sum = λ (i : ℕ) (l : i < names bs). and_parts (earlier bs i == count_before bs i) _ (place i l).1 in
          record {
            named = λ i l. (field i l).0;
            ordered = λ i l. neighbour_tells follows i (place (i + 1) l).0;
            sums = λ i l. eqb-true _ _ (sum i l).0;
            some = λ i l. leb-true _ _ (sum i l).1;
            all_counted = eqb-true _ _ all.1;
          },
      λ s.
          and_from _ _
          (each.1 (λ i l.
          and_from _ _ (s.named i l)
          (and_from _ _ (neighbour_test follows i (names bs) l s.ordered) (and_from _ _ (eq-eqb _ _ (s.sums i l)) (le-leb _ _ (s.some i l))))))
          (eq-eqb _ _ s.all_counted),
    )

-- the slots of a row lie among all slots
pub rows_within : (bs : List ℕ) → RowsStand bs → (i : ℕ) → i < names bs → earlier bs i + count bs i ≤ total bs
rows_within bs s i l = omega (arith, counted_grows bs i (names bs) l, s.all_counted, s.sums i l)

-- ---- slots

-- the row and the place in it of the j-th of all slots
pub located : (bs : List ℕ) (n j : ℕ) → j < count_before bs n → (i : ℕ) × (k : ℕ) × (i < n) × (k < count bs i) × (count_before bs i + k ≡ j)
located bs zero j h = absurd (omega arith)
located bs (suc n) j h =
    ⊎_elim
    (λ (l : j < count_before bs n). let p = located bs n j l in (p.0, p.1, omega (arith, p.2), p.3, p.4))
    (λ (l : count_before bs n ≤ j). (n, j - count_before bs n, omega arith, omega arith, omega arith))
    (cases_lt j (count_before bs n))

pub slots_stand_decides : (bs : List ℕ) → RowsStand bs → IsTrue (slots_stand bs) ↔ KeepsSlots bs
unfolding slots_stand run_stands slot_stands
slots_stand_decides bs rows =
    let each = every_below_decides (run_stands bs) (names bs) in
    let one = λ (i : ℕ). every_below_decides (slot_stands bs (earlier bs i)) (count bs i) in
    let rises = λ (i j k : ℕ). nat_lt (slot bs (earlier bs i + j)) (slot bs (earlier bs i + k)) in (
      λ h.
          let parts = λ (i k : ℕ) (l : i < names bs) (m : k < count bs i).
          and_parts (nat_le (slot bs (earlier bs i + k)) last_slot) (k == 0 || rises i (k - 1) k) ((one i).0 (each.0 h i l) k m) in
          record {
            bound = λ j l.
                let p = located bs (names bs) j (omega (arith, rows.all_counted)) in
                let e : earlier bs p.0 + p.1 ≡ j = omega (arith, rows.sums p.0 p.2, p.4) in
                subst (λ x. slot bs x ≤ last_slot) e (leb-true _ _ (parts p.0 p.1 p.2 p.3).0);
            rising = λ i k l m. ltb-true _ _ (neighbour_tells (rises i) k (parts i (k + 1) l m).1);
          },
      λ s.
          each.1 (λ i l.
          (one i).1 (λ k m.
          and_from _ _ (le-leb _ _ (s.bound (earlier bs i + k) (omega (arith, rows_within bs rows i l))))
          (neighbour_test (rises i) k (count bs i) m (λ q n. lt-ltb _ _ (s.rising i q l n))))),
    )
