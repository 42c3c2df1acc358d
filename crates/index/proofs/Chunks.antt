-- The rows and the slots, read from their own bytes. Assumes nothing.
use Rattle.std.proofs.Common.{◌≡◌, ℕ, zero, suc, ◌+◌, ◌*◌, ◌<◌, ◌≤◌, List, ◌∷◌, length, get_or, take, drop, refl, ap, ◌∙◌, arith}
use Rattle.std.specs.Simd.{first_chunks}
use Rattle.std.proofs.lemmas.List.{get_or-take, get_or-drop, length-take-le, length-drop, take-take, drop-drop, drop-take}
use Rattle.index.proofs.Numbers.{u32_at-chunk}
use Rattle.index.specs.Fields.{count, earlier, name, name_field, names, row_at, slot, total, trim, u32_at}
use Rattle.index.specs.Parts.{row_chunks, row_run, slot_chunks}

-- ---- chunks of n

length-first_chunks : {X : Type 0} (n k : ℕ) (xs : List X) → length (first_chunks n k xs) ≡ k
length-first_chunks n zero xs = refl
length-first_chunks n (suc k) xs = ap suc (length-first_chunks n k (drop n xs))

get_or-first_chunks : {X : Type 0} (n k : ℕ) (xs : List X) (i : ℕ) (d : List X) → i < k → get_or (first_chunks n k xs) i d ≡ take n (drop (n * i) xs)
get_or-first_chunks n zero xs i d l = absurd (omega arith)
get_or-first_chunks n (suc k) xs zero d l = let e : 0 ≡ n * 0 = omega arith in ap (λ m. take n (drop m xs)) e
get_or-first_chunks n (suc k) xs (suc i) d l =
    let e : n + n * i ≡ n * suc i = omega arith in
    get_or-first_chunks n k (drop n xs) i d (omega (arith, l)) ∙ ap (take n) (drop-drop (n * i) n xs ∙ ap (λ m. drop m xs) e)

pub first_chunks-take : {X : Type 0} (n k : ℕ) (xs : List X) → first_chunks n k (take (n * k) xs) ≡ first_chunks n k xs
first_chunks-take n zero xs = refl
first_chunks-take n (suc k) xs =
    let e : n * suc k ≡ n + n * k = omega arith in
    ap (λ m. first_chunks n (suc k) (take m xs)) e
    ∙ ap (λ t. t ∷ first_chunks n k (drop n (take (n + n * k) xs))) (take-take n (n + n * k) xs (omega arith))
    ∙ ap (λ t. take n xs ∷ first_chunks n k t) (drop-take n (n * k) xs)
    ∙ ap (λ cs. take n xs ∷ cs) (first_chunks-take n k (drop n xs))

-- ---- a row

-- the bytes of the row i
abbrev pub row_part : List ℕ → ℕ → List ℕ
row_part bs i = take 24 (drop (row_at i) bs)

-- the name in the bytes of a row
abbrev pub called : List ℕ → List ℕ
called row = trim (take 16 row)

module _ (bs : List ℕ) (i : ℕ) (row : List ℕ) (e : row ≡ row_part bs i) where
  pub field_read : take 16 row ≡ name_field bs i
  field_read = ap (take 16) e ∙ take-take 16 24 (drop (row_at i) bs) (omega arith)

  pub name_read : called row ≡ name bs i
  unfolding name
  name_read = ap trim field_read

  pub earlier_read : u32_at row 16 ≡ earlier bs i
  earlier_read = ap (λ r. u32_at r 16) e ∙ u32_at-chunk bs 24 (row_at i) 16 (omega arith)

  pub count_read : u32_at row 20 ≡ count bs i
  count_read = ap (λ r. u32_at r 20) e ∙ u32_at-chunk bs 24 (row_at i) 20 (omega arith)

-- ---- the rows, cut out

module _ (bs : List ℕ) (rows : List (List ℕ)) (e : rows ≡ row_chunks bs) where
  pub length_rows_cut : length rows ≡ names bs
  unfolding row_chunks
  length_rows_cut = ap length e ∙ length-first_chunks 24 (names bs) (drop 15 bs)

  pub row_read : (i : ℕ) (d : List ℕ) → i < length rows → get_or rows i d ≡ row_part bs i
  unfolding row_chunks
  row_read i d l =
      ap (λ rs. get_or rs i d) e
      ∙ get_or-first_chunks 24 (names bs) (drop 15 bs) i d (omega (arith, length_rows_cut))
      ∙ ap (take 24) (drop-drop (24 * i) 15 bs)

-- ---- the slots, cut out

module _ (bs : List ℕ) (slots : List (List ℕ)) (e : slots ≡ slot_chunks bs) where
  pub length_slots_cut : length slots ≡ total bs
  unfolding slot_chunks
  length_slots_cut = ap length e ∙ length-first_chunks 4 (total bs) (drop (row_at (names bs)) bs)

  pub slot_read : (j : ℕ) (d : List ℕ) → j < length slots → u32_at (get_or slots j d) 0 ≡ slot bs j
  unfolding slot_chunks
  slot_read j d l =
      let at = row_at (names bs) + 4 * j in
      ap (λ ss. u32_at (get_or ss j d) 0) e
      ∙ ap (λ s. u32_at s 0)
      (get_or-first_chunks 4 (total bs) (drop (row_at (names bs)) bs) j d (omega (arith, length_slots_cut)) ∙ ap (take 4) (drop-drop (4 * j) (row_at (names bs)) bs))
      ∙ u32_at-chunk bs 4 at 0 (omega arith)
      ∙ ap (u32_at bs) (let z : at + 0 ≡ at = omega arith in z)

  -- the slots of a row that lie among all slots
  module _ (i : ℕ) (row : List ℕ) (f : row ≡ row_part bs i) (inside : earlier bs i + count bs i ≤ total bs) where
    pub length_run : length (row_run slots row) ≡ count bs i
    length_run =
        simp (earlier_read bs i row f, count_read bs i row f)
        (length-take-le (count bs i) (drop (earlier bs i) slots) (omega (arith, length-drop (earlier bs i) slots, length_slots_cut)))

    pub run_read : (k : ℕ) (d : List ℕ) → k < count bs i → u32_at (get_or (row_run slots row) k d) 0 ≡ slot bs (earlier bs i + k)
    run_read k d l =
        simp (earlier_read bs i row f, count_read bs i row f)
        (ap (λ s. u32_at s 0) (get_or-take (count bs i) (drop (earlier bs i) slots) k d l ∙ get_or-drop (earlier bs i) slots k d)
        ∙ slot_read (earlier bs i + k) d (omega (arith, length_slots_cut)))
