-- Runs of rows and of slots, piece by piece. Assumes nothing.
use Rattle.std.proofs.Common.{◌≡◌, ℕ, ◌+◌, ◌-◌, ◌*◌, ◌<◌, ◌≤◌, List, [], ◌∷◌, ◌++◌, length, get_or, take, sum_by, replicate, sym, refl, ap, ◌∙◌, subst, arith}
use Rattle.std.specs.List.{AllByRecursion}
use Rattle.std.proofs.lemmas.List.{append_assoc, append-nil, length-append, length-replicate, length-take-le, take_more}
use Rattle.std.proofs.lemmas.List.Sums.{sum_by-cons}
use Rattle.index.specs.Fields.{count, earlier, name, u16_bytes, u32_bytes}
use Rattle.index.specs.Layout.{name_bytes}
use Rattle.index.specs.Spelling.{postings_bytes, row_bytes, rows_bytes, slots_bytes, slots_of_all, tally}
use Rattle.index.specs.Writing.{Writes}
use Rattle.postings.specs.Shown.{NamedSlots}
use Rattle.index.specs.declared.writer.Writer.{Writer}
use Rattle.index.proofs.Puts.{writes_then}

-- ---- lengths

pub length-u16_bytes : (v : ℕ) → length (u16_bytes v) ≡ 2
unfolding u16_bytes
length-u16_bytes v = refl

pub length-u32_bytes : (v : ℕ) → length (u32_bytes v) ≡ 4
unfolding u32_bytes
length-u32_bytes v = refl

-- a row whose name fits its field
abbrev pub IsShort : NamedSlots → Type 0
IsShort r = length r.0 ≤ 16

pub length-name_bytes : (n : List ℕ) → length n ≤ 16 → length (name_bytes n) ≡ 16
unfolding name_bytes
length-name_bytes n h = length-append n (replicate (16 - length n) 0) ∙ omega (arith, length-replicate {A = ℕ} (16 - length n) 0)

pub length-row_bytes : (e : ℕ) (r : NamedSlots) → IsShort r → length (row_bytes e r.0 (length r.1)) ≡ 24
length-row_bytes e r h =
    length-append (name_bytes r.0) (u32_bytes e ++ u32_bytes (length r.1))
    ∙ omega (arith, length-name_bytes r.0 h, length-append (u32_bytes e) (u32_bytes (length r.1)), length-u32_bytes e, length-u32_bytes (length r.1))

pub length-postings_bytes : (e : ℕ) (rs : List NamedSlots) → AllByRecursion IsShort rs → length (postings_bytes e rs) ≡ 24 * length rs
length-postings_bytes e [] h = refl
length-postings_bytes e (r ∷ rs) h =
    length-append (row_bytes e r.0 (length r.1)) (postings_bytes (e + length r.1) rs)
    ∙ omega (arith, length-row_bytes e r h.0, length-postings_bytes (e + length r.1) rs h.1)

pub length-slots_bytes : (xs : List ℕ) → length (slots_bytes xs) ≡ 4 * length xs
length-slots_bytes [] = refl
length-slots_bytes (x ∷ xs) = length-append (u32_bytes x) (slots_bytes xs) ∙ omega (arith, length-u32_bytes x, length-slots_bytes xs)

pub length-slots_of_all : (rs : List NamedSlots) → length (slots_of_all rs) ≡ tally rs
length-slots_of_all [] = refl
length-slots_of_all (r ∷ rs) = length-append r.1 (slots_of_all rs) ∙ omega (arith, length-slots_of_all rs, sum_by-cons (λ (r : NamedSlots). length r.1) r rs)

-- ---- one more

pub rows_bytes-push : {X : Type 0} (name : X → List ℕ) (count : X → ℕ) (e : ℕ) (rs : List X) (r : X) → rows_bytes name count e (rs ++ r ∷ []) ≡ rows_bytes name count e rs ++ row_bytes (e + sum_by count rs) (name r) (count r)
rows_bytes-push name count e [] r =
    let z : e + 0 ≡ e = omega arith in
    append-nil (row_bytes e (name r) (count r)) ∙ ap (λ n. row_bytes n (name r) (count r)) (sym z)
rows_bytes-push name count e (q ∷ rs) r =
    let z : (e + count q) + sum_by count rs ≡ e + sum_by count (q ∷ rs) = omega (arith, sum_by-cons count q rs) in
    ap (λ t. row_bytes e (name q) (count q) ++ t) (rows_bytes-push name count (e + count q) rs r ∙ ap (λ n. rows_bytes name count (e + count q) rs ++ row_bytes n (name r) (count r)) z)
    ∙ sym (append_assoc (row_bytes e (name q) (count q)) (rows_bytes name count (e + count q) rs) (row_bytes (e + sum_by count (q ∷ rs)) (name r) (count r)))

pub slots_bytes-append : (xs ys : List ℕ) → slots_bytes (xs ++ ys) ≡ slots_bytes xs ++ slots_bytes ys
slots_bytes-append [] ys = refl
slots_bytes-append (x ∷ xs) ys = ap (λ t. u32_bytes x ++ t) (slots_bytes-append xs ys) ∙ sym (append_assoc (u32_bytes x) (slots_bytes xs) (slots_bytes ys))

pub slots_bytes-push : (xs : List ℕ) (x : ℕ) → slots_bytes (xs ++ x ∷ []) ≡ slots_bytes xs ++ u32_bytes x
slots_bytes-push xs x = slots_bytes-append xs (x ∷ []) ∙ ap (λ t. slots_bytes xs ++ t) (append-nil (u32_bytes x))

-- ---- the turn of a loop that writes

module _ (u v w : Writer) where
  pub rows_more :
      {X : Type 0} (name : X → List ℕ) (count : X → ℕ) (rs : List X) (i : ℕ) (x : X) (earlier : ℕ) → i < length rs → x ≡ get_or rs i x →
      u.at + 24 * length rs ≤ length u.buffer.now → earlier ≡ sum_by count (take i rs) → v.at ≡ u.at + 24 * i → w.at ≡ v.at + 24 →
      Writes u v (rows_bytes name count 0 (take i rs)) → Writes v w (row_bytes earlier (name x) (count x)) → Writes u w (rows_bytes name count 0 (take (i + 1) rs))
  rows_more name count rs i x earlier l e room f m n p q =
      let t : earlier ≡ 0 + sum_by count (take i rs) = omega arith in
      let run = rows_bytes name count 0 in
      let g : run (take i rs) ++ row_bytes earlier (name x) (count x) ≡ run (take (i + 1) rs) =
      ap (λ y. run (take i rs) ++ row_bytes y (name x) (count x)) t ∙ sym (rows_bytes-push name count 0 (take i rs) x)
      ∙ ap run (ap (λ r. take i rs ++ r ∷ []) e ∙ sym (take_more rs i x l)) in
      subst (Writes u w) g (writes_then u v w (run (take i rs)) (row_bytes earlier (name x) (count x)) (omega (arith, p.at, q.at)) p q)

  pub slots_more :
      (xs : List ℕ) (k : ℕ) → k < length xs → u.at + 4 * length xs ≤ length u.buffer.now →
      Writes u v (slots_bytes (take k xs)) → Writes v w (u32_bytes (get_or xs k 0)) → Writes u w (slots_bytes (take (k + 1) xs))
  slots_more xs k l room p q =
      let n = length-slots_bytes (take k xs) in
      let m = length-take-le k xs (omega arith) in
      let b = length-u32_bytes (get_or xs k 0) in
      let g : slots_bytes (take k xs) ++ u32_bytes (get_or xs k 0) ≡ slots_bytes (take (k + 1) xs) = sym (slots_bytes-push (take k xs) (get_or xs k 0)) ∙ ap slots_bytes (sym (take_more xs k 0 l)) in
      subst (Writes u w) g (writes_then u v w (slots_bytes (take k xs)) (u32_bytes (get_or xs k 0)) (omega arith) p q)
