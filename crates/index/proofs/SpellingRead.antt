-- Written bytes obey the layout, and mean the rows that were written. Assumes nothing.
use Rattle.std.proofs.Common.{◌≡◌, ℕ, zero, suc, ◌+◌, ◌*◌, ◌<◌, ◌≤◌, List, ◌++◌, length, get_or, take, drop, sym, refl, ap, ◌∙◌, add-one, arith}
use Rattle.std.specs.List.{AllByRecursion}
use Rattle.std.proofs.ByRecursion.{All-from_get_or}
use Rattle.std.proofs.lemmas.List.{append_assoc, drop-drop, drop_at, take_at, drop_more, drop_all, take_all, length-append, ext_get_or}
use Rattle.std.proofs.lemmas.List.Sums.{sum_by_more, sum_by-take-le}
use Rattle.names.proofs.Names.{name_short}
use Rattle.index.specs.declared.fields.TheConstants.{MARK, VERSION}
use Rattle.index.specs.declared.refusal.OpenRefusal.TheVariants.{Short, Mark, Version, Size, Row, Slot, Span}
use Rattle.index.specs.Fields.{count, earlier, name, name_field, names, row_at, slot, span, total, trim, u16_at, u16_bytes, u32_at, u32_bytes, version}
use Rattle.index.specs.Layout.{KeepsLength, KeepsRows, KeepsSlots, Obeys, count_before, name_bytes}
use Rattle.index.specs.Meaning.{meaning, posting, posting_lists, postings_of, row_slots}
use Rattle.index.specs.Posted.{get_or_row, get_or_rows, length_row, length_rows}
use Rattle.index.specs.Spelling.{IsIndexable, no_posting, postings_bytes, row_bytes, slots_bytes, slots_of_all, spelling, tally}
use Rattle.index.specs.Tests.{located}
use Rattle.postings.specs.Shown.{NamedSlots}
use Rattle.index.proofs.Runs.{IsShort, length-u32_bytes, length-name_bytes, length-postings_bytes, length-slots_bytes, length-slots_of_all}
use Rattle.index.proofs.Numbers.{u16_at-bytes, u32_at-bytes}
use Rattle.index.proofs.ReadBack.{trim-name_bytes, rows_from, slots_from, slot_of_row}

module _ (rs : List NamedSlots) (s : ℕ) (fits : IsIndexable rs s) where
  bs : List ℕ
  bs = spelling VERSION rs s

  body : List ℕ
  body = postings_bytes 0 rs ++ slots_bytes (slots_of_all rs)

  shorts : AllByRecursion IsShort rs
  shorts = All-from_get_or IsShort rs no_posting (λ i l. name_short (get_or rs i no_posting).0 (fits.named i l))

  -- ---- the head

  from_body : drop 15 bs ≡ body
  unfolding bs body u16_bytes u32_bytes
  from_body = refl

  mark_is : take 3 bs ≡ MARK
  unfolding bs
  mark_is = refl

  version_is : version bs ≡ VERSION
  unfolding bs u16_at u16_bytes
  version_is = refl

  names_is : names bs ≡ length rs
  unfolding bs body u16_bytes u32_bytes
  names_is = u16_at-bytes bs (u32_bytes s ++ u32_bytes (tally rs) ++ body) 5 (length rs) fits.few refl

  span_is : span bs ≡ s
  unfolding bs body u16_bytes u32_bytes
  span_is = u32_at-bytes bs (u32_bytes (tally rs) ++ body) 7 s (omega (arith, fits.short)) refl

  total_is : total bs ≡ tally rs
  unfolding bs body u16_bytes u32_bytes
  total_is = u32_at-bytes bs body 11 (tally rs) fits.total refl

  size_is : length bs ≡ 15 + 24 * length rs + 4 * tally rs
  unfolding bs u16_bytes u32_bytes
  size_is =
      omega (arith, length-append (postings_bytes 0 rs) (slots_bytes (slots_of_all rs)), length-postings_bytes 0 rs shorts, length-slots_bytes (slots_of_all rs), length-slots_of_all rs)

  -- ---- rows

  from_row : (i : ℕ) → i ≤ length rs → drop (row_at i) bs ≡ postings_bytes (tally (take i rs)) (drop i rs) ++ slots_bytes (slots_of_all rs)
  unfolding body
  from_row i l =
      let z : 0 + tally (take i rs) ≡ tally (take i rs) = omega arith in
      sym (drop-drop (24 * i) 15 bs) ∙ ap (drop (24 * i)) from_body ∙ rows_from 0 rs (slots_bytes (slots_of_all rs)) i shorts l
      ∙ ap (λ n. postings_bytes n (drop i rs) ++ slots_bytes (slots_of_all rs)) z

  past : ℕ → List ℕ
  past i = postings_bytes (tally (take i rs) + length (get_or rs i no_posting).1) (drop (i + 1) rs) ++ slots_bytes (slots_of_all rs)

  at_row : (i : ℕ) → i < length rs → drop (row_at i) bs ≡ name_bytes (get_or rs i no_posting).0 ++ (u32_bytes (tally (take i rs)) ++ (u32_bytes (length (get_or rs i no_posting).1) ++ past i))
  unfolding past
  at_row i l =
      let r = get_or rs i no_posting in
      let e = tally (take i rs) in
      let more = postings_bytes (e + length r.1) (drop (i + 1) rs) in
      let end = slots_bytes (slots_of_all rs) in
      from_row i (omega arith)
      ∙ ap (λ t. postings_bytes e t ++ end) (drop_more rs i no_posting l)
      ∙ append_assoc (row_bytes e r.0 (length r.1)) more end
      ∙ append_assoc (name_bytes r.0) (u32_bytes e ++ u32_bytes (length r.1)) (more ++ end)
      ∙ ap (λ t. name_bytes r.0 ++ t) (append_assoc (u32_bytes e) (u32_bytes (length r.1)) (more ++ end))

  long_name : (i : ℕ) → i < length rs → length (name_bytes (get_or rs i no_posting).0) ≡ 16
  long_name i l = length-name_bytes (get_or rs i no_posting).0 (name_short (get_or rs i no_posting).0 (fits.named i l))

  field_is : (i : ℕ) → i < length rs → name_field bs i ≡ name_bytes (get_or rs i no_posting).0
  field_is i l = ap (take 16) (at_row i l) ∙ take_at (name_bytes (get_or rs i no_posting).0) _ 16 (long_name i l)

  name_is : (i : ℕ) → i < length rs → name bs i ≡ (get_or rs i no_posting).0
  unfolding name
  name_is i l = ap trim (field_is i l) ∙ trim-name_bytes (get_or rs i no_posting).0 (fits.named i l)

  tally_below : (i : ℕ) → i < length rs → tally (take i rs) + length (get_or rs i no_posting).1 ≤ tally rs
  tally_below i l = omega (arith, sum_by_more (λ (r : NamedSlots). length r.1) rs i no_posting l, sum_by-take-le (λ (r : NamedSlots). length r.1) rs (i + 1))

  earlier_is : (i : ℕ) → i < length rs → earlier bs i ≡ tally (take i rs)
  earlier_is i l =
      u32_at-bytes bs (u32_bytes (length (get_or rs i no_posting).1) ++ past i) (row_at i + 16) (tally (take i rs)) (omega (arith, tally_below i l, fits.total))
      (sym (drop-drop 16 (row_at i) bs) ∙ ap (drop 16) (at_row i l) ∙ drop_at (name_bytes (get_or rs i no_posting).0) _ 16 (long_name i l))

  count_is : (i : ℕ) → i < length rs → count bs i ≡ length (get_or rs i no_posting).1
  count_is i l =
      let p = name_bytes (get_or rs i no_posting).0 in
      let e = u32_bytes (tally (take i rs)) in
      let n : length (p ++ e) ≡ 20 = length-append p e ∙ omega (arith, long_name i l, length-u32_bytes (tally (take i rs))) in
      u32_at-bytes bs (past i) (row_at i + 20) (length (get_or rs i no_posting).1) (omega (arith, tally_below i l, fits.total))
      (sym (drop-drop 20 (row_at i) bs) ∙ ap (drop 20) (at_row i l ∙ sym (append_assoc p e (u32_bytes (length (get_or rs i no_posting).1) ++ past i))) ∙ drop_at (p ++ e) _ 20 n)

  counted_is : (i : ℕ) → i ≤ length rs → count_before bs i ≡ tally (take i rs)
  counted_is zero l = refl
  counted_is (suc i) l =
      let m : i < length rs = omega (arith, l) in
      omega (arith, counted_is i (omega arith), count_is i m, sum_by_more (λ (r : NamedSlots). length r.1) rs i no_posting m, ap (λ n. tally (take n rs)) (add-one i))

  -- ---- slots

  slot_is : (i k : ℕ) → i < length rs → k < length (get_or rs i no_posting).1 → slot bs (earlier bs i + k) ≡ get_or (get_or rs i no_posting).1 k 0
  slot_is i k l m =
      let xs = slots_of_all rs in
      let j = tally (take i rs) + k in
      let n = length-slots_of_all rs in
      let b : j < length xs = omega (arith, tally_below i l) in
      let v = slot_of_row rs i k no_posting l m in
      let e : row_at (names bs) + 4 * (earlier bs i + k) ≡ row_at (length rs) + 4 * j = omega (arith, names_is, earlier_is i l) in
      let f : drop (row_at (length rs)) bs ≡ slots_bytes xs =
      from_row (length rs) (omega arith) ∙ ap (λ t. postings_bytes (tally (take (length rs) rs)) t ++ slots_bytes xs) (drop_all (length rs) rs (omega arith)) in
      ap (u32_at bs) e
      ∙ u32_at-bytes bs (slots_bytes (drop (j + 1) xs)) (row_at (length rs) + 4 * j) (get_or xs j 0) (omega (arith, fits.over i k l m, fits.short))
      (sym (drop-drop (4 * j) (row_at (length rs)) bs) ∙ ap (drop (4 * j)) f ∙ slots_from xs j (omega arith) ∙ ap slots_bytes (drop_more xs j 0 b))
      ∙ v

  -- the j-th slot is the k-th of the i-th row
  slot_in : (j : ℕ) → j < total bs → (i : ℕ) × (k : ℕ) × (i < length rs) × (k < length (get_or rs i no_posting).1) × (slot bs j ≡ get_or (get_or rs i no_posting).1 k 0)
  slot_in j l =
      let c = counted_is (length rs) (omega arith) in
      let t = ap tally (take_all (length rs) rs (omega arith)) in
      let p = located bs (length rs) j (omega (arith, total_is)) in
      let m : p.1 < length (get_or rs p.0 no_posting).1 = omega (arith, p.3, count_is p.0 p.2) in
      let e : j ≡ earlier bs p.0 + p.1 = omega (arith, p.4, earlier_is p.0 p.2, counted_is p.0 (omega (arith, p.2))) in
      (p.0, p.1, p.2, m, ap (slot bs) e ∙ slot_is p.0 p.1 p.2 m)

  inside : (i k : ℕ) → i < length rs → k < length (get_or rs i no_posting).1 → earlier bs i + k < total bs
  inside i k l m = omega (arith, total_is, earlier_is i l, tally_below i l)

  -- ---- all of it

  rows_kept : KeepsRows bs
  rows_kept =
      let inside : (i : ℕ) → i < names bs → i < length rs = λ i l. omega (arith, names_is) in
      record {
        named = λ i l. rw (name_is i (inside i l)) (fits.named i (inside i l));
        padded = λ i l. field_is i (inside i l) ∙ ap name_bytes (sym (name_is i (inside i l)));
        ordered = λ i l. rw (name_is i (inside i (omega (arith, l))), name_is (i + 1) (inside (i + 1) l)) (fits.ordered i (inside (i + 1) l));
        sums = λ i l. let m = inside i l in earlier_is i m ∙ sym (counted_is i (omega arith));
        some = λ i l. let m = inside i l in omega (arith, count_is i m, fits.some i m);
        all_counted = ap (count_before bs) names_is ∙ counted_is (length rs) (omega arith) ∙ ap tally (take_all (length rs) rs (omega arith)) ∙ sym total_is;
      }

  slots_kept : KeepsSlots bs
  slots_kept =
      record {
        rising = λ i k l h.
            let m : i < length rs = omega (arith, names_is) in
            let q : k + 1 < length (get_or rs i no_posting).1 = omega (arith, count_is i m) in
            let p : k < length (get_or rs i no_posting).1 = omega arith in
            rw (slot_is i k m p, slot_is i (k + 1) m q) (fits.rising i m k (k + 1) (omega arith) q);
        bound = λ j l. let p = slot_in j l in omega (arith, p.4, fits.over p.0 p.1 p.2 p.3, fits.short);
      }

  length_kept : KeepsLength bs
  length_kept =
      record {
        over = λ j l. let p = slot_in j l in omega (arith, p.4, fits.over p.0 p.1 p.2 p.3, span_is);
        reached = λ l.
            let p = fits.reached (omega (arith, span_is)) in
            (earlier bs p.0 + p.1, inside p.0 p.1 p.2 p.3, omega (arith, slot_is p.0 p.1 p.2 p.3, p.4, span_is));
      }

  obeyed : Obeys bs
  obeyed Short = omega (arith, size_is)
  obeyed Mark = mark_is
  obeyed Version = version_is
  obeyed Size = omega (arith, size_is, names_is, total_is)
  obeyed Row = rows_kept
  obeyed Slot = slots_kept
  obeyed Span = length_kept

  row_is : (i : ℕ) → i < length rs → posting bs i ≡ get_or rs i no_posting
  row_is i l =
      let r = get_or rs i no_posting in
      let q : row_slots bs i ≡ r.1 =
      ext_get_or 0 (row_slots bs i) r.1 (length_row bs i ∙ count_is i l)
      (λ k h. let m : k < count bs i = omega (arith, length_row bs i) in get_or_row bs i k m ∙ slot_is i k l (omega (arith, count_is i l))) in
      ap (λ n. (n, row_slots bs i)) (name_is i l) ∙ ap (λ xs. (r.0, xs)) q

  rows_are : postings_of bs ≡ rs
  rows_are =
      ext_get_or no_posting (postings_of bs) rs (length_rows bs ∙ names_is)
      (λ i h. let m : i < names bs = omega (arith, length_rows bs) in get_or_rows bs i no_posting m ∙ row_is i (omega (arith, names_is)))

pub spelling_obeys : (rs : List NamedSlots) (s : ℕ) → IsIndexable rs s → Obeys (spelling VERSION rs s)
unfolding bs
spelling_obeys rs s o = obeyed rs s o

pub spelling_means : (rs : List NamedSlots) (s : ℕ) → IsIndexable rs s → meaning (spelling VERSION rs s) ≡ posting_lists rs s
unfolding bs
spelling_means rs s o = ap (λ ps. posting_lists ps (span (spelling VERSION rs s))) (rows_are rs s o) ∙ ap (posting_lists rs) (span_is rs s o)

pub length-spelling : (rs : List NamedSlots) (s : ℕ) → IsIndexable rs s → length (spelling VERSION rs s) ≡ 15 + 24 * length rs + 4 * tally rs
unfolding bs
length-spelling rs s o = size_is rs s o
