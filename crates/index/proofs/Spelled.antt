-- Bytes that obey the layout are some postings, written as an index; so no two byte strings obey it and mean the same. Assumes nothing.
use Rattle.std.proofs.Common.{◌≡◌, ℕ, zero, suc, ◌+◌, ◌*◌, ◌^◌, ◌<◌, ◌≤◌, List, [], ◌++◌, map, length, get_or, take, drop, sym, refl, ap, ◌∙◌, subst, ⊎_elim, add-one, arith, ◌↔◌, IsOk}
use Rattle.std.specs.Int.{w16, w32, from_le_bytes}
use Rattle.std.specs.List.{range_with_len}
use Rattle.std.proofs.lemmas.Nat.{le_bytes_2, le_bytes_4}
use Rattle.std.proofs.lemmas.List.{append_assoc, append-nil, get_or-take, get_or-drop, get_or_past, length-take, length-take-le, length-drop, take-append-drop, drop-drop, drop_all}
use Rattle.std.proofs.lemmas.List.Sums.{sum_by-cons}
use Rattle.std.proofs.lemmas.Bool.{cases_lt}
use Rattle.postings.specs.Lists.{PostingLists}
use Rattle.index.specs.declared.fields.TheConstants.{MARK, VERSION}
use Rattle.index.specs.declared.refusal.OpenRefusal.TheVariants.{Mark, Version, Size, Row, Span}
use Rattle.index.specs.Fields.{count, earlier, name, names, row_at, slot, span, total, u16_at, u16_bytes, u32_at, u32_bytes}
use Rattle.index.specs.Layout.{Obeys, count_before, name_bytes}
use Rattle.index.specs.Meaning.{meaning, posting, postings_of, row_slots}
use Rattle.index.specs.Obeyed.{verdict_decides}
use Rattle.index.specs.Posted.{get_or_row, get_or_rows, length_row, length_rows, meaning_lawful, row_below, row_rises, row_within}
use Rattle.index.specs.Sealing.{Bytes}
use Rattle.index.specs.Spelling.{IsIndexable, IsSpelled, head_bytes, no_posting, postings_bytes, row_bytes, slots_bytes, slots_of_all, spelling, tally}
use Rattle.index.specs.Tests.{located}
use Rattle.index.specs.Verdict.{verdict}
use Rattle.postings.specs.Shown.{NamedSlots}
use Rattle.index.proofs.Numbers.{from_two, from_four}
use Rattle.index.proofs.Runs.{slots_bytes-append}
use Rattle.index.proofs.Tables.{rows_ranked, ranked_same}
use Rattle.index.proofs.SpellingRead.{spelling_obeys}

pub bytes_take : (n : ℕ) (xs : List ℕ) → Bytes xs → Bytes (take n xs)
bytes_take n xs h p =
    ⊎_elim
    (λ (l : p < n). rw (get_or-take n xs p 0 l) (h p))
    (λ (l : n ≤ p). omega (arith, get_or_past (take n xs) p 0 (omega (arith, length-take n xs))))
    (cases_lt p n)

module _ (bs : List ℕ) (octets : Bytes bs) where
  part : (p n : ℕ) → Bytes (take n (drop p bs))
  part p n = bytes_take n (drop p bs) (λ k. rw (get_or-drop p bs k 0) (octets (p + k)))

  -- what stands from p on: n bytes, and what stands from q on
  from : (p n q : ℕ) → q ≡ p + n → drop p bs ≡ take n (drop p bs) ++ drop q bs
  from p n q e = sym (take-append-drop n (drop p bs)) ∙ ap (λ t. take n (drop p bs) ++ t) (drop-drop n p bs ∙ ap (λ k. drop k bs) (sym e))

  from_u16 : (p q : ℕ) → q ≡ p + 2 → q ≤ length bs → drop p bs ≡ u16_bytes (u16_at bs p) ++ drop q bs
  unfolding u16_at u16_bytes
  from_u16 p q e l =
      from p 2 q e
      ∙ ap (λ t. t ++ drop q bs) (sym (le_bytes_2 (take 2 (drop p bs)) (from_le_bytes w16 (drop p bs)) (length-take-le 2 (drop p bs) (omega (arith, length-drop p bs))) (part p 2) (from_two (drop p bs))))

  from_u32 : (p q : ℕ) → q ≡ p + 4 → q ≤ length bs → drop p bs ≡ u32_bytes (u32_at bs p) ++ drop q bs
  unfolding u32_at u32_bytes
  from_u32 p q e l =
      from p 4 q e
      ∙ ap (λ t. t ++ drop q bs) (sym (le_bytes_4 (take 4 (drop p bs)) (from_le_bytes w32 (drop p bs)) (length-take-le 4 (drop p bs) (omega (arith, length-drop p bs))) (part p 4) (from_four (drop p bs))))

  u16_small : (p : ℕ) → u16_at bs p < 2 ^ 16
  unfolding u16_at
  u16_small p = rw (get_or-drop p bs 0 0, get_or-drop p bs 1 0) (omega (arith, octets (p + 0), octets (p + 1)))

  u32_small : (p : ℕ) → u32_at bs p < 2 ^ 32
  unfolding u32_at
  u32_small p =
      rw (get_or-drop p bs 0 0, get_or-drop p bs 1 0, get_or-drop p bs 2 0, get_or-drop p bs 3 0)
      (omega (arith, octets (p + 0), octets (p + 1), octets (p + 2), octets (p + 3)))

  module _ (o : Obeys bs) where
    -- ---- the head, the rows and the slots, as they are written

    head : bs ≡ head_bytes VERSION (names bs) (span bs) (total bs) ++ drop 15 bs
    unfolding u16_bytes u32_bytes
    head =
        let size = o Size in
        from 0 3 3 refl
        ∙ ap (λ t. t ++ drop 3 bs) (o Mark)
        ∙ ap (λ t. MARK ++ t)
        (from_u16 3 5 refl (omega arith)
        ∙ ap (λ v. u16_bytes v ++ drop 5 bs) (o Version)
        ∙ ap (λ t. u16_bytes VERSION ++ t)
        (from_u16 5 7 refl (omega arith)
        ∙ ap (λ t. u16_bytes (names bs) ++ t)
        (from_u32 7 11 refl (omega arith) ∙ ap (λ t. u32_bytes (span bs) ++ t) (from_u32 11 15 refl (omega arith)))))

    row : (i : ℕ) → i < names bs → drop (row_at i) bs ≡ row_bytes (count_before bs i) (name bs i) (length (row_slots bs i)) ++ drop (row_at (i + 1)) bs
    row i l =
        let size = o Size in
        let e = u32_bytes (earlier bs i) in
        let c = u32_bytes (count bs i) in
        let end = drop (row_at (i + 1)) bs in
        from (row_at i) 16 (row_at i + 16) refl
        ∙ ap (λ t. t ++ drop (row_at i + 16) bs) ((o Row).padded i l)
        ∙ ap (λ t. name_bytes (name bs i) ++ t)
        (from_u32 (row_at i + 16) (row_at i + 20) (omega arith) (omega arith)
        ∙ ap (λ t. e ++ t) (from_u32 (row_at i + 20) (row_at (i + 1)) (omega arith) (omega arith))
        ∙ sym (append_assoc e c end))
        ∙ sym (append_assoc (name_bytes (name bs i)) (e ++ c) end)
        ∙ ap (λ n. row_bytes n (name bs i) (count bs i) ++ end) ((o Row).sums i l)
        ∙ ap (λ n. row_bytes (count_before bs i) (name bs i) n ++ end) (sym (length_row bs i))

    -- the k rows from the row i on
    rows : (k i : ℕ) → i + k ≤ names bs → drop (row_at i) bs ≡ postings_bytes (count_before bs i) (map (posting bs) (range_with_len i k)) ++ drop (row_at (i + k)) bs
    rows zero i l = let e : i ≡ i + 0 = omega arith in ap (λ n. drop (row_at n) bs) e
    rows (suc k) i l =
        let l : i + (k + 1) ≤ names bs = omega (arith, l) in
        let next : count_before bs (i + 1) ≡ count_before bs i + length (row_slots bs i) = ap (count_before bs) (add-one i) ∙ ap (λ n. count_before bs i + n) (sym (length_row bs i)) in
        let end : (i + 1) + k ≡ i + suc k = omega arith in
        let more = map (posting bs) (range_with_len (i + 1) k) in
        let first = row_bytes (count_before bs i) (name bs i) (length (row_slots bs i)) in
        row i (omega arith)
        ∙ ap (λ t. first ++ t)
        (rows k (i + 1) (omega arith) ∙ ap (λ n. postings_bytes n more ++ drop (row_at ((i + 1) + k)) bs) next ∙ ap (λ n. postings_bytes (count_before bs i + length (row_slots bs i)) more ++ drop (row_at n) bs) end)
        ∙ sym (append_assoc first (postings_bytes (count_before bs i + length (row_slots bs i)) more) (drop (row_at (i + suc k)) bs))

    slot_at : ℕ → ℕ
    slot_at j = row_at (names bs) + 4 * j

    -- the k slots from the slot j on
    run : (k j : ℕ) → j + k ≤ total bs → drop (slot_at j) bs ≡ slots_bytes (map (slot bs) (range_with_len j k)) ++ drop (slot_at (j + k)) bs
    unfolding slot_at
    run zero j l = let e : j ≡ j + 0 = omega arith in ap (λ n. drop (slot_at n) bs) e
    run (suc k) j l =
        let l : j + (k + 1) ≤ total bs = omega (arith, l) in
        let size = o Size in
        let end : (j + 1) + k ≡ j + suc k = omega arith in
        let more = slots_bytes (map (slot bs) (range_with_len (j + 1) k)) in
        from_u32 (slot_at j) (slot_at (j + 1)) (omega arith) (omega arith)
        ∙ ap (λ t. u32_bytes (slot bs j) ++ t) (run k (j + 1) (omega arith) ∙ ap (λ n. more ++ drop (slot_at n) bs) end)
        ∙ sym (append_assoc (u32_bytes (slot bs j)) more (drop (slot_at (j + suc k)) bs))

    -- the slots of the k rows from the row i on
    runs : (k i : ℕ) → i + k ≤ names bs → drop (slot_at (count_before bs i)) bs ≡ slots_bytes (slots_of_all (map (posting bs) (range_with_len i k))) ++ drop (slot_at (count_before bs (i + k))) bs
    runs zero i l = let e : i ≡ i + 0 = omega arith in ap (λ n. drop (slot_at (count_before bs n)) bs) e
    runs (suc k) i l =
        let l : i + (k + 1) ≤ names bs = omega (arith, l) in
        let m : i < names bs = omega arith in
        let sums = (o Row).sums i m in
        let next : earlier bs i + count bs i ≡ count_before bs (i + 1) = ap (λ n. n + count bs i) sums ∙ ap (count_before bs) (sym (add-one i)) in
        let end : (i + 1) + k ≡ i + suc k = omega arith in
        let more = slots_of_all (map (posting bs) (range_with_len (i + 1) k)) in
        let past = drop (slot_at (count_before bs (i + suc k))) bs in
        ap (λ n. drop (slot_at n) bs) (sym sums)
        ∙ run (count bs i) (earlier bs i) (row_within bs o i m)
        ∙ ap (λ t. slots_bytes (row_slots bs i) ++ t)
        (ap (λ n. drop (slot_at n) bs) next ∙ runs k (i + 1) (omega arith) ∙ ap (λ n. slots_bytes more ++ drop (slot_at (count_before bs n)) bs) end)
        ∙ sym (append_assoc (slots_bytes (row_slots bs i)) (slots_bytes more) past)
        ∙ ap (λ t. t ++ past) (sym (slots_bytes-append (row_slots bs i) more))

    -- the slots of the k rows from the row i on, in number
    tallied : (k i : ℕ) → i + k ≤ names bs → count_before bs i + tally (map (posting bs) (range_with_len i k)) ≡ count_before bs (i + k)
    tallied zero i l = let e : i ≡ i + 0 = omega arith in omega (arith, ap (count_before bs) e)
    tallied (suc k) i l =
        let l : i + (k + 1) ≤ names bs = omega (arith, l) in
        let end : (i + 1) + k ≡ i + suc k = omega arith in
        omega (
          arith,
          sum_by-cons (λ (r : NamedSlots). length r.1) (posting bs i) (map (posting bs) (range_with_len (i + 1) k)),
          length_row bs i,
          ap (count_before bs) (add-one i),
          tallied k (i + 1) (omega arith),
          ap (count_before bs) end,
        )

    tally_total : tally (postings_of bs) ≡ total bs
    unfolding postings_of
    tally_total = omega (arith, tallied (names bs) 0 (omega arith), (o Row).all_counted, ap (count_before bs) (let e : 0 + names bs ≡ names bs = omega arith in e))

    pub spelled : bs ≡ spelling VERSION (postings_of bs) (span bs)
    unfolding postings_of slot_at
    spelled =
        let ps = postings_of bs in
        let size = o Size in
        let all : 0 + names bs ≡ names bs = omega arith in
        let end : drop (slot_at (count_before bs (0 + names bs))) bs ≡ [] = drop_all _ bs (omega (arith, ap (count_before bs) all, (o Row).all_counted)) in
        let slots : drop (row_at (0 + names bs)) bs ≡ slots_bytes (slots_of_all ps) =
        ap (λ n. drop n bs) (let e : row_at (0 + names bs) ≡ slot_at (count_before bs 0) = omega arith in e) ∙ runs (names bs) 0 (omega arith) ∙ ap (λ t. slots_bytes (slots_of_all ps) ++ t) end ∙ append-nil _ in
        head
        ∙ ap (λ t. head_bytes VERSION (names bs) (span bs) (total bs) ++ t) (rows (names bs) 0 (omega arith) ∙ ap (λ t. postings_bytes 0 ps ++ t) slots)
        ∙ ap (λ n. head_bytes VERSION n (span bs) (total bs) ++ (postings_bytes 0 ps ++ slots_bytes (slots_of_all ps))) (sym (length_rows bs))
        ∙ ap (λ n. head_bytes VERSION (length ps) (span bs) n ++ (postings_bytes 0 ps ++ slots_bytes (slots_of_all ps))) (sym tally_total)

    -- ---- the postings fit

    within : (i : ℕ) → i < length (postings_of bs) → i < names bs
    within i l = omega (arith, length_rows bs)

    at : (i : ℕ) → i < length (postings_of bs) → get_or (postings_of bs) i no_posting ≡ posting bs i
    at i l = get_or_rows bs i no_posting (within i l)

    pub fits : IsIndexable (postings_of bs) (span bs)
    fits =
        record {
          few = omega (arith, length_rows bs, u16_small 5);
          total = omega (arith, tally_total, u32_small 11);
          short = (meaning_lawful bs o).short;
          named = λ i l. rw (at i l) ((o Row).named i (within i l));
          ordered = λ i l. rw (at i (omega (arith, l)), at (i + 1) l) ((o Row).ordered i (within (i + 1) l));
          some = λ i l. rw (at i l) (omega (arith, length_row bs i, (o Row).some i (within i l)));
          rising = λ i l. rw (at i l) (row_rises bs o i (within i l));
          over = λ i k l. rw (at i l) (row_below bs o i k (within i l));
          reached = λ h.
              let p = (o Span).reached h in
              let q = located bs (names bs) p.0 (omega (arith, p.1, (o Row).all_counted)) in
              let l : q.0 < length (postings_of bs) = omega (arith, q.2, length_rows bs) in
              let e : earlier bs q.0 + q.1 ≡ p.0 = omega (arith, q.4, (o Row).sums q.0 q.2) in
              let m : q.1 < length (row_slots bs q.0) = omega (arith, q.3, length_row bs q.0) in
              (q.0, q.1, l, rw (at q.0 l) m, rw (at q.0 l) (ap (λ n. n + 1) (get_or_row bs q.0 q.1 q.3 ∙ ap (slot bs) e) ∙ p.2));
        }

-- bytes obey exactly if they are some postings that fit, written
pub obeys_spelled : (bs : List ℕ) → Bytes bs → Obeys bs ↔ IsSpelled bs
obeys_spelled bs octets = (
  λ o. (postings_of bs, span bs, fits bs octets o, spelled bs octets o),
  λ p. subst Obeys (sym p.3) (spelling_obeys p.0 p.1 p.2),
)

pub verdict_spelled : (bs : List ℕ) → Bytes bs → IsOk (verdict bs) ↔ IsSpelled bs
verdict_spelled bs octets =
    let d = verdict_decides bs in
    let s = obeys_spelled bs octets in
    (λ h. s.0 (d.0 h), λ p. d.1 (s.1 p))

-- postings tell the length with which they fit
length_least : (rs : List NamedSlots) (l m : ℕ) → IsIndexable rs l → IsIndexable rs m → l ≤ m
length_least rs l m a b =
    ⊎_elim
    (λ (h : 0 < l). let p = a.reached h in omega (arith, p.4, b.over p.0 p.1 p.2 p.3))
    (λ (h : l ≤ 0). omega arith)
    (cases_lt 0 l)

-- the bytes are a function of the postings
pub one_form : (cs bs : List ℕ) → Obeys cs → Obeys bs → Bytes cs → Bytes bs → postings_of cs ≡ postings_of bs → cs ≡ bs
one_form cs bs o q x y e =
    let rs = postings_of bs in
    let a = subst (λ ps. IsIndexable ps (span cs)) e (fits cs x o) in
    let b = fits bs y q in
    let same : span cs ≡ span bs = omega (arith, length_least rs (span cs) (span bs) a b, length_least rs (span bs) (span cs) b a) in
    spelled cs x o ∙ ap (λ ps. spelling VERSION ps (span cs)) e ∙ ap (λ l. spelling VERSION rs l) same ∙ sym (spelled bs y q)

-- and so of what they mean
pub one_meaning : (cs bs : List ℕ) → Obeys cs → Obeys bs → Bytes cs → Bytes bs → meaning cs ≡ meaning bs → cs ≡ bs
one_meaning cs bs o q x y e =
    one_form cs bs o q x y (ranked_same (postings_of cs) (postings_of bs) (rows_ranked cs o) (rows_ranked bs q) (λ n. ap (λ (m : PostingLists). m.slots n) e))
