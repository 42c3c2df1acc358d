-- Properties of the tests: each decides its rule, so the verdict is the first rule that is broken. Assumes nothing.
use Rattle.std.specs.Prelude.{if◌then◌else◌, ◌≡◌, ℕ, zero, suc, ◌+◌, ◌-◌, ◌<◌, ◌≤◌, Bool, true, false, not, List, [], ◌∷◌, ◌++◌, length, take, drop, replicate, is_ok, Ok, Err, IsOk, IsTrue, ◌↔◌, Result, ◌==◌, refl}
use Rattle.std.proofs.Common.{sym, ap, subst, ◌∙◌, ⊎_elim, arith}
use Rattle.std.proofs.lemmas.Slice.Eq.{bytes_eq-Decides}
use Rattle.std.proofs.lemmas.List.{length-take-le, length-drop, take-append-drop, drop_at}
use Rattle.std.proofs.lemmas.Bool.{and_parts, and_from, eqb-true, eq-eqb, leb-true, le-leb, cases_lt, true≢false}
use Rattle.names.specs.Names.{is_name}
use Rattle.refusals.specs.Refusals.{refusal_in}
use Rattle.index.specs.declared.fields.TheConstants.{MARK}
use Rattle.index.specs.declared.refusal.OpenRefusal.{OpenRefusal}
use Rattle.index.specs.declared.refusal.OpenRefusal.TheVariants.{Short, Mark, Version, Size, Row, Slot, Span}
use Rattle.index.specs.Refusals.{open_number_of, open_refusal_of}
use Rattle.index.specs.Fields.{names, span, total, row_at, trim, name_field, name, slot}
use Rattle.index.specs.Layout.{name_bytes, KeepsRows, KeepsLength, Keeps, Obeys, IsJudged, IsTold}
use Rattle.index.specs.Verdict.{all_zero, name_stands, rows_stand, top, size_stands, span_stands, verdict}
use Rattle.index.specs.Tests.{RowsStand, rows_stand_decides, slots_stand_decides}

-- ---- a row's name field

pub take-length_trim : (xs : List ℕ) → take (length (trim xs)) xs ≡ trim xs
take-length_trim [] = refl
take-length_trim (x ∷ xs) = go (x == 0) (take-length_trim xs)
  where
    go : (t : Bool) → take (length (trim xs)) xs ≡ trim xs → take (length (if t then [] else x ∷ trim xs)) (x ∷ xs) ≡ (if t then [] else x ∷ trim xs)
    go true more = refl
    go false more = ap (λ ys. x ∷ ys) more

zeros : (xs : List ℕ) → all_zero xs ≡ true → xs ≡ replicate (length xs) 0
zeros [] h = refl
zeros (x ∷ xs) h = let p = and_parts (x == 0) (all_zero xs) h in ap (λ y. y ∷ xs) (eqb-true x 0 p.0) ∙ ap (λ ys. 0 ∷ ys) (zeros xs p.1)

all_zero-replicate : (n : ℕ) → all_zero (replicate n 0) ≡ true
all_zero-replicate zero = refl
all_zero-replicate (suc n) = all_zero-replicate n

field_long : (bs : List ℕ) (i : ℕ) → row_at i + 16 ≤ length bs → length (name_field bs i) ≡ 16
field_long bs i h = length-take-le 16 (drop (row_at i) bs) (omega (arith, length-drop (row_at i) bs))

-- a field that is a name and then zeros
field_decides : (f : List ℕ) → length f ≡ 16 → IsTrue (name_stands f) ↔ ((is_name (trim f) ≡ true) × (f ≡ name_bytes (trim f)))
unfolding name_stands name_bytes
field_decides f long =
    let n = trim f in
    let rest = drop (length n) f in (
      λ t.
          let p = and_parts (is_name n) (all_zero rest) t in
          let size : length rest ≡ 16 - length n = length-drop (length n) f ∙ ap (λ k. k - length n) long in (
            p.0,
            sym (take-append-drop (length n) f) ∙ ap (λ xs. xs ++ rest) (take-length_trim f) ∙ ap (λ xs. n ++ xs) (zeros rest p.1 ∙ ap (λ k. replicate k 0) size),
          ),
      λ h.
          let e : rest ≡ replicate (16 - length n) 0 = ap (drop (length n)) h.1 ∙ drop_at n (replicate (16 - length n) 0) (length n) refl in
          and_from (is_name n) (all_zero rest) h.0 (ap all_zero e ∙ all_zero-replicate (16 - length n)),
    )

rows_decide : (bs : List ℕ) → Keeps Size bs → IsTrue (rows_stand bs) ↔ KeepsRows bs
unfolding name
rows_decide bs size =
    let field = λ (i : ℕ) (l : i < names bs). field_decides (name_field bs i) (field_long bs i (omega (arith, size))) in
    let tests = rows_stand_decides bs in (
      λ t.
          let s = tests.0 t in
          record {
            named = λ i l. ((field i l).0 (s.named i l)).0;
            padded = λ i l. ((field i l).0 (s.named i l)).1;
            ordered = s.ordered;
            sums = s.sums;
            some = s.some;
            all_counted = s.all_counted;
          },
      λ k.
          tests.1 (record {
            named = λ i l. (field i l).1 (k.named i l, k.padded i l);
            ordered = k.ordered;
            sums = k.sums;
            some = k.some;
            all_counted = k.all_counted;
          }),
    )

-- the tests of rows that keep their rule pass
pub rows_stand_from : (bs : List ℕ) → Obeys bs → RowsStand bs
rows_stand_from bs o = (rows_stand_decides bs).0 ((rows_decide bs (o Size)).1 (o Row))

-- ---- the largest slot

top_over : (bs : List ℕ) (n j : ℕ) → j < n → slot bs j + 1 ≤ top bs n
top_over bs zero j h = absurd (omega arith)
top_over bs (suc n) j h =
    ⊎_elim
    (λ (l : j < n). let p = top_over bs n j l in omega arith)
    (λ (l : n ≤ j). let e : j ≡ n = omega arith in omega (arith, ap (slot bs) e))
    (cases_lt j n)

top_reached : (bs : List ℕ) (n : ℕ) → 0 < top bs n → (j : ℕ) × (j < n) × (slot bs j + 1 ≡ top bs n)
top_reached bs zero h = absurd (omega arith)
top_reached bs (suc n) h =
    ⊎_elim
    (λ (l : top bs n < slot bs n + 1). (n, omega arith, omega arith))
    (λ (l : slot bs n + 1 ≤ top bs n). let p = top_reached bs n (omega arith) in (p.0, omega (arith, p.1), omega (arith, p.2)))
    (cases_lt (top bs n) (slot bs n + 1))

span_decides : (bs : List ℕ) → IsTrue (span_stands bs) ↔ KeepsLength bs
unfolding span_stands
span_decides bs =
    let t = top bs (total bs) in (
      λ h.
          let e : span bs ≡ t = eqb-true _ _ h in
          record {
            over = λ j l. omega (arith, top_over bs (total bs) j l, e);
            reached = λ l. let p = top_reached bs (total bs) (omega (arith, e)) in (p.0, p.1, p.2 ∙ sym e);
          },
      λ k.
          let a : t ≤ span bs =
          ⊎_elim (λ (l : 0 < t). let p = top_reached bs (total bs) l in omega (arith, k.over p.0 p.1, p.2)) (λ (l : t ≤ 0). omega arith) (cases_lt 0 t) in
          let b : span bs ≤ t =
          ⊎_elim (λ (l : 0 < span bs). let p = k.reached l in omega (arith, top_over bs (total bs) p.0 p.1, p.2)) (λ (l : span bs ≤ 0). omega arith) (cases_lt 0 (span bs)) in
          eq-eqb _ _ (omega arith),
    )

-- ---- the first rule that is broken

-- the refusal that a number is of
abbrev refusal_with : ℕ → OpenRefusal
refusal_with n = if n == 8 then Short else if n == 9 then Mark else if n == 10 then Version else if n == 11 then Size else if n == 12 then Row else if n == 13 then Slot else Span

number_bound : (e : OpenRefusal) → (refusal_with (open_number_of e) ≡ e) × (8 ≤ open_number_of e) × (open_number_of e < 15)
number_bound Short = (refl, omega arith, omega arith)
number_bound Mark = (refl, omega arith, omega arith)
number_bound Version = (refl, omega arith, omega arith)
number_bound Size = (refl, omega arith, omega arith)
number_bound Row = (refl, omega arith, omega arith)
number_bound Slot = (refl, omega arith, omega arith)
number_bound Span = (refl, omega arith, omega arith)

module _ (bs : List ℕ) where
  -- every rule with a number below n is kept
  KeepsBelow : ℕ → Type 0
  KeepsBelow n = (d : OpenRefusal) → open_number_of d < n → Keeps d bs

  keeps_more : (e : OpenRefusal) → KeepsBelow (open_number_of e) → Keeps e bs → KeepsBelow (open_number_of e + 1)
  unfolding KeepsBelow
  keeps_more e before kept d l =
      ⊎_elim
      (λ (m : open_number_of d < open_number_of e). before d m)
      (λ (m : open_number_of e ≤ open_number_of d).
      let same : open_number_of e ≡ open_number_of d = omega arith in
      subst (λ x. Keeps x bs) (sym (number_bound e).0 ∙ ap refusal_with same ∙ (number_bound d).0) kept)
      (cases_lt (open_number_of d) (open_number_of e))

  -- one more test
  judged : (t : Bool) (e : OpenRefusal) (r : Result (Unit {0}) OpenRefusal) → IsTrue t ↔ Keeps e bs → KeepsBelow (open_number_of e) → (KeepsBelow (open_number_of e + 1) → IsJudged bs r) → IsJudged bs (if not t then Err e else r)
  unfolding KeepsBelow
  judged true e r decides before more = more (keeps_more e before (decides.0 refl))
  judged false e r decides before more = (λ kept. true≢false (sym (decides.1 kept)), before)

  pub verdict_judges : IsJudged bs (verdict bs)
  unfolding verdict size_stands KeepsBelow
  verdict_judges =
      judged _ Short _ (leb-true _ _, le-leb _ _) (λ d l. absurd (omega (arith, l, (number_bound d).1))) (λ a.
      judged _ Mark _ (bytes_eq-Decides _ MARK) a (λ b.
      judged _ Version _ (eqb-true _ _, eq-eqb _ _) b (λ d.
      judged _ Size _ (eqb-true _ _, eq-eqb _ _) d (λ e.
      judged _ Row _ (rows_decide bs (e Size (omega arith))) e (λ f.
      judged _ Slot _ (slots_stand_decides bs ((rows_stand_decides bs).0 ((rows_decide bs (e Size (omega arith))).1 (f Row (omega arith))))) f (λ g.
      judged _ Span _ (span_decides bs) g (λ h x. h x (number_bound x).2)))))))

  pub verdict_told : IsTold bs (refusal_in open_refusal_of (verdict bs))
  verdict_told = go (verdict bs) verdict_judges
    where
      go : (r : Result (Unit {0}) OpenRefusal) → IsJudged bs r → IsTold bs (refusal_in open_refusal_of r)
      go (Ok tt) o = o
      go (Err e) b = (e, refl, b)

pub verdict_decides : (bs : List ℕ) → IsOk (verdict bs) ↔ Obeys bs
verdict_decides bs = go (verdict bs) (verdict_judges bs)
  where
    go : (r : Result (Unit {0}) OpenRefusal) → IsJudged bs r → IsOk r ↔ Obeys bs
    go (Ok tt) o = (λ h. o, λ o. refl)
    go (Err e) b = (λ h. absurd (true≢false (sym h)), λ o. absurd (b.0 (o e)))

pub obeys_from_verdict : (bs : List ℕ) → is_ok (verdict bs) ≡ true → Obeys bs
obeys_from_verdict bs h = (verdict_decides bs).0 h
