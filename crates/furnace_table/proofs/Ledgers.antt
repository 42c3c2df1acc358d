-- Every ledger that entries make obeys the law of posting lists. Assumes nothing.
use Rattle.std.proofs.Common.{◌≡◌, ℕ, zero, suc, ◌+◌, ◌<◌, ◌≤◌, Bool, true, false, cond, not, ◌&&◌, eqb, ltb, leb, List, [], ◌∷◌, ◌++◌, length, get_or, is_ok, sym, refl, ◌∙◌, subst, ⊎_elim, true≢false, arith}
use Rattle.std.specs.Str.{bytes_eq}
use Rattle.std.proofs.lemmas.List.{get_or_push, get_or_append_left, length_push}
use Rattle.std.proofs.lemmas.Bool.{cases_lt, eqb-false, ltb-false, or_parts}
use Rattle.names.specs.Names.{is_name}
use Rattle.postings.specs.Lists.{Lawful, last_slot}
use Rattle.postings.specs.Rising.{Rising}
use Rattle.postings.proofs.Firsts.{rising_push}
use Rattle.shift_logbook.specs.Books.{member}
use Rattle.shift_logbook.specs.Ledger.{Entry, most_names, most_entries, slots_in, span_in, ledger_lists, holds, occurs, distinct, first_refusal, judge, entered}
use Rattle.shift_logbook.specs.History.{ledger_after}
use Rattle.shift_logbook.proofs.Ledgers.{holds_member, slots_in_push, same_is, span_in_push}

-- slots up to s, none of them s, are below it
below_fresh : (s : ℕ) (xs : List ℕ) → member s xs ≡ false → (i : ℕ) → i < length xs → get_or xs i 0 < s + 1 → get_or xs i 0 < s
below_fresh s [] fresh i h l = absurd (let z : i < 0 = h in omega arith)
below_fresh s (x ∷ xs) fresh zero h l =
    let apart = eqb-false x s (or_parts (eqb x s) (member s xs) fresh).0 in
    ⊎_elim (λ (u : x < s). u) (λ (u : s ≤ x). absurd (apart (omega (arith, l)))) (cases_lt x s)
below_fresh s (x ∷ xs) fresh (suc i) h l = below_fresh s xs (or_parts (eqb x s) (member s xs) fresh).1 i (omega (arith, h)) l

below_push : (s : ℕ) (xs : List ℕ) → ((i : ℕ) → i < length xs → get_or xs i 0 < s + 1) → (i : ℕ) → i < length (xs ++ s ∷ []) → get_or (xs ++ s ∷ []) i 0 < s + 1
below_push s xs below i h =
    ⊎_elim
    (λ (l : i < length xs). rw (get_or_append_left xs (s ∷ []) 0 i l) (below i l))
    (λ (l : length xs ≤ i). rw (get_or_push xs s 0 i (omega (arith, length_push xs s))) (omega arith))
    (cases_lt i (length xs))

-- one more entry
module _ (l : List Entry) (n : List ℕ) (s : ℕ) (law : Lawful (ledger_lists l)) where
  slots_push : (P : List ℕ → Type 0) (m : List ℕ) → (n ≡ m → P (slots_in m l ++ s ∷ [])) → P (slots_in m l) → P (slots_in m (l ++ (n, s) ∷ []))
  slots_push P m more same = subst P (sym (slots_in_push m n s l)) (go (bytes_eq n m) refl)
    where
      go : (t : Bool) → bytes_eq n m ≡ t → P (cond t (slots_in m l ++ s ∷ []) (slots_in m l))
      go true e = more (same_is n m e)
      go false e = same

  lawful_push : is_name n ≡ true → s ≤ last_slot → span_in l ≤ s + 1 → holds n s l ≡ false → Lawful (ledger_lists (l ++ (n, s) ∷ []))
  lawful_push named small late fresh =
      let under : (m : List ℕ) (i : ℕ) → i < length (slots_in m l) → get_or (slots_in m l) i 0 < s + 1 = λ m i h. omega (arith, law.below m i h, late) in
      let span : span_in (l ++ (n, s) ∷ []) ≡ s + 1 = span_in_push n s l in
      record {
        rising = λ m.
            slots_push Rising m
            (λ e.
            rising_push (slots_in m l) s (law.rising m)
            (λ i h. below_fresh s (slots_in m l) (sym (holds_member m s l) ∙ subst (λ w. holds w s l ≡ false) e fresh) i h (under m i h)))
            (law.rising m);
        below = λ m.
            subst (λ top. (i : ℕ) → i < length (slots_in m (l ++ (n, s) ∷ [])) → get_or (slots_in m (l ++ (n, s) ∷ [])) i 0 < top) (sym span)
            (slots_push (λ xs. (i : ℕ) → i < length xs → get_or xs i 0 < s + 1) m (λ e. below_push s (slots_in m l) (under m)) (under m));
        short = omega (arith, span, small);
        unnamed = λ m h. slots_push (λ xs. xs ≡ []) m (λ e. absurd (true≢false (sym named ∙ subst (λ w. is_name w ≡ false) (sym e) h))) (law.unnamed m h);
      }

  lawful_entered : Lawful (ledger_lists (entered l n s))
  unfolding entered judge
  lawful_entered =
      go (is_name n) (ltb last_slot s) (ltb (s + 1) (span_in l)) (holds n s l) (not (occurs n l) && leb most_names (distinct l)) (leb most_entries (length l)) refl refl refl refl
    where
      go : (a b c d e f : Bool) → is_name n ≡ a → ltb last_slot s ≡ b → ltb (s + 1) (span_in l) ≡ c → holds n s l ≡ d → Lawful (ledger_lists (cond (is_ok (first_refusal (not a) b c d e f)) (l ++ (n, s) ∷ []) l))
      go false b c d e f p q r w = law
      go true true c d e f p q r w = law
      go true false true d e f p q r w = law
      go true false false true e f p q r w = law
      go true false false false true f p q r w = law
      go true false false false false true p q r w = law
      go true false false false false false p q r w = lawful_push p (ltb-false last_slot s q) (ltb-false (s + 1) (span_in l) r) w

lawful_after : (l es : List Entry) → Lawful (ledger_lists l) → Lawful (ledger_lists (ledger_after l es))
lawful_after l [] law = law
lawful_after l (e ∷ es) law = lawful_after (entered l e.0 e.1) es (lawful_entered l e.0 e.1 law)

pub ledgers_lawful : (es : List Entry) → Lawful (ledger_lists (ledger_after [] es))
ledgers_lawful es =
    lawful_after [] es
    (record {
      rising = λ n i j h k. absurd (let z : j < 0 = k in omega arith);
      below = λ n i h. absurd (let z : i < 0 = h in omega arith);
      short = omega arith;
      unnamed = λ n h. refl;
    })
