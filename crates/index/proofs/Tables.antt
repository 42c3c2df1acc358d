-- Rows in the byte order of their names, no_posting without a slot, are told by what they say of each name. Assumes nothing.
use Rattle.std.proofs.Common.{◌≡◌, ℕ, suc, ◌<◌, ◌≤◌, true, false, List, [], ◌∷◌, length, get_or, Ordering, Less, Equal, Greater, sym, refl, ap, ◌∙◌, subst, ⊎_elim, arith}
use Rattle.std.specs.List.{AllByRecursion}
use Rattle.std.specs.Str.{bytes_eq}
use Rattle.std.proofs.ByRecursion.{All-from_get_or, All-weaker}
use Rattle.std.proofs.lemmas.Slice.Eq.{bytes_eq-Decides}
use Rattle.std.proofs.lemmas.Bool.{cases_Bool, false_from_ne_true, cond-true, cond-false}
use Rattle.names.specs.Names.{before, byte_order}
use Rattle.names.proofs.Names.{before_less, before_greater, before_trans, before_irrefl, byte_order_equal}
use Rattle.index.specs.declared.refusal.OpenRefusal.TheVariants.{Row}
use Rattle.index.specs.Fields.{names}
use Rattle.index.specs.Layout.{Obeys}
use Rattle.index.specs.Meaning.{postings_of, slots_for}
use Rattle.index.specs.Posted.{get_or_rows, length_row, length_rows}
use Rattle.index.specs.Spelling.{no_posting}
use Rattle.postings.specs.Shown.{NamedSlots}
use Rattle.postings.specs.TableLaws.{far_from_near}
use Rattle.index.proofs.Searches.{postings_sorted}

abbrev pub Ranked : List NamedSlots → Type 0
Ranked [] = Unit {0}
Ranked (r ∷ rs) = (1 ≤ length r.1) × AllByRecursion (λ q. before r.0 q.0 ≡ true) rs × Ranked rs

ranked_from :
    (rs : List NamedSlots) → ((i j : ℕ) → i < j → j < length rs → before (get_or rs i no_posting).0 (get_or rs j no_posting).0 ≡ true) →
    ((i : ℕ) → i < length rs → 1 ≤ length (get_or rs i no_posting).1) → Ranked rs
ranked_from [] up some = tt
ranked_from (r ∷ rs) up some = (
  some 0 (omega arith),
  All-from_get_or (λ q. before r.0 q.0 ≡ true) rs no_posting (λ j l. up 0 (suc j) (omega arith) (omega arith)),
  ranked_from rs (λ i j h l. up (suc i) (suc j) (omega arith) (omega arith)) (λ i l. some (suc i) (omega arith)),
)

pub rows_ranked : (bs : List ℕ) → Obeys bs → Ranked (postings_of bs)
rows_ranked bs o =
    ranked_from (postings_of bs)
    (λ i j h l. far_from_near (λ (x : NamedSlots). x.0) (postings_of bs) (postings_sorted bs o) i j no_posting h l)
    (λ i l.
    let m : i < names bs = omega (arith, length_rows bs) in
    omega (arith, (o Row).some i m, length_row bs i, ap (λ (r : NamedSlots). length r.1) (get_or_rows bs i no_posting m)))

-- names of which one stands before the other differ
apart_after : (a b : List ℕ) → before b a ≡ true → bytes_eq a b ≡ false
apart_after a b h = false_from_ne_true (bytes_eq a b) (λ e. before_irrefl a (subst (λ x. before x a ≡ true) (sym ((bytes_eq-Decides a b).0 e)) h))

-- ---- what ranked rows say

posted_after : (rs : List NamedSlots) (n : List ℕ) → AllByRecursion (λ q. before n q.0 ≡ true) rs → slots_for rs n ≡ []
posted_after [] n h = refl
posted_after (r ∷ rs) n h = cond-false (bytes_eq r.0 n) r.1 (slots_for rs n) (apart_after r.0 n h.0) ∙ posted_after rs n h.1

posted_head : (r : NamedSlots) (rs : List NamedSlots) (n : List ℕ) → r.0 ≡ n → slots_for (r ∷ rs) n ≡ r.1
posted_head r rs n e = cond-true (bytes_eq r.0 n) r.1 (slots_for rs n) ((bytes_eq-Decides r.0 n).1 e)

empty_not : (xs : List ℕ) → 1 ≤ length xs → xs ≡ [] → ⊥
empty_not xs h e = let z : length xs ≡ 0 = ap length e in omega arith

-- a row of a name before all names of the other rows says what they do not
ahead_not : (r : NamedSlots) (rs ss : List NamedSlots) → 1 ≤ length r.1 → AllByRecursion (λ q. before r.0 q.0 ≡ true) ss → slots_for (r ∷ rs) r.0 ≡ slots_for ss r.0 → ⊥
ahead_not r rs ss h k e = empty_not r.1 h (sym (posted_head r rs r.0 refl) ∙ e ∙ posted_after ss r.0 k)

after_all : (m n : List ℕ) (ss : List NamedSlots) → before m n ≡ true → AllByRecursion (λ q. before n q.0 ≡ true) ss → AllByRecursion (λ q. before m q.0 ≡ true) ss
after_all m n ss h k = All-weaker (λ (q : NamedSlots). before n q.0 ≡ true) (λ (q : NamedSlots). before m q.0 ≡ true) (λ q b. before_trans m n q.0 h b) ss k

pub ranked_same : (rs ss : List NamedSlots) → Ranked rs → Ranked ss → ((n : List ℕ) → slots_for rs n ≡ slots_for ss n) → rs ≡ ss
ranked_same [] [] h k e = refl
ranked_same [] (s ∷ ss) h k e = absurd (ahead_not s ss [] k.0 tt (sym (e s.0)))
ranked_same (r ∷ rs) [] h k e = absurd (ahead_not r rs [] h.0 tt (e r.0))
ranked_same (r ∷ rs) (s ∷ ss) h k e = go (byte_order r.0 s.0) refl (ranked_same rs ss h.2 k.2)
  where
    tails : r.0 ≡ s.0 → (n : List ℕ) → slots_for rs n ≡ slots_for ss n
    tails q n =
        ⊎_elim
        (λ (t : bytes_eq r.0 n ≡ true).
        let m : r.0 ≡ n = (bytes_eq-Decides r.0 n).0 t in
        posted_after rs n (subst (λ x. AllByRecursion (λ (z : NamedSlots). before x z.0 ≡ true) rs) m h.1)
        ∙ sym (posted_after ss n (subst (λ x. AllByRecursion (λ (z : NamedSlots). before x z.0 ≡ true) ss) (sym q ∙ m) k.1)))
        (λ (t : bytes_eq r.0 n ≡ false).
        sym (cond-false (bytes_eq r.0 n) r.1 (slots_for rs n) t)
        ∙ e n
        ∙ cond-false (bytes_eq s.0 n) s.1 (slots_for ss n) (ap (λ x. bytes_eq x n) (sym q) ∙ t))
        (cases_Bool (bytes_eq r.0 n))

    go : (t : Ordering) → byte_order r.0 s.0 ≡ t → (((n : List ℕ) → slots_for rs n ≡ slots_for ss n) → rs ≡ ss) → r ∷ rs ≡ s ∷ ss
    go Less t more =
        let b = before_less r.0 s.0 t in
        absurd (ahead_not r rs (s ∷ ss) h.0 (b, after_all r.0 s.0 ss b k.1) (e r.0))
    go Greater t more =
        let b = before_greater r.0 s.0 t in
        absurd (ahead_not s ss (r ∷ rs) k.0 (b, after_all s.0 r.0 rs b h.1) (sym (e s.0)))
    go Equal t more =
        let q = byte_order_equal r.0 s.0 t in
        let x : r.1 ≡ s.1 = sym (posted_head r rs r.0 refl) ∙ e r.0 ∙ posted_head s ss r.0 (sym q) in
        let y : rs ≡ ss = more (tails q) in
        let z : r ≡ s = ap (λ n. (n, r.1)) q ∙ ap (λ xs. (s.0, xs)) x in
        ap (λ a. a ∷ rs) z ∙ ap (λ a. s ∷ a) y
