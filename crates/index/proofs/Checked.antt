-- What the checks of rows and slots have named_slots. Assumes nothing.
use Rattle.std.proofs.Common.{◌≡◌, ℕ, zero, suc, ◌+◌, ◌*◌, ◌<◌, ◌≤◌, max, Bool, true, false, ◌&&◌, leb, ltb, List, [], ◌∷◌, length, get_or, take, refl, sym, ap, ◌∙◌, subst, add-one, below_more, arith}
use Rattle.std.specs.Bool.{Decides, MatchBool}
use Rattle.std.specs.List.{All, AllWithin, HoldsAt, AllAdjacentBelow, IsAllAdjacentAnswer, fold}
use Rattle.std.proofs.lemmas.List.{take_more, take_all}
use Rattle.std.proofs.lemmas.List.Sums.{fold-append}
use Rattle.std.proofs.lemmas.Bool.{true≢false, false_from_ne_true, and_parts, leb-true, le-leb}
use Rattle.std.proofs.lemmas.Bool.Decides.{Decides-and, Decides-like, Decides-ltb, same_from_decides}
use Rattle.names.specs.Names.{before, is_name}
use Rattle.postings.specs.Lists.{last_slot}
use Rattle.index.specs.Fields.{count, earlier, name, name_field, names, slot, total, u32_at}
use Rattle.index.specs.Layout.{count_before}
use Rattle.index.specs.Parts.{row_chunks, row_run, slot_chunks}
use Rattle.index.specs.Tests.{RowsStand, rows_stand_decides, rows_within, located, slots_stand_decides}
use Rattle.index.specs.Verdict.{name_stands, rows_stand, slots_stand, top}
use Rattle.index.proofs.Chunks.{row_part, called, field_read, name_read, earlier_read, count_read, length_rows_cut, row_read, length_slots_cut, slot_read, length_run, run_read}

-- ---- what `is_sorted_by` and `all` decide

pub sorted_decides :
    {X : Type 0} (e : X → X → Bool) (R : X → X → Type 0) → ((x y : X) → Decides (e x y) (R x y)) → (xs : List X) (d : X) (r : Bool) →
    IsAllAdjacentAnswer (λ x y b. b ≡ e x y) xs r → Decides r (AllAdjacentBelow R xs (length xs))
sorted_decides e R each xs d true h = (λ t k x l. (each _ _).0 (sym (h k x l)), λ up. refl)
sorted_decides e R each xs d false h = (λ t. absurd (true≢false (sym t)), λ up. h.2 d ∙ (each _ _).1 (up h.0 d h.1))

pub all_decides :
    {X : Type 0} (P : X → Type 0) (xs : List X) (d : X) (r : Bool) →
    MatchBool r (AllWithin P xs 0 (length xs)) ((k : ℕ) × (k < length xs) × HoldsAt (λ x. P x → ⊥) xs k) → Decides r ((k : ℕ) → k < length xs → P (get_or xs k d))
all_decides P xs d true h = (λ t k l. h k d (omega arith) l, λ all. refl)
all_decides P xs d false h = (λ t. absurd (true≢false (sym t)), λ all. absurd (h.2 d (all h.0 h.1)))

-- ---- one past the largest slot

module _ (bs : List ℕ) (slots : List (List ℕ)) (e : slots ≡ slot_chunks bs) where
  end : List (List ℕ) → ℕ
  end = fold (λ top s. max top (u32_at s 0 + 1)) 0

  end-take : (n : ℕ) → n ≤ total bs → end (take n slots) ≡ top bs n
  unfolding end
  end-take zero l = refl
  end-take (suc n) l =
      let m : n < length slots = omega (arith, l, length_slots_cut bs slots e) in
      ap (λ k. end (take k slots)) (sym (add-one n))
      ∙ ap end (take_more slots n [] m)
      ∙ fold-append (λ top s. max top (u32_at s 0 + 1)) 0 (take n slots) (get_or slots n [] ∷ [])
      ∙ ap (λ top. max top (u32_at (get_or slots n []) 0 + 1)) (end-take n (omega (arith, l)))
      ∙ ap (λ s. max (top bs n) (s + 1)) (slot_read bs slots e n [] m)

  pub end_is_top : fold (λ top s. max top (u32_at s 0 + 1)) 0 slots ≡ top bs (total bs)
  unfolding end
  end_is_top = ap end (sym (take_all (total bs) slots (omega (arith, length_slots_cut bs slots e)))) ∙ end-take (total bs) (omega arith)

-- ---- rows

-- the name of the row before i: none is the empty text
abbrev pub name_before : List ℕ → ℕ → List ℕ
name_before bs zero = []
name_before bs (suc i) = name bs i

-- the rows before i keep their rules, and count so many slots; the last of them has this name
pub record RowsSoFar (bs : List ℕ) (i counts : ℕ) (last : List ℕ) : Type 0 where
  pub named : (k : ℕ) → k < i → name_stands (name_field bs k) ≡ true
  pub ordered : (k : ℕ) → k < i → before (name_before bs k) (name bs k) ≡ true
  pub sums : (k : ℕ) → k < i → earlier bs k ≡ count_before bs k
  pub some : (k : ℕ) → k < i → 1 ≤ count bs k
  pub sum : counts ≡ count_before bs i
  pub small : counts ≤ 4294967295 * i
  pub before_it : last ≡ name_before bs i

-- the empty text stands before every name
before-nil : (n : List ℕ) → is_name n ≡ true → before [] n ≡ true
unfolding is_name before
before-nil [] named = absurd (true≢false (sym named))
before-nil (x ∷ n) named = refl

-- in rows that keep their rules each name stands after that of the row before
ordered_at : (bs : List ℕ) → RowsStand bs → (i : ℕ) → i < names bs → before (name_before bs i) (name bs i) ≡ true
unfolding name name_stands
ordered_at bs s zero l = before-nil (name bs 0) (and_parts (is_name (name bs 0)) _ (s.named 0 l)).0
ordered_at bs s (suc i) l = subst (λ k. before (name bs i) (name bs k) ≡ true) (add-one i) (s.ordered i (omega arith))

module _ (bs : List ℕ) (i counts : ℕ) (last row : List ℕ) (e : row ≡ row_part bs i) (so_far : RowsSoFar bs i counts last) where
  -- one more row that keeps its rules, with the sum and the name that are kept then
  pub rows_more :
      (sum : ℕ) (name : List ℕ) → name_stands (take 16 row) ≡ true → before last (called row) ≡ true → u32_at row 16 ≡ counts → 1 ≤ u32_at row 20 → u32_at row 20 < 4294967296 →
      sum ≡ counts + u32_at row 20 → name ≡ called row → RowsSoFar bs (i + 1) sum name
  rows_more sum name named after sums some small summed kept =
      let n = count_read bs i row e in
      record {
        named = below_more _ i so_far.named (ap name_stands (sym (field_read bs i row e)) ∙ named);
        ordered = below_more _ i so_far.ordered (rw (sym so_far.before_it, sym (name_read bs i row e)) after);
        sums = below_more _ i so_far.sums (sym (earlier_read bs i row e) ∙ sums ∙ so_far.sum);
        some = below_more _ i so_far.some (omega (arith, n));
        sum = summed ∙ ap (λ c. c + u32_at row 20) so_far.sum ∙ ap (λ c. count_before bs i + c) n ∙ ap (count_before bs) (sym (add-one i));
        small = omega (arith, so_far.small);
        before_it = kept ∙ name_read bs i row e ∙ ap (name_before bs) (sym (add-one i));
      }

  -- a row that breaks one
  pub row_broken :
      i < names bs → (name_stands (take 16 row) ≡ true → before last (called row) ≡ true → u32_at row 16 ≡ counts → 1 ≤ u32_at row 20 → ⊥) → false ≡ rows_stand bs
  row_broken l broken =
      sym (false_from_ne_true (rows_stand bs) (λ h.
      let s = (rows_stand_decides bs).0 h in
      broken (ap name_stands (field_read bs i row e) ∙ s.named i l) (rw (so_far.before_it, name_read bs i row e) (ordered_at bs s i l))
      (earlier_read bs i row e ∙ s.sums i l ∙ sym so_far.sum) (omega (arith, count_read bs i row e, s.some i l))))

-- what is left to test of rows that keep their rules
pub rows_counted : (bs : List ℕ) (counts : ℕ) (last : List ℕ) → RowsSoFar bs (names bs) counts last → Decides (rows_stand bs) (counts ≡ total bs)
rows_counted bs counts last so_far =
    Decides-like (rows_stand bs)
    (λ s. so_far.sum ∙ s.all_counted)
    (λ t. record {
      named = so_far.named;
      ordered = λ k l. subst (λ n. before n (name bs (k + 1)) ≡ true) (ap (name_before bs) (add-one k)) (so_far.ordered (k + 1) l);
      sums = so_far.sums;
      some = so_far.some;
      all_counted = sym so_far.sum ∙ t;
    })
    (rows_stand_decides bs)

-- ---- slots

abbrev pub Low : List ℕ → Type 0
Low slot = u32_at slot 0 ≤ last_slot

abbrev pub Up : List (List ℕ) → Type 0
Up slots = AllAdjacentBelow (λ a b. u32_at a 0 < u32_at b 0) slots (length slots)

-- a slot stands after the one before it
abbrev pub Next : List ℕ → List ℕ → Type 0
Next a b = (u32_at a 0 < u32_at b 0) × Low b

abbrev pub is_next : List ℕ → List ℕ → Bool
is_next a b = ltb (u32_at a 0) (u32_at b 0) && leb (u32_at b 0) last_slot

next_decides : (a b : List ℕ) → Decides (is_next a b) (Next a b)
next_decides a b = Decides-and _ _ (Decides-ltb (u32_at a 0) (u32_at b 0)) (leb-true (u32_at b 0) last_slot, le-leb (u32_at b 0) last_slot)

-- what a run of neighbours tells of a row's slots, where the first is low
pub run_decides :
    (slots : List (List ℕ)) (r : Bool) → ((x : List ℕ) → 0 < length slots → Low (get_or slots 0 x)) → IsAllAdjacentAnswer (λ x y b. b ≡ is_next x y) slots r →
    Decides r (All Low slots × Up slots)
run_decides slots r first h =
    Decides-like r (λ next. (low next, λ k x l. (next k x l).0)) (λ p k x l. (p.1 k x l, p.0 (k + 1) x l)) (sorted_decides is_next Next next_decides slots [] r h)
  where
    low : AllAdjacentBelow Next slots (length slots) → All Low slots
    low next zero x l = first x l
    low next (suc k) x l = let more : k + 1 < length slots = omega arith in subst (λ j. Low (get_or slots j x)) (add-one k) (next k x more).1

module _ (bs : List ℕ) (rules : RowsStand bs) (rows slots : List (List ℕ)) (e : rows ≡ row_chunks bs) (f : slots ≡ slot_chunks bs) where
  -- the slots of a row lie among all slots
  pub run_inside : (row : List ℕ) (i : ℕ) → i < length rows → row ≡ get_or rows i row → u32_at row 16 + u32_at row 20 ≤ length slots
  run_inside row i l at =
      let z : row ≡ row_part bs i = at ∙ row_read bs rows e i row l in
      omega (arith, earlier_read bs i row z, count_read bs i row z, rows_within bs rules i (omega (arith, length_rows_cut bs rows e)), length_slots_cut bs slots f)

  -- the slots stand if those of every row do
  pub slots_stand_by_run :
      (r : Bool) → Decides r ((i : ℕ) → i < length rows → All Low (row_run slots (get_or rows i [])) × Up (row_run slots (get_or rows i []))) → r ≡ slots_stand bs
  slots_stand_by_run r d =
      let n = length_rows_cut bs rows e in
      same_from_decides r (slots_stand bs)
      (Decides-like r
      (λ runs. record {
        bound = λ j l.
            let p = located bs (names bs) j (omega (arith, rules.all_counted)) in
            let z = row_read bs rows e p.0 [] (omega (arith, p.2)) in
            let w = rows_within bs rules p.0 p.2 in
            let run = runs p.0 (omega (arith, p.2)) in
            let at : earlier bs p.0 + p.1 ≡ j = omega (arith, rules.sums p.0 p.2, p.4) in
            subst (λ x. slot bs x ≤ last_slot) at
            (subst (λ v. v ≤ last_slot) (run_read bs slots f p.0 _ z w p.1 [] p.3) (run.0 p.1 [] (omega (arith, p.3, length_run bs slots f p.0 _ z w))));
        rising = λ i k l m.
            let z = row_read bs rows e i [] (omega arith) in
            let w = rows_within bs rules i l in
            omega (
              arith,
              (runs i (omega arith)).1 k [] (omega (arith, length_run bs slots f i _ z w)),
              run_read bs slots f i _ z w k [] (omega arith),
              run_read bs slots f i _ z w (k + 1) [] m,
            );
      })
      (λ s i l.
      let z = row_read bs rows e i [] l in
      let m : i < names bs = omega arith in
      let w = rows_within bs rules i m in
      let n = length_run bs slots f i _ z w in (
        λ k x h.
            let o : k < count bs i = omega (arith, n) in
            omega (arith, s.bound (earlier bs i + k) (omega (arith, w)), run_read bs slots f i _ z w k x o),
        λ k x h.
            let o : k + 1 < count bs i = omega (arith, n) in
            omega (arith, s.rising i k m o, run_read bs slots f i _ z w k x (omega arith), run_read bs slots f i _ z w (k + 1) x o),
      ))
      d)
      (slots_stand_decides bs rules)
