-- Properties of what obeying bytes mean: a lawful store of postings. Assumes nothing.
use Rattle.std.specs.Prelude.{if◌then◌else◌, ◌≡◌, ℕ, suc, ◌+◌, ◌<◌, ◌≤◌, Bool, true, false, ◌⊎◌, List, [], ◌∷◌, length, slice_index, slice_index_or, refl}
use Rattle.std.proofs.Common.{sym, ap, subst, ◌∙◌, true≢false, inl, inr, ⊎_elim, arith}
use Rattle.std.specs.Str.{bytes_eq}
use Rattle.std.proofs.lemmas.List.FromFn.{length-map-range_with_len, get_or-map-range_with_len}
use Rattle.std.proofs.lemmas.Slice.Eq.{bytes_eq-Decides}
use Rattle.std.proofs.lemmas.Bool.{cases_lt}
use Rattle.names.specs.Names.{is_name}
use Rattle.postings.specs.Rising.{Rising}
use Rattle.postings.specs.Lists.{Lawful}
use Rattle.index.specs.declared.refusal.OpenRefusal.TheVariants.{Row, Slot, Span}
use Rattle.index.specs.Fields.{names, span, total, name, earlier, count, slot}
use Rattle.index.specs.Layout.{Obeys}
use Rattle.postings.specs.Shown.{NamedSlots}
use Rattle.index.specs.Meaning.{posting, row_slots, postings_of, slots_for, meaning}
use Rattle.index.specs.Tests.{counted_grows, later_from_next}

-- ---- rows, one by one

pub length_rows : (bs : List ℕ) → length (postings_of bs) ≡ names bs
unfolding postings_of
length_rows bs = length-map-range_with_len (posting bs) 0 (names bs)

pub get_or_rows : (bs : List ℕ) (i : ℕ) (d : NamedSlots) → i < names bs → slice_index_or (postings_of bs) i d ≡ posting bs i
unfolding postings_of
get_or_rows bs i d l = get_or-map-range_with_len (posting bs) 0 (names bs) i i d l (omega arith)

pub length_row : (bs : List ℕ) (i : ℕ) → length (row_slots bs i) ≡ count bs i
length_row bs i = length-map-range_with_len (slot bs) (earlier bs i) (count bs i)

pub get_or_row : (bs : List ℕ) (i k : ℕ) → k < count bs i → slice_index (row_slots bs i) k ≡ slot bs (earlier bs i + k)
get_or_row bs i k l = get_or-map-range_with_len (slot bs) (earlier bs i) (count bs i) k (earlier bs i + k) 0 l refl

-- ---- the slots of a name by names with their slots: none, or those of one of that name

pub posted_cases :
    (rs : List NamedSlots) (n : List ℕ) →
    (slots_for rs n ≡ []) ⊎ ((i : ℕ) × (i < length rs) × ((d : NamedSlots) → ((slice_index_or rs i d).0 ≡ n) × (slots_for rs n ≡ (slice_index_or rs i d).1)))
posted_cases [] n = inl refl
posted_cases (r ∷ rs) n = go (bytes_eq r.0 n) refl (posted_cases rs n)
  where
    go :
        (t : Bool) → bytes_eq r.0 n ≡ t →
        (slots_for rs n ≡ []) ⊎ ((i : ℕ) × (i < length rs) × ((d : NamedSlots) → ((slice_index_or rs i d).0 ≡ n) × (slots_for rs n ≡ (slice_index_or rs i d).1))) →
        ((if t then r.1 else slots_for rs n) ≡ [])
        ⊎ ((i : ℕ) × (i < suc (length rs)) × ((d : NamedSlots) → ((slice_index_or (r ∷ rs) i d).0 ≡ n) × ((if t then r.1 else slots_for rs n) ≡ (slice_index_or (r ∷ rs) i d).1)))
    go true e more = inr (0, omega arith, λ d. ((bytes_eq-Decides r.0 n).0 e, refl))
    go false e more = ⊎_elim (λ z. inl z) (λ p. inr (suc p.0, omega (arith, p.1), p.2)) more

-- ---- the slots of a row

-- the slots of a row lie among all slots
pub row_within : (bs : List ℕ) → Obeys bs → (i : ℕ) → i < names bs → earlier bs i + count bs i ≤ total bs
row_within bs o i l = omega (arith, counted_grows bs i (names bs) l, (o Row).all_counted, (o Row).sums i l)

pub row_rises : (bs : List ℕ) → Obeys bs → (i : ℕ) → i < names bs → Rising (row_slots bs i)
row_rises bs o i l j k h m =
    let n : k < count bs i = omega (arith, length_row bs i) in
    let p : j < count bs i = omega arith in
    rw (get_or_row bs i j p, get_or_row bs i k n)
    (later_from_next (λ a b. slot bs (earlier bs i + a) < slot bs (earlier bs i + b)) (count bs i) (λ a b c p q. omega arith) (λ a q. (o Slot).rising i a l q) j k h n)

pub row_below : (bs : List ℕ) → Obeys bs → (i k : ℕ) → i < names bs → k < length (row_slots bs i) → slice_index (row_slots bs i) k < span bs
row_below bs o i k l m =
    let n : k < count bs i = omega (arith, length_row bs i) in
    rw (get_or_row bs i k n) ((o Span).over (earlier bs i + k) (omega (arith, row_within bs o i l)))

-- ---- what the bytes mean

-- the slots of a name are none, or those of a row with that name
pub meaning_cases :
    (bs : List ℕ) (n : List ℕ) →
    (slots_for (postings_of bs) n ≡ []) ⊎ ((i : ℕ) × (i < names bs) × (name bs i ≡ n) × (slots_for (postings_of bs) n ≡ row_slots bs i))
meaning_cases bs n =
    ⊎_elim
    (λ (z : slots_for (postings_of bs) n ≡ []). inl z)
    (λ p.
    let l : p.0 < names bs = omega (arith, p.1, length_rows bs) in
    let e = get_or_rows bs p.0 ([], []) l in
    let q = p.2 ([], []) in
    inr (p.0, l, sym (ap (λ (r : NamedSlots). r.0) e) ∙ q.0, q.1 ∙ ap (λ (r : NamedSlots). r.1) e))
    (posted_cases (postings_of bs) n)

-- what holds of no slots and of the slots of each row holds of the slots of every name
meaning_all : (P : List ℕ → Type 0) (bs : List ℕ) → P [] → ((i : ℕ) → i < names bs → P (row_slots bs i)) → (n : List ℕ) → P (slots_for (postings_of bs) n)
meaning_all P bs z h n =
    ⊎_elim (λ (e : slots_for (postings_of bs) n ≡ []). subst P (sym e) z) (λ p. subst P (sym p.3) (h p.0 p.1)) (meaning_cases bs n)

-- bytes that are no name have no row
unnamed : (bs : List ℕ) → Obeys bs → (n : List ℕ) → is_name n ≡ false → slots_for (postings_of bs) n ≡ []
unnamed bs o n h =
    ⊎_elim
    (λ (e : slots_for (postings_of bs) n ≡ []). e)
    (λ p. absurd (true≢false (sym ((o Row).named p.0 p.1) ∙ ap is_name p.2 ∙ h)))
    (meaning_cases bs n)

pub meaning_lawful : (bs : List ℕ) → Obeys bs → Lawful (meaning bs)
meaning_lawful bs o =
    record {
      rising = meaning_all Rising bs (λ i j h k. absurd (omega arith)) (row_rises bs o);
      below = meaning_all (λ xs. (k : ℕ) → k < length xs → slice_index xs k < span bs) bs (λ k h. absurd (omega arith)) (λ i l k. row_below bs o i k l);
      short =
          ⊎_elim
          (λ (l : 0 < span bs). let p = (o Span).reached l in omega (arith, (o Slot).bound p.0 p.1, p.2))
          (λ (l : span bs ≤ 0). omega arith)
          (cases_lt 0 (span bs));
      unnamed = unnamed bs o;
    }
