-- Searches in bytes that obey the layout: for a name's row, and for its slots. Assumes nothing.
use Rattle.std.proofs.Common.{◌≡◌, ℕ, ◌+◌, ◌<◌, ◌≤◌, List, [], length, get_or, sym, ap, ◌∙◌, arith}
use Rattle.std.specs.List.{HoldsAt}
use Rattle.std.proofs.lemmas.List.{ext_get_or, length-map, get_or-map}
use Rattle.postings.specs.Shown.{NamedSlots}
use Rattle.postings.specs.Tables.{Sorted, Gap}
use Rattle.postings.specs.TableLaws.{far_from_near, slots_found, slots_gap}
use Rattle.index.specs.declared.refusal.OpenRefusal.TheVariants.{Row}
use Rattle.index.specs.Fields.{count, name, names, u32_at}
use Rattle.index.specs.Layout.{Obeys}
use Rattle.index.specs.Meaning.{postings_of, row_slots, slots_for}
use Rattle.index.specs.Parts.{row_chunks, row_run, slot_chunks, slots_in}
use Rattle.index.specs.Posted.{get_or_row, get_or_rows, length_row, length_rows, row_within}
use Rattle.index.specs.Spelling.{no_posting}
use Rattle.index.proofs.Chunks.{row_part, called, name_read, length_rows_cut, row_read, length_run, run_read}

-- ---- the rows as names with their slots

named_row : (bs : List ℕ) (k : ℕ) (d : NamedSlots) → k < length (postings_of bs) → (get_or (postings_of bs) k d).0 ≡ name bs k
named_row bs k d l = ap (λ (r : NamedSlots). r.0) (get_or_rows bs k d (omega (arith, length_rows bs)))

pub postings_sorted : (bs : List ℕ) → Obeys bs → Sorted (λ (x : NamedSlots). x.0) (postings_of bs)
postings_sorted bs o k d l =
    let m : k + 1 < names bs = omega (arith, length_rows bs) in
    rw (named_row bs k d (omega arith), named_row bs (k + 1) d l) ((o Row).ordered k m)

-- ---- what a search of the rows for the name n finds

module _ (bs n : List ℕ) (o : Obeys bs) (xs : List (List ℕ)) (e : xs ≡ row_chunks bs) where
  cut : length xs ≡ names bs
  cut = length_rows_cut bs xs e

  name_at : (k : ℕ) (d : List ℕ) → k < names bs → called (get_or xs k d) ≡ name bs k
  name_at k d l = name_read bs k (get_or xs k d) (row_read bs xs e k d (omega (arith, cut)))

  pub rows_sorted : Sorted called xs
  rows_sorted k d l = let m : k + 1 < names bs = omega (arith, cut) in rw (name_at k d (omega arith), name_at (k + 1) d m) ((o Row).ordered k m)

  -- the row of that name, which says its slots
  pub row_found : (i : ℕ) → i < length xs → HoldsAt (λ r. called r ≡ n) xs i → slots_for (postings_of bs) n ≡ row_slots bs i
  row_found i l named =
      let m : i < names bs = omega (arith, cut) in
      let k : i < length (postings_of bs) = omega (arith, length_rows bs) in
      slots_found (λ (x : NamedSlots). x.0) (λ (x : NamedSlots). x.1) (postings_of bs) n i no_posting
      (far_from_near (λ (x : NamedSlots). x.0) (postings_of bs) (postings_sorted bs o)) k (named_row bs i no_posting k ∙ sym (name_at i [] m) ∙ named [])
      ∙ ap (λ (r : NamedSlots). r.1) (get_or_rows bs i no_posting m)

  -- no row of that name
  pub no_row : (i : ℕ) → i ≤ length xs → Gap called xs n i → slots_for (postings_of bs) n ≡ []
  no_row i within gap =
      let same : (k : ℕ) (d : NamedSlots) → k < length (postings_of bs) → (get_or (postings_of bs) k d).0 ≡ called (get_or xs k []) =
      λ k d l. named_row bs k d l ∙ sym (name_at k [] (omega (arith, length_rows bs))) in
      slots_gap (λ (x : NamedSlots). x.0) (λ (x : NamedSlots). x.1) (postings_of bs) n i (
        λ k d low h. let l : k < length (postings_of bs) = omega (arith, h, within, cut, length_rows bs) in rw (same k d l) (gap.0 k [] low h),
        λ k d h l. rw (same k d l) (gap.1 k [] h (omega (arith, l, cut, length_rows bs))),
      )

-- ---- the slots of a row

-- the slots of the row i, read where they lie
pub run_slots : (bs : List ℕ) → Obeys bs → (slots : List (List ℕ)) → slots ≡ slot_chunks bs → (i : ℕ) → i < names bs → (row : List ℕ) → row ≡ row_part bs i → slots_in (row_run slots row) ≡ row_slots bs i
run_slots bs o slots e i l row f =
    let w = row_within bs o i l in
    let xs = row_run slots row in
    let n = length_run bs slots e i row f w in
    let size = length-map xs (λ s. u32_at s 0) in
    ext_get_or 0 (slots_in xs) (row_slots bs i) (size ∙ n ∙ sym (length_row bs i))
    (λ k m.
    let p : k < count bs i = omega (arith, size, n) in
    get_or-map (λ s. u32_at s 0) xs k [] 0 (omega arith) ∙ run_read bs slots e i row f w k [] p ∙ sym (get_or_row bs i k p))
