-- What a store shows is what an index can hold, and what is written of it seals the store. Assumes nothing.
use Rattle.std.proofs.Common.{◌≡◌, ℕ, zero, suc, ◌+◌, ◌^◌, ◌<◌, ◌≤◌, false, List, [], ◌∷◌, ◌++◌, length, get_or, take, drop, sum_by, sym, refl, ap, ◌∙◌, subst, ⊎_elim, arith, Ok}
use mathlib.Core.Path.{fun_ext}
use Rattle.std.specs.List.{AllByRecursion, All}
use Rattle.std.proofs.ByRecursion.{All-from_get_or}
use Rattle.std.proofs.lemmas.List.{length-append, length-take-le, length-drop, nil_from_length, take-append-drop, take_at, drop_at}
use Rattle.std.proofs.lemmas.List.Sums.{sum_by-cons}
use Rattle.std.proofs.lemmas.Bool.{cases_Bool, cond-false, le-ltb}
use Rattle.names.specs.Names.{is_name}
use Rattle.names.proofs.Names.{name_short}
use Rattle.postings.specs.Lists.{PostingLists, Lawful}
use Rattle.postings.specs.Rising.{Rising}
use Rattle.postings.specs.Shown.{NamedSlots, named_slots, Shows, FitsIndex}
use Rattle.postings.specs.TableLaws.{far_from_near, slots_found}
use Rattle.index.specs.declared.fields.TheConstants.{VERSION}
use Rattle.index.specs.declared.writer.Writer.{Writer}
use Rattle.index.proofs.Puts.{writes_then}
use Rattle.index.proofs.Runs.{IsShort, length-postings_bytes, length-slots_bytes, length-slots_of_all}
use Rattle.index.proofs.SpellingRead.{spelling_obeys, spelling_means, length-spelling}
use Rattle.index.proofs.Spelled.{bytes_take, one_meaning}
use Rattle.index.specs.Fields.{u16_bytes, u32_bytes}
use Rattle.index.specs.Layout.{Obeys}
use Rattle.index.specs.Meaning.{meaning, posting_lists, slots_for}
use Rattle.index.specs.Sealing.{Bytes, Sealed, Seals, index_size, outcome}
use Rattle.index.specs.Spelling.{IsIndexable, head_bytes, index_length, no_posting, postings_bytes, row_bytes, rows_bytes, slots_bytes, slots_of_all, spelling, tally}
use Rattle.index.specs.Writing.{Put, Writes}

-- ---- rows that share one list of slots, as names with their slots

module _ {X : Type 0} (name : X → List ℕ) (count : X → ℕ) where
  pub length-named_slots : (rs : List X) (ss : List ℕ) → length (named_slots name count rs ss) ≡ length rs
  length-named_slots [] ss = refl
  length-named_slots (r ∷ rs) ss = ap suc (length-named_slots rs (drop (count r) ss))

  name-named_slots : (rs : List X) (ss : List ℕ) (i : ℕ) (d : X) → i < length rs → (get_or (named_slots name count rs ss) i no_posting).0 ≡ name (get_or rs i d)
  name-named_slots [] ss i d l = absurd (let z : i < 0 = l in omega arith)
  name-named_slots (r ∷ rs) ss zero d l = refl
  name-named_slots (r ∷ rs) ss (suc i) d l = name-named_slots rs (drop (count r) ss) i d (omega (arith, l))

  pub rows_bytes-named_slots : (e : ℕ) (rs : List X) (ss : List ℕ) → length ss ≡ sum_by count rs → rows_bytes name count e rs ≡ postings_bytes e (named_slots name count rs ss)
  rows_bytes-named_slots e [] ss counted = refl
  rows_bytes-named_slots e (r ∷ rs) ss counted =
      let s = sum_by-cons count r rs in
      let more = named_slots name count rs (drop (count r) ss) in
      let n : length (take (count r) ss) ≡ count r = length-take-le (count r) ss (omega arith) in
      ap (λ t. row_bytes e (name r) (count r) ++ t) (rows_bytes-named_slots (e + count r) rs (drop (count r) ss) (omega (arith, length-drop (count r) ss)))
      ∙ ap (λ k. row_bytes e (name r) k ++ postings_bytes (e + k) more) (sym n)

  pub slots_of_all-named_slots : (rs : List X) (ss : List ℕ) → length ss ≡ sum_by count rs → slots_of_all (named_slots name count rs ss) ≡ ss
  slots_of_all-named_slots [] ss counted = sym (nil_from_length ss counted)
  slots_of_all-named_slots (r ∷ rs) ss counted =
      let s = sum_by-cons count r rs in
      ap (λ t. take (count r) ss ++ t) (slots_of_all-named_slots rs (drop (count r) ss) (omega (arith, length-drop (count r) ss))) ∙ take-append-drop (count r) ss

  pub tally-named_slots : (rs : List X) (ss : List ℕ) → length ss ≡ sum_by count rs → tally (named_slots name count rs ss) ≡ length ss
  tally-named_slots rs ss counted = sym (length-slots_of_all (named_slots name count rs ss)) ∙ ap length (slots_of_all-named_slots rs ss counted)

  pub size-named_slots : (rs : List X) (ss : List ℕ) → length ss ≡ sum_by count rs → index_size (named_slots name count rs ss) ≡ index_length (length rs) (length ss)
  size-named_slots rs ss counted = omega (arith, length-named_slots rs ss, tally-named_slots rs ss counted)

  pub names_short : (rs : List X) (ss : List ℕ) (l : ℕ) → IsIndexable (named_slots name count rs ss) l → All (λ r. length (name r) ≤ 16) rs
  names_short rs ss l fits k d h =
      let named = fits.named k (omega (arith, length-named_slots rs ss)) in
      subst (λ n. length n ≤ 16) (name-named_slots rs ss k d h) (name_short (get_or (named_slots name count rs ss) k no_posting).0 named)

-- ---- names with their slots that are all that lawful posting lists say

module _ (rs : List NamedSlots) (p : PostingLists) (s : Shows rs p) (law : Lawful p) where
  lists_at : (i : ℕ) → i < length rs → p.slots (get_or rs i no_posting).0 ≡ (get_or rs i no_posting).1
  lists_at i l = s.lists _ ∙ slots_found (λ (x : NamedSlots). x.0) (λ (x : NamedSlots). x.1) rs _ i no_posting (far_from_near (λ (x : NamedSlots). x.0) rs s.sorted) l refl

  pub indexable : length rs < 2 ^ 16 → tally rs < 2 ^ 32 → IsIndexable rs p.span
  indexable few total =
      record {
        few = few;
        total = total;
        short = law.short;
        named = λ i l.
            ⊎_elim (λ h. h)
            (λ (h : is_name (get_or rs i no_posting).0 ≡ false).
            let empty : length (get_or rs i no_posting).1 ≡ 0 = ap length (sym (lists_at i l) ∙ law.unnamed _ h) in
            absurd (omega (arith, s.some i no_posting l)))
            (cases_Bool (is_name (get_or rs i no_posting).0));
        ordered = λ i l. s.sorted i no_posting l;
        some = λ i l. omega (arith, s.some i no_posting l);
        rising = λ i l. subst Rising (lists_at i l) (law.rising _);
        over = λ i k l. subst (λ xs. k < length xs → get_or xs k 0 < p.span) (lists_at i l) (law.below _ k);
        reached = λ h. let t = s.reached h in let u = t.3 no_posting in (t.0, t.1, t.2, u.0, u.1);
      }

  pub shown_means : posting_lists rs p.span ≡ p
  shown_means =
      let same : slots_for rs ≡ p.slots = fun_ext (λ n. sym (s.lists n)) in
      ap (λ (g : List ℕ → List ℕ). record { slots = g; span = p.span }) same

-- what a store shows, an index can hold
pub shown_fits :
    {X : Type 0} (name : X → List ℕ) (count : X → ℕ) (rs : List X) (ss : List ℕ) (p : PostingLists) →
    Shows (named_slots name count rs ss) p → Lawful p → FitsIndex count rs ss → IsIndexable (named_slots name count rs ss) p.span
shown_fits name count rs ss p shows law f =
    indexable (named_slots name count rs ss) p shows law (omega (arith, length-named_slots name count rs ss, f.rows)) (omega (arith, tally-named_slots name count rs ss f.counted, f.slots))

pub length_head : (v n s t : ℕ) → length (head_bytes v n s t) ≡ 15
unfolding u16_bytes u32_bytes
length_head v n s t = refl

-- ---- what is written

-- a buffer into which the index was written from its start on
sealed_from : (rs : List NamedSlots) (p : PostingLists) (was out : List ℕ) → IsIndexable rs p.span → posting_lists rs p.span ≡ p → Bytes out → Put 0 (spelling VERSION rs p.span) was out → Sealed rs p was out
sealed_from rs p was out fits means octets put =
    let bs = spelling VERSION rs p.span in
    let size = index_size rs in
    let n : length bs ≡ size = length-spelling rs p.span fits in
    let front : take size out ≡ bs = ap (take size) put ∙ take_at bs (drop (0 + length bs) was) size n in
    let o : Obeys (take size out) = subst Obeys (sym front) (spelling_obeys rs p.span fits) in
    let e : meaning (take size out) ≡ p = ap meaning front ∙ spelling_means rs p.span fits ∙ means in
    record {
      spelled = front;
      obeys = o;
      means = e;
      alone = λ cs y q f. one_meaning cs (take size out) q o y (bytes_take size out octets) (f ∙ sym e);
      rest = ap (drop size) put ∙ drop_at bs (drop (0 + length bs) was) size n ∙ ap (λ k. drop k was) (let e : 0 + length bs ≡ size = omega arith in e);
    }

-- head, rows and slots, written one after another from the start of a buffer on
pub index_written :
    {X : Type 0} (name : X → List ℕ) (count : X → ℕ) (xs : List X) (ss : List ℕ) (l : ℕ) (u v w z : Writer) →
    IsIndexable (named_slots name count xs ss) l → length ss ≡ sum_by count xs → u.at ≡ 0 → index_length (length xs) (length ss) ≤ length u.buffer.now →
    Writes u v (head_bytes VERSION (length xs) l (length ss)) → Writes v w (rows_bytes name count 0 xs) → Writes w z (slots_bytes ss) →
    Put 0 (spelling VERSION (named_slots name count xs ss) l) u.buffer.now z.buffer.now
index_written name count xs ss l u v w z fits counted start room p q r =
    let ps = named_slots name count xs ss in
    let shorts : AllByRecursion IsShort ps = All-from_get_or IsShort ps no_posting (λ i h. name_short (get_or ps i no_posting).0 (fits.named i h)) in
    let n = length-named_slots name count xs ss in
    let t = tally-named_slots name count xs ss counted in
    let all = slots_of_all-named_slots name count xs ss counted in
    let head = head_bytes VERSION (length ps) l (tally ps) in
    let rows = postings_bytes 0 ps in
    let slots = slots_bytes (slots_of_all ps) in
    let p1 : Writes u v head = subst (Writes u v) (ap (λ k. head_bytes VERSION k l (length ss)) (sym n) ∙ ap (head_bytes VERSION (length ps) l) (sym t)) p in
    let q1 : Writes v w rows = subst (Writes v w) (rows_bytes-named_slots name count 0 xs ss counted) q in
    let r1 : Writes w z slots = subst (Writes w z) (ap slots_bytes (sym all)) r in
    let a = length-postings_bytes 0 ps shorts in
    let c = length-slots_bytes (slots_of_all ps) in
    let d = ap length all in
    let h = length-append rows slots in
    let f = length_head VERSION (length ps) l (tally ps) in
    let at = p1.at in
    let size = p1.size in
    let body : Writes v z (rows ++ slots) = writes_then v w z rows slots (omega arith) q1 r1 in
    let whole = writes_then u v z head (rows ++ slots) (omega arith) p1 body in
    subst (λ k. Put k (spelling VERSION ps l) u.buffer.now z.buffer.now) start whole.bytes

pub accepted : (rs : List NamedSlots) (was : List ℕ) (size : ℕ) → size ≡ index_size rs → index_size rs ≤ length was → Ok size ≡ outcome rs was
accepted rs was size sized room = ap Ok sized ∙ sym (cond-false _ _ _ (le-ltb (length was) (index_size rs) room))

-- what sealing promises, once a writer went over the buffer
pub seals_from :
    (rs : List NamedSlots) (p : PostingLists) (was out : List ℕ) (size : ℕ) (u z : Writer) → IsIndexable rs p.span → posting_lists rs p.span ≡ p →
    size ≡ index_size rs → index_size rs ≤ length was → Bytes out →
    u.buffer.now ≡ was → out ≡ z.buffer.now → Put 0 (spelling VERSION rs p.span) u.buffer.now z.buffer.now → Seals rs p was out (Ok size)
seals_from rs p was out size u z fits means sized room octets whole ended put =
    let bs = spelling VERSION rs p.span in
    record {
      says = accepted rs was size sized room;
      written = sealed_from rs p was out fits means octets (ended ∙ put ∙ ap (λ xs. take 0 xs ++ (bs ++ drop (0 + length bs) xs)) whole);
    }
