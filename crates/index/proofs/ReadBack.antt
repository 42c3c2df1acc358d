-- What the fields of written bytes read as. Assumes nothing.
use Rattle.std.proofs.Common.{◌≡◌, ℕ, zero, suc, ◌+◌, ◌-◌, ◌*◌, ◌<◌, ◌≤◌, true, ◌&&◌, eqb, leb, List, [], ◌∷◌, ◌++◌, length, get_or, take, drop, replicate, sym, refl, ap, ◌∙◌, true≢false, arith}
use Rattle.std.specs.List.{AllByRecursion}
use Rattle.std.proofs.lemmas.List.{append_assoc, get_or_append_left, get_or-append_right, drop-drop, drop_at}
use Rattle.std.proofs.lemmas.List.Sums.{sum_by-cons}
use Rattle.std.proofs.lemmas.Bool.{and_parts, ne_eqb, cond-false}
use Rattle.names.specs.Names.{is_name, name_byte, all_name_bytes, name_limit}
use Rattle.index.specs.Fields.{trim, u32_bytes}
use Rattle.index.specs.Layout.{name_bytes}
use Rattle.index.specs.Spelling.{postings_bytes, row_bytes, slots_bytes, slots_of_all, tally}
use Rattle.postings.specs.Shown.{NamedSlots}
use Rattle.index.proofs.Runs.{IsShort, length-u32_bytes, length-row_bytes}

-- ---- names

byte_some : (b : ℕ) → name_byte b ≡ true → b ≡ 0 → ⊥
byte_some b h e = true≢false (sym h ∙ ap name_byte e)

trim_zeros : (n : ℕ) → trim (replicate n 0) ≡ []
trim_zeros zero = refl
trim_zeros (suc n) = refl

trim_bytes : (n zs : List ℕ) → all_name_bytes n ≡ true → trim zs ≡ [] → trim (n ++ zs) ≡ n
trim_bytes [] zs h z = z
trim_bytes (b ∷ n) zs h z =
    let p = and_parts (name_byte b) (all_name_bytes n) h in
    cond-false (eqb b 0) [] (b ∷ trim (n ++ zs)) (ne_eqb b 0 (byte_some b p.0)) ∙ ap (λ t. b ∷ t) (trim_bytes n zs p.1 z)

pub trim-name_bytes : (n : List ℕ) → is_name n ≡ true → trim (name_bytes n) ≡ n
unfolding name_bytes is_name
trim-name_bytes n h =
    let p = and_parts (leb 1 (length n)) (leb (length n) name_limit && all_name_bytes n) h in
    let q = and_parts (leb (length n) name_limit) (all_name_bytes n) p.1 in
    trim_bytes n (replicate (16 - length n) 0) q.1 (trim_zeros (16 - length n))

-- ---- from the i-th row, or the j-th slot, on

pub rows_from : (e : ℕ) (rs : List NamedSlots) (more : List ℕ) (i : ℕ) → AllByRecursion IsShort rs → i ≤ length rs → drop (24 * i) (postings_bytes e rs ++ more) ≡ postings_bytes (e + tally (take i rs)) (drop i rs) ++ more
rows_from e rs more zero h l = let z : e ≡ e + 0 = omega arith in ap (λ n. postings_bytes n rs ++ more) z
rows_from e [] more (suc i) h l = absurd (let z : suc i ≤ 0 = l in omega arith)
rows_from e (r ∷ rs) more (suc i) h l =
    let n = length r.1 in
    let m : 24 * suc i ≡ 24 + 24 * i = omega arith in
    let z : (e + n) + tally (take i rs) ≡ e + tally (r ∷ take i rs) = omega (arith, sum_by-cons (λ (r : NamedSlots). length r.1) r (take i rs)) in
    ap (λ k. drop k ((row_bytes e r.0 (length r.1) ++ postings_bytes (e + n) rs) ++ more)) m
    ∙ sym (drop-drop (24 * i) 24 ((row_bytes e r.0 (length r.1) ++ postings_bytes (e + n) rs) ++ more))
    ∙ ap (λ t. drop (24 * i) (drop 24 t)) (append_assoc (row_bytes e r.0 (length r.1)) (postings_bytes (e + n) rs) more)
    ∙ ap (drop (24 * i)) (drop_at (row_bytes e r.0 (length r.1)) (postings_bytes (e + n) rs ++ more) 24 (length-row_bytes e r h.0))
    ∙ rows_from (e + n) rs more i h.1 (omega (arith, l))
    ∙ ap (λ k. postings_bytes k (drop i rs) ++ more) z

pub slots_from : (xs : List ℕ) (j : ℕ) → j ≤ length xs → drop (4 * j) (slots_bytes xs) ≡ slots_bytes (drop j xs)
slots_from xs zero l = refl
slots_from [] (suc j) l = absurd (let z : suc j ≤ 0 = l in omega arith)
slots_from (x ∷ xs) (suc j) l =
    let m : 4 * suc j ≡ 4 + 4 * j = omega arith in
    ap (λ k. drop k (u32_bytes x ++ slots_bytes xs)) m
    ∙ sym (drop-drop (4 * j) 4 (u32_bytes x ++ slots_bytes xs))
    ∙ ap (drop (4 * j)) (drop_at (u32_bytes x) (slots_bytes xs) 4 (length-u32_bytes x))
    ∙ slots_from xs j (omega (arith, l))

-- the k-th slot of the i-th row, among all slots
pub slot_of_row : (rs : List NamedSlots) (i k : ℕ) (d : NamedSlots) → i < length rs → k < length (get_or rs i d).1 → get_or (slots_of_all rs) (tally (take i rs) + k) 0 ≡ get_or (get_or rs i d).1 k 0
slot_of_row [] i k d l h = absurd (let z : i < 0 = l in omega arith)
slot_of_row (r ∷ rs) zero k d l h =
    let e : 0 + k ≡ k = omega arith in
    ap (λ n. get_or (r.1 ++ slots_of_all rs) n 0) e ∙ get_or_append_left r.1 (slots_of_all rs) 0 k h
slot_of_row (r ∷ rs) (suc i) k d l h =
    let t = tally (take i rs) in
    let s = sum_by-cons (λ (r : NamedSlots). length r.1) r (take i rs) in
    let e : tally (r ∷ take i rs) + k ≡ length r.1 + (t + k) = omega arith in
    let m : length r.1 + (t + k) - length r.1 ≡ t + k = omega arith in
    ap (λ n. get_or (r.1 ++ slots_of_all rs) n 0) e
    ∙ get_or-append_right r.1 (slots_of_all rs) (length r.1) (length r.1 + (t + k)) 0 refl (omega arith)
    ∙ ap (λ n. get_or (slots_of_all rs) n 0) m
    ∙ slot_of_row rs i k d (omega (arith, l)) h
