-- The slots of a store, asked for one after the other. Assumes nothing.
use Rattle.std.proofs.Common.{◌≡◌, ℕ, ◌+◌, ◌-◌, ◌<◌, ◌≤◌, List, [], ◌∷◌, ◌++◌, length, get_or, take, Some, None, Option, sym, refl, ap, ◌∙◌, ⊎_elim, arith}
use Rattle.std.specs.List.{slice_get}
use Rattle.std.proofs.lemmas.Bool.{cases_lt, le-leb}
use Rattle.std.proofs.lemmas.List.{length_push, take_more, take_all}
use Rattle.std.proofs.lemmas.Option.{slice_get_past, slice_get-get_or, slice_get_within, get_or_from_slice_get, slice_get_cases}
use Rattle.postings.specs.Rising.{Rising, first_from}
use Rattle.postings.proofs.Firsts.{first_at, first_none, rising_weak}

-- ys are the first of the slots xs, and the next of them is known
pub record Fetched (xs ys : List ℕ) (given : Option ℕ) : Type 0 where
  pub first : ys ≡ take (length ys) xs
  pub next : given ≡ slice_get xs (length ys)

from_zero : (xs : List ℕ) → first_from 0 xs ≡ slice_get xs 0
from_zero [] = refl
from_zero (x ∷ xs) = rw (le-leb 0 x (omega arith))

pub fetched_none : (xs : List ℕ) (next : Option ℕ) → next ≡ first_from 0 xs → Fetched xs [] next
fetched_none xs next e = record { first = refl; next = e ∙ from_zero xs }

module _ (xs : List ℕ) (up : Rising xs) where
  -- the first slot past the one at n is the one after it
  past : (n k : ℕ) → n < length xs → k ≡ get_or xs n 0 + 1 → first_from k xs ≡ slice_get xs (n + 1)
  past n k l e =
      let below : (i : ℕ) → i ≤ n → get_or xs i 0 < k = λ i h. omega (arith, e, rising_weak xs up i n h l) in
      ⊎_elim
      (λ (m : n + 1 < length xs). first_at xs k (n + 1) m (λ i h. below i (omega arith)) (omega (arith, e, up n (n + 1) (omega arith) m)) ∙ sym (slice_get-get_or xs (n + 1) 0 m))
      (λ (m : length xs ≤ n + 1). first_none xs k (λ i h. below i (omega arith)) ∙ sym (slice_get_past xs (n + 1) m))
      (cases_lt (n + 1) (length xs))

  module _ (ys : List ℕ) (slot : ℕ) (f : Fetched xs ys (Some slot)) where
    pub fetched_within : length ys < length xs
    fetched_within = slice_get_within xs (length ys) slot (sym f.next)

    pub fetched_at : get_or xs (length ys) 0 ≡ slot
    fetched_at = get_or_from_slice_get xs (length ys) slot 0 (sym f.next)

    -- one slot more
    pub fetched_more : (k : ℕ) (next : Option ℕ) → k ≡ slot + 1 → next ≡ first_from k xs → Fetched xs (ys ++ slot ∷ []) next
    fetched_more k next e h =
        let n = length ys in
        let size : length (ys ++ slot ∷ []) ≡ n + 1 = length_push ys slot in
        record {
          first =
              ap (λ zs. zs ++ slot ∷ []) f.first
              ∙ ap (λ s. take n xs ++ s ∷ []) (sym fetched_at)
              ∙ sym (take_more xs n 0 fetched_within)
              ∙ ap (λ m. take m xs) (sym size);
          next = h ∙ past n k fetched_within (e ∙ ap (λ s. s + 1) (sym fetched_at)) ∙ ap (slice_get xs) (sym size);
        }

-- with one slot more, fewer are left
pub fetched_fewer : (xs ys zs : List ℕ) (slot : ℕ) → length ys < length xs → zs ≡ ys ++ slot ∷ [] → length xs - length zs < length xs - length ys
fetched_fewer xs ys zs slot l e = omega (arith, ap length e, length_push ys slot)

-- where there is no next slot, all are fetched
pub fetched_all : (xs ys : List ℕ) → Fetched xs ys None → ys ≡ xs
fetched_all xs ys f =
    let all : length xs ≤ length ys =
    ⊎_elim
    (λ p. let clash : None ≡ Some p.0 = f.next ∙ p.2 in absurd cc)
    (λ p. p.0)
    (slice_get_cases xs (length ys)).1 in
    f.first ∙ take_all (length ys) xs all
