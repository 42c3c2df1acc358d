-- Numbers in bytes: what is read of what was written, and of a part. Assumes nothing.
use Rattle.std.proofs.Common.{◌≡◌, ℕ, ◌+◌, ◌-◌, ◌^◌, ◌<◌, ◌≤◌, List, [], ◌∷◌, ◌++◌, take, drop, refl, sym, ap, ◌∙◌, arith}
use Rattle.std.specs.Int.{w16, w32, from_le_bytes}
use Rattle.std.proofs.lemmas.Nat.{from_le_bytes-to_le_bytes_2, from_le_bytes-to_le_bytes_4}
use Rattle.std.proofs.lemmas.List.{take-take, drop-drop, drop-take}
use Rattle.index.specs.Fields.{u16_at, u16_bytes, u32_at, u32_bytes}

-- only the first two, or four, bytes of a list tell a number
pub from_two : (xs : List ℕ) → from_le_bytes w16 xs ≡ from_le_bytes w16 (take 2 xs)
from_two [] = refl
from_two (a ∷ []) = refl
from_two (a ∷ b ∷ xs) = refl

pub from_four : (xs : List ℕ) → from_le_bytes w32 xs ≡ from_le_bytes w32 (take 4 xs)
from_four [] = refl
from_four (a ∷ []) = refl
from_four (a ∷ b ∷ []) = refl
from_four (a ∷ b ∷ c ∷ []) = refl
from_four (a ∷ b ∷ c ∷ d ∷ xs) = refl

-- a number that was written is read
pub u16_at-bytes : (bs rest : List ℕ) (p v : ℕ) → v < 2 ^ 16 → drop p bs ≡ u16_bytes v ++ rest → u16_at bs p ≡ v
unfolding u16_at u16_bytes
u16_at-bytes bs rest p v l h = from_two (drop p bs) ∙ ap (λ xs. from_le_bytes w16 (take 2 xs)) h ∙ from_le_bytes-to_le_bytes_2 v l

pub u32_at-bytes : (bs rest : List ℕ) (p v : ℕ) → v < 2 ^ 32 → drop p bs ≡ u32_bytes v ++ rest → u32_at bs p ≡ v
unfolding u32_at u32_bytes
u32_at-bytes bs rest p v l h = from_four (drop p bs) ∙ ap (λ xs. from_le_bytes w32 (take 4 xs)) h ∙ from_le_bytes-to_le_bytes_4 v l

-- a number that lies within a part of the bytes
pub u32_at-chunk : (bs : List ℕ) (n p q : ℕ) → q + 4 ≤ n → u32_at (take n (drop p bs)) q ≡ u32_at bs (p + q)
unfolding u32_at
u32_at-chunk bs n p q l =
    let xs = drop p bs in
    let e : n ≡ q + (n - q) = omega arith in
    from_four (drop q (take n xs))
    ∙ ap (λ k. from_le_bytes w32 (take 4 (drop q (take k xs)))) e
    ∙ ap (λ ys. from_le_bytes w32 (take 4 ys)) (drop-take q (n - q) xs)
    ∙ ap (from_le_bytes w32) (take-take 4 (n - q) (drop q xs) (omega arith))
    ∙ sym (from_four (drop q xs))
    ∙ ap (from_le_bytes w32) (drop-drop q p bs)
