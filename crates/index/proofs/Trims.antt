-- The bytes before the first zero. Assumes nothing.
use Rattle.std.proofs.Common.{if◌then◌else◌, ◌≡◌, ℕ, ◌<◌, ◌≢◌, List, [], ◌∷◌, length, take, Option, refl, ap, ◌∙◌, sym, add-one}
use Rattle.std.specs.List.{AllWithin, HoldsAt}
use Rattle.std.specs.Option.{MatchOption, unwrap_or}
use Rattle.std.proofs.lemmas.Bool.{eq-eqb, ne_eqb}
use Rattle.std.proofs.lemmas.Iterator.{index_from_first}
use Rattle.index.specs.Fields.{trim}
use Rattle.index.specs.Obeyed.{take-length_trim}

-- what stands before the place of the first zero, or before the end where there is none
pub trimmed_at : (xs : List ℕ) (r : Option ℕ) → MatchOption r (AllWithin (λ x. x ≢ 0) xs 0 (length xs)) (λ i. (i < length xs) × HoldsAt (λ x. x ≡ 0) xs i × AllWithin (λ x. x ≢ 0) xs 0 i) → take (unwrap_or r (length xs)) xs ≡ trim xs
trimmed_at xs r first =
    let e = index_from_first (λ ys. length (trim ys)) (λ x. x ≡ 0) (λ x. x ≢ 0) refl
    (λ x ys z. ap (λ t. length (if t then [] else x ∷ trim ys)) (eq-eqb x 0 z))
    (λ x ys n. ap (λ t. length (if t then [] else x ∷ trim ys)) (ne_eqb x 0 n) ∙ sym (add-one _))
    xs r first in
    ap (λ n. take n xs) (sym e) ∙ take-length_trim xs
