-- The run of bytes at the front of a text that pass a test, and the number that a run of digits writes. Assumes nothing.
use Rattle.std.proofs.Common.{◌≡◌, ℕ, ◌+◌, ◌≤◌, Bool, true, List, [], ◌∷◌, length, take, drop, Err, None, refl, one-add, arith}
use Rattle.std.specs.List.{list_all, prefix_len}
use Rattle.std.specs.Cmp.Derive.{both_true}
use Rattle.std.proofs.lemmas.Bool.{cond_both, le-leb}
use Rattle.std.proofs.lemmas.Bool.Decides.{nat_tests}
use Rattle.std.proofs.lemmas.List.Folds.{length-prefix_len}
use Rattle.decimal.specs.Numbers.{number_limit, number_of}
use Rattle.query.specs.Scanning.{digit, amount_at}
use Rattle.query.specs.declared.fault.TokenFault.TheVariants.{Over}

-- each byte of the run passes
pub run_all : (p : ℕ → Bool) (xs : List ℕ) → list_all p (take (prefix_len p xs) xs) ≡ true
run_all p [] = refl
run_all p (x ∷ xs) =
    cond_both (p x) (1 + prefix_len p xs) 0 (λ n. list_all p (take n (x ∷ xs)) ≡ true) (λ h. rw (one-add (prefix_len p xs)) (both_true h (run_all p xs))) (λ h. refl)

-- a run of digits after the mark that writes no number of 32 bits writes one above the limit
pub amount_over : (limit at n : ℕ) (bs : List ℕ) → limit ≤ number_limit → n ≡ prefix_len digit (drop 1 bs) → (n ≡ 0 → ⊥) → None ≡ number_of (take n (drop 1 bs)) → Err (Over at) ≡ amount_at limit bs at
amount_over limit at n bs low is some none =
    let digits : list_all digit (take n (drop 1 bs)) ≡ true = rw is (run_all digit (drop 1 bs)) in
    let long : length (take n (drop 1 bs)) ≡ n = rw is (length-prefix_len digit (drop 1 bs)) in
    let first = le-leb 1 (length (take n (drop 1 bs))) (omega arith) in
    let over = rw (first, digits) at none in
    grind (arith, nat_tests)
