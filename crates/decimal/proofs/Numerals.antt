-- A text of digits, as the library reads it. Assumes nothing.
use Rattle.std.proofs.Common.{◌≡◌, ◌≢◌, ℕ, ◌<◌, ◌^◌, true, List, length, get_or, None, Ok, Err, Result, rules, arith}
use Rattle.std.specs.List.{list_all}
use Rattle.std.specs.Str.{IsUtf8}
use Rattle.std.specs.Str.Parse.{digits_value, ParsesUnsigned}
use Rattle.std.specs.Char.{is_ascii_digit}
use Rattle.std.specs.Result.{OkIff, result_ok}
use Rattle.std.proofs.lemmas.Bool.Decides.{nat_tests}
use Rattle.std.proofs.lemmas.Fmt.{IsAscii-from_digits}
use Rattle.std.proofs.lemmas.Str.{IsUtf8-from_ascii}
use Rattle.std.proofs.lemmas.Str.Parse.{IsNumeralModel, numerals_by_value, parse_plain}
use Rattle.decimal.specs.Numbers.{number_of}

abbrev Digits : List ℕ → Type 0
Digits bs = list_all is_ascii_digit bs ≡ true

own : IsNumeralModel Digits (digits_value 10)
own = numerals_by_value Digits (search rules)

-- a number that a text with no sign is read as, or no number
answer : {E : Type 0} (bs : List ℕ) (r : Result ℕ E) → OkIff r (Digits bs × (0 < length bs) × (digits_value 10 bs < 2 ^ 32)) (digits_value 10 bs) → result_ok r ≡ number_of bs
answer bs (Ok n) h = grind (arith, nat_tests)
answer bs (Err e) h = grind (arith, nat_tests)

pub parsed : {E : Type 0} (bs : List ℕ) (r : Result ℕ E) → ParsesUnsigned 32 10 bs r → get_or bs 0 0 ≢ 43 → result_ok r ≡ number_of bs
parsed bs r h plain = answer bs r (parse_plain own 32 bs r h plain)

-- bytes that are no text write no number
pub no_text : (bs : List ℕ) → (IsUtf8 bs → ⊥) → None ≡ number_of bs
no_text bs h =
    let no_digits : Digits bs → ⊥ = λ d. h (IsUtf8-from_ascii bs (IsAscii-from_digits bs (own.to bs d))) in
    grind (arith, nat_tests)
