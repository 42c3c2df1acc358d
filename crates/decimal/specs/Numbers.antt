-- Decimal numbers in a text. Assumes nothing.
--
--   number_limit   the largest number of 32 bits
--   number_of      the decimal 32-bit number that a text writes: one digit or more, and nothing else
use Rattle.std.specs.Prelude.{if◌then◌else◌, ℕ, ◌-◌, ◌^◌, ◌&&◌, List, length, Some, None, Option, nat_le}
use Rattle.std.specs.List.{list_all}
use Rattle.std.specs.Str.Parse.{digits_value}
use Rattle.std.specs.Char.{is_ascii_digit}

abbrev pub number_limit : ℕ
number_limit = 2 ^ 32 - 1

abbrev pub number_of : List ℕ → Option ℕ
number_of bs =
    if nat_le 1 (length bs) && (list_all is_ascii_digit bs && nat_le (digits_value 10 bs) number_limit)
    then Some (digits_value 10 bs)
    else None
