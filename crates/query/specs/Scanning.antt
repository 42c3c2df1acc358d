-- The token at a place of a text, by longest match, or the fault of it. Assumes nothing.
--
-- | definition | meaning                                                                       |
-- |------------|-------------------------------------------------------------------------------|
-- | Scan       | a terminal with the place where it begins and the place after it, or a fault  |
-- | space, digit | tests of a byte                                                             |
-- | name_at    | the longest run of name bytes, a fault where it is too long                   |
-- | digits_of  | the digits after the mark, as far as they go                                  |
-- | amount_at  | the number that they write and the length of the token, a fault where there is no digit or the number is too large |
-- | amount_scan     | a `#` or an `@` with its number, as a scan                                    |
-- | negation, negation_scan | the operator that begins with `!`; as a scan, a fault where there is none |
-- | scan_by, scan_at | what begins with a byte; what begins at a place that holds no space, past the last byte the end |
-- | past_spaces | the first place from one on that holds no space                              |
-- | scan_from, scan | what stands in a text from a place on, spaces passed over; `scan` is kept shut |
-- | Lexes bs p ts q | ts are the tokens of bs from the place p to the place q                  |
use Rattle.std.specs.Prelude.{◌≡◌, ℕ, ◌+◌, Bool, if◌then◌else◌, List, [], ◌∷◌, length, take, drop, Some, None, Option, Ok, Err, Result, ◌==◌, nat_le, slice_index}
use Rattle.std.specs.List.{prefix_len}
use Rattle.std.specs.Str.Parse.{digits_value}
use Rattle.std.specs.Char.{is_ascii_digit}
use Rattle.extents.specs.declared.operator.Operator.{Operator}
use Rattle.extents.specs.declared.operator.Operator.TheVariants.{ContainedIn, NotContainedIn, Containing, NotContaining, BothOf, OneOf, FollowedBy}
use Rattle.query.specs.declared.fault.TokenFault.{TokenFault}
use Rattle.query.specs.declared.fault.TokenFault.TheVariants.{Unknown, Over}
use Rattle.names.specs.Names.{name_byte}
use Rattle.query.specs.Limits.{name_max, windows_max, runs_max}
use Rattle.query.specs.Leaves.{Leaf, name, windows, runs}
use Rattle.query.specs.Terminals.{Terminal, operand, operator, plain, opens, closes, ends, Placed}

pub data Scan : Type 0 where
  token : Terminal → ℕ → ℕ → Scan
  fault : TokenFault → Scan

abbrev pub space : ℕ → Bool
space b = b == 32

abbrev pub digit : ℕ → Bool
digit b = is_ascii_digit b

-- below, bs is the text from the place `at` on

abbrev pub name_at : List ℕ → ℕ → Scan
name_at bs at =
    if nat_le (prefix_len name_byte bs) name_max
    then token (operand (name (take (prefix_len name_byte bs) bs))) at (at + prefix_len name_byte bs)
    else fault (Over at)

abbrev pub digits_of : List ℕ → List ℕ
digits_of bs = take (prefix_len digit (drop 1 bs)) (drop 1 bs)

abbrev pub amount_at : ℕ → List ℕ → ℕ → Result (ℕ × ℕ) TokenFault
amount_at limit bs at =
    if prefix_len digit (drop 1 bs) == 0
    then Err (Unknown at)
    else (if nat_le (digits_value 10 (digits_of bs)) limit then Ok (digits_value 10 (digits_of bs), 1 + prefix_len digit (drop 1 bs)) else Err (Over at))

abbrev pub amount_scan : (ℕ → Leaf) → ℕ → Result (ℕ × ℕ) TokenFault → Scan
amount_scan w at (Ok p) = token (operand (w p.0)) at (at + p.1)
amount_scan w at (Err e) = fault e

-- `!<` and `!>`
abbrev pub negation : List ℕ → Option Operator
negation bs =
    if slice_index bs 1 == 60
    then Some NotContainedIn
    else (if slice_index bs 1 == 62 then Some NotContaining else None)

abbrev pub negation_scan : ℕ → Option Operator → Scan
negation_scan at (Some o) = token (operator o) at (at + 2)
negation_scan at None = fault (Unknown at)

-- what begins with the byte b: ( ) < > & | ; ! # @, a name byte, or none of these
abbrev pub scan_by : ℕ → List ℕ → ℕ → Scan
scan_by b bs at =
    if b == 40 then token (opens plain) at (at + 1)
    else (if b == 41 then token closes at (at + 1)
    else (if b == 60 then token (operator ContainedIn) at (at + 1)
    else (if b == 62 then token (operator Containing) at (at + 1)
    else (if b == 38 then token (operator BothOf) at (at + 1)
    else (if b == 124 then token (operator OneOf) at (at + 1)
    else (if b == 59 then token (operator FollowedBy) at (at + 1)
    else (if b == 33 then negation_scan at (negation bs)
    else (if b == 35 then amount_scan windows at (amount_at windows_max bs at)
    else (if b == 64 then amount_scan runs at (amount_at runs_max bs at)
    else (if name_byte b then name_at bs at
    else fault (Unknown at)))))))))))

abbrev pub scan_at : List ℕ → ℕ → Scan
scan_at bs at = if length bs == 0 then token ends at at else scan_by (slice_index bs 0) bs at

-- the place of the first byte from `from` on that is no space
abbrev pub past_spaces : List ℕ → ℕ → ℕ
past_spaces bs from = from + prefix_len space (drop from bs)

abbrev pub scan_from : List ℕ → ℕ → Scan
scan_from bs from = scan_at (drop (past_spaces bs from) bs) (past_spaces bs from)

unfoldable pub scan : List ℕ → ℕ → Scan
scan bs from = scan_from bs from

pub data Lexes (bs : List ℕ) : ℕ → List Placed → ℕ → Type 0 where
  none : {p : ℕ} → Lexes bs p [] p
  more : {p after q : ℕ} {ts : List Placed} (w : Terminal) (at : ℕ) → scan bs p ≡ token w at after → Lexes bs after ts q → Lexes bs p ((w, at) ∷ ts) q
