-- The number, the place and the refusal of each fault. Assumes nothing.
--
-- | definition   | meaning                                                                              |
-- |--------------|--------------------------------------------------------------------------------------|
-- | number_of f  | the number of a reading's fault; a token's own fault keeps its number                 |
-- | place_of f   | the place where the token at fault begins, or the text's length for its end           |
-- | refusal_of f | what a fault is told by: its number and its place                                     |
use Rattle.std.specs.Prelude.{ℕ}
use Rattle.refusals.specs.Refusals.{at_place}
use Rattle.refusals.specs.declared.Refusal.{Refusal}
use Rattle.query.specs.declared.fault.TokenFault.TheVariants.{Unknown, Over}
use Rattle.query.specs.declared.fault.ReadFault.{ReadFault}
use Rattle.query.specs.declared.fault.ReadFault.TheVariants.{Token, Unexpected, TooDeep, TooMany}

abbrev pub number_of : ReadFault → ℕ
number_of (Token (Unknown place)) = 15
number_of (Token (Over place)) = 16
number_of (Unexpected place) = 17
number_of (TooDeep place) = 18
number_of (TooMany place) = 19

abbrev pub place_of : ReadFault → ℕ
place_of (Token (Unknown place)) = place
place_of (Token (Over place)) = place
place_of (Unexpected place) = place
place_of (TooDeep place) = place
place_of (TooMany place) = place

abbrev pub refusal_of : ReadFault → Refusal
refusal_of f = at_place (number_of f) (place_of f)
