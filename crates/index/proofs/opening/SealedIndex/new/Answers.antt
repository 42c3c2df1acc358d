use Rattle.std.proofs.Common.{is_ok, refl, ap}
use Rattle.index.specs.Fields.{u16_at, u32_at}
use Rattle.index.specs.Meaning.{meaning, postings_of}
use Rattle.index.specs.Verdict.{rows_stand, size_stands, slots_stand, span_stands, verdict}
use Rattle.index.proofs.opening.SealedIndex.new.Goals as goal

pub parts-requires : goal.parts-requires
unfolding verdict size_stands rows_stand slots_stand span_stands u16_at u32_at
parts-requires c = refl

pub invariant_of-result : goal.invariant_of-result
unfolding verdict size_stands rows_stand slots_stand span_stands u16_at u32_at
invariant_of-result c = record { stands = ap (λ bs. is_ok (verdict bs)) c.parts.ensures }

pub returns : goal.returns
unfolding postings_of u16_at u32_at
returns c = ap meaning c.parts.ensures
