use Rattle.index.specs.declared.refusal.OpenRefusal.TheVariants.{Short, Size}
use Rattle.index.specs.Obeyed.{obeys_from_verdict}
use Rattle.index.proofs.opening.parts.Goals as goal

pub invariant_of-cut : goal.invariant_of-cut
invariant_of-cut c = record { long = obeys_from_verdict c.args.bytes.now c.requires Short }

pub cut-requires : goal.cut-requires
cut-requires c = obeys_from_verdict c.args.bytes.now c.requires Size
