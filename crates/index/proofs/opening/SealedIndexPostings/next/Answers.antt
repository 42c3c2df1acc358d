use Rattle.std.proofs.Common.{sym, ap, ◌∙◌, subst}
use Rattle.postings.specs.Rising.{Rising, first_from}
use Rattle.index.specs.Obeyed.{obeys_from_verdict}
use Rattle.index.specs.Posted.{meaning_lawful}
use Rattle.index.proofs.opening.SealedIndexPostings.next.Goals as goal

pub returns : goal.returns
returns c =
    let s = c.args.self.now in
    let bs = s.parts.head.bytes.now in
    let rising = (meaning_lawful bs (obeys_from_verdict bs s.stands)).rising c.args.name.now in
    c.first_from.ensures (subst Rising (sym c.slots_of.ensures) rising) ∙ ap (first_from c.args.k) c.slots_of.ensures
