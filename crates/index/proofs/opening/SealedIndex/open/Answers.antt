use Rattle.std.proofs.Common.{◌≡◌, is_ok, sym, ap, subst, arith, rules}
use Rattle.std.proofs.lemmas.Bool.Decides.{Decides-at}
use Rattle.refusals.specs.Refusals.{refusal_in}
use Rattle.index.specs.Layout.{IsJudged, IsTold}
use Rattle.index.specs.Obeyed.{verdict_judges, verdict_told}
use Rattle.index.specs.Refusals.{open_refusal_of}
use Rattle.index.specs.Verdict.{verdict}
use Rattle.index.proofs.Spelled.{verdict_spelled}
use Rattle.index.proofs.opening.SealedIndex.open.Goals as goal

-- ---- refused

pub returns-in_err-judge-clause-judges : goal.returns-in_err-judge-clause-judges
returns-in_err-judge-clause-judges c =
    let bs = c.args.bytes.now in
    let says : c.from_residual.result ≡ verdict bs = search rules in
    subst (IsJudged bs) (sym says) (verdict_judges bs)

pub returns-in_err-judge-clause-told : goal.returns-in_err-judge-clause-told
returns-in_err-judge-clause-told c =
    let bs = c.args.bytes.now in
    let says : c.from_residual.result ≡ verdict bs = search rules in
    subst (λ r. IsTold bs (refusal_in open_refusal_of r)) (sym says) (verdict_told bs)

pub returns-in_err-judge-clause-spelled : goal.returns-in_err-judge-clause-spelled
returns-in_err-judge-clause-spelled c =
    let bs = c.args.bytes.now in
    let says : c.from_residual.result ≡ verdict bs = search rules in
    Decides-at _ (is_ok (verdict bs)) (ap is_ok says) (verdict_spelled bs (λ i. omega (arith, c.type_inv.bytes i)))

-- ---- opened

pub returns-clause-judges : goal.returns-clause-judges
returns-clause-judges c = subst (IsJudged c.args.bytes.now) (sym c.in_ok-judge.ensures) (verdict_judges c.args.bytes.now)

pub returns-clause-told : goal.returns-clause-told
returns-clause-told c = subst (λ r. IsTold c.args.bytes.now (refusal_in open_refusal_of r)) (sym c.in_ok-judge.ensures) (verdict_told c.args.bytes.now)

pub returns-clause-spelled : goal.returns-clause-spelled
returns-clause-spelled c =
    let bs = c.args.bytes.now in
    Decides-at _ (is_ok (verdict bs)) (ap is_ok c.in_ok-judge.ensures) (verdict_spelled bs (λ i. omega (arith, c.type_inv.bytes i)))
