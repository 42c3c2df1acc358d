use Rattle.std.proofs.Common.{◌≡◌, Some, None, sym, refl, ap, ◌∙◌, arith}
use Rattle.extents.specs.Extents.{find_first}
use Rattle.containment.specs.declared.verdict.Verdict.TheVariants.{Keep, Stop, GoOn}
use Rattle.containment.specs.Filter.{candidates_of, reaches, calls_on}
use Rattle.containment.proofs.Filters.{calls_from, turn_none, turn_keep, turn_stop, turn_on, turn_less, calls_none, calls_turn}
use Rattle.containment.proofs.filter.first_met.Invariants.{walk}
use Rattle.containment.proofs.filter.first_met.Goals as goal

pub loop-candidate-init : goal.loop-candidate-init
loop-candidate-init g c = (refl, omega (arith, ap (λ t. t.calls) c.new-tally.ensures))

pub returns-in_default : goal.returns-in_default
returns-in_default g c =
    let w = walk g c.args.candidates.now c.args.judge.now in
    let n = c.loop-candidate.key in
    let e : find_first (reaches w.order n) (candidates_of w.order w.candidates) ≡ None = sym c.next.ensures.extent ∙ sym c.in_default.ensures.extent in
    let asked = ap (λ t. t.calls) c.take.ensures.count in
    record {
      extent = ap (λ r. r.extent) c.found.ensures ∙ sym (turn_none w n e) ∙ c.loop-candidate.invariant.0;
      count = omega (arith, calls_none w n e, asked, c.next.ensures.count, ap (λ r. r.calls) c.found.ensures, c.loop-candidate.invariant.1);
    }

pub returns-in-Keep : goal.returns-in-Keep
returns-in-Keep g c =
    let w = walk g c.args.candidates.now c.args.judge.now in
    let n = c.loop-candidate.key in
    let x = c.in-Some.candidate in
    let e : find_first (reaches w.order n) (candidates_of w.order w.candidates) ≡ Some x = sym c.next.ensures.extent ∙ sym c.in-Some.ensures.extent in
    let asked = ap (λ t. t.calls) c.take.ensures.count in
    let said = ap (λ t. t.calls) c.judge.ensures.count in
    let v : (w.judge x).verdict ≡ Keep = sym c.judge.ensures.verdict ∙ c.in-Keep.is in
    let o : calls_on (λ m. calls_from w m) (w.judge x).verdict ≡ 0 = ap (calls_on (λ m. calls_from w m)) v in
    record {
      extent = ap (λ r. r.extent) c.found-in-Keep.ensures ∙ sym (turn_keep w n x e v) ∙ c.loop-candidate.invariant.0;
      count = omega (arith, calls_turn w n x e, o, asked, c.next.ensures.count, said, ap (λ r. r.calls) c.found-in-Keep.ensures, c.loop-candidate.invariant.1);
    }

pub returns-in-Stop : goal.returns-in-Stop
returns-in-Stop g c =
    let w = walk g c.args.candidates.now c.args.judge.now in
    let n = c.loop-candidate.key in
    let x = c.in-Some.candidate in
    let e : find_first (reaches w.order n) (candidates_of w.order w.candidates) ≡ Some x = sym c.next.ensures.extent ∙ sym c.in-Some.ensures.extent in
    let asked = ap (λ t. t.calls) c.take.ensures.count in
    let said = ap (λ t. t.calls) c.judge.ensures.count in
    let v : (w.judge x).verdict ≡ Stop = sym c.judge.ensures.verdict ∙ c.in-Stop.is in
    let o : calls_on (λ m. calls_from w m) (w.judge x).verdict ≡ 0 = ap (calls_on (λ m. calls_from w m)) v in
    record {
      extent = ap (λ r. r.extent) c.found-in-Stop.ensures ∙ sym (turn_stop w n x e v) ∙ c.loop-candidate.invariant.0;
      count = omega (arith, calls_turn w n x e, o, asked, c.next.ensures.count, said, ap (λ r. r.calls) c.found-in-Stop.ensures, c.loop-candidate.invariant.1);
    }

pub loop-candidate-smaller : goal.loop-candidate-smaller
loop-candidate-smaller g c =
    let w = walk g c.args.candidates.now c.args.judge.now in
    let n = c.loop-candidate.key in
    let x = c.in-Some.candidate in
    let e : find_first (reaches w.order n) (candidates_of w.order w.candidates) ≡ Some x = sym c.next.ensures.extent ∙ sym c.in-Some.ensures.extent in
    turn_less w n x e c.in-GoOn.next (sym c.judge.ensures.verdict ∙ c.in-GoOn.is)

pub loop-candidate-preserved : goal.loop-candidate-preserved
loop-candidate-preserved g c =
    let w = walk g c.args.candidates.now c.args.judge.now in
    let n = c.loop-candidate.key in
    let x = c.in-Some.candidate in
    let m = c.in-GoOn.next in
    let e : find_first (reaches w.order n) (candidates_of w.order w.candidates) ≡ Some x = sym c.next.ensures.extent ∙ sym c.in-Some.ensures.extent in
    let asked = ap (λ t. t.calls) c.take.ensures.count in
    let said = ap (λ t. t.calls) c.judge.ensures.count in
    let v : (w.judge x).verdict ≡ GoOn m = sym c.judge.ensures.verdict ∙ c.in-GoOn.is in
    let o : calls_on (λ k. calls_from w k) (w.judge x).verdict ≡ calls_from w m = ap (calls_on (λ k. calls_from w k)) v in
    (turn_on w n x e m v ∙ c.loop-candidate.invariant.0, omega (arith, calls_turn w n x e, o, asked, c.next.ensures.count, said, c.loop-candidate.invariant.1))
