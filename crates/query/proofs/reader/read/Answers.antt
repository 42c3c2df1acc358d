use Rattle.std.proofs.Common.{refl, ◌≡◌, ℕ, List, [], Some, None, Ok, Option, Err, Result, MatchResult, ap, ◌∙◌}
use Rattle.std.proofs.lemmas.Result.{err_from_is_err_and}
use Rattle.refusals.specs.Refusals.{refusal_in}
use Rattle.refusals.specs.declared.Refusal.{Refusal}
use Rattle.query.specs.declared.fault.ReadFault.{ReadFault}
use Rattle.query.specs.declared.query.Query.{Query}
use Rattle.query.specs.Expressions.{Expr, postfix}
use Rattle.query.specs.Faults.{refusal_of}
use Rattle.query.specs.Outcomes.{Reads, Refuses}
use Rattle.query.specs.Answers.{Answered, Complete, Leftmost, Unambiguous, Tells, ToldAs}
use Rattle.query.specs.Scanning.{token}
use Rattle.query.specs.Reading.{terminal}
use Rattle.query.proofs.Walk.{fails_after, fails_at, unexpected_last}
use Rattle.query.proofs.Leftmost.{fails_refuses, walk_reads}
use Rattle.query.proofs.Once.{reads_once, reads_or_refuses, refuses_once}
use Rattle.query.proofs.Ranges.{reads_ranged}
use Rattle.query.proofs.Order.{few_leaves, length-postfix, whole_is}
use Rattle.query.proofs.reader.read.Goals as goal

-- all that is promised of an answer
record Promised (bs : List ℕ) (r : Result Query ReadFault) : Type 0 where
  outcome : MatchResult r (λ q. Answered bs q) (λ f. Refuses bs f)
  told : ToldAs bs (refusal_in refusal_of r)
  complete : Complete bs r
  leftmost : Leftmost bs r
  unambiguous : Unambiguous bs

module _ {bs : List ℕ} where
  -- a query is told as nothing, and a fault by its own refusal
  no_refusal : {e : Expr} → Reads bs e → (u : Option Refusal) → Tells bs u → u ≡ None
  no_refusal x None y = refl
  no_refusal x (Some r) y = absurd (reads_or_refuses x y.1)

  one_refusal : {f : ReadFault} → Refuses bs f → (u : Option Refusal) → Tells bs u → u ≡ Some (refusal_of f)
  one_refusal x None y = absurd (reads_or_refuses y.1 x)
  one_refusal x (Some r) y = ap Some (y.2 ∙ ap refusal_of (refuses_once y.1 x))

  read_promised : {q : Query} → Answered bs q → Promised bs (Ok q)
  read_promised a = record {
    outcome = a;
    told = record { is = (a.expr, a.reads); once = no_refusal a.reads };
    complete = λ e x. a.order ∙ ap postfix (reads_once a.reads x);
    leftmost = λ f x. absurd (reads_or_refuses a.reads x);
    unambiguous = λ e f. reads_once;
  }

  fault_promised : {f : ReadFault} → Refuses bs f → Promised bs (Err f)
  fault_promised {f} x = record {
    outcome = x;
    told = record { is = (f, x, refl); once = one_refusal x };
    complete = λ e y. reads_or_refuses y x;
    leftmost = λ g y. ap Err (refuses_once x y);
    unambiguous = λ e f. reads_once;
  }

pub returns-in_err-last : goal.returns-in_err-last
returns-in_err-last c =
    let p = err_from_is_err_and c.from_residual.result c.from_residual.ensures.1 in
    let x = fault_promised (fails_refuses (c.in_err-last.ensures [] refl)) in
    rw (p.1, p.2) (record { outcome = x.outcome; told = x.told; complete = x.complete; leftmost = x.leftmost; unambiguous = x.unambiguous })

pub returns-in-End : goal.returns-in-End
returns-in-End c =
    let q = c.in_ok-last.ensures in
    let last = c.in_ok-last.last in
    let met = q.next ∙ ap (λ t. token (terminal t) last.place last.after) c.in-End.is in
    let x = walk_reads (q.walked [] refl) met q.parsed in
    let a : Answered c.args.text.now c.new-in-End.result = record {
      expr = q.expr;
      reads = x;
      order = c.new-in-End.ensures ∙ whole_is _ _ _ c.new.ensures.none (refl, refl) q;
      few = few_leaves x;
      long = length-postfix q.expr;
      ranged = reads_ranged x;
    } in
    let p = read_promised a in
    record { outcome = p.outcome; told = p.told; complete = p.complete; leftmost = p.leftmost; unambiguous = p.unambiguous }

pub returns-in_default : goal.returns-in_default
returns-in_default c =
    let q = c.in_ok-last.ensures in
    let last = c.in_ok-last.last in
    let halts = fails_after (q.walked [] refl) (fails_at q.next (unexpected_last _ last.place last.after last.token q.other c.in_default.not-End)) in
    let x = fault_promised (fails_refuses halts) in
    record { outcome = x.outcome; told = x.told; complete = x.complete; leftmost = x.leftmost; unambiguous = x.unambiguous }
