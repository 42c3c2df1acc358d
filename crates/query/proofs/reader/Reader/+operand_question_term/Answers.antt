use Rattle.std.proofs.Common.{◌+◌, [], ◌∷◌, ◌++◌, length, refl, ap, ◌∙◌, arith}
use Rattle.std.proofs.lemmas.Result.{err_from_is_err_and}
use Rattle.query.specs.Leaves.{leaf_of}
use Rattle.query.specs.Queries.{steps_so_far}
use Rattle.query.specs.Expressions.{take_leaf}
use Rattle.query.proofs.Walk.{sofar_none, so_fails, so_ends, so_fails_term, so_more, fails_token, too_deep, inner_fails, closed, unexpected, too_many, one_term, not_operator, unexpected_before}
use Rattle.query.proofs.reader.Reader.+operand_question_term.Goals as goal

pub question-loop-found-init : goal.question-loop-found-init
question-loop-found-init t c =
    let first = c.in_ok-term.ensures in
    sofar_none c.term.new.self c.args.depth (omega (arith, first.onward.within, ap length first.onward.same)) first.onward.few

pub question-returns-in_err-found : goal.question-returns-in_err-found
question-returns-in_err-found t c =
    let p = err_from_is_err_and c.from_residual-in_err-found.result c.from_residual-in_err-found.ensures.1 in
    let d = c.in_err-found.ensures.faulty in
    rw (p.1, p.2) (so_fails c.in_ok-term.ensures c.loop-found.invariant (λ os is. fails_token d.is d.met))

pub question-returns-in_default : goal.question-returns-in_default
question-returns-in_default t c = so_ends c.in_ok-term.ensures c.loop-found.invariant c.in_ok-found.ensures.taken (not_operator _ c.in_default.not-Operator)

pub question-returns-in_err-operand : goal.question-returns-in_err-operand
question-returns-in_err-operand t c =
    let p = err_from_is_err_and c.from_residual-in_err-operand.result c.from_residual-in_err-operand.ensures.1 in
    rw (p.1, p.2) (so_fails_term c.in_ok-term.ensures c.loop-found.invariant c.in_ok-found.ensures.taken c.in-Operator.is c.in_err-operand.ensures)

pub question-loop-found-preserved : goal.question-loop-found-preserved
question-loop-found-preserved t c =
    so_more c.in_ok-term.ensures c.loop-found.invariant c.in_ok-found.ensures.taken c.in-Operator.is c.operand.new.self _ c.in_ok-operand.ensures refl refl refl c.push.ensures.long c.push.ensures.items

pub term-returns-in_err-found : goal.term-returns-in_err-found
term-returns-in_err-found t c =
    let p = err_from_is_err_and c.from_residual.result c.from_residual.ensures.1 in
    let d = c.in_err-found.ensures.faulty in
    rw (p.1, p.2) (λ os is. fails_token d.is d.met)

pub term-returns-then-depth-eq-OPEN_MAX : goal.term-returns-then-depth-eq-OPEN_MAX
term-returns-then-depth-eq-OPEN_MAX t c = too_deep c.args.depth c.in_ok-found.ensures.taken c.in-Open.is (omega arith)

pub term-returns-in_err-last : goal.term-returns-in_err-last
term-returns-in_err-last t c =
    let p = err_from_is_err_and c.from_residual-in_err-last.result c.from_residual-in_err-last.ensures.1 in
    rw (p.1, p.2) (inner_fails c.args.depth c.in_ok-found.ensures.taken c.in-Open.is (omega (arith, c.requires.shallow)) c.in_err-last.ensures)

pub term-returns-in-Close : goal.term-returns-in-Close
term-returns-in-Close t c = closed c.args.depth c.in_ok-found.ensures.taken c.in-Open.is (omega (arith, c.requires.shallow)) c.in_ok-last.ensures c.in-Close.is

pub term-returns-in_default-leaf : goal.term-returns-in_default-leaf
term-returns-in_default-leaf t c = unexpected c.args.depth c.in_ok-found.ensures.taken (λ os. unexpected_before os _ _ _ _ c.in_default-leaf.ensures c.in_default.not-Open)

pub term-returns-then-self-eq-LEAF_MAX : goal.term-returns-then-self-eq-LEAF_MAX
term-returns-then-self-eq-LEAF_MAX t c = too_many c.args.depth c.in_ok-found.ensures.taken (leaf_of c.in-Some.leaf) c.in-Some.ensures (omega (arith, c.in_ok-found.ensures.taken.terms))

pub term-returns : goal.term-returns
term-returns t c =
    let taken = c.in_ok-found.ensures.taken in
    one_term c.args.depth taken _ (leaf_of c.in-Some.leaf) c.in-Some.ensures (omega (arith, c.requires.sound.few, taken.terms)) taken.same taken.moved (ap (λ n. n + 1) taken.terms) (c.push.ensures.long ∙ ap (λ q. q.len + 1) taken.steps) (c.push.ensures.items ∙ ap (λ q. steps_so_far q ++ (take_leaf (leaf_of c.in-Some.leaf), c.in_ok-found.found.place) ∷ []) taken.steps)
