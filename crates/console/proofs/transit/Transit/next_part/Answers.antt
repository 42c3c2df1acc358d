use Rattle.std.proofs.Common.{◌≡◌, ℕ, ◌-◌, List, take, ap, subst, arith}
use Rattle.console.specs.UnderWay.{Further, Breaks}
use Rattle.console.proofs.UnderWay.{under_way_on, ran_broken}
use Rattle.console.proofs.transit.Transit.next_part.Goals as goal

-- the bytes that were read
from_start : (part : List ℕ) (n : ℕ) → take (n - 0) part ≡ take n part
from_start part n = let z : n - 0 ≡ n = omega arith in ap (λ m. take m part) z

pub returns-in-Ok-take_part-clause-ok : goal.returns-in-Ok-take_part-clause-ok
returns-in-Ok-take_part-clause-ok g c first unread before run =
    under_way_on g.S.Session.answers first c.args.session.now c.args.self.now unread _ before (g.W.Write.contents c.args.writer.now) run _ _ (g.W.Write.contents c.take_part.new.writer) c.in-Ok.ensures.bytes.0 c.take_part.new.session c.take_part.new.self
    (subst (Further g.S.Session.answers c.args.session.now c.args.self.now (g.W.Write.contents c.args.writer.now) c.take_part.new.session c.take_part.new.self (g.W.Write.contents c.take_part.new.writer)) (from_start c.read.new.buf c.in-Ok.n) c.in-Ok-take_part.ensures.ok)
    c.in-Ok-take_part.ensures.empty

pub returns-in-Err-take_part-clause-err : goal.returns-in-Err-take_part-clause-err
returns-in-Err-take_part-clause-err g c first unread before run =
    ran_broken g.S.Session.answers first c.args.session.now c.args.self.now unread _ before (g.W.Write.contents c.args.writer.now) run _ _ (g.W.Write.contents c.take_part.new.writer) c.in-Ok.ensures.bytes.0 c.take_part.new.session c.in-Err-take_part.why
    (subst (Breaks g.S.Session.answers c.args.session.now c.args.self.now (g.W.Write.contents c.args.writer.now) (g.W.Write.contents c.take_part.new.writer)) (from_start c.read.new.buf c.in-Ok.n) c.in-Err-take_part.ensures.err)
