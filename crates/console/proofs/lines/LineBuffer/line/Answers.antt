use Rattle.std.proofs.Common.{◌≡◌, ◌-◌, ◌≤◌, length, take, Some, sym, ap, ◌∙◌, arith}
use Rattle.std.proofs.lemmas.List.{take_all}
use Rattle.std.proofs.lemmas.Bool.{ltb-true, ltb-false, le-leb, lt-leb}
use Rattle.console.specs.Lines.{line_max}
use Rattle.console.proofs.lines.LineBuffer.line.Goals as goal

pub returns-then-self : goal.returns-then-self
returns-then-self c bs g = let h = ltb-true line_max (length bs) (sym g.over ∙ c.if-self.true) in rw (lt-leb (length bs) line_max h)

pub returns-else-self : goal.returns-else-self
returns-else-self c bs g =
    let s = c.args.self.now in
    let z : s.len - 0 ≡ s.len = omega arith in
    let h : length bs ≤ line_max = ltb-false line_max (length bs) (sym g.over ∙ c.if-self.false) in
    rw (le-leb (length bs) line_max h) (ap Some (ap (λ n. take n s.bytes) z ∙ g.kept ∙ take_all line_max bs h))
