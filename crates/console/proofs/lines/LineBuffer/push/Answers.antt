use Rattle.std.proofs.Common.{◌<◌, ◌≤◌, [], ◌∷◌, ◌++◌, length, sym, ap, ◌∙◌, arith}
use Rattle.std.proofs.lemmas.List.{length_push, take_more_set, take_all, take-append-le}
use Rattle.std.proofs.lemmas.Bool.{lt-ltb, le-ltb}
use Rattle.console.specs.Lines.{line_max}
use Rattle.console.proofs.lines.LineBuffer.push.Goals as goal

-- the room is full: there are more bytes than it holds, and it keeps those that it has
pub returns-then-self-eq-LINE_MAX : goal.returns-then-self-eq-LINE_MAX
returns-then-self-eq-LINE_MAX c bs g =
    let b = c.args.b in
    let n = length_push bs b in
    let l : line_max ≤ length bs = omega (arith, g.len, c.if-self-eq-LINE_MAX.true) in
    record {
      over = sym (lt-ltb line_max (length (bs ++ b ∷ [])) (omega arith));
      len = omega (arith, g.len);
      kept = g.kept ∙ sym (take-append-le line_max bs (b ∷ []) l);
    }

-- there is room for the byte
pub returns-else-self-eq-LINE_MAX : goal.returns-else-self-eq-LINE_MAX
returns-else-self-eq-LINE_MAX c bs g =
    let b = c.args.b in
    let n = length_push bs b in
    let s = c.args.self.now in
    let l : length bs < line_max = omega (arith, g.len, c.if-self-eq-LINE_MAX.false) in
    record {
      over = g.over ∙ le-ltb line_max (length bs) (omega arith) ∙ sym (le-ltb line_max (length (bs ++ b ∷ [])) (omega arith));
      len = omega (arith, g.len);
      kept = take_more_set s.bytes s.len b (omega arith) ∙ ap (λ xs. xs ++ b ∷ []) (g.kept ∙ take_all line_max bs (omega arith)) ∙ sym (take_all line_max (bs ++ b ∷ []) (omega arith));
    }
