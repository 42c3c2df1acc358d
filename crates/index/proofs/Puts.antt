-- Writes one after another. Assumes nothing.
use Rattle.std.proofs.Common.{◌≡◌, ℕ, ◌+◌, ◌≤◌, List, ◌++◌, length, take, drop, sym, ap, ◌∙◌, arith}
use Rattle.std.proofs.lemmas.List.{append_assoc, length-append, length-take-le, take_at, drop_at, drop-drop}
use Rattle.index.specs.declared.writer.Writer.{Writer}
use Rattle.index.specs.Writing.{Put, Writes}

-- a write right after another is one write
put_then : (a b : ℕ) (xs ys u v w : List ℕ) → b ≡ a + length xs → b + length ys ≤ length u → Put a xs u v → Put b ys v w → Put a (xs ++ ys) u w
put_then a b xs ys u v w e l p q =
    let front = take a u ++ xs in
    let n : length front ≡ b = length-append (take a u) xs ∙ omega (arith, length-take-le a u (omega arith)) in
    let s : v ≡ front ++ drop b u = p ∙ sym (append_assoc (take a u) xs (drop (a + length xs) u)) ∙ ap (λ k. front ++ drop k u) (sym e) in
    let t : take b v ≡ front = ap (take b) s ∙ take_at front (drop b u) b n in
    let d : drop (b + length ys) v ≡ drop (b + length ys) u =
    sym (drop-drop (length ys) b v) ∙ ap (drop (length ys)) (ap (drop b) s ∙ drop_at front (drop b u) b n) ∙ drop-drop (length ys) b u in
    let m : b + length ys ≡ a + length (xs ++ ys) = omega (arith, length-append xs ys) in
    q
    ∙ ap (λ z. z ++ (ys ++ drop (b + length ys) v)) t
    ∙ ap (λ z. front ++ (ys ++ z)) (d ∙ ap (λ k. drop k u) m)
    ∙ append_assoc (take a u) xs (ys ++ drop (a + length (xs ++ ys)) u)
    ∙ ap (λ z. take a u ++ z) (sym (append_assoc xs ys (drop (a + length (xs ++ ys)) u)))

-- a write after another is one write
pub writes_then : (u v w : Writer) (xs ys : List ℕ) → u.at + length xs + length ys ≤ length u.buffer.now → Writes u v xs → Writes v w ys → Writes u w (xs ++ ys)
writes_then u v w xs ys room p q =
    let at = p.at in
    record {
      bytes = put_then u.at v.at xs ys u.buffer.now v.buffer.now w.buffer.now p.at (omega arith) p.bytes q.bytes;
      at = q.at ∙ omega (arith, length-append xs ys);
      same = q.same ∙ p.same;
      size = q.size ∙ p.size;
    }
