use Rattle.std.proofs.Common.{◌≡◌, ◌+◌, ◌-◌, ◌*◌, ◌/◌, length, drop, take, ap, ◌∙◌, arith}
use Rattle.std.specs.Simd.{first_chunks}
use Rattle.std.proofs.lemmas.List.{drop-drop, length-drop, take_rest}
use Rattle.index.specs.Fields.{names, total}
use Rattle.index.specs.Parts.{row_chunks, slot_chunks}
use Rattle.index.proofs.Chunks.{first_chunks-take}
use Rattle.index.proofs.parts.Head.cut.Goals as goal

pub invariant_of-result : goal.invariant_of-result
unfolding row_chunks slot_chunks
invariant_of-result c =
    let bs = c.args.self.now.bytes.now in
    let rest = take_rest bs 15 in
    let rows = c.split_at.result.0.now in
    let slots = c.split_at.result.1.now in
    let front = c.split_at.ensures.front ∙ ap (λ n. take (24 * n) (take (length bs - 15) (drop 15 bs))) c.names.ensures ∙ ap (take (24 * names bs)) rest in
    let back = c.split_at.ensures.back ∙ ap (λ n. drop (24 * n) (take (length bs - 15) (drop 15 bs))) c.names.ensures ∙ ap (drop (24 * names bs)) rest ∙ drop-drop (24 * names bs) 15 bs in
    let n : length rows / 24 ≡ names bs = omega (arith, c.split_at.ensures.front_len) in
    let t : length slots / 4 ≡ total bs = omega (arith, ap length back, length-drop (15 + 24 * names bs) bs, c.requires) in
    record {
      size = c.requires;
      cut_rows = c.as_chunks.ensures.front ∙ ap (λ k. first_chunks 24 k rows) n ∙ ap (first_chunks 24 (names bs)) front ∙ first_chunks-take 24 (names bs) (drop 15 bs);
      cut_slots = c.as_chunks-2.ensures.front ∙ ap (λ k. first_chunks 4 k slots) t ∙ ap (first_chunks 4 (total bs)) back;
    }
