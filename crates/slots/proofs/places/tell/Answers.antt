use Rattle.std.proofs.Common.{◌≡◌, ℕ, ◌+◌, ◌<◌, List, ◌++◌, length, get_or, take, Option, string_bytes, sym, subst}
use Rattle.std.specs.List.{flat_map}
use Rattle.std.specs.Io.KnownBytes.{Appends}
use Rattle.shift_logbook.specs.Books.{rows_of}
use Rattle.slots.specs.declared.check.Refused.{Refused}
use Rattle.slots.specs.Places.{row_text}
use Rattle.slots.specs.Checks.{refusal_line, Sends}
use Rattle.slots.proofs.Telling.{told_more, told_rest}
use Rattle.slots.proofs.Sending.{sends_spelled, sends_on, sends_front, sends_begun}
use Rattle.slots.proofs.places.tell.Goals as goal

-- one refused line more is spelled
told_on : (a b : Option (List ℕ)) (rows out later : List ℕ) (xs ys : List Refused) (i : ℕ) (d : Refused) → xs ≡ ys → i < length xs → later ≡ out ++ refusal_line (get_or xs i d) → Sends a b out (rows ++ flat_map refusal_line (take i ys)) → Sends a b later (rows ++ flat_map refusal_line (take (i + 1) ys))
told_on a b rows out later xs ys i d same h e s =
    let before = subst (λ zs. Sends a b out (rows ++ flat_map refusal_line (take i zs))) (sym same) s in
    subst (λ zs. Sends a b later (rows ++ flat_map refusal_line (take (i + 1) zs))) same
    (subst (Sends a b later) (told_more refusal_line rows xs i d h) (sends_spelled a b out _ before later _ e))

pub returns-in_err-put_refused-clause-front : goal.returns-in_err-put_refused-clause-front
returns-in_err-put_refused-clause-front g c =
    let xs = c.args.check.now.refused.items in
    let rows = flat_map row_text (rows_of c.args.check.now.book) in
    sends_begun _ _ (string_bytes c.loop-refused.out) _ c.loop-refused.invariant _ _ (told_rest refusal_line rows xs c.loop-refused.refused-index)

pub returns-in_err-send-clause-front : goal.returns-in_err-send-clause-front
returns-in_err-send-clause-front g c =
    let xs = c.args.check.now.refused.items in
    let i = c.loop-refused.refused-index in
    let rows = flat_map row_text (rows_of c.args.check.now.book) in
    let out = string_bytes c.put_refused.new.out in
    let told = told_on _ _ rows (string_bytes c.loop-refused.out) out _ xs i _ c.as_slice-refused-items.ensures.value c.loop-refused-test.true c.in_ok-put_refused.ensures c.loop-refused.invariant in
    let f = c.send.ensures.front in
    sends_front _ _ out _ told _ f.0 f.1 _ _ (told_rest refusal_line rows xs (i + 1))

pub loop-refused-preserved : goal.loop-refused-preserved
loop-refused-preserved g c =
    let rows = flat_map row_text (rows_of c.args.check.now.book) in
    let out = string_bytes c.put_refused.new.out in
    let told = told_on _ _ rows (string_bytes c.loop-refused.out) out _ c.args.check.now.refused.items c.loop-refused.refused-index _ c.as_slice-refused-items.ensures.value c.loop-refused-test.true c.in_ok-put_refused.ensures c.loop-refused.invariant in
    sends_on _ _ out _ told _ (string_bytes c.send.new.out) c.in_ok-send.ensures.sends

pub returns-clause-front : goal.returns-clause-front
returns-clause-front g c =
    let xs = c.args.check.now.refused.items in
    let rows = flat_map row_text (rows_of c.args.check.now.book) in
    let f = c.write_out.ensures.front in
    let wrote = subst (λ (bs : List ℕ). Appends (g.W.Write.contents c.loop-refused.writer) (g.W.Write.contents c.write_out.new.writer) (take f.0 bs)) c.as_bytes.ensures.value f.1 in
    sends_front _ _ (string_bytes c.loop-refused.out) _ c.loop-refused.invariant _ f.0 wrote _ _ (told_rest refusal_line rows xs c.loop-refused.refused-index)
