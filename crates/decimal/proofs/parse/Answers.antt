use Rattle.std.proofs.Common.{◌≡◌, ◌≢◌, get_or, ◌∙◌, rules}
use Rattle.std.specs.Str.{IsUtf8}
use Rattle.decimal.proofs.Numerals.{parsed, no_text}
use Rattle.decimal.proofs.parse.Goals as goal

pub returns-in_err-ok : goal.returns-in_err-ok
returns-in_err-ok c =
    let no_utf8 : IsUtf8 c.args.text.now → ⊥ = search rules in
    c.from_residual.ensures ∙ no_text c.args.text.now no_utf8

pub returns : goal.returns
returns c =
    let same : c.in_ok-ok.field-0.now ≡ c.args.text.now = search rules in
    let plain : get_or c.args.text.now 0 0 ≢ 43 = search rules in
    c.ok-2.ensures.value ∙ parsed c.args.text.now _ (rw same at c.from_str_radix.ensures.value) plain
