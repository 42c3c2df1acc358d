use Rattle.std.proofs.Common.{◌≡◌, ◌-◌, true, ◌&&◌, eqb, length, take, drop, sym, ap, ◌∙◌, rules, tests}
use Rattle.std.proofs.lemmas.List.{take_rest}
use Rattle.std.proofs.lemmas.Bool.{and_left}
use Rattle.std.proofs.lemmas.Iterator.{YieldsList-from_slice}
use Rattle.std.proofs.lemmas.Iterator.Search.{all_from_yields_List}
use Rattle.names.specs.Names.{is_name}
use Rattle.index.specs.Fields.{trim}
use Rattle.index.specs.Verdict.{all_zero, name_stands}
use Rattle.index.proofs.check.name_stands.Goals as goal

pub returns-then-is_name : goal.returns-then-is_name
unfolding name_stands
returns-then-is_name c =
    let f = c.args.field.now in
    let n = length c.trimmed-text.result.now in
    let e = c.trimmed-text.ensures.text in
    let rest = take (length f - n) (drop n f) in
    let zeros : c.all.result ≡ all_zero rest = all_from_yields_List (λ b. eqb b 0) _ _ c.all.result c.all.ensures.ran (YieldsList-from_slice rest cc) (λ x b q k. search (rules, tests)) in
    let z : c.all.result ≡ all_zero (drop (length (trim f)) f) = zeros ∙ ap all_zero (take_rest f n) ∙ ap (λ t. all_zero (drop (length t) f)) e in
    let t : true ≡ is_name (trim f) = c.if-is_name.ensures ∙ ap is_name e in
    z ∙ ap (λ b. b && all_zero (drop (length (trim f)) f)) t

pub returns-else-is_name : goal.returns-else-is_name
unfolding name_stands
returns-else-is_name c =
    let f = c.args.field.now in
    let e = ap is_name c.trimmed-text.ensures.text in
    let n = sym e ∙ sym c.if-is_name.ensures in
    c.if-is_name.false ∙ sym (and_left (is_name (trim f)) (all_zero (drop (length (trim f)) f)) n)
