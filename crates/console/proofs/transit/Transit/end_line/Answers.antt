use Rattle.std.proofs.Common.{◌≡◌, ℕ, List, Option, Some, None, ap, ◌∙◌, subst}
use Rattle.std.specs.Option.{option_map, MatchOption}
use Rattle.std.proofs.lemmas.Result.{on_ok_weaker}
use Rattle.console.specs.declared.command.Command.{Command}
use Rattle.console.specs.Commands.{order_of, order_from}
use Rattle.console.specs.Replies.{order_if, order_in}
use Rattle.console.proofs.transit.Transit.end_line.Goals as goal

-- the command of the line that is shown, if one is
order_shown : {A : Type 0} (now : A → List ℕ) (shown : Option A) (command : Option Command) (line : Option (List ℕ)) → MatchOption shown (command ≡ None) (λ x. order_from command ≡ order_of (now x)) → option_map now shown ≡ line → order_from command ≡ order_if line
order_shown now None command line h e = ap order_from h ∙ ap order_if e
order_shown now (Some x) command line h e = h ∙ ap order_if e

pub returns-clause-answered : goal.returns-clause-answered
returns-clause-answered g c =
    on_ok_weaker c.command.result
    (λ h line k.
    let same : order_from c.and_then.result ≡ order_in line = order_shown (λ x. x.now) c.line.result c.and_then.result _ c.and_then.ensures (c.line.ensures line k) in
    (h.0, h.1, subst (λ o. g.S.Session.answers c.args.session.now o h.0 c.command.new.self) same h.2))
    c.command.ensures
