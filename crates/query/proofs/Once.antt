-- Why a text has one outcome. Assumes nothing.
use Rattle.std.proofs.Common.{◌≡◌, ℕ, List, sym, refl, ap, ◌∙◌, subst}
use Rattle.query.specs.declared.fault.ReadFault.{ReadFault}
use Rattle.query.specs.Terminals.{Terminal, Placed}
use Rattle.query.specs.Expressions.{Expr}
use Rattle.query.specs.Grammar.{Question}
use Rattle.query.specs.Outcomes.{Reads, Refuses}
use Rattle.query.specs.Machine.{State, Turn, on, accepts, stops, turn, turn_by, Walks, here, step}
use Rattle.query.proofs.Leftmost.{refuses_fails, reads_accepted}
use Rattle.query.proofs.Unambiguous.{one_expression}

-- a turn that does not go on
abbrev Last : Turn → Type 0
Last (on w at after s) = ⊥
Last accepts = Unit {0}
Last (stops f) = Unit {0}

-- the token, its place, the place after and the state of a turn that goes on
same_on : {w v : Terminal} {at at' after after' : ℕ} {s s' : State} (x : Turn) → x ≡ on w at after s → x ≡ on v at' after' s' → (w ≡ v) × (at ≡ at') × (after ≡ after') × (s ≡ s')
same_on x p q = (cc, cc, cc, cc)

record Same (ts us : List Placed) (p q : ℕ) (s t : State) : Type 0 where
  tokens : ts ≡ us
  place : p ≡ q
  state : s ≡ t

-- two walks from one place, each to where no turn goes on, are the same
one_walk : {bs : List ℕ} {p q e : ℕ} {s t u : State} {ts us : List Placed} → Walks bs p s ts q t → Walks bs p s us e u → Last (turn bs q t) → Last (turn bs e u) → Same ts us q e t u
one_walk here here l m = record { tokens = refl; place = refl; state = refl }
one_walk {s = s} here (step w at met way v) l m = absurd (subst Last (ap (λ x. turn_by x s) met ∙ way) l)
one_walk {s = s} (step w at met way v) here l m = absurd (subst Last (ap (λ x. turn_by x s) met ∙ way) m)
one_walk {bs} {p} {q} {e} {s} {t} {u} (step {after = a} {t = t'} {ts = ts'} w at met way v) (step {after = b} {t = u'} {ts = us'} w' at' met' way' x) l m =
    let f = same_on (turn bs p s) (ap (λ x. turn_by x s) met ∙ way) (ap (λ x. turn_by x s) met' ∙ way') in
    let x' : Walks bs a t' us' e u = subst (λ c. Walks bs c t' us' e u) (sym f.2) (subst (λ c. Walks bs b c us' e u) (sym f.3) x) in
    let rest = one_walk v x' l m in
    let word = f.0 in
    let place = f.1 in
    let tail = rest.tokens in
    record { tokens = cc; place = rest.place; state = rest.state }

last_stops : {x : Turn} {f : ReadFault} → x ≡ stops f → Last x
last_stops e = subst Last (sym e) tt

last_accepts : {x : Turn} → x ≡ accepts → Last x
last_accepts e = subst Last (sym e) tt

module _ {bs : List ℕ} where
  pub reads_once : {e f : Expr} → Reads bs e → Reads bs f → e ≡ f
  reads_once {e} {f} x y =
      let a = reads_accepted x in
      let b = reads_accepted y in
      let w = one_walk a.walked b.walked (last_accepts a.ended) (last_accepts b.ended) in
      one_expression (subst (λ ts. Question ts e) w.tokens x.parsed) y.parsed

  pub reads_or_refuses : {e : Expr} {f : ReadFault} → Reads bs e → Refuses bs f → ⊥
  reads_or_refuses {e} {f} x y =
      let a = reads_accepted x in
      let b = refuses_fails y in
      let w = one_walk a.walked b.walked (last_accepts a.ended) (last_stops b.halted) in
      let same : turn bs x.stop a.state ≡ turn bs b.stop b.state = (λ i. turn bs (w.place i) (w.state i)) in
      let both : ◌≡◌ {A = Turn} accepts (stops f) = sym a.ended ∙ same ∙ b.halted in
      cc

  pub refuses_once : {f g : ReadFault} → Refuses bs f → Refuses bs g → f ≡ g
  refuses_once {f} {g} x y =
      let a = refuses_fails x in
      let b = refuses_fails y in
      let w = one_walk a.walked b.walked (last_stops a.halted) (last_stops b.halted) in
      let same : turn bs a.stop a.state ≡ turn bs b.stop b.state = (λ i. turn bs (w.place i) (w.state i)) in
      let both : stops f ≡ stops g = sym a.halted ∙ same ∙ b.halted in
      cc
