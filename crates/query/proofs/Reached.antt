-- What the reader's machine has taken, in the words of the grammar and the limits. Assumes nothing.
use Rattle.std.proofs.Common.{length, ◌≡◌, ℕ, ◌+◌, ◌<◌, ◌≤◌, Bool, true, false, cond, ltb, List, [], ◌∷◌, ◌++◌, sym, refl, ap, ◌∙◌, subst, append_assoc, append-nil, add_assoc, zero-add, arith}
use Rattle.std.proofs.lemmas.Bool.{ltb-true}
use Rattle.extents.specs.declared.operator.Operator.{Operator}
use Rattle.query.specs.Limits.{open_max, leaf_max}
use Rattle.query.specs.Leaves.{Leaf}
use Rattle.query.specs.Terminals.{Bracket, plain, Terminal, operand, operator, opens, closes, ends, Placed}
use Rattle.query.specs.Grammar.{single, Beginning}
use Rattle.query.specs.Scanning.{token, scan, Lexes, none, more}
use Rattle.query.specs.Outcomes.{weigh, count, open_by, open_after, Enters, Shallow, Faultless}
use Rattle.query.specs.Machine.{State, before_term, after_term, Turn, on, meet, Walks, here, step}
use Rattle.query.proofs.Shapes.{Shape, before, after, move, run, run_append}
use Rattle.query.proofs.Beginnings.{Pending, Standing, nothing_yet, by_term, by_operator, by_open, by_close, standing_begins, pending_begins}

-- lists of tokens, joined

pub count_append : (ts us : List Placed) → count (ts ++ us) ≡ count ts + count us
count_append [] us = sym (zero-add (count us))
count_append (t ∷ ts) us = ap (λ n. weigh t.0 + n) (count_append ts us) ∙ sym (add_assoc (weigh t.0) (count ts) (count us))

open_after-append : (ts us : List Placed) (os : List Bracket) → open_after (ts ++ us) os ≡ open_after us (open_after ts os)
open_after-append [] us os = refl
open_after-append (t ∷ ts) us os = open_after-append ts us (open_by t.0 os)

shallow_append : (ts us : List Placed) (os : List Bracket) → Shallow ts os → Shallow us (open_after ts os) → Shallow (ts ++ us) os
shallow_append [] us os a b = b
shallow_append (t ∷ ts) us os a b = (a.0, shallow_append ts us (open_by t.0 os) a.1 b)

lexes_append : {bs : List ℕ} {p q e : ℕ} {ts us : List Placed} → Lexes bs p ts q → Lexes bs q us e → Lexes bs p (ts ++ us) e
lexes_append none b = b
lexes_append (more w at h a) b = more w at h (lexes_append a b)

-- a state of the reader's machine

abbrev pub shape : State → Shape
shape (before_term os n) = before os
shape (after_term os n) = after os

abbrev pub leaves_of : State → ℕ
leaves_of (before_term os n) = n
leaves_of (after_term os n) = n

abbrev pub open_of : State → List Bracket
open_of (before_term os n) = os
open_of (after_term os n) = os

abbrev pub Stands : List Placed → State → Type 0
Stands ts (before_term os n) = Pending ts os
Stands ts (after_term os n) = Standing ts os

-- the machine stands at the place p in the state s, and has taken `done`
pub record Reached (bs : List ℕ) (p : ℕ) (s : State) (done : List Placed) : Type 0 where
  pub lexed : Lexes bs 0 done p
  pub few : count done ≤ leaf_max
  pub shallow : Shallow done []
  pub stands : Stands done s
  pub counted : count done ≡ leaves_of s
  pub deep : open_after done [] ≡ open_of s
  pub runs : run (before []) done ≡ shape s

pub reached_none : (bs : List ℕ) → Reached bs 0 (before_term [] 0) []
reached_none bs = record { lexed = none; few = omega arith; shallow = tt; stands = nothing_yet; counted = refl; deep = refl; runs = refl }

stands_begins : (ts : List Placed) (s : State) → Stands ts s → Beginning ts
stands_begins ts (before_term os n) p = pending_begins p
stands_begins ts (after_term os n) p = standing_begins p

pub reached_faultless : {bs : List ℕ} {p : ℕ} {s : State} {done : List Placed} → Reached bs p s done → Faultless done
reached_faultless {s = s} {done} r = record { begins = stands_begins done s r.stands; few = r.few; shallow = r.shallow }

-- the machine's moves, one by one

pub data Moves : State → Terminal → State → Type 0 where
  by_leaf : {l : Leaf} {os : List Bracket} {n : ℕ} → n < leaf_max → Moves (before_term os n) (operand l) (after_term os (n + 1))
  by_sign : {os : List Bracket} {n : ℕ} (o : Operator) → Moves (after_term os n) (operator o) (before_term os n)
  opening : {os : List Bracket} {n : ℕ} → length os < open_max → Moves (before_term os n) (opens plain) (before_term (plain ∷ os) n)
  closing : {b : Bracket} {os : List Bracket} {n : ℕ} → Moves (after_term (b ∷ os) n) closes (after_term os n)

-- which of the two a test has answered
pub cond_cases : {X A : Type 0} (b : Bool) (x y : X) {z : X} → cond b x y ≡ z → (b ≡ true → x ≡ z → A) → (b ≡ false → y ≡ z → A) → A
cond_cases true x y e f g = f refl e
cond_cases false x y e f g = g refl e

same_state : {w v : Terminal} {at at' after after' : ℕ} {s t : State} → ◌≡◌ {A = Turn} (on w at after s) (on v at' after' t) → s ≡ t
same_state e = cc

pub on_moves : {at after : ℕ} {t : State} (s : State) (w : Terminal) → meet s w at after ≡ on w at after t → Moves s w t
on_moves (before_term os n) (operand l) e =
    cond_cases (ltb n leaf_max) _ _ e
    (λ is h. subst (Moves (before_term os n) (operand l)) (same_state h) (by_leaf (ltb-true n leaf_max is)))
    (λ is h. cc)
on_moves (before_term os n) (operator o) e = cc
on_moves (before_term os n) (opens plain) e =
    cond_cases (ltb (length os) open_max) _ _ e
    (λ is h. subst (Moves (before_term os n) (opens plain)) (same_state h) (opening (ltb-true (length os) open_max is)))
    (λ is h. cc)
on_moves (before_term os n) closes e = cc
on_moves (before_term os n) ends e = cc
on_moves (after_term os n) (operand l) e = cc
on_moves (after_term os n) (operator o) e = subst (Moves (after_term os n) (operator o)) (same_state e) (by_sign o)
on_moves (after_term os n) (opens b) e = cc
on_moves (after_term [] n) closes e = cc
on_moves (after_term (b ∷ os) n) closes e = subst (Moves (after_term (b ∷ os) n) closes) (same_state e) closing
on_moves (after_term [] n) ends e = cc
on_moves (after_term (b ∷ os) n) ends e = cc

-- what a move does to what is known of a state
pub record Moved (s : State) (w : Terminal) (t : State) : Type 0 where
  pub shaped : shape t ≡ move (shape s) w
  pub counted : leaves_of t ≡ leaves_of s + weigh w
  pub few : leaves_of s ≤ leaf_max → leaves_of t ≤ leaf_max
  pub deep : open_of t ≡ open_by w (open_of s)
  pub enters : Enters w (open_of s)
  pub stands : (done : List Placed) (at : ℕ) → Stands done s → Stands (done ++ (w, at) ∷ []) t

pub moved : {s t : State} {w : Terminal} → Moves s w t → Moved s w t
moved (by_leaf {l = l} h) = record { shaped = refl; counted = refl; few = λ k. omega arith; deep = refl; enters = tt; stands = λ done at p. by_term p (single l at) }
moved (by_sign o) = record { shaped = refl; counted = omega arith; few = λ k. k; deep = refl; enters = tt; stands = λ done at p. by_operator o at p }
moved (opening h) = record { shaped = refl; counted = omega arith; few = λ k. k; deep = refl; enters = h; stands = λ done at p. by_open at p }
moved closing = record { shaped = refl; counted = omega arith; few = λ k. k; deep = refl; enters = tt; stands = λ done at p. by_close at p }

-- one more token
reached_one : {bs : List ℕ} {p at after : ℕ} {s t : State} {w : Terminal} {done : List Placed} → Reached bs p s done → scan bs p ≡ token w at after → Moves s w t → Reached bs after t (done ++ (w, at) ∷ [])
reached_one {at = at} {t = t} {w = w} {done = done} r met move_on =
    let m = moved move_on in
    let one : List Placed = (w, at) ∷ [] in
    let sum : count (done ++ one) ≡ count done + (weigh w + 0) = count_append done one in
    let counted : count (done ++ one) ≡ leaves_of t = omega (arith, sum, r.counted, m.counted) in
    record {
      lexed = lexes_append r.lexed (more w at met none);
      few = omega (arith, counted, m.few (omega (arith, r.counted, r.few)));
      shallow = shallow_append done one [] r.shallow (subst (Enters w) (sym r.deep) m.enters, tt);
      stands = m.stands done at r.stands;
      counted = counted;
      deep = open_after-append done one [] ∙ ap (open_by w) r.deep ∙ sym m.deep;
      runs = run_append (before []) done one ∙ ap (λ x. move x w) r.runs ∙ sym m.shaped;
    }

-- what a walk takes
pub reached_walk : {bs : List ℕ} {p q : ℕ} {s u : State} {done ts : List Placed} → Reached bs p s done → Walks bs p s ts q u → Reached bs q u (done ++ ts)
reached_walk {bs} {done = done} r (here {p = p} {s = s}) = subst (Reached bs p s) (sym (append-nil done)) r
reached_walk {bs} {q = q} {u = u} {done = done} r (step {s = s} {ts = ts} w at met way rest) =
    subst (Reached bs q u) (append_assoc done ((w, at) ∷ []) ts) (reached_walk (reached_one r met (on_moves s w way)) rest)
