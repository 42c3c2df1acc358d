-- The machine stops at the leftmost fault, and at no other place. Assumes nothing.
use Rattle.std.proofs.Common.{length, ltb, ◌≡◌, ℕ, ◌+◌, ◌≤◌, ◌⊎◌, List, [], ◌∷◌, sym, refl, ap, ◌∙◌, subst, inl, inr, ⊎_elim, arith}
use Rattle.std.proofs.lemmas.Bool.{cond-true, cond-false, lt-ltb, le-ltb, ltb-false}
use Rattle.query.specs.declared.fault.ReadFault.{ReadFault}
use Rattle.query.specs.declared.fault.ReadFault.TheVariants.{Unexpected, TooDeep, TooMany}
use Rattle.query.specs.Limits.{open_max, leaf_max}
use Rattle.query.specs.Leaves.{Leaf}
use Rattle.query.specs.Terminals.{Bracket, plain, Terminal, operand, operator, opens, closes, ends, Placed}
use Rattle.query.specs.Expressions.{Expr}
use Rattle.query.specs.Grammar.{Question, single}
use Rattle.query.specs.Scanning.{Scan, token, fault, scan, Lexes, none, more}
use Rattle.query.specs.Outcomes.{weigh, count, close_one, open_by, open_after, Enters, Shallow, Follows, FaultAfter, ill_formed, misplaced, over_deep, over_many, Reads, Refuses}
use Rattle.query.specs.Machine.{State, before_term, after_term, Turn, on, accepts, stops, meet, turn, turn_by, Walks, here, step, Fails}
use Rattle.query.proofs.Shapes.{before, after as ahead, stuck, move, run, run_stuck, after_stuck, question_runs, begins_unstuck, Wrong, wrong_follows}
use Rattle.query.proofs.Beginnings.{by_term, by_operator, by_open, by_close, standing_begins, pending_begins, standing_whole}
use Rattle.query.proofs.Reached.{shape, leaves_of, open_of, Stands, Reached, reached_none, reached_faultless, reached_walk, Moves, by_leaf, by_sign, opening, closing, moved, cond_cases}

close_short : (os : List Bracket) → length (close_one os) ≤ length os
close_short [] = omega arith
close_short (b ∷ os) = omega arith

enter_low : (w : Terminal) (os : List Bracket) → length os ≤ open_max → Enters w os → length (open_by w os) ≤ open_max
enter_low (operand l) os h e = h
enter_low (operator o) os h e = h
enter_low (opens b) os h e = omega arith
enter_low closes os h e = omega (arith, close_short os)
enter_low ends os h e = h

shallow_low : (ts : List Placed) (os : List Bracket) → length os ≤ open_max → Shallow ts os → length (open_after ts os) ≤ open_max
shallow_low [] os h s = h
shallow_low (t ∷ ts) os h s = shallow_low ts (open_by t.0 os) (enter_low t.0 os h s.0) s.1

before_after : (os us : List Bracket) → before os ≡ ahead us → ⊥
before_after os us p = cc

before_stuck : (os : List Bracket) → before os ≡ stuck → ⊥
before_stuck os p = cc

still_open : (b : Bracket) (os : List Bracket) → ahead (b ∷ os) ≡ ahead [] → ⊥
still_open b os p = cc

-- where the machine stops, the token has that fault
module _ {bs : List ℕ} {p : ℕ} {done : List Placed} where
  stop_is : {f g : ReadFault} → ◌≡◌ {A = Turn} (stops f) (stops g) → FaultAfter bs done p f → FaultAfter bs done p g
  stop_is {f} {g} e = let same : f ≡ g = cc in subst (FaultAfter bs done p) same

  misplaced_at : {s : State} {w : Terminal} {at after : ℕ} → Reached bs p s done → scan bs p ≡ token w at after → Wrong (shape s) w → FaultAfter bs done p (Unexpected at)
  misplaced_at {w = w} {at = at} r met wrong = misplaced met (λ f. wrong_follows done w at (subst (λ x. Wrong x w) (sym r.runs) wrong) f)

  many_at : {os : List Bracket} {n : ℕ} {l : Leaf} {at after : ℕ} → Reached bs p (before_term os n) done → scan bs p ≡ token (operand l) at after → leaf_max ≤ n → FaultAfter bs done p (TooMany at)
  many_at {l = l} {at = at} r met h = over_many met (standing_begins (by_term r.stands (single l at))) (omega (arith, r.counted, r.few))

  deep_at : {os : List Bracket} {n : ℕ} {at after : ℕ} → Reached bs p (before_term os n) done → scan bs p ≡ token (opens plain) at after → open_max ≤ length os → FaultAfter bs done p (TooDeep at)
  deep_at {at = at} r met h = over_deep met (pending_begins (by_open at r.stands)) (omega (arith, ap length r.deep, shallow_low done [] (omega arith) r.shallow))

  halts : {at after : ℕ} {f : ReadFault} (s : State) (w : Terminal) → Reached bs p s done → scan bs p ≡ token w at after → meet s w at after ≡ stops f → FaultAfter bs done p f
  halts (before_term os n) (operand l) r met e =
      cond_cases (ltb n leaf_max) _ _ e
      (λ is h. cc)
      (λ is h. stop_is h (many_at r met (ltb-false n leaf_max is)))
  halts (before_term os n) (operator o) r met e = stop_is e (misplaced_at r met refl)
  halts (before_term os n) (opens plain) r met e =
      cond_cases (ltb (length os) open_max) _ _ e
      (λ is h. cc)
      (λ is h. stop_is h (deep_at r met (ltb-false (length os) open_max is)))
  halts (before_term os n) closes r met e = stop_is e (misplaced_at r met refl)
  halts (before_term os n) ends r met e = stop_is e (misplaced_at r met (before_after os []))
  halts (after_term os n) (operand l) r met e = stop_is e (misplaced_at r met refl)
  halts (after_term os n) (operator o) r met e = cc
  halts (after_term os n) (opens b) r met e = stop_is e (misplaced_at r met refl)
  halts (after_term [] n) closes r met e = stop_is e (misplaced_at r met refl)
  halts (after_term (b ∷ os) n) closes r met e = cc
  halts (after_term [] n) ends r met e = cc
  halts (after_term (b ∷ os) n) ends r met e = stop_is e (misplaced_at r met (still_open b os))

  halted : {f : ReadFault} (s : State) (l : Scan) → Reached bs p s done → scan bs p ≡ l → turn_by l s ≡ stops f → FaultAfter bs done p f
  halted s (token w at after) r met e = halts s w r met e
  halted s (fault d) r met e = stop_is e (ill_formed met)

pub fails_refuses : {bs : List ℕ} {f : ReadFault} → Fails bs 0 (before_term [] 0) f → Refuses bs f
fails_refuses {bs} x =
    let r = reached_walk (reached_none bs) x.walked in
    record { tokens = x.tokens; stop = x.stop; lexed = r.lexed; faultless = reached_faultless r; faulty = halted x.state (scan bs x.stop) r refl x.halted }

-- the machine takes all tokens that have no fault

record CanMove (s : State) (w : Terminal) : Type 0 where
  to : State
  moves : Moves s w to

can_move : (s : State) (w : Terminal) → (move (shape s) w ≡ stuck → ⊥) → leaves_of s + weigh w ≤ leaf_max → Enters w (open_of s) → CanMove s w
can_move (before_term os n) (operand l) free few low = record { to = after_term os (n + 1); moves = by_leaf (omega arith) }
can_move (before_term os n) (operator o) free few low = absurd (free refl)
can_move (before_term os n) (opens plain) free few low = record { to = before_term (plain ∷ os) n; moves = opening low }
can_move (before_term os n) closes free few low = absurd (free refl)
can_move (before_term os n) ends free few low = absurd (free refl)
can_move (after_term os n) (operand l) free few low = absurd (free refl)
can_move (after_term os n) (operator o) free few low = record { to = before_term os n; moves = by_sign o }
can_move (after_term os n) (opens b) free few low = absurd (free refl)
can_move (after_term [] n) closes free few low = absurd (free refl)
can_move (after_term (b ∷ os) n) closes free few low = record { to = after_term os n; moves = closing }
can_move (after_term os n) ends free few low = absurd (free refl)

moves_on : {s t : State} {w : Terminal} (at after : ℕ) → Moves s w t → meet s w at after ≡ on w at after t
moves_on at after (by_leaf {n = n} h) = cond-true _ _ _ (lt-ltb n leaf_max h)
moves_on at after (by_sign o) = refl
moves_on at after (opening {os = os} h) = cond-true _ _ _ (lt-ltb (length os) open_max h)
moves_on at after closing = refl

record Walked (bs : List ℕ) (p : ℕ) (s : State) (ts : List Placed) (q : ℕ) : Type 0 where
  to : State
  walked : Walks bs p s ts q to

walk_by : {bs : List ℕ} {p q : ℕ} {ts : List Placed} → Lexes bs p ts q → (s : State) → (run (shape s) ts ≡ stuck → ⊥) → leaves_of s + count ts ≤ leaf_max → Shallow ts (open_of s) → Walked bs p s ts q
walk_by none s free few low = record { to = s; walked = here }
walk_by (more {after = after} {ts = ts} w at met l) s free few low =
    let c = can_move s w (λ e. free (ap (λ x. run x ts) e ∙ run_stuck ts)) (omega arith) low.0 in
    let m = moved c.moves in
    let rest = walk_by l c.to (λ e. free (ap (λ x. run x ts) (sym m.shaped) ∙ e)) (omega (arith, m.counted)) (subst (Shallow ts) (sym m.deep) low.1) in
    record { to = rest.to; walked = step {u = rest.to} w at met (moves_on at after c.moves) rest.walked }

-- at each token the grammar either sticks or goes on

sort : (s : State) (done : List Placed) → Stands done s → (w : Terminal) (at : ℕ) → Wrong (shape s) w ⊎ Follows done w at
sort (before_term os n) done p (operand l) at = inr (standing_begins (by_term p (single l at)))
sort (before_term os n) done p (operator o) at = inl refl
sort (before_term os n) done p (opens plain) at = inr (pending_begins (by_open at p))
sort (before_term os n) done p closes at = inl refl
sort (before_term os n) done p ends at = inl (before_after os [])
sort (after_term os n) done p (operand l) at = inl refl
sort (after_term os n) done p (operator o) at = inr (pending_begins (by_operator o at p))
sort (after_term os n) done p (opens b) at = inl refl
sort (after_term [] n) done p closes at = inl refl
sort (after_term (b ∷ os) n) done p closes at = inr (standing_begins (by_close at p))
sort (after_term [] n) done p ends at = inr (p.expr, standing_whole p)
sort (after_term (b ∷ os) n) done p ends at = inl (still_open b os)

wrong_stops : (s : State) (w : Terminal) (at after : ℕ) → Wrong (shape s) w → meet s w at after ≡ stops (Unexpected at)
wrong_stops (before_term os n) (operand l) at after e = absurd (after_stuck os e)
wrong_stops (before_term os n) (operator o) at after e = refl
wrong_stops (before_term os n) (opens b) at after e = absurd (before_stuck (b ∷ os) e)
wrong_stops (before_term os n) closes at after e = refl
wrong_stops (before_term os n) ends at after e = refl
wrong_stops (after_term os n) (operand l) at after e = refl
wrong_stops (after_term os n) (operator o) at after e = absurd (before_stuck os e)
wrong_stops (after_term os n) (opens b) at after e = refl
wrong_stops (after_term [] n) closes at after e = refl
wrong_stops (after_term (b ∷ os) n) closes at after e = absurd (after_stuck os e)
wrong_stops (after_term [] n) ends at after e = absurd (e refl)
wrong_stops (after_term (b ∷ os) n) ends at after e = refl

-- a token with a fault stops the machine
module _ {bs : List ℕ} {p : ℕ} {done : List Placed} where
  many_stops : (l : Leaf) (s : State) (at after : ℕ) → Reached bs p s done → Follows done (operand l) at → count done ≡ leaf_max → meet s (operand l) at after ≡ stops (TooMany at)
  many_stops l (before_term os n) at after r f c = cond-false _ _ _ (le-ltb n leaf_max (omega (arith, r.counted)))
  many_stops l (after_term os n) at after r f c = absurd (wrong_follows done (operand l) at (subst (λ x. Wrong x (operand l)) (sym r.runs) refl) f)

  deep_stops : (b : Bracket) (s : State) (at after : ℕ) → Reached bs p s done → Follows done (opens b) at → length (open_after done []) ≡ open_max → meet s (opens b) at after ≡ stops (TooDeep at)
  deep_stops b (before_term os n) at after r f c = cond-false _ _ _ (le-ltb (length os) open_max (omega (arith, ap length r.deep)))
  deep_stops b (after_term os n) at after r f c = absurd (wrong_follows done (opens b) at (subst (λ x. Wrong x (opens b)) (sym r.runs) refl) f)

  fault_stops : {f : ReadFault} (s : State) → Reached bs p s done → FaultAfter bs done p f → turn bs p s ≡ stops f
  fault_stops s r (ill_formed met) = ap (λ l. turn_by l s) met
  fault_stops s r (misplaced {w = w} {at = at} {after = after} met bars) = ap (λ l. turn_by l s) met ∙ wrong_stops s w at after (⊎_elim (λ h. h) (λ f. absurd (bars f)) (sort s done r.stands w at))
  fault_stops s r (over_deep {b = b} {at = at} {after = after} met f c) = ap (λ l. turn_by l s) met ∙ deep_stops b s at after r f c
  fault_stops s r (over_many {l = l} {at = at} {after = after} met f c) = ap (λ x. turn_by x s) met ∙ many_stops l s at after r f c

pub refuses_fails : {bs : List ℕ} {f : ReadFault} → Refuses bs f → Fails bs 0 (before_term [] 0) f
refuses_fails {bs} x =
    let w = walk_by x.lexed (before_term [] 0) (begins_unstuck x.tokens x.faultless.begins) (omega (arith, x.faultless.few)) x.faultless.shallow in
    record { tokens = x.tokens; stop = x.stop; state = w.to; walked = w.walked; halted = fault_stops w.to (reached_walk (reached_none bs) w.walked) x.faulty }

-- the walk over a whole text that is read
pub record Accepted (bs : List ℕ) (tokens : List Placed) (stop : ℕ) : Type 0 where
  pub state : State
  pub walked : Walks bs 0 (before_term [] 0) tokens stop state
  pub ended : turn bs stop state ≡ accepts

ends_accepted : (s : State) (at after : ℕ) → shape s ≡ ahead [] → meet s ends at after ≡ accepts
ends_accepted (before_term os n) at after e = absurd (before_after os [] e)
ends_accepted (after_term [] n) at after e = refl
ends_accepted (after_term (b ∷ os) n) at after e = absurd (still_open b os e)

pub reads_accepted : {bs : List ℕ} {e : Expr} (x : Reads bs e) → Accepted bs x.tokens x.stop
reads_accepted {bs} x =
    let runs = question_runs x.parsed [] in
    let w = walk_by x.lexed (before_term [] 0) (λ e. after_stuck [] (sym runs ∙ e)) (omega (arith, x.few)) x.shallow in
    let r = reached_walk (reached_none bs) w.walked in
    record { state = w.to; walked = w.walked; ended = ap (λ l. turn_by l w.to) x.ended ∙ ends_accepted w.to x.at x.after (sym r.runs ∙ runs) }

pub walk_reads : {bs : List ℕ} {ts : List Placed} {to at after : ℕ} {s : State} {e : Expr} → Walks bs 0 (before_term [] 0) ts to s → scan bs to ≡ token ends at after → Question ts e → Reads bs e
walk_reads {bs} {ts} {to} {at} {after} w met q =
    let r = reached_walk (reached_none bs) w in
    record { tokens = ts; stop = to; at = at; after = after; lexed = r.lexed; ended = met; parsed = q; few = r.few; shallow = r.shallow }
