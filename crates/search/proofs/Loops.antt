-- A run underway. Assumes nothing.
use Rattle.std.proofs.Common.{◌≡◌, ℕ, ◌+◌, ◌<◌, ◌≤◌, List, [], ◌∷◌, length, get_or, drop, map, Some, None, Ok, Err, Option, Result, sym, refl, ap, ◌∙◌, subst, arith}
use Rattle.std.proofs.lemmas.List.{drop-map, drop_more, drop_all}
use Rattle.arrayvec.specs.ArrayVec.{array_vec_len}
use Rattle.query.specs.declared.query.Step.{Step as Step·}
use Rattle.query.specs.Steps.{shown}
use Rattle.query.specs.Expressions.{Act, take_leaf, apply_to, Step}
use Rattle.search.specs.declared.fault.SearchFault.{SearchFault}
use Rattle.search.specs.declared.stack.OperandStack.{OperandStack}
use Rattle.search.specs.declared.stack.TheConstants.{OPERANDS}
use Rattle.search.specs.Meaning.{Log}
use Rattle.search.specs.Law.{Room, Areas, room_of}
use Rattle.search.specs.Run.{Pending, Outcome, done, refused, unless, after, step, run}
use Rattle.search.specs.Stacks.{Stacked, Gives, Does, Untouched}
use Rattle.search.proofs.Heaps.{depth_is, used_is}
use Rattle.search.proofs.Clears.{same_later}

-- the step that comes next
pub next_step : (items : List Step·) (i : ℕ) (d : Step·) (ts : List Step) → map shown items ≡ ts → i < length items → drop i ts ≡ shown (get_or items i d) ∷ drop (i + 1) ts
next_step items i d ts e h =
    subst (λ v. drop i v ≡ shown (get_or items i d) ∷ drop (i + 1) v) e
    (drop-map shown i items ∙ ap (map shown) (drop_more items i d h) ∙ ap (λ v. shown (get_or items i d) ∷ v) (sym (drop-map shown (i + 1) items)))

-- what is untouched by one thing, and then by another
pub untouched_then : {a b c : OperandStack} {x y z : Areas} → Untouched a b x y → Untouched b c y z → Untouched a c x z
untouched_then {a} {b} {c} {x} {y} {z} g h = record {
  stored = omega (arith, g.stored, h.stored);
  listed = omega (arith, g.listed, h.listed);
  stack_is = h.stack_is ∙ same_later b.stored c.stored y.stack x.stack h.stored g.stack_is;
  scratch_is = h.scratch_is ∙ same_later b.listed c.listed y.scratch x.scratch h.listed g.scratch_is;
}

-- i steps are done: what is left comes to what the whole comes to
pub record Underway (log : Log) (ts : List Step) (i : ℕ) (start : OperandStack) (was : Areas) (waiting : OperandStack) (now : Areas) : Type 0 where
  pub ps : List Pending
  pub c : ℕ
  pub stacked : Stacked waiting now.stack ps c
  pub few : length ps ≤ i
  pub same_room : room_of now ≡ room_of was
  pub same : run log (room_of was) (drop i ts) ps c ≡ run log (room_of was) ts [] 0
  pub untouched : Untouched start waiting was now

pub underway_none : (log : Log) (ts : List Step) (waiting : OperandStack) (was : Areas) → waiting.operands.items ≡ [] → waiting.calls ≡ 0 → Underway log ts 0 waiting was waiting was
underway_none log ts waiting was e k = record {
  ps = [];
  c = 0;
  stacked = record { used = used_is waiting was.stack [] e; calls = k; fits = omega arith; lies = e };
  few = omega arith;
  same_room = refl;
  same = refl;
  untouched = record { stored = omega arith; listed = omega arith; stack_is = refl; scratch_is = refl };
}

err_ok : {e : SearchFault} → ◌≡◌ {A = Result (Unit {0}) SearchFault} (Err e) (Ok tt) → ⊥
err_ok q = let z : ◌≡◌ {A = ℕ} 0 1 = cc in omega arith

-- a step leaves at most one more waiting
unless_done : (f : Option SearchFault) (ps qs : List Pending) (c k : ℕ) → unless f (done ps c) ≡ done qs k → ps ≡ qs
unless_done None ps qs c k e = cc
unless_done (Some f) ps qs c k e = let z : ◌≡◌ {A = ℕ} 0 1 = cc in absurd (omega arith)

step_length : (log : Log) (room : Room) (w : Act) (at : ℕ) (ps qs : List Pending) (c c' : ℕ) → step log room w at ps c ≡ done qs c' → length qs ≤ length ps + 1
step_length log room (take_leaf l) at ps qs c c' e = omega (arith, ap length (unless_done _ _ qs _ c' e))
step_length log room (apply_to o) at [] qs c c' e = let i : ◌≡◌ {A = List Pending} [] qs = cc in omega (arith, ap length i)
step_length log room (apply_to o) at (b ∷ []) qs c c' e = let i : b ∷ [] ≡ qs = cc in omega (arith, ap length i)
step_length log room (apply_to o) at (b ∷ (a ∷ ps)) qs c c' e = omega (arith, ap length (unless_done _ _ qs _ c' e))

module _ {log : Log} {ts : List Step} {i : ℕ} {start : OperandStack} {was : Areas} {waiting : OperandStack} {now : Areas} (u : Underway log ts i start was waiting now) where
  pub underway_room : i < OPERANDS → array_vec_len waiting.operands < OPERANDS
  underway_room l = omega (arith, depth_is u.stacked, u.few)

  module _ (r : Result (Unit {0}) SearchFault) (waiting' : OperandStack) (now' : Areas) where
    -- the last thing that is done
    pub underway_all : (f : Room → List Pending → ℕ → Outcome) → length ts ≤ i → Does (f (room_of now)) waiting now.stack r waiting' now'.stack → Gives (after (run log (room_of was) ts [] 0) (f (room_of was))) r waiting' now'.stack
    unfolding run
    underway_all f l d =
        let e : drop i ts ≡ [] = drop_all i ts l in
        let s : done u.ps u.c ≡ run log (room_of was) ts [] 0 = subst (λ v. run log (room_of was) v u.ps u.c ≡ run log (room_of was) ts [] 0) e u.same in
        subst (λ v. Gives (after v (f (room_of was))) r waiting' now'.stack) s
        (subst (λ v. Gives (f v u.ps u.c) r waiting' now'.stack) u.same_room (d u.ps u.c u.stacked))

  module _ (t : Step) (l : drop i ts ≡ t ∷ drop (i + 1) ts) (r : Result (Unit {0}) SearchFault) (waiting' : OperandStack) (now' : Areas) (f : Does (step log (room_of now) t.0 t.1) waiting now.stack r waiting' now'.stack) where
    abbrev rest : List Step
    rest = drop (i + 1) ts

    abbrev o : Outcome
    o = step log (room_of was) t.0 t.1 u.ps u.c

    gives : Gives o r waiting' now'.stack
    gives = subst (λ v. Gives (step log v t.0 t.1 u.ps u.c) r waiting' now'.stack) u.same_room (f u.ps u.c u.stacked)

    goes_on : after o (run log (room_of was) rest) ≡ run log (room_of was) ts [] 0
    unfolding run
    goes_on = subst (λ v. run log (room_of was) v u.ps u.c ≡ run log (room_of was) ts [] 0) l u.same

    more : (p : Outcome) → o ≡ p → Gives p r waiting' now'.stack → after p (run log (room_of was) rest) ≡ run log (room_of was) ts [] 0 → r ≡ Ok tt → room_of now' ≡ room_of now → Untouched waiting waiting' now now' → Underway log ts (i + 1) start was waiting' now'
    more (done qs k) e a s y m n = record {
      ps = qs;
      c = k;
      stacked = a.1;
      few = omega (arith, step_length log (room_of was) t.0 t.1 u.ps qs u.c k e, u.few);
      same_room = m ∙ u.same_room;
      same = s;
      untouched = untouched_then u.untouched n;
    }
    more (refused x) e a s y m n = absurd (err_ok (sym a ∙ y))

    pub underway_more : r ≡ Ok tt → length now'.stack ≡ length now.stack → length now'.scratch ≡ length now.scratch → Untouched waiting waiting' now now' → Underway log ts (i + 1) start was waiting' now'
    underway_more y m n = more o refl gives goes_on y (λ j. record { stack = m j; scratch = n j })

    stops : (p : Outcome) (x : SearchFault) (g : List Pending → ℕ → Outcome) → Gives p r waiting' now'.stack → after p (run log (room_of was) rest) ≡ run log (room_of was) ts [] 0 → r ≡ Err x → Gives (after (run log (room_of was) ts [] 0) g) (Err x) waiting' now'.stack
    stops (done qs k) x g a s y = absurd (err_ok (sym y ∙ a.0))
    stops (refused z) x g a s y = subst (λ v. Gives (after v g) (Err x) waiting' now'.stack) s (sym y ∙ a)

    pub underway_stops : (x : SearchFault) (g : List Pending → ℕ → Outcome) → r ≡ Err x → Gives (after (run log (room_of was) ts [] 0) g) (Err x) waiting' now'.stack
    underway_stops x g y = stops o x g gives goes_on y
