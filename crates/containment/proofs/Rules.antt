-- The calls of each walk obey the rule, and no others do. Assumes nothing.
use Rattle.std.proofs.Common.{◌≡◌, ℕ, zero, suc, ◌+◌, ◌<◌, Bool, List, Some, None, Option, sym, refl, ap, ◌∙◌, arith}
use Rattle.extents.specs.declared.access.Access.{Access}
use Rattle.extents.specs.declared.extent.Extent.{Extent}
use Rattle.extents.specs.Counts.{capped}
use Rattle.extents.specs.Extents.{ExtentList, find_first, first_start, first_end, last_end, last_start}
use Rattle.containment.specs.declared.verdict.Key.{Key}
use Rattle.containment.specs.declared.verdict.Key.TheVariants.{Start, End}
use Rattle.containment.specs.declared.verdict.Verdict.{Verdict}
use Rattle.containment.specs.declared.verdict.Verdict.TheVariants.{Keep, Stop, GoOn}
use Rattle.containment.specs.Filter.{Judgement, Order, Rising, Falling, JudgesAhead, JudgesBehind, candidates_of, reaches, ask, calls_on, ahead_calls, behind_calls}
use Rattle.containment.specs.Rule.{candidate, first_key, turn_calls, ObeysRule, IsCounted}
use Rattle.containment.proofs.Filters.{Walk, calls_from, reached_from, turn_less, calls_none, calls_turn}

-- what a key asks for is the first candidate met that it reaches
is_met : (o : Order) (ls : List Extent) (n : Key) → candidate o ls n ≡ find_first (reaches o n) (candidates_of o ls)
unfolding first_start first_end last_end last_start
is_met Rising ls (Start k) = refl
is_met Rising ls (End k) = refl
is_met Falling ls (Start k) = refl
is_met Falling ls (End k) = refl

module _ (w : Walk) where
  abbrev Obeys : (Key → ℕ) → Type 0
  Obeys f = ObeysRule w.order w.candidates w.calls w.judge f

  abbrev asked : Key → Option Extent
  asked n = candidate w.order w.candidates n

  obeys : Obeys (calls_from w)
  obeys n = go (asked n) refl
    where
      go : (o : Option Extent) → asked n ≡ o → calls_from w n ≡ turn_calls (ask w.order w.calls n) w.judge (calls_from w) o
      go None e = calls_none w n (sym (is_met w.order w.candidates n) ∙ e)
      go (Some x) e = calls_turn w n x (sym (is_met w.order w.candidates n) ∙ e)

  -- two that obey it agree from a key, where they do from each that reaches fewer candidates
  agree_turn : (f g : Key → ℕ) → Obeys f → Obeys g → (n : Key) → ((m : Key) → reached_from w m < reached_from w n → f m ≡ g m) → f n ≡ g n
  agree_turn f g p q n below = p n ∙ go (asked n) refl ∙ sym (q n)
    where
      on : (x : Extent) → asked n ≡ Some x → (v : Verdict) → (w.judge x).verdict ≡ v → calls_on f v ≡ calls_on g v
      on x e Keep i = refl
      on x e Stop i = refl
      on x e (GoOn m) i = below m (turn_less w n x (sym (is_met w.order w.candidates n) ∙ e) m i)

      go : (o : Option Extent) → asked n ≡ o → turn_calls (ask w.order w.calls n) w.judge f o ≡ turn_calls (ask w.order w.calls n) w.judge g o
      go None e = refl
      go (Some x) e = ap (λ c. ask w.order w.calls n + (w.judge x).cost + c) (on x e (w.judge x).verdict refl)

  agree : (f g : Key → ℕ) → Obeys f → Obeys g → (k : ℕ) (n : Key) → reached_from w n < k → f n ≡ g n
  agree f g p q zero n l = absurd (omega arith)
  agree f g p q (suc k) n l = agree_turn f g p q n (λ m r. agree f g p q k m (omega (arith, l, r)))

  counted : IsCounted w.order w.candidates w.calls w.judge (λ k. capped (calls_from w (first_key w.order k)))
  counted = (calls_from w, obeys, λ k. refl, λ g p n. agree g (calls_from w) p obeys (reached_from w n + 1) n (omega arith))

-- in each direction
module _ (ls : List Extent) (h : ExtentList ls) (cl : Access → ℕ → ℕ) (keep : Extent → Bool) (judge : Extent → Judgement) where
  pub ahead_counted : JudgesAhead keep judge → IsCounted Rising ls cl judge (ahead_calls ls cl judge)
  unfolding ahead_calls
  ahead_counted s = counted (record { order = Rising; candidates = ls; rising = h; calls = cl; keep = keep; judge = judge; sound = s })

  pub behind_counted : JudgesBehind keep judge → IsCounted Falling ls cl judge (behind_calls ls cl judge)
  unfolding behind_calls
  behind_counted s = counted (record { order = Falling; candidates = ls; rising = h; calls = cl; keep = keep; judge = judge; sound = s })
